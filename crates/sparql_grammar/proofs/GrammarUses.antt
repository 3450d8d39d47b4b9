-- Requests and queries are lexemes that the grammar has a use for.
use Rattle.std.proofs.Common.{◌≡◌, ℕ, zero, suc, false, List, [], ◌∷◌, ◌++◌, Some, refl}
use Rattle.std.specs.Prelude.{is_some, option_to_list}
use Rattle.rdf_grammar.specs.Derivations as grammar
use Rattle.rdf_grammar.specs.Derivations.{Star}
use Rattle.sparql_terminals.specs.declared.terminal.Terminal.{Terminal}
use Rattle.sparql_terminals.specs.declared.terminal.Terminal.TheVariants as terminal
use Rattle.sparql_terminals.specs.Lexemes.{Lexemes, Derives}
use Rattle.sparql_terminals.specs.Useful.{AreUseful, is_other}
use Rattle.sparql_terminals.proofs.CallerLemmas.{Uses, behind_uses, binding_uses, closed_uses, each_uses, iri_uses, leaf_uses, literal_uses, map_uses, maybe_uses, one_uses, or_uses, pure_uses, star_uses, the_uses, then_uses, value_uses}
use Rattle.sparql_expressions.specs.declared.tree.Expression.{Expression}
use Rattle.sparql_expressions.specs.ExpressionGrammar.{Constraint, Expressions_at}
use Rattle.sparql_expressions.proofs.CallerLemmas.{constraint_uses}
use Rattle.sparql_grammar.specs.declared.tree.Block.{Block}
use Rattle.sparql_grammar.specs.declared.tree.Columns.TheVariants as columns
use Rattle.sparql_grammar.specs.declared.tree.Declaration.TheVariants as d
use Rattle.sparql_grammar.specs.declared.tree.Element.TheVariants as e
use Rattle.sparql_grammar.specs.declared.tree.GraphOrDefault.TheVariants as place
use Rattle.sparql_grammar.specs.declared.tree.GraphRefAll.TheVariants as graphs
use Rattle.sparql_grammar.specs.declared.tree.Group.{Group}
use Rattle.sparql_grammar.specs.declared.tree.Member.TheVariants as m
use Rattle.sparql_grammar.specs.declared.tree.Node.{Node}
use Rattle.sparql_grammar.specs.declared.tree.Node.TheVariants as n
use Rattle.sparql_grammar.specs.declared.tree.Operation.{Operation}
use Rattle.sparql_grammar.specs.declared.tree.Operation.TheVariants as o
use Rattle.sparql_grammar.specs.declared.tree.Part.{Part}
use Rattle.sparql_grammar.specs.declared.tree.Query.{Query}
use Rattle.sparql_grammar.specs.declared.tree.QueryForm.TheVariants as form
use Rattle.sparql_grammar.specs.declared.tree.Triples.{Triples}
use Rattle.sparql_grammar.specs.declared.tree.VarOrIri.TheVariants as i
use Rattle.sparql_grammar.specs.declared.tree.Verb.TheVariants as v
use Rattle.sparql_grammar.specs.Grammar as triples
use Rattle.sparql_grammar.specs.Grammar.{Nodes_at, Perhaps, TriplesTemplate}
use Rattle.sparql_grammar.specs.GroupGrammar as group
use Rattle.sparql_grammar.specs.GroupGrammar.{GroupAt, Groups_at}
use Rattle.sparql_grammar.specs.GroupReading.{group_with}
use Rattle.sparql_grammar.specs.OperationGrammar as g
use Rattle.sparql_grammar.specs.OperationGrammar.{IsRequest, Update, Update1, declared, last, more}
use Rattle.sparql_grammar.specs.OperationReading as read
use Rattle.sparql_grammar.specs.PrologueGrammar as prologue
use Rattle.sparql_grammar.specs.PrologueReading.{bound}
use Rattle.sparql_grammar.specs.QueryGrammar as query
use Rattle.sparql_grammar.specs.QueryGrammar.{IsQuery}
use Rattle.sparql_grammar.specs.QueryReading.{query_with}
use Rattle.sparql_grammar.specs.Reading.{all_of, property_with, triples_with}

perhaps_uses : (k : Terminal) → is_other k ≡ false → Uses (Perhaps k)
perhaps_uses k used = map_uses is_some _ (maybe_uses _ (the_uses k used))

-- ---- triples

var_or_iri_uses : Uses triples.AVarOrIri
var_or_iri_uses = or_uses _ _ (leaf_uses i.Variable terminal.Variable refl) (map_uses i.Name _ iri_uses)

verb_uses : Uses triples.AVerb
verb_uses = or_uses _ _ (leaf_uses v.Variable terminal.Variable refl) (or_uses _ _ (map_uses v.Name _ iri_uses) (closed_uses terminal.A v.Type refl))

anon_uses : Uses triples.Anon
anon_uses = then_uses _ _ (value_uses terminal.OpenBracket refl) (λ opener. closed_uses terminal.CloseBracket (n.Blank opener []) refl)

nil_uses : Uses triples.Nil
nil_uses = then_uses _ _ (value_uses terminal.Open refl) (λ opener. closed_uses terminal.Close (n.Collection opener []) refl)

term_uses : Uses triples.VarOrTerm
term_uses = or_uses _ _ (leaf_uses n.Variable terminal.Variable refl) (or_uses _ _ (map_uses n.Name _ iri_uses) (or_uses _ _ (map_uses n.Literal _ literal_uses)
    (or_uses _ _ (or_uses _ _ (leaf_uses n.Label terminal.BlankLabel refl) anon_uses) nil_uses)))

module _ (P : Derives Node) (p : Uses P) where
  objects_use : Uses (triples.ObjectList P)
  objects_use = then_uses _ _ p (λ first. then_uses _ _ (each_uses terminal.Comma P refl p) (λ others. pure_uses (first ∷ others)))

  property_uses : Uses (triples.VerbObjects P)
  property_uses = then_uses _ _ verb_uses (λ verb. then_uses _ _ objects_use (λ objects. pure_uses (property_with verb objects)))

  not_empty_uses : Uses (triples.PropertyListNotEmpty P)
  not_empty_uses = then_uses _ _ property_uses (λ first. then_uses _ _
      (star_uses _ (behind_uses terminal.Semicolon _ refl (map_uses option_to_list _ (maybe_uses _ property_uses)))) (λ others. pure_uses (first ∷ others)))

  properties_use : Uses (triples.PropertyList P)
  properties_use = map_uses all_of _ (maybe_uses _ not_empty_uses)

  blank_uses : Uses (triples.BlankNodePropertyList P)
  blank_uses = then_uses _ _ (value_uses terminal.OpenBracket refl) (λ opener. then_uses _ _ not_empty_uses (λ ps. closed_uses terminal.CloseBracket (n.Blank opener ps) refl))

  collection_uses : Uses (triples.Collection P)
  collection_uses = then_uses _ _ (value_uses terminal.Open refl) (λ opener. then_uses _ _ p
      (λ first. then_uses _ _ (star_uses _ (one_uses P p)) (λ others. closed_uses terminal.Close (n.Collection opener (first ∷ others)) refl)))

  triples_node_uses : Uses (triples.TriplesNode P)
  triples_node_uses = or_uses _ _ collection_uses blank_uses

  graph_node_uses : Uses (triples.GraphNode P)
  graph_node_uses = or_uses _ _ term_uses triples_node_uses

module _ (P : Derives Node) (p : Uses P) where
  same_subject_uses : Uses (triples.TriplesSameSubject P)
  same_subject_uses = or_uses _ _
      (then_uses _ _ term_uses (λ subject. then_uses _ _ (not_empty_uses (triples.GraphNode P) (graph_node_uses P p)) (λ ps. pure_uses (triples_with subject ps))))
      (then_uses _ _ (triples_node_uses P p) (λ subject. then_uses _ _ (properties_use (triples.GraphNode P) (graph_node_uses P p)) (λ ps. pure_uses (triples_with subject ps))))

  template_uses : Uses (TriplesTemplate P)
  template_uses = then_uses _ _ same_subject_uses (λ first. then_uses _ _ (each_uses terminal.Dot _ refl same_subject_uses)
      (λ others. then_uses _ _ (maybe_uses _ (the_uses terminal.Dot refl)) (λ _. pure_uses (first ∷ others))))

nodes_use : (d : ℕ) → Uses (Nodes_at d)
unfolding Uses
nodes_use zero ts x us h useful = absurd h
nodes_use (suc d) ts x us h useful = graph_node_uses (Nodes_at d) (nodes_use d) ts x us h useful

triples_use : (d : ℕ) → Uses (TriplesTemplate (Nodes_at d))
triples_use d = template_uses (Nodes_at d) (nodes_use d)

-- ---- groups

module _ (I : Derives Group) (i : Uses I) where
  union_uses : Uses (group.GroupOrUnionGraphPattern I)
  union_uses = then_uses _ _ i (λ first. then_uses _ _ (each_uses terminal.Union I refl i) (λ others. pure_uses (m.Union (first ∷ others))))

  graph_uses : Uses (group.GraphGraphPattern I)
  graph_uses = behind_uses terminal.Graph _ refl (then_uses _ _ var_or_iri_uses (λ name. then_uses _ _ i (λ inside. pure_uses (m.Graph name inside))))

  pattern_uses : Uses (group.APattern I)
  pattern_uses = or_uses _ _ union_uses (or_uses _ _ (behind_uses terminal.Optional _ refl (map_uses m.Optional _ i))
      (or_uses _ _ (behind_uses terminal.MinusWord _ refl (map_uses m.Minus _ i)) graph_uses))

module _ (P : Derives (List Triples)) (C : Derives Expression) (I : Derives Group) (p : Uses P) (c : Uses C) (i : Uses I) where
  either_uses : Uses (group.GraphPatternNotTriples C I)
  either_uses = or_uses _ _ (map_uses e.Pattern _ (pattern_uses I i)) (behind_uses terminal.Filter _ refl (map_uses e.Filter _ c))

  maybe_block_uses : Uses (group.MaybeBlock P)
  maybe_block_uses = maybe_uses _ (map_uses e.Block _ p)

  pattern_and_block_uses : Uses (group.PatternAndBlock P C I)
  pattern_and_block_uses = then_uses _ _ either_uses (λ pattern. then_uses _ _ (perhaps_uses terminal.Dot refl)
      (λ _. then_uses _ _ maybe_block_uses (λ block. pure_uses (pattern ∷ option_to_list block))))

  contents_use : Uses (group.GroupGraphPatternSub P C I)
  contents_use = then_uses _ _ maybe_block_uses (λ first. then_uses _ _ (star_uses _ pattern_and_block_uses) (λ others. pure_uses (group_with (option_to_list first ++ others))))

  braces_use : Uses (group.GroupGraphPattern P C I)
  braces_use = behind_uses terminal.OpenBrace _ refl (then_uses _ _ contents_use (λ inside. closed_uses terminal.CloseBrace inside refl))

groups_use : (P : Derives (List Triples)) (C : Derives Expression) (d : ℕ) → Uses P → Uses C → Uses (Groups_at P C d)
unfolding Uses
groups_use P C zero p c ts x us h useful = absurd h
groups_use P C (suc d) p c ts x us h useful = braces_use P C (Groups_at P C d) p c (groups_use P C d p c) ts x us h useful

group_uses : (d : ℕ) → Uses (GroupAt d)
group_uses d = groups_use (TriplesTemplate (Nodes_at d)) (Constraint (Expressions_at d)) (suc d) (triples_use d) (constraint_uses d)

-- ---- operations

silent_uses : Uses (Perhaps terminal.Silent)
silent_uses = perhaps_uses terminal.Silent refl

graph_ref_uses : Uses g.GraphRef
graph_ref_uses = behind_uses terminal.Graph _ refl iri_uses

graph_ref_all_uses : Uses g.AGraphRefAll
graph_ref_all_uses = or_uses _ _ (map_uses graphs.Graph _ graph_ref_uses) (or_uses _ _ (closed_uses terminal.Default graphs.Default refl)
    (or_uses _ _ (closed_uses terminal.Named graphs.Named refl) (closed_uses terminal.All graphs.All refl)))

graph_or_default_uses : Uses g.AGraphOrDefault
graph_or_default_uses = or_uses _ _ (closed_uses terminal.Default place.Default refl) (then_uses _ _ (perhaps_uses terminal.Graph refl) (λ _. map_uses place.Graph _ iri_uses))

create_uses : Uses g.Create
create_uses = behind_uses terminal.Create _ refl (then_uses _ _ silent_uses (λ silent. then_uses _ _ graph_ref_uses (λ graph. pure_uses (o.Create silent graph))))

on_graphs_use : Uses g.OnGraphs
on_graphs_use = then_uses _ _ silent_uses (λ silent. then_uses _ _ graph_ref_all_uses (λ which. pure_uses (silent, which)))

between_uses : Uses g.Between
between_uses = then_uses _ _ silent_uses (λ silent. then_uses _ _ graph_or_default_uses (λ from. behind_uses terminal.To _ refl
    (then_uses _ _ graph_or_default_uses (λ to. pure_uses (silent, from, to)))))

graph_operation_uses : Uses g.GraphOperation
graph_operation_uses =
    or_uses _ _ (behind_uses terminal.Clear _ refl (map_uses (read.on_graphs_by o.Clear) _ on_graphs_use))
    (or_uses _ _ (behind_uses terminal.Drop _ refl (map_uses (read.on_graphs_by o.Drop) _ on_graphs_use))
    (or_uses _ _ (behind_uses terminal.Add _ refl (map_uses (read.between_by o.Add) _ between_uses))
    (or_uses _ _ (behind_uses terminal.Move _ refl (map_uses (read.between_by o.Move) _ between_uses))
    (or_uses _ _ (behind_uses terminal.Copy _ refl (map_uses (read.between_by o.Copy) _ between_uses)) create_uses))))

module _ (P : Derives (List Triples)) (p : Uses P) where
  maybe_triples_use : Uses (g.MaybeTriples P)
  maybe_triples_use = map_uses all_of _ (maybe_uses _ p)

  default_block_uses : Uses (g.DefaultBlock P)
  default_block_uses = map_uses (read.block _) _ maybe_triples_use

  quads_not_triples_use : Uses (g.QuadsNotTriples P)
  quads_not_triples_use = behind_uses terminal.Graph _ refl (then_uses _ _ var_or_iri_uses (λ graph. behind_uses terminal.OpenBrace _ refl (then_uses _ _ maybe_triples_use
      (λ inside. closed_uses terminal.CloseBrace (read.block (Some graph) inside) refl))))

module _ (P I : Derives (List Triples)) (p : Uses P) (i : Uses I) where
  quads_use : Uses (g.Quads P I)
  quads_use = then_uses _ _ (default_block_uses P p) (λ first. then_uses _ _ (star_uses _ (then_uses _ _ (quads_not_triples_use I i) (λ named. then_uses _ _ (perhaps_uses terminal.Dot refl)
      (λ _. then_uses _ _ (default_block_uses P p) (λ default. pure_uses (named ∷ default ∷ [])))))) (λ others. pure_uses (first ∷ others)))

  quad_pattern_uses : Uses (g.QuadPattern P I)
  quad_pattern_uses = behind_uses terminal.OpenBrace _ refl (then_uses _ _ quads_use (λ blocks. closed_uses terminal.CloseBrace blocks refl))

  data_uses : (k : Terminal) (operation : List Block → Operation) → is_other k ≡ false → Uses (g.DataOf P I k operation)
  data_uses k operation used = behind_uses k _ used (behind_uses terminal.Data _ refl (then_uses _ _ quad_pattern_uses (λ blocks. pure_uses (operation blocks))))

  delete_where_uses : Uses (g.DeleteWhere P I)
  delete_where_uses = behind_uses terminal.Delete _ refl (behind_uses terminal.Where _ refl (then_uses _ _ quad_pattern_uses (λ blocks. pure_uses (o.DeleteWhere blocks))))

  insert_clause_uses : Uses (g.InsertClause P I)
  insert_clause_uses = behind_uses terminal.Insert _ refl quad_pattern_uses

  templates_use : Uses (grammar.◌∣◌ (g.DeleteAndInsert P I) (g.InsertAlone P I))
  templates_use = or_uses _ _
      (then_uses _ _ (behind_uses terminal.Delete _ refl quad_pattern_uses) (λ delete. then_uses _ _ (map_uses all_of _ (maybe_uses _ insert_clause_uses)) (λ insert. pure_uses (delete, insert))))
      (then_uses _ _ insert_clause_uses (λ insert. pure_uses ([], insert)))

  module _ (A : Derives Group) (a : Uses A) where
    modify_uses : Uses (g.AModify P I A)
    modify_uses = then_uses _ _ (maybe_uses _ (behind_uses terminal.With _ refl iri_uses)) (λ name. then_uses _ _ templates_use (λ templates. behind_uses terminal.Where _ refl
        (then_uses _ _ a (λ inside. pure_uses (read.modify_with name templates inside)))))

    operation_uses : Uses (Update1 P I A)
    operation_uses = or_uses _ _ graph_operation_uses (or_uses _ _ (data_uses terminal.Insert o.InsertData refl) (or_uses _ _ (data_uses terminal.Delete o.DeleteData refl)
        (or_uses _ _ delete_where_uses (map_uses o.Modify _ modify_uses))))

-- ---- requests and queries

prologue_uses : Uses prologue.Prologue
prologue_uses = star_uses _ (one_uses _ (or_uses _ _ (behind_uses terminal.Base _ refl (leaf_uses d.Base terminal.Iri refl)) (behind_uses terminal.Prefix _ refl (map_uses bound _ binding_uses))))

updates_use : (P : Derives Operation) → Uses P → Uses (Update P)
unfolding Uses
updates_use P p ts parts us (declared {prologue = ds} a) h = prologue_uses ts ds us a h
updates_use P p ts parts us (last {mid = mid} {prologue = ds} {operation = x} a b) h = prologue_uses ts ds mid a (p mid x us b h)
updates_use P p ts parts us (more {mid = mid} {behind = behind} {next = next} {prologue = ds} {others = others} {operation = x} a b c r) h =
    prologue_uses ts ds mid a (p mid x behind b (the_uses terminal.Semicolon refl behind tt next c (updates_use P p next others us r h)))

-- no lexeme of a request is one that the grammar has no use for
pub requests_useful : (ts : Lexemes) (parts : List Part) → IsRequest ts parts → AreUseful ts
unfolding Uses
requests_useful ts parts d =
    let inside = operation_uses (TriplesTemplate (Nodes_at (suc d.0))) (TriplesTemplate (Nodes_at d.0)) (triples_use (suc d.0)) (triples_use d.0) (GroupAt (suc d.0)) (group_uses (suc d.0)) in
    updates_use (Update1 (TriplesTemplate (Nodes_at (suc d.0))) (TriplesTemplate (Nodes_at d.0)) (GroupAt (suc d.0))) inside ts parts [] d.1 tt

module _ (I : Derives Group) (i : Uses I) where
  where_uses : Uses (query.WhereClause I)
  where_uses = then_uses _ _ (perhaps_uses terminal.Where refl) (λ _. i)

  columns_use : Uses query.AColumns
  columns_use = or_uses _ _
      (map_uses columns.Variables _ (then_uses _ _ (value_uses terminal.Variable refl) (λ first. then_uses _ _ (star_uses _ (one_uses _ (value_uses terminal.Variable refl))) (λ others. pure_uses (first ∷ others)))))
      (closed_uses terminal.Star columns.All refl)

  query_uses : Uses (query.AQuery I)
  query_uses = then_uses _ _ prologue_uses (λ ds. then_uses _ _ (or_uses _ _
      (behind_uses terminal.Select _ refl (then_uses _ _ (perhaps_uses terminal.Distinct refl) (λ distinct. then_uses _ _ columns_use (λ which. then_uses _ _ where_uses
      (λ inside. pure_uses (form.Select distinct which inside))))))
      (behind_uses terminal.Ask _ refl (map_uses form.Ask _ where_uses))) (λ asked. pure_uses (query_with ds asked)))

-- nor of a query
pub queries_useful : (ts : Lexemes) (q : Query) → IsQuery ts q → AreUseful ts
unfolding Uses
queries_useful ts q d = query_uses (GroupAt d.0) (group_uses d.0) ts q [] d.1 tt
