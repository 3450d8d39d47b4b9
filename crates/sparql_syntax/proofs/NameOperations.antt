-- Operations, and the names that their lexemes carry.
use Rattle.std.proofs.Common.{◌≡◌, ◌∙◌, ap, refl, sym, ℕ, suc, Bool, true, false, ◌&&◌, List, [], ◌∷◌, map, Option, Some, None}
use Rattle.std.proofs.Math.Bool.{and_assoc}
use Rattle.std.specs.List.{list_all}
use Rattle.rdf_grammar.specs.Derivations as grammar
use Rattle.rdf_grammar.specs.Holds.{holds}
use Rattle.rdf_grammar.specs.Terminals.{Slice}
use Rattle.rdf_grammar.specs.declared.tree.Name.{Name}
use Rattle.sparql_terminals.specs.declared.terminal.Terminal.{Terminal}
use Rattle.sparql_terminals.specs.declared.terminal.Terminal.TheVariants as terminal
use Rattle.sparql_terminals.specs.Lexemes.{Derives}
use Rattle.sparql_grammar.specs.declared.tree.Block.{Block}
use Rattle.sparql_grammar.specs.declared.tree.GraphOrDefault.{GraphOrDefault}
use Rattle.sparql_grammar.specs.declared.tree.GraphOrDefault.TheVariants as place
use Rattle.sparql_grammar.specs.declared.tree.GraphRefAll.{GraphRefAll}
use Rattle.sparql_grammar.specs.declared.tree.GraphRefAll.TheVariants as graphs
use Rattle.sparql_grammar.specs.declared.tree.Group.{Group}
use Rattle.sparql_grammar.specs.declared.tree.Modify.{Modify}
use Rattle.sparql_grammar.specs.declared.tree.Operation.{Operation}
use Rattle.sparql_grammar.specs.declared.tree.Operation.TheVariants as o
use Rattle.sparql_grammar.specs.declared.tree.QueryForm.{QueryForm}
use Rattle.sparql_grammar.specs.declared.tree.QueryForm.TheVariants as form
use Rattle.sparql_grammar.specs.declared.tree.Columns.TheVariants as c
use Rattle.sparql_grammar.specs.declared.tree.Triples.{Triples}
use Rattle.sparql_grammar.specs.declared.tree.VarOrIri.{VarOrIri}
use Rattle.sparql_grammar.specs.Grammar.{Nodes_at, TriplesTemplate}
use Rattle.sparql_grammar.specs.GroupGrammar.{GroupAt}
use Rattle.sparql_grammar.specs.OperationGrammar as g
use Rattle.sparql_grammar.specs.OperationReading.{between_by, block, modify_with, on_graphs_by}
use Rattle.sparql_grammar.specs.QueryGrammar as queries
use Rattle.sparql_grammar.specs.Reading.{all_of}
use Rattle.sparql_syntax.proofs.NameFronts.{Ask, Value, Gives, Sign, start, is_plain, names, opening_gives, then_gives, pure_gives, or_gives, map_gives, behind_gives, closed_gives, sign_gives, maybe_gives, perhaps_gives, later_gives, lists, star_gives, one_gives, same_gives, and_true}
use Rattle.sparql_syntax.proofs.NameWords.{name_value, iri_gives}
use Rattle.sparql_syntax.proofs.NameNodes.{each_triples, each_var_or_iri, triples_value, place_value, place_gives}
use Rattle.sparql_syntax.proofs.NameTriples.{triples_give}
use Rattle.sparql_syntax.proofs.NameGroups.{each_group, group_value, group_at_gives}

-- of each name in an operation, and of its word INSERT or DELETE
module _ (q : Ask) where
  abbrev pub each_graph : Option VarOrIri → Bool
  each_graph None = true
  each_graph (Some graph) = each_var_or_iri q graph

  abbrev pub each_block : Block → Bool
  each_block b = each_graph b.graph && list_all holds (map (each_triples q) b.triples)

  abbrev pub each_blocks : List Block → Bool
  each_blocks blocks = list_all holds (map each_block blocks)

  abbrev pub each_graph_ref_all : GraphRefAll → Bool
  each_graph_ref_all (graphs.Graph name) = q.name name
  each_graph_ref_all _ = true

  abbrev pub each_graph_or_default : GraphOrDefault → Bool
  each_graph_or_default place.Default = true
  each_graph_or_default (place.Graph name) = q.name name

  abbrev pub each_with : Option Name → Bool
  each_with None = true
  each_with (Some name) = q.name name

  abbrev pub each_modify : Modify → Bool
  each_modify m = each_with m.with && (q.word && (each_blocks m.delete && (each_blocks m.insert && each_group q m.group)))

  abbrev pub each_operation : Operation → Bool
  each_operation (o.InsertData blocks) = q.word && each_blocks blocks
  each_operation (o.DeleteData blocks) = q.word && each_blocks blocks
  each_operation (o.DeleteWhere blocks) = q.word && each_blocks blocks
  each_operation (o.Modify m) = each_modify m
  each_operation (o.Create silent graph) = q.name graph
  each_operation (o.Clear silent graphs) = each_graph_ref_all graphs
  each_operation (o.Drop silent graphs) = each_graph_ref_all graphs
  each_operation (o.Copy silent from to) = each_graph_or_default from && each_graph_or_default to
  each_operation (o.Move silent from to) = each_graph_or_default from && each_graph_or_default to
  each_operation (o.Add silent from to) = each_graph_or_default from && each_graph_or_default to

  abbrev pub each_form : QueryForm → Bool
  each_form (form.Select distinct columns group) = each_group q group
  each_form (form.Ask group) = each_group q group

abbrev block_value : Block → Value
block_value x q = each_block q x

abbrev graphs_value : GraphRefAll → Value
graphs_value x q = each_graph_ref_all q x

abbrev either_value : GraphOrDefault → Value
either_value x q = each_graph_or_default q x

abbrev modify_value : Modify → Value
modify_value x q = each_modify q x

abbrev pub operation_value : Operation → Value
operation_value x q = each_operation q x

abbrev pub form_value : QueryForm → Value
form_value x q = each_form q x

-- ---- operations on graphs

graph_ref_gives : Gives start g.GraphRef name_value
graph_ref_gives = behind_gives terminal.Graph _ start name_value (refl, λ q text. refl) iri_gives

graph_ref_all_gives : Gives start g.AGraphRefAll graphs_value
graph_ref_all_gives =
    or_gives _ _ start graphs_value (map_gives graphs.Graph _ start name_value graphs_value graph_ref_gives (λ a q. refl))
    (or_gives _ _ start graphs_value (closed_gives terminal.Default graphs.Default start graphs_value (refl, λ q text. refl) (λ q. refl))
    (or_gives _ _ start graphs_value (closed_gives terminal.Named graphs.Named start graphs_value (refl, λ q text. refl) (λ q. refl))
    (closed_gives terminal.All graphs.All start graphs_value (refl, λ q text. refl) (λ q. refl))))

graph_or_default_gives : Gives start g.AGraphOrDefault either_value
graph_or_default_gives =
    or_gives _ _ start either_value (closed_gives terminal.Default place.Default start either_value (refl, λ q text. refl) (λ q. refl))
    (then_gives _ _ start (λ _. start) either_value (perhaps_gives terminal.Graph start (refl, λ q text. refl)) (λ _. map_gives place.Graph _ start name_value either_value iri_gives (λ a q. refl)))

create_gives : Gives start g.Create operation_value
create_gives = behind_gives terminal.Create _ start operation_value (refl, λ q text. refl) (then_gives _ _ start (λ _. start) operation_value (perhaps_gives terminal.Silent start (refl, λ q text. refl))
    (λ silent. then_gives _ _ start name_value operation_value graph_ref_gives (λ graph. pure_gives (o.Create silent graph) (name_value graph) operation_value (λ q. refl))))

abbrev on_value : Bool × GraphRefAll → Value
on_value x q = each_graph_ref_all q x.1

on_graphs_gives : Gives start g.OnGraphs on_value
on_graphs_gives = then_gives _ _ start (λ _. start) on_value (perhaps_gives terminal.Silent start (refl, λ q text. refl))
    (λ silent. then_gives _ _ start graphs_value on_value graph_ref_all_gives (λ graphs. pure_gives (silent, graphs) (graphs_value graphs) on_value (λ q. refl)))

on_gives : (k : Terminal) (operation : Bool → GraphRefAll → Operation) → Sign k → ((silent : Bool) (graphs : GraphRefAll) (q : Ask) → each_graph_ref_all q graphs ≡ each_operation q (operation silent graphs))
    → Gives start (grammar.◌>>◌ (grammar.the k) (grammar.◌<$>◌ (on_graphs_by operation) g.OnGraphs)) operation_value
on_gives k operation sign is = behind_gives k _ start operation_value sign (map_gives (on_graphs_by operation) _ start on_value operation_value on_graphs_gives (λ x q. is x.0 x.1 q))

abbrev between_value : Bool × GraphOrDefault × GraphOrDefault → Value
between_value x q = each_graph_or_default q x.1 && each_graph_or_default q x.2

between_gives : Gives start g.Between between_value
between_gives = then_gives _ _ start (λ _. start) between_value (perhaps_gives terminal.Silent start (refl, λ q text. refl))
    (λ silent. then_gives _ _ start either_value between_value graph_or_default_gives
    (λ from. behind_gives terminal.To _ (either_value from) between_value (refl, λ q text. refl)
    (then_gives _ _ (either_value from) (λ to q. each_graph_or_default q from && each_graph_or_default q to) between_value (later_gives _ (either_value from) either_value graph_or_default_gives)
    (λ to. pure_gives (silent, from, to) _ between_value (λ q. refl)))))

from_to_gives : (k : Terminal) (operation : Bool → GraphOrDefault → GraphOrDefault → Operation) → Sign k
    → ((silent : Bool) (from to : GraphOrDefault) (q : Ask) → each_graph_or_default q from && each_graph_or_default q to ≡ each_operation q (operation silent from to))
    → Gives start (grammar.◌>>◌ (grammar.the k) (grammar.◌<$>◌ (between_by operation) g.Between)) operation_value
from_to_gives k operation sign is = behind_gives k _ start operation_value sign (map_gives (between_by operation) _ start between_value operation_value between_gives (λ x q. is x.0 x.1 x.2 q))

graph_operation_gives : Gives start g.GraphOperation operation_value
graph_operation_gives =
    or_gives _ _ start operation_value (on_gives terminal.Clear o.Clear (refl, λ q text. refl) (λ silent graphs q. refl))
    (or_gives _ _ start operation_value (on_gives terminal.Drop o.Drop (refl, λ q text. refl) (λ silent graphs q. refl))
    (or_gives _ _ start operation_value (from_to_gives terminal.Add o.Add (refl, λ q text. refl) (λ silent from to q. refl))
    (or_gives _ _ start operation_value (from_to_gives terminal.Move o.Move (refl, λ q text. refl) (λ silent from to q. refl))
    (or_gives _ _ start operation_value (from_to_gives terminal.Copy o.Copy (refl, λ q text. refl) (λ silent from to q. refl)) create_gives))))

-- ---- data

module _ (Template : Derives (List Triples)) (p : Gives start Template (lists triples_value)) where
  abbrev some_triples : Option (List Triples) → Value
  some_triples x q = lists triples_value (all_of x) q

  maybe_triples_give : Gives start (g.MaybeTriples Template) (lists triples_value)
  maybe_triples_give = map_gives all_of _ start some_triples (lists triples_value) (maybe_gives _ start (lists triples_value) some_triples p (λ q. refl) (λ x q. refl)) (λ a q. refl)

  default_block_gives : Gives start (g.DefaultBlock Template) block_value
  default_block_gives = map_gives (block None) _ start (lists triples_value) block_value maybe_triples_give (λ a q. refl)

  quads_not_triples_give : Gives start (g.QuadsNotTriples Template) block_value
  quads_not_triples_give = behind_gives terminal.Graph _ start block_value (refl, λ q text. refl) (then_gives _ _ start place_value block_value place_gives
      (λ graph. behind_gives terminal.OpenBrace _ (place_value graph) block_value (refl, λ q text. refl)
      (then_gives _ _ (place_value graph) (λ xs q. each_var_or_iri q graph && lists triples_value xs q) block_value (later_gives _ (place_value graph) (lists triples_value) maybe_triples_give)
      (λ triples. closed_gives terminal.CloseBrace (block (Some graph) triples) _ block_value (refl, λ q text. refl) (λ q. refl)))))

module _ (Template Inner : Derives (List Triples)) (p : Gives start Template (lists triples_value)) (i : Gives start Inner (lists triples_value)) where
  named_and_default_give : Gives start (g.NamedAndDefault Template Inner) (lists block_value)
  named_and_default_give = then_gives _ _ start block_value (lists block_value) (quads_not_triples_give Inner i)
      (λ named. then_gives _ _ (block_value named) (λ _. block_value named) (lists block_value) (perhaps_gives terminal.Dot (block_value named) (refl, λ q text. refl))
      (λ _. then_gives _ _ (block_value named) (λ x q. each_block q named && each_block q x) (lists block_value) (later_gives _ (block_value named) block_value (default_block_gives Template p))
      (λ default. pure_gives (named ∷ default ∷ []) _ (lists block_value) (λ q. ap (λ (b : Bool). each_block q named && b) (sym (and_true (each_block q default)))))))

  quads_give : Gives start (g.Quads Template Inner) (lists block_value)
  quads_give = then_gives _ _ start block_value (lists block_value) (default_block_gives Template p)
      (λ first. then_gives _ _ (block_value first) (λ xs q. each_block q first && lists block_value xs q) (lists block_value)
      (later_gives _ (block_value first) (lists block_value) (star_gives _ block_value named_and_default_give))
      (λ others. pure_gives (first ∷ others) _ (lists block_value) (λ q. refl)))

  quad_pattern_gives : Gives start (g.QuadPattern Template Inner) (lists block_value)
  quad_pattern_gives = behind_gives terminal.OpenBrace _ start (lists block_value) (refl, λ q text. refl) (then_gives _ _ start (lists block_value) (lists block_value) quads_give
      (λ blocks. closed_gives terminal.CloseBrace blocks (lists block_value blocks) (lists block_value) (refl, λ q text. refl) (λ q. refl)))

  -- two words, and quads in braces
  quads_behind_give : (k l : Terminal) (operation : List Block → Operation) → is_plain k ≡ true → ((q : Ask) (text : Slice) → names q k text ≡ q.word) → Sign l
      → ((blocks : List Block) (q : Ask) → q.word && lists block_value blocks q ≡ each_operation q (operation blocks))
      → Gives start (grammar.◌>>◌ (grammar.the k) (grammar.◌>>◌ (grammar.the l) (grammar.◌>>=◌ (g.QuadPattern Template Inner) (λ blocks. grammar.pure (operation blocks))))) operation_value
  quads_behind_give k l operation plain opens at_l is = opening_gives k _ operation_value plain opens (behind_gives l _ (λ q. q.word) operation_value at_l
      (then_gives _ _ (λ q. q.word) (λ blocks q. q.word && lists block_value blocks q) operation_value (later_gives _ (λ q. q.word) (lists block_value) quad_pattern_gives)
      (λ blocks. pure_gives (operation blocks) _ operation_value (is blocks))))

  -- ---- templates

  abbrev templates_value : List Block × List Block → Value
  templates_value x q = q.word && (lists block_value x.0 q && lists block_value x.1 q)

  -- behind its word
  abbrev clause_value : List Block → Value
  clause_value blocks q = q.word && lists block_value blocks q

  insert_clause_gives : Gives start (g.InsertClause Template Inner) clause_value
  insert_clause_gives = opening_gives terminal.Insert _ clause_value refl (λ q text. refl) (later_gives _ (λ q. q.word) (lists block_value) quad_pattern_gives)

  once_more : (w d i : Bool) → (w && d) && (w && i) ≡ (w && d) && i
  once_more true d i = refl
  once_more false d i = refl

  maybe_insert_gives : (delete : List Block) → Gives (clause_value delete) (grammar.◌<$>◌ all_of (grammar.maybe (g.InsertClause Template Inner))) (λ xs q. clause_value delete q && lists block_value xs q)
  maybe_insert_gives delete = map_gives all_of _ (clause_value delete) (λ o q. clause_value delete q && lists block_value (all_of o) q) (λ xs q. clause_value delete q && lists block_value xs q)
      (maybe_gives _ (clause_value delete) (λ xs q. clause_value delete q && clause_value xs q) (λ o q. clause_value delete q && lists block_value (all_of o) q) (later_gives _ (clause_value delete) clause_value insert_clause_gives)
      (λ q. sym (and_true (clause_value delete q))) (λ x q. once_more q.word (lists block_value delete q) (lists block_value x q))) (λ a q. refl)

  templates_give : Gives start (grammar.◌∣◌ (g.DeleteAndInsert Template Inner) (g.InsertAlone Template Inner)) templates_value
  templates_give = or_gives _ _ start templates_value
      (then_gives _ _ start clause_value templates_value (opening_gives terminal.Delete _ clause_value refl (λ q text. refl) (later_gives _ (λ q. q.word) (lists block_value) quad_pattern_gives))
      (λ delete. then_gives _ _ (clause_value delete) (λ xs q. clause_value delete q && lists block_value xs q) templates_value (maybe_insert_gives delete)
      (λ insert. pure_gives (delete, insert) _ templates_value (λ q. and_assoc q.word (lists block_value delete q) (lists block_value insert q)))))
      (then_gives _ _ start clause_value templates_value insert_clause_gives (λ insert. pure_gives ([], insert) (clause_value insert) templates_value (λ q. refl)))

module _ (Template Inner : Derives (List Triples)) (Group' : Derives Group) (p : Gives start Template (lists triples_value)) (i : Gives start Inner (lists triples_value))
    (k : Gives start Group' group_value) where
  abbrev with_value : Option Name → Value
  with_value x q = each_with q x

  modify_is : (name : Option Name) (templates : List Block × List Block) (group : Group) (q : Ask)
      → (each_with q name && (q.word && (lists block_value templates.0 q && lists block_value templates.1 q))) && each_group q group ≡ each_modify q (modify_with name templates group)
  modify_is name templates group q =
      and_assoc (each_with q name) (q.word && (lists block_value templates.0 q && lists block_value templates.1 q)) (each_group q group)
      ∙ ap (λ (b : Bool). each_with q name && b) (and_assoc q.word (lists block_value templates.0 q && lists block_value templates.1 q) (each_group q group))
      ∙ ap (λ (b : Bool). each_with q name && (q.word && b)) (and_assoc (lists block_value templates.0 q) (lists block_value templates.1 q) (each_group q group))

  modify_gives : Gives start (g.AModify Template Inner Group') modify_value
  modify_gives = then_gives _ _ start with_value modify_value (maybe_gives _ start name_value with_value (behind_gives terminal.With _ start name_value (refl, λ q text. refl) iri_gives) (λ q. refl) (λ x q. refl))
      (λ name. then_gives _ _ (with_value name) (λ x q. each_with q name && templates_value Template Inner p i x q) modify_value
      (later_gives _ (with_value name) (templates_value Template Inner p i) (templates_give Template Inner p i))
      (λ templates. behind_gives terminal.Where _ _ modify_value (refl, λ q text. refl)
      (then_gives _ _ _ (λ x q. (each_with q name && templates_value Template Inner p i templates q) && each_group q x) modify_value (later_gives _ _ group_value k)
      (λ inside. pure_gives (modify_with name templates inside) _ modify_value (modify_is name templates inside)))))

  pub operation_gives_with : Gives start (g.Update1 Template Inner Group') operation_value
  operation_gives_with =
      or_gives _ _ start operation_value graph_operation_gives
      (or_gives _ _ start operation_value (quads_behind_give Template Inner p i terminal.Insert terminal.Data o.InsertData refl (λ q text. refl) (refl, λ q text. refl) (λ blocks q. refl))
      (or_gives _ _ start operation_value (quads_behind_give Template Inner p i terminal.Delete terminal.Data o.DeleteData refl (λ q text. refl) (refl, λ q text. refl) (λ blocks q. refl))
      (or_gives _ _ start operation_value (quads_behind_give Template Inner p i terminal.Delete terminal.Where o.DeleteWhere refl (λ q text. refl) (refl, λ q text. refl) (λ blocks q. refl))
      (map_gives o.Modify _ start modify_value operation_value modify_gives (λ m q. refl)))))

pub operation_gives : (depth : ℕ) → Gives start (g.Update1 (TriplesTemplate (Nodes_at (suc depth))) (TriplesTemplate (Nodes_at depth)) (GroupAt (suc depth))) operation_value
operation_gives depth =
    operation_gives_with (TriplesTemplate (Nodes_at (suc depth))) (TriplesTemplate (Nodes_at depth)) (GroupAt (suc depth)) (triples_give (suc depth)) (triples_give depth) (group_at_gives (suc depth))

-- ---- the forms of queries

variable_gives : (before : Value) → Gives before (grammar.value terminal.Variable) (λ _. before)
variable_gives before = sign_gives terminal.Variable before (refl, λ q text. refl)

nothing_is : {A : Type 0} (xs : List A) (q : Ask) → lists (λ _. start) xs q ≡ true
nothing_is [] q = refl
nothing_is (x ∷ xs) q = nothing_is xs q

columns_give : Gives start queries.AColumns (λ _. start)
columns_give = or_gives _ _ start (λ _. start)
    (map_gives c.Variables _ start (λ _. start) (λ _. start)
    (then_gives _ _ start (λ _. start) (λ _. start) (variable_gives start)
    (λ first. then_gives _ _ start (λ _. start) (λ _. start)
    (same_gives _ start (lists (λ _. start)) (λ _. start) (star_gives _ (λ _. start) (one_gives _ (λ _. start) (variable_gives start))) nothing_is)
    (λ others. pure_gives (first ∷ others) start (λ _. start) (λ q. refl))))
    (λ a q. refl))
    (closed_gives terminal.Star c.All start (λ _. start) (refl, λ q text. refl) (λ q. refl))

module _ (Group' : Derives Group) (k : Gives start Group' group_value) where
  where_gives : Gives start (queries.WhereClause Group') group_value
  where_gives = then_gives _ _ start (λ _. start) group_value (perhaps_gives terminal.Where start (refl, λ q text. refl)) (λ _. k)

  pub form_gives_with : Gives start (grammar.◌∣◌ (queries.SelectQuery Group') (queries.AskQuery Group')) form_value
  form_gives_with = or_gives _ _ start form_value
      (behind_gives terminal.Select _ start form_value (refl, λ q text. refl) (then_gives _ _ start (λ _. start) form_value (perhaps_gives terminal.Distinct start (refl, λ q text. refl))
      (λ distinct. then_gives _ _ start (λ _. start) form_value columns_give
      (λ columns. then_gives _ _ start group_value form_value where_gives
      (λ x. pure_gives (form.Select distinct columns x) (group_value x) form_value (λ q. refl))))))
      (behind_gives terminal.Ask _ start form_value (refl, λ q text. refl) (map_gives form.Ask _ start group_value form_value where_gives (λ x q. refl)))

pub form_gives : (depth : ℕ) → Gives start (grammar.◌∣◌ (queries.SelectQuery (GroupAt depth)) (queries.AskQuery (GroupAt depth))) form_value
form_gives depth = form_gives_with (GroupAt depth) (group_at_gives depth)
