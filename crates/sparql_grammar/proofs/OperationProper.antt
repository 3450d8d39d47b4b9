-- Requests that are derived of formed lexemes are proper.
use Rattle.std.proofs.Common.{◌≡◌, ℕ, suc, Bool, true, ◌&&◌, List, [], ◌∷◌, map, Option, Some, None, refl, inl, inr}
use Rattle.std.proofs.lemmas.Bool.{and_from}
use Rattle.std.specs.List.{list_all, AllByRecursion}
use Rattle.rdf_grammar.specs.declared.tree.Name.{Name}
use Rattle.rdf_grammar.specs.Derivations as grammar
use Rattle.rdf_grammar.specs.Derivations.{Star}
use Rattle.rdf_grammar.specs.Prologue.{is_proper}
use Rattle.rdf_grammar.proofs.CallerLemmas.{lexemes_have_forms}
use Rattle.sparql_terminals.specs.declared.terminal.Terminal.{Terminal}
use Rattle.sparql_terminals.specs.declared.terminal.Terminal.TheVariants as terminal
use Rattle.sparql_grammar.specs.declared.tree.Block.{Block}
use Rattle.sparql_grammar.specs.declared.tree.GraphOrDefault.{GraphOrDefault}
use Rattle.sparql_grammar.specs.declared.tree.GraphOrDefault.TheVariants as place
use Rattle.sparql_grammar.specs.declared.tree.GraphRefAll.{GraphRefAll}
use Rattle.sparql_grammar.specs.declared.tree.GraphRefAll.TheVariants as graphs
use Rattle.sparql_grammar.specs.declared.tree.Group.{Group}
use Rattle.sparql_grammar.specs.declared.tree.Operation.{Operation}
use Rattle.sparql_grammar.specs.declared.tree.Operation.TheVariants as o
use Rattle.sparql_grammar.specs.declared.tree.Part.{Part}
use Rattle.sparql_grammar.specs.declared.tree.Part.TheVariants as part
use Rattle.sparql_grammar.specs.declared.tree.Triples.{Triples}
use Rattle.sparql_grammar.specs.declared.tree.VarOrIri.{VarOrIri}
use Rattle.sparql_terminals.specs.Formed.{AllFormed}
use Rattle.sparql_grammar.specs.Grammar.{Nodes_at, TriplesTemplate}
use Rattle.sparql_grammar.specs.GroupGrammar.{GroupAt}
use Rattle.sparql_terminals.specs.Lexemes.{Lexemes, Derives}
use Rattle.sparql_grammar.specs.OperationGrammar as g
use Rattle.sparql_grammar.specs.OperationReading.{between_by, block, modify_with, on_graphs_by}
use Rattle.sparql_grammar.specs.Proper.{holds, proper_triples, proper_var_or_iri, proper_graph, proper_block, proper_graph_ref_all, proper_graph_name, proper_graph_or_default, proper_group, proper_blocks, proper_modify, proper_operation, proper_part}
use Rattle.sparql_grammar.specs.Reading.{all_of}
use Rattle.sparql_grammar.specs.RequestLaws.{RequestsAreProper}
use Rattle.sparql_terminals.specs.Terminals.{terminal_by}
use Rattle.sparql_terminals.proofs.CallerLemmas.{lexemes_formed, Yields, Any, IsGoodOption, then_gives, pure_gives, or_gives, the_gives, map_gives, behind_gives, closed_gives, maybe_gives, star_gives, one_gives, Passes, iri_gives}
use Rattle.sparql_grammar.proofs.GrammarProper.{all_pass, perhaps_gives, var_or_iri_gives, triples_give}
use Rattle.sparql_grammar.proofs.GroupProper.{group_at_gives}
use Rattle.sparql_grammar.proofs.OperationNests.{PartsAt}
use Rattle.sparql_grammar.proofs.OperationParts.{Ended, EndedOperation, APart}
use Rattle.sparql_grammar.proofs.OperationWhole.{parts_are}
use Rattle.sparql_grammar.proofs.PrologueProductions.{declaration_gives}

-- ---- operations on graphs

graph_ref_gives : Yields g.GraphRef (Passes is_proper)
graph_ref_gives = behind_gives terminal.Graph _ (Passes is_proper) iri_gives

graph_ref_all_gives : Yields g.AGraphRefAll (Passes proper_graph_ref_all)
graph_ref_all_gives =
    or_gives _ _ (Passes proper_graph_ref_all) (map_gives graphs.Graph _ _ (Passes proper_graph_ref_all) graph_ref_gives (λ a h. h))
    (or_gives _ _ (Passes proper_graph_ref_all) (closed_gives terminal.Default graphs.Default (Passes proper_graph_ref_all) refl)
    (or_gives _ _ (Passes proper_graph_ref_all) (closed_gives terminal.Named graphs.Named (Passes proper_graph_ref_all) refl) (closed_gives terminal.All graphs.All (Passes proper_graph_ref_all) refl)))

graph_or_default_gives : Yields g.AGraphOrDefault (Passes proper_graph_or_default)
graph_or_default_gives =
    or_gives _ _ (Passes proper_graph_or_default) (closed_gives terminal.Default place.Default (Passes proper_graph_or_default) refl)
    (then_gives _ _ Any (Passes proper_graph_or_default) (perhaps_gives terminal.Graph) (λ _ _. map_gives place.Graph _ _ (Passes proper_graph_or_default) iri_gives (λ a h. h)))

create_gives : Yields g.Create (Passes proper_operation)
unfolding proper_operation
create_gives = behind_gives terminal.Create _ (Passes proper_operation) (then_gives _ _ Any (Passes proper_operation) (perhaps_gives terminal.Silent)
    (λ silent _. then_gives _ _ (Passes is_proper) (Passes proper_operation) graph_ref_gives (λ graph h. pure_gives (o.Create silent graph) (Passes proper_operation) h)))

abbrev GoodOn : Bool × GraphRefAll → Type 0
GoodOn x = proper_graph_ref_all x.1 ≡ true

on_graphs_gives : Yields g.OnGraphs GoodOn
on_graphs_gives = then_gives _ _ Any GoodOn (perhaps_gives terminal.Silent)
    (λ silent _. then_gives _ _ (Passes proper_graph_ref_all) GoodOn graph_ref_all_gives (λ graphs h. pure_gives (silent, graphs) GoodOn h))

on_gives : (k : Terminal) (operation : Bool → GraphRefAll → Operation) → ((silent : Bool) (graphs : GraphRefAll) → proper_operation (operation silent graphs) ≡ proper_graph_ref_all graphs)
    → Yields (grammar.◌>>◌ (grammar.the k) (grammar.◌<$>◌ (on_graphs_by operation) g.OnGraphs)) (Passes proper_operation)
on_gives k operation is = behind_gives k _ (Passes proper_operation) (map_gives (on_graphs_by operation) _ GoodOn (Passes proper_operation) on_graphs_gives (λ x h. rw (is x.0 x.1) h))

abbrev GoodBetween : Bool × GraphOrDefault × GraphOrDefault → Type 0
GoodBetween x = (proper_graph_or_default x.1 ≡ true) × (proper_graph_or_default x.2 ≡ true)

between_gives : Yields g.Between GoodBetween
between_gives = then_gives _ _ Any GoodBetween (perhaps_gives terminal.Silent)
    (λ silent _. then_gives _ _ (Passes proper_graph_or_default) GoodBetween graph_or_default_gives
    (λ from h. behind_gives terminal.To _ GoodBetween (then_gives _ _ (Passes proper_graph_or_default) GoodBetween graph_or_default_gives
    (λ to i. pure_gives (silent, from, to) GoodBetween (h, i)))))

from_to_gives : (k : Terminal) (operation : Bool → GraphOrDefault → GraphOrDefault → Operation)
    → ((silent : Bool) (from to : GraphOrDefault) → proper_operation (operation silent from to) ≡ proper_graph_or_default from && proper_graph_or_default to)
    → Yields (grammar.◌>>◌ (grammar.the k) (grammar.◌<$>◌ (between_by operation) g.Between)) (Passes proper_operation)
from_to_gives k operation is = behind_gives k _ (Passes proper_operation) (map_gives (between_by operation) _ GoodBetween (Passes proper_operation) between_gives
    (λ x h. rw (is x.0 x.1 x.2) (and_from (proper_graph_or_default x.1) (proper_graph_or_default x.2) h.0 h.1)))

graph_operation_gives : Yields g.GraphOperation (Passes proper_operation)
unfolding proper_operation
graph_operation_gives =
    or_gives _ _ (Passes proper_operation) (on_gives terminal.Clear o.Clear (λ silent graphs. refl))
    (or_gives _ _ (Passes proper_operation) (on_gives terminal.Drop o.Drop (λ silent graphs. refl))
    (or_gives _ _ (Passes proper_operation) (from_to_gives terminal.Add o.Add (λ silent from to. refl))
    (or_gives _ _ (Passes proper_operation) (from_to_gives terminal.Move o.Move (λ silent from to. refl))
    (or_gives _ _ (Passes proper_operation) (from_to_gives terminal.Copy o.Copy (λ silent from to. refl)) create_gives))))

-- ---- data

some_triples : (found : Option (List Triples)) → IsGoodOption (AllByRecursion (Passes proper_triples)) found → AllByRecursion (Passes proper_triples) (all_of found)
some_triples None h = tt
some_triples (Some triples) h = h

module _ (Template : Derives (List Triples)) (p : Yields Template (AllByRecursion (Passes proper_triples))) where
  maybe_triples_give : Yields (g.MaybeTriples Template) (AllByRecursion (Passes proper_triples))
  maybe_triples_give = map_gives all_of _ (IsGoodOption (AllByRecursion (Passes proper_triples))) _ (maybe_gives _ (AllByRecursion (Passes proper_triples)) p) some_triples

  good_block : (graph : Option VarOrIri) (triples : List Triples) → proper_graph graph ≡ true → AllByRecursion (Passes proper_triples) triples → proper_block (block graph triples) ≡ true
  good_block graph triples h all = and_from (proper_graph graph) (list_all holds (map proper_triples triples)) h (all_pass proper_triples triples all)

  default_block_gives : Yields (g.DefaultBlock Template) (Passes proper_block)
  default_block_gives = map_gives (block None) _ _ (Passes proper_block) maybe_triples_give (λ triples all. good_block None triples refl all)

  quads_not_triples_give : Yields (g.QuadsNotTriples Template) (Passes proper_block)
  quads_not_triples_give = behind_gives terminal.Graph _ (Passes proper_block) (then_gives _ _ (Passes proper_var_or_iri) (Passes proper_block) var_or_iri_gives
      (λ graph h. behind_gives terminal.OpenBrace _ (Passes proper_block) (then_gives _ _ (AllByRecursion (Passes proper_triples)) (Passes proper_block) maybe_triples_give
      (λ triples all. closed_gives terminal.CloseBrace (block (Some graph) triples) (Passes proper_block) (good_block (Some graph) triples h all)))))

module _ (Template Inner : Derives (List Triples)) (p : Yields Template (AllByRecursion (Passes proper_triples))) (i : Yields Inner (AllByRecursion (Passes proper_triples))) where
  named_and_default_give : Yields (g.NamedAndDefault Template Inner) (AllByRecursion (Passes proper_block))
  named_and_default_give = then_gives _ _ (Passes proper_block) (AllByRecursion (Passes proper_block)) (quads_not_triples_give Inner i)
      (λ named h. then_gives _ _ Any (AllByRecursion (Passes proper_block)) (perhaps_gives terminal.Dot)
      (λ _ _. then_gives _ _ (Passes proper_block) (AllByRecursion (Passes proper_block)) (default_block_gives Template p)
      (λ default d. pure_gives (named ∷ default ∷ []) (AllByRecursion (Passes proper_block)) (h, (d, tt)))))

  quads_give : Yields (g.Quads Template Inner) (AllByRecursion (Passes proper_block))
  quads_give = then_gives _ _ (Passes proper_block) (AllByRecursion (Passes proper_block)) (default_block_gives Template p)
      (λ first h. then_gives _ _ (AllByRecursion (Passes proper_block)) (AllByRecursion (Passes proper_block)) (star_gives _ (Passes proper_block) named_and_default_give)
      (λ others all. pure_gives (first ∷ others) (AllByRecursion (Passes proper_block)) (h, all)))

  quad_pattern_gives : Yields (g.QuadPattern Template Inner) (AllByRecursion (Passes proper_block))
  quad_pattern_gives = behind_gives terminal.OpenBrace _ (AllByRecursion (Passes proper_block)) (then_gives _ _ (AllByRecursion (Passes proper_block)) (AllByRecursion (Passes proper_block)) quads_give
      (λ blocks all. closed_gives terminal.CloseBrace blocks (AllByRecursion (Passes proper_block)) all))

  -- two words, and quads in braces
  quads_behind_give : (k l : Terminal) (operation : List Block → Operation) → ((blocks : List Block) → proper_operation (operation blocks) ≡ proper_blocks blocks)
      → Yields (grammar.◌>>◌ (grammar.the k) (grammar.◌>>◌ (grammar.the l) (grammar.◌>>=◌ (g.QuadPattern Template Inner) (λ blocks. grammar.pure (operation blocks))))) (Passes proper_operation)
  quads_behind_give k l operation is = behind_gives k _ (Passes proper_operation) (behind_gives l _ (Passes proper_operation)
      (then_gives _ _ (AllByRecursion (Passes proper_block)) (Passes proper_operation) quad_pattern_gives
      (λ blocks all. pure_gives (operation blocks) (Passes proper_operation) (rw (is blocks) (all_pass proper_block blocks all)))))

  -- ---- templates

  abbrev GoodTemplates : List Block × List Block → Type 0
  GoodTemplates x = AllByRecursion (Passes proper_block) x.0 × AllByRecursion (Passes proper_block) x.1

  some_blocks : (found : Option (List Block)) → IsGoodOption (AllByRecursion (Passes proper_block)) found → AllByRecursion (Passes proper_block) (all_of found)
  some_blocks None h = tt
  some_blocks (Some blocks) h = h

  insert_clause_gives : Yields (g.InsertClause Template Inner) (AllByRecursion (Passes proper_block))
  insert_clause_gives = behind_gives terminal.Insert _ (AllByRecursion (Passes proper_block)) quad_pattern_gives

  maybe_insert_gives : Yields (grammar.◌<$>◌ all_of (grammar.maybe (g.InsertClause Template Inner))) (AllByRecursion (Passes proper_block))
  maybe_insert_gives = map_gives all_of _ (IsGoodOption (AllByRecursion (Passes proper_block))) _ (maybe_gives _ (AllByRecursion (Passes proper_block)) insert_clause_gives) some_blocks

  templates_give : Yields (grammar.◌∣◌ (g.DeleteAndInsert Template Inner) (g.InsertAlone Template Inner)) GoodTemplates
  templates_give = or_gives _ _ GoodTemplates
      (then_gives _ _ (AllByRecursion (Passes proper_block)) GoodTemplates (behind_gives terminal.Delete _ (AllByRecursion (Passes proper_block)) quad_pattern_gives)
      (λ delete h. then_gives _ _ (AllByRecursion (Passes proper_block)) GoodTemplates maybe_insert_gives (λ insert i. pure_gives (delete, insert) GoodTemplates (h, i))))
      (then_gives _ _ (AllByRecursion (Passes proper_block)) GoodTemplates insert_clause_gives (λ insert i. pure_gives ([], insert) GoodTemplates (tt, i)))

good_name : (found : Option Name) → IsGoodOption (Passes is_proper) found → proper_graph_name found ≡ true
good_name None h = refl
good_name (Some name) h = h

good_modify : (name : Option Name) (templates : List Block × List Block) (group : Group) → IsGoodOption (Passes is_proper) name
    → AllByRecursion (Passes proper_block) templates.0 → AllByRecursion (Passes proper_block) templates.1 → proper_group group ≡ true → proper_modify (modify_with name templates group) ≡ true
good_modify name templates group n delete insert h =
    and_from (proper_graph_name name) (proper_blocks templates.0 && (proper_blocks templates.1 && proper_group group)) (good_name name n)
    (and_from (proper_blocks templates.0) (proper_blocks templates.1 && proper_group group) (all_pass proper_block templates.0 delete)
    (and_from (proper_blocks templates.1) (proper_group group) (all_pass proper_block templates.1 insert) h))

module _ (Template Inner : Derives (List Triples)) (Group' : Derives Group) (p : Yields Template (AllByRecursion (Passes proper_triples))) (i : Yields Inner (AllByRecursion (Passes proper_triples)))
    (k : Yields Group' (Passes proper_group)) where
  modify_gives : Yields (g.AModify Template Inner Group') (Passes proper_modify)
  modify_gives = then_gives _ _ (IsGoodOption (Passes is_proper)) (Passes proper_modify) (maybe_gives _ (Passes is_proper) (behind_gives terminal.With _ (Passes is_proper) iri_gives))
      (λ name n. then_gives _ _ (GoodTemplates Template Inner p i) (Passes proper_modify) (templates_give Template Inner p i)
      (λ templates h. behind_gives terminal.Where _ (Passes proper_modify) (then_gives _ _ (Passes proper_group) (Passes proper_modify) k
      (λ inside w. pure_gives (modify_with name templates inside) (Passes proper_modify) (good_modify name templates inside n h.0 h.1 w)))))

  operation_gives : Yields (g.Update1 Template Inner Group') (Passes proper_operation)
  unfolding proper_operation
  operation_gives =
      or_gives _ _ (Passes proper_operation) graph_operation_gives
      (or_gives _ _ (Passes proper_operation) (quads_behind_give Template Inner p i terminal.Insert terminal.Data o.InsertData (λ blocks. refl))
      (or_gives _ _ (Passes proper_operation) (quads_behind_give Template Inner p i terminal.Delete terminal.Data o.DeleteData (λ blocks. refl))
      (or_gives _ _ (Passes proper_operation) (quads_behind_give Template Inner p i terminal.Delete terminal.Where o.DeleteWhere (λ blocks. refl))
      (map_gives o.Modify _ (Passes proper_modify) (Passes proper_operation) modify_gives (λ m h. h)))))

  end_gives : Yields Ended Any
  unfolding Yields
  end_gives ts x us (inl d) w = the_gives terminal.Semicolon ts x us d w
  end_gives ts x us (inr d) w = (tt, rw (← d.0) w)

  ended_operation_gives : Yields (EndedOperation (g.Update1 Template Inner Group')) (Passes proper_part)
  ended_operation_gives = then_gives _ _ (Passes proper_operation) (Passes proper_part) operation_gives
      (λ operation h. then_gives _ _ Any (Passes proper_part) end_gives (λ _ _. pure_gives (part.Operation operation) (Passes proper_part) h))

  part_gives : Yields (APart (g.Update1 Template Inner Group')) (Passes proper_part)
  part_gives = or_gives _ _ (Passes proper_part) (map_gives part.Declaration _ Any (Passes proper_part) declaration_gives (λ a h. refl)) ended_operation_gives

  parts_give : Yields (Star (grammar.one (APart (g.Update1 Template Inner Group')))) (AllByRecursion (Passes proper_part))
  parts_give = star_gives _ (Passes proper_part) (one_gives _ (Passes proper_part) part_gives)

parts_proper : (depth : ℕ) (ts : Lexemes) (parts : List Part) → AllFormed ts → PartsAt depth ts parts [] → list_all holds (map proper_part parts) ≡ true
unfolding Yields
parts_proper depth ts parts w d =
    let all = parts_give (TriplesTemplate (Nodes_at (suc depth))) (TriplesTemplate (Nodes_at depth)) (GroupAt (suc depth)) (triples_give (suc depth)) (triples_give depth) (group_at_gives (suc depth)) ts parts [] d w in
    all_pass proper_part parts all.0

pub requests_proper : RequestsAreProper
requests_proper text from rest tokens ts parts runs are d =
    parts_proper d.0 ts parts (lexemes_formed text tokens ts are (lexemes_have_forms terminal_by text from rest tokens ts runs are)) (parts_are ts parts d)
