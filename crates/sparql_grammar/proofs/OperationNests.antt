-- Where no more than so many brackets are open at once, no request nests deeper.
use Rattle.std.proofs.Common.{◌≡◌, ℕ, suc, ◌+◌, ◌-◌, ◌≤◌, List, [], ◌∷◌, take, Some, refl, arith, inl, inr}
use Rattle.rdf_grammar.specs.Derivations as grammar
use Rattle.rdf_grammar.specs.Derivations.{Star}
use Rattle.rdf_grammar.proofs.CallerLemmas.{Keeps, then_keeps, pure_keeps, or_keeps, the_keeps, map_keeps, behind_keeps, word_keeps, maybe_keeps, star_keeps, one_keeps, enclosed}
use Rattle.sparql_terminals.specs.declared.terminal.Terminal.{Terminal}
use Rattle.sparql_terminals.specs.declared.terminal.Terminal.TheVariants as terminal
use Rattle.sparql_grammar.specs.declared.tree.Block.{Block}
use Rattle.sparql_grammar.specs.declared.tree.GraphOrDefault.TheVariants as place
use Rattle.sparql_grammar.specs.declared.tree.GraphRefAll.TheVariants as graphs
use Rattle.sparql_grammar.specs.declared.tree.Group.{Group}
use Rattle.sparql_grammar.specs.declared.tree.Operation.{Operation}
use Rattle.sparql_grammar.specs.declared.tree.Operation.TheVariants as o
use Rattle.sparql_grammar.specs.declared.tree.Part.{Part}
use Rattle.sparql_grammar.specs.declared.tree.Part.TheVariants as part
use Rattle.sparql_grammar.specs.declared.tree.Triples.{Triples}
use Rattle.sparql_grammar.specs.Grammar.{Nodes_at, Perhaps, TriplesTemplate}
use Rattle.sparql_grammar.specs.GroupGrammar.{GroupAt}
use Rattle.sparql_terminals.specs.Lexemes.{Lexemes, Derives}
use Rattle.sparql_grammar.specs.Nesting.{open_after}
use Rattle.sparql_grammar.specs.OperationGrammar as g
use Rattle.sparql_grammar.specs.OperationReading as read
use Rattle.sparql_grammar.specs.Reading.{all_of}
use Rattle.sparql_terminals.specs.Terminals.{bracket}
use Rattle.sparql_grammar.proofs.GrammarNests.{perhaps_keeps, iri_keeps, var_or_iri_keeps, triples_keep}
use Rattle.sparql_grammar.proofs.GroupNests.{group_at_keeps}
use Rattle.sparql_grammar.proofs.OperationParts.{Ended, APart}
use Rattle.sparql_grammar.proofs.PrologueProductions.{declaration_keeps}

-- what stands where so many brackets are open
module _ (limit b : ℕ) where
  silent_keeps : Keeps bracket limit b (Perhaps terminal.Silent) (Perhaps terminal.Silent)
  silent_keeps = perhaps_keeps limit b terminal.Silent (the_keeps bracket limit b terminal.Silent refl)

  graph_ref_keeps : Keeps bracket limit b g.GraphRef g.GraphRef
  graph_ref_keeps = behind_keeps bracket limit b terminal.Graph _ _ refl (iri_keeps limit b)

  graph_ref_all_keeps : Keeps bracket limit b g.AGraphRefAll g.AGraphRefAll
  graph_ref_all_keeps =
      or_keeps bracket limit b _ _ _ _ (map_keeps bracket limit b graphs.Graph _ _ graph_ref_keeps)
      (or_keeps bracket limit b _ _ _ _ (word_keeps bracket limit b terminal.Default graphs.Default refl)
      (or_keeps bracket limit b _ _ _ _ (word_keeps bracket limit b terminal.Named graphs.Named refl) (word_keeps bracket limit b terminal.All graphs.All refl)))

  graph_or_default_keeps : Keeps bracket limit b g.AGraphOrDefault g.AGraphOrDefault
  graph_or_default_keeps =
      or_keeps bracket limit b _ _ _ _ (word_keeps bracket limit b terminal.Default place.Default refl)
      (then_keeps bracket limit b _ _ _ _ (perhaps_keeps limit b terminal.Graph (the_keeps bracket limit b terminal.Graph refl)) (λ _. map_keeps bracket limit b place.Graph _ _ (iri_keeps limit b)))

  create_keeps : Keeps bracket limit b g.Create g.Create
  create_keeps = behind_keeps bracket limit b terminal.Create _ _ refl (then_keeps bracket limit b _ _ _ _ silent_keeps
      (λ silent. then_keeps bracket limit b _ _ _ _ graph_ref_keeps (λ graph. pure_keeps bracket limit b (o.Create silent graph))))

  on_graphs_keeps : Keeps bracket limit b g.OnGraphs g.OnGraphs
  on_graphs_keeps = then_keeps bracket limit b _ _ _ _ silent_keeps
      (λ silent. then_keeps bracket limit b _ _ _ _ graph_ref_all_keeps (λ graphs. pure_keeps bracket limit b (silent, graphs)))

  between_keeps : Keeps bracket limit b g.Between g.Between
  between_keeps = then_keeps bracket limit b _ _ _ _ silent_keeps
      (λ silent. then_keeps bracket limit b _ _ _ _ graph_or_default_keeps (λ from. behind_keeps bracket limit b terminal.To _ _ refl
      (then_keeps bracket limit b _ _ _ _ graph_or_default_keeps (λ to. pure_keeps bracket limit b (silent, from, to)))))

  clear_keeps : Keeps bracket limit b g.Clear g.Clear
  clear_keeps = behind_keeps bracket limit b terminal.Clear _ _ refl (map_keeps bracket limit b (read.on_graphs_by o.Clear) _ _ on_graphs_keeps)

  drop_keeps : Keeps bracket limit b g.Drop g.Drop
  drop_keeps = behind_keeps bracket limit b terminal.Drop _ _ refl (map_keeps bracket limit b (read.on_graphs_by o.Drop) _ _ on_graphs_keeps)

  add_keeps : Keeps bracket limit b g.Add g.Add
  add_keeps = behind_keeps bracket limit b terminal.Add _ _ refl (map_keeps bracket limit b (read.between_by o.Add) _ _ between_keeps)

  move_keeps : Keeps bracket limit b g.Move g.Move
  move_keeps = behind_keeps bracket limit b terminal.Move _ _ refl (map_keeps bracket limit b (read.between_by o.Move) _ _ between_keeps)

  copy_keeps : Keeps bracket limit b g.Copy g.Copy
  copy_keeps = behind_keeps bracket limit b terminal.Copy _ _ refl (map_keeps bracket limit b (read.between_by o.Copy) _ _ between_keeps)

  graph_operation_keeps : Keeps bracket limit b g.GraphOperation g.GraphOperation
  graph_operation_keeps =
      or_keeps bracket limit b _ _ _ _ clear_keeps (or_keeps bracket limit b _ _ _ _ drop_keeps (or_keeps bracket limit b _ _ _ _ add_keeps
      (or_keeps bracket limit b _ _ _ _ move_keeps (or_keeps bracket limit b _ _ _ _ copy_keeps create_keeps))))

  end_keeps : Keeps bracket limit b Ended Ended
  unfolding Keeps
  end_keeps ts x us (inl d) h = let q = (the_keeps bracket limit b terminal.Semicolon refl) ts x us d h in (inl q.0, q.1)
  end_keeps ts x us (inr d) h = (inr d, rw (← d.0) h)

  -- triples that may be missing
  module _ (P Q : Derives (List Triples)) (p : Keeps bracket limit b P Q) where
    maybe_triples_keep : Keeps bracket limit b (g.MaybeTriples P) (g.MaybeTriples Q)
    maybe_triples_keep = map_keeps bracket limit b all_of _ _ (maybe_keeps bracket limit b _ _ p)

    default_block_keeps : Keeps bracket limit b (g.DefaultBlock P) (g.DefaultBlock Q)
    default_block_keeps = map_keeps bracket limit b (read.block _) _ _ maybe_triples_keep

-- data, which stand where b brackets are open
module _ (limit b : ℕ) (P Q I J : Derives (List Triples)) (p : Keeps bracket limit (b + 1) P Q) (i : Keeps bracket limit (b + 1 + 1) I J) where
  quads_not_triples_keep : Keeps bracket limit (b + 1) (g.QuadsNotTriples I) (g.QuadsNotTriples J)
  quads_not_triples_keep = behind_keeps bracket limit (b + 1) terminal.Graph _ _ refl (then_keeps bracket limit (b + 1) _ _ _ _ (var_or_iri_keeps limit (b + 1))
      (λ graph. enclosed bracket limit (b + 1) terminal.OpenBrace terminal.CloseBrace _ _ (λ triples. grammar.pure (read.block (Some graph) triples)) refl (omega arith)
      (maybe_triples_keep limit (b + 1 + 1) I J i) (λ a ts x us d. d.1)))

  named_and_default_keep : Keeps bracket limit (b + 1) (g.NamedAndDefault P I) (g.NamedAndDefault Q J)
  named_and_default_keep = then_keeps bracket limit (b + 1) _ _ _ _ quads_not_triples_keep (λ named. then_keeps bracket limit (b + 1) _ _ _ _
      (perhaps_keeps limit (b + 1) terminal.Dot (the_keeps bracket limit (b + 1) terminal.Dot refl))
      (λ _. then_keeps bracket limit (b + 1) _ _ _ _ (default_block_keeps limit (b + 1) P Q p) (λ default. pure_keeps bracket limit (b + 1) (named ∷ default ∷ []))))

  quads_keep : Keeps bracket limit (b + 1) (g.Quads P I) (g.Quads Q J)
  quads_keep = then_keeps bracket limit (b + 1) _ _ _ _ (default_block_keeps limit (b + 1) P Q p) (λ first. then_keeps bracket limit (b + 1) _ _ _ _
      (star_keeps bracket limit (b + 1) _ _ named_and_default_keep) (λ others. pure_keeps bracket limit (b + 1) (first ∷ others)))

  quad_pattern_keeps : Keeps bracket limit b (g.QuadPattern P I) (g.QuadPattern Q J)
  quad_pattern_keeps = enclosed bracket limit b terminal.OpenBrace terminal.CloseBrace _ _ grammar.pure refl (omega arith) quads_keep (λ a ts x us d. d.1)

  data_keep : (k : Terminal) (operation : List Block → Operation) → Keeps bracket limit b (grammar.the k) (grammar.the k) → Keeps bracket limit b (g.DataOf P I k operation) (g.DataOf Q J k operation)
  data_keep k operation q = then_keeps bracket limit b _ _ _ _ q (λ _. behind_keeps bracket limit b terminal.Data _ _ refl
      (then_keeps bracket limit b _ _ _ _ quad_pattern_keeps (λ blocks. pure_keeps bracket limit b (operation blocks))))

  delete_where_keeps : Keeps bracket limit b (g.DeleteWhere P I) (g.DeleteWhere Q J)
  delete_where_keeps = behind_keeps bracket limit b terminal.Delete _ _ refl (behind_keeps bracket limit b terminal.Where _ _ refl
      (then_keeps bracket limit b _ _ _ _ quad_pattern_keeps (λ blocks. pure_keeps bracket limit b (o.DeleteWhere blocks))))

  insert_clause_keeps : Keeps bracket limit b (g.InsertClause P I) (g.InsertClause Q J)
  insert_clause_keeps = behind_keeps bracket limit b terminal.Insert _ _ refl quad_pattern_keeps

  templates_keep : Keeps bracket limit b (grammar.◌∣◌ (g.DeleteAndInsert P I) (g.InsertAlone P I)) (grammar.◌∣◌ (g.DeleteAndInsert Q J) (g.InsertAlone Q J))
  templates_keep =
      or_keeps bracket limit b _ _ _ _
      (then_keeps bracket limit b _ _ _ _ (behind_keeps bracket limit b terminal.Delete _ _ refl quad_pattern_keeps) (λ delete. then_keeps bracket limit b _ _ _ _
      (map_keeps bracket limit b all_of _ _ (maybe_keeps bracket limit b _ _ insert_clause_keeps)) (λ insert. pure_keeps bracket limit b (delete, insert))))
      (then_keeps bracket limit b _ _ _ _ insert_clause_keeps (λ insert. pure_keeps bracket limit b ([], insert)))

  -- and groups
  module _ (A B : Derives Group) (a : Keeps bracket limit b A B) where
    modify_keeps : Keeps bracket limit b (g.AModify P I A) (g.AModify Q J B)
    modify_keeps = then_keeps bracket limit b _ _ _ _
        (maybe_keeps bracket limit b _ _ (behind_keeps bracket limit b terminal.With _ _ refl (iri_keeps limit b)))
        (λ name. then_keeps bracket limit b _ _ _ _ templates_keep (λ templates. behind_keeps bracket limit b terminal.Where _ _ refl
        (then_keeps bracket limit b _ _ _ _ a (λ inside. pure_keeps bracket limit b (read.modify_with name templates inside)))))

    operation_keeps : Keeps bracket limit b (g.Update1 P I A) (g.Update1 Q J B)
    operation_keeps =
        or_keeps bracket limit b _ _ _ _ (graph_operation_keeps limit b)
        (or_keeps bracket limit b _ _ _ _ (data_keep terminal.Insert o.InsertData (the_keeps bracket limit b terminal.Insert refl))
        (or_keeps bracket limit b _ _ _ _ (data_keep terminal.Delete o.DeleteData (the_keeps bracket limit b terminal.Delete refl))
        (or_keeps bracket limit b _ _ _ _ delete_where_keeps (map_keeps bracket limit b o.Modify _ _ modify_keeps))))

    part_keeps : Keeps bracket limit b (APart (g.Update1 P I A)) (APart (g.Update1 Q J B))
    part_keeps =
        or_keeps bracket limit b _ _ _ _ (map_keeps bracket limit b part.Declaration _ _ (declaration_keeps limit b))
        (then_keeps bracket limit b _ _ _ _ operation_keeps (λ operation. then_keeps bracket limit b _ _ _ _ (end_keeps limit b) (λ _. pure_keeps bracket limit b (part.Operation operation))))

    parts_keep : Keeps bracket limit b (Star (grammar.one (APart (g.Update1 P I A)))) (Star (grammar.one (APart (g.Update1 Q J B))))
    parts_keep = star_keeps bracket limit b _ _ (one_keeps bracket limit b _ _ part_keeps)

-- the parts of a request whose brackets nest less than so deep
abbrev pub PartsAt : ℕ → Derives (List Part)
PartsAt depth = Star (grammar.one (APart (g.Update1 (TriplesTemplate (Nodes_at (suc depth))) (TriplesTemplate (Nodes_at depth)) (GroupAt (suc depth)))))

-- Parts that are derived at any depth are derived at the limit.
pub parts_within : (depth d : ℕ) (ts : Lexemes) (parts : List Part) → ((n : ℕ) → open_after 0 (take n ts) ≤ suc (suc depth)) → PartsAt d ts parts [] → PartsAt depth ts parts []
unfolding Keeps
parts_within depth d ts parts below h =
    let once : suc (suc depth) - 1 ≡ suc depth = omega arith in
    let twice : suc (suc depth) - 2 ≡ depth = omega arith in
    let outer : Keeps bracket (suc (suc depth)) 1 (TriplesTemplate (Nodes_at (suc d))) (TriplesTemplate (Nodes_at (suc depth))) = rw once at (triples_keep (suc (suc depth)) (suc d) 1) in
    let inner : Keeps bracket (suc (suc depth)) 2 (TriplesTemplate (Nodes_at d)) (TriplesTemplate (Nodes_at depth)) = rw twice at (triples_keep (suc (suc depth)) d 2) in
    (parts_keep (suc (suc depth)) 0 (TriplesTemplate (Nodes_at (suc d))) (TriplesTemplate (Nodes_at (suc depth))) (TriplesTemplate (Nodes_at d)) (TriplesTemplate (Nodes_at depth)) outer inner
    (GroupAt (suc d)) (GroupAt (suc depth)) (group_at_keeps (suc depth) (suc d)) ts parts [] h (record { at = below })).0
