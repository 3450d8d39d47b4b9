-- What an operation leaves of the graphs that it doesn't name.
use Rattle.std.proofs.Common.{◌≡◌, ◌⊎◌, inl, inr, Bool, true, false, ◌||◌, ◌&&◌, not, List, [], ◌∷◌, map, refl, sym, ap, ◌∙◌, Option, None, Some, Ok, is_ok, if◌then◌else◌}
use mathlib.Core.Bool.{true≢false}
use Rattle.std.specs.FinSet as set
use Rattle.std.specs.FinSet.{contains, contains-difference, contains-from_list, contains-insert, contains-remove, contains-union, from_list, same_set}
use Rattle.std.specs.List.{flat_map, list_any}
use Rattle.std.specs.Ordering.{eq_by_cmp}
use Rattle.rdf_terms.specs.Order.{quad_cmp, term_cmp}
use Rattle.rdf_terms.specs.OrderLaws.{graph_cmp_total, graph_cmp-IsAntisymmetric, term_cmp_total, term_cmp-IsAntisymmetric, quad_cmp_total, quad_cmp-IsAntisymmetric}
use Rattle.rdf_terms.specs.Quad.{QuadParts}
use Rattle.rdf_terms.specs.declared.quad.GraphName.{GraphName}
use Rattle.rdf_terms.specs.declared.quad.GraphName.TheVariants.{Default, Named}
use Rattle.rdf_terms.specs.declared.term.Term.{Term}
use Rattle.rdf_terms.specs.declared.term.Term.TheVariants.{Iri}
use Rattle.rdf_dataset.specs.Insertion.{graph_names, names_in, quad_from}
use Rattle.rdf_dataset.specs.State.{Names, Quads, State, with_graph}
use Rattle.sparql_eval.specs.Graphs.{graph_of, is_meant, is_there, quad_in, quads_in, quads_of, same_graph, without_graph, without_name_of}
use Rattle.sparql_eval.specs.Laws.{OthersStay, writes}
use Rattle.sparql_eval.specs.Operations.{added, after, answer, copied, deletions, insertions, is_silent, moved, obstacle, onto}
use Rattle.sparql_eval.specs.declared.fault.ApplyFault.{ApplyFault}
use Rattle.sparql_eval.proofs.LawLemmas.{any_join, state_or}
use Rattle.sparql_eval.proofs.SetLemmas.{and_true, contains-kept, or_false, tie_same, tie_sym}
use Rattle.sparql_trees.specs.declared.operation.Operation.{Operation}
use Rattle.sparql_trees.specs.declared.operation.Operation.TheVariants.{InsertData, DeleteData, Modify, Create, Clear, Drop, Copy, Move, Add}

first_not : (a b : Bool) → (a || b) ≡ false → a ≡ false
first_not true b h = h
first_not false b h = refl

second_not : (a b : Bool) → (a || b) ≡ false → b ≡ false
second_not true b h = absurd (true≢false h)
second_not false b h = h

-- a quad of a graph that no listed quad is in isn't listed
none_such : (qs : List QuadParts) (g : GraphName) (q : QuadParts) → list_any (λ x. same_graph g x.graph) qs ≡ false → same_graph g q.graph ≡ true → list_any (eq_by_cmp quad_cmp q) qs ≡ false
none_such [] g q h own = refl
none_such (x ∷ xs) g q h own =
    elim (eq_by_cmp quad_cmp q x) as (λ b. eq_by_cmp quad_cmp q x ≡ b → (b || list_any (eq_by_cmp quad_cmp q) xs) ≡ false) [
      | true ↦ λ t. absurd (true≢false (sym own ∙ ap (λ (z : QuadParts). same_graph g z.graph) (tie_same quad_cmp_total quad_cmp-IsAntisymmetric q x t) ∙ first_not (same_graph g x.graph) _ h))
      | false ↦ λ _. none_such xs g q (second_not (same_graph g x.graph) _ h) own
    ] refl

-- nor is its name
no_such_name : (qs : List QuadParts) (n : Term) → list_any (λ x. same_graph (Named n) x.graph) qs ≡ false → list_any (eq_by_cmp term_cmp n) (flat_map names_in qs) ≡ false
no_such_name [] n h = refl
no_such_name (q ∷ qs) n h =
    any_join (eq_by_cmp term_cmp n) (graph_names q.graph) (flat_map names_in qs)
    ∙ (λ i. (of_graph q.graph ∙ first_not (same_graph (Named n) q.graph) _ h) i || no_such_name qs n (second_not (same_graph (Named n) q.graph) _ h) i)
  where
    of_graph : (g : GraphName) → list_any (eq_by_cmp term_cmp n) (graph_names g) ≡ same_graph (Named n) g
    of_graph Default = refl
    of_graph (Named m) = or_false (eq_by_cmp term_cmp n m)

all_elsewhere : (xs : List QuadParts) (g h : GraphName) → same_graph g h ≡ false → list_any (λ x. same_graph g x.graph) (map (quad_in h) xs) ≡ false
all_elsewhere [] g h out = refl
all_elsewhere (x ∷ xs) g h out = λ i. out i || all_elsewhere xs g h out i

turned : (g h : GraphName) → same_graph g h ≡ false → same_graph h g ≡ false
turned g h e = tie_sym graph_cmp_total graph_cmp-IsAntisymmetric h g ∙ e

none_from : (quads : Quads) (g h : GraphName) (q : QuadParts) → same_graph h g ≡ false → same_graph g q.graph ≡ true → contains (quads_in h quads) q ≡ false
none_from quads g h q out own =
    contains-from_list quad_cmp_total (map (quad_in h) (set.items quads)) q
    ∙ none_such (map (quad_in h) (set.items quads)) g q (all_elsewhere (set.items quads) g h (turned h g out)) own

-- a test on graphs that the graph doesn't pass
kept_where : (quads : Quads) (test : GraphName → Bool) (g : GraphName) (q : QuadParts) → test g ≡ false → same_graph g q.graph ≡ true → contains (set.retain quads (λ x. not (test x.graph))) q ≡ contains quads q
kept_where quads test g q out own =
    contains-kept quad_cmp_total quad_cmp-IsAntisymmetric quads (λ x. not (test x.graph)) q
    ∙ ap (λ k. contains quads q && not (test k)) (sym (tie_same graph_cmp_total graph_cmp-IsAntisymmetric g q.graph own))
    ∙ ap (λ b. contains quads q && not b) out ∙ and_true (contains quads q)

copied_elsewhere : (s : State) (f h g : GraphName) (q : QuadParts) → same_graph h g ≡ false → same_graph g q.graph ≡ true → contains (copied s f h).quads q ≡ contains s.quads q
copied_elsewhere s f h g q out own =
    contains-union quad_cmp_total (without_graph s.quads h) (quads_in h (quads_of s.quads f)) q
    ∙ (λ i. kept_where s.quads (same_graph h) g q out own i || none_from (quads_of s.quads f) g h q out own i) ∙ or_false (contains s.quads q)

onto_kept : (s t : State) (f h : GraphName) (q : QuadParts) → contains t.quads q ≡ contains s.quads q → contains (onto f h s t).quads q ≡ contains s.quads q
onto_kept s t f h q e = elim (same_graph f h) as (λ b. contains (State.quads (if b then s else t)) q ≡ contains s.quads q) [ true ↦ refl | false ↦ e ]

quads_kept : (s : State) (operation : Operation) (g : GraphName) (q : QuadParts) → writes s operation g ≡ false → same_graph g q.graph ≡ true → contains (after s operation).quads q ≡ contains s.quads q
quads_kept s (InsertData brought) g q out own =
    contains-union quad_cmp_total s.quads (from_list (map (quad_from s.next) brought.quads)) q
    ∙ ap (λ b. contains s.quads q || b) (contains-from_list quad_cmp_total (map (quad_from s.next) brought.quads) q ∙ none_such (map (quad_from s.next) brought.quads) g q out own)
    ∙ or_false (contains s.quads q)
quads_kept s (DeleteData quads) g q out own =
    contains-difference quad_cmp_total s.quads (from_list quads) q
    ∙ ap (λ b. contains s.quads q && not b) (contains-from_list quad_cmp_total quads q ∙ none_such quads g q out own)
    ∙ and_true (contains s.quads q)
quads_kept s (Modify m) g q out own =
    let gone = deletions s m in let come = insertions s m in
    contains-union quad_cmp_total (set.difference s.quads (from_list gone)) (from_list come) q
    ∙ ap (λ b. contains (set.difference s.quads (from_list gone)) q || b) (contains-from_list quad_cmp_total come q ∙ none_such come g q (second_not (list_any (λ x. same_graph g x.graph) gone) _ out) own)
    ∙ or_false (contains (set.difference s.quads (from_list gone)) q)
    ∙ contains-difference quad_cmp_total s.quads (from_list gone) q
    ∙ ap (λ b. contains s.quads q && not b) (contains-from_list quad_cmp_total gone q ∙ none_such gone g q (first_not (list_any (λ x. same_graph g x.graph) gone) _ out) own)
    ∙ and_true (contains s.quads q)
quads_kept s (Create silent graph) g q out own = refl
quads_kept s (Clear silent graphs) g q out own = kept_where s.quads (is_meant graphs) g q out own
quads_kept s (Drop silent graphs) g q out own = kept_where s.quads (is_meant graphs) g q out own
quads_kept s (Copy silent from to) g q out own = onto_kept s (copied s (graph_of from) (graph_of to)) (graph_of from) (graph_of to) q (copied_elsewhere s (graph_of from) (graph_of to) g q out own)
quads_kept s (Move silent from to) g q out own =
    let f = graph_of from in let h = graph_of to in
    onto_kept s (moved s f h) f h q
    (kept_where (copied s f h).quads (same_graph f) g q (first_not (same_graph f g) _ out) own ∙ copied_elsewhere s f h g q (second_not (same_graph f g) _ out) own)
quads_kept s (Add silent from to) g q out own =
    let f = graph_of from in let h = graph_of to in
    onto_kept s (added s f h) f h q
    (contains-union quad_cmp_total s.quads (quads_in h (quads_of s.quads f)) q
    ∙ ap (λ b. contains s.quads q || b) (none_from (quads_of s.quads f) g h q out own) ∙ or_false (contains s.quads q))

-- ---- names

name_elsewhere : (names : Names) (m n : Term) → eq_by_cmp term_cmp m n ≡ false → contains (set.insert names m) n ≡ contains names n
name_elsewhere names m n out = contains-insert term_cmp_total names m n ∙ ap (λ b. b || contains names n) (tie_sym term_cmp_total term_cmp-IsAntisymmetric n m ∙ out)

graph_elsewhere : (names : Names) (h : GraphName) (n : Term) → same_graph h (Named n) ≡ false → contains (with_graph names h) n ≡ contains names n
graph_elsewhere names Default n out = refl
graph_elsewhere names (Named m) n out = name_elsewhere names m n out

name_left : (names : Names) (h : GraphName) (n : Term) → same_graph h (Named n) ≡ false → contains (without_name_of names h) n ≡ contains names n
name_left names Default n out = refl
name_left names (Named m) n out = contains-remove term_cmp_total names m n ∙ ap (λ b. not b && contains names n) (tie_sym term_cmp_total term_cmp-IsAntisymmetric n m ∙ out)

onto_named : (s t : State) (f h : GraphName) (n : Term) → contains t.names n ≡ contains s.names n → contains (onto f h s t).names n ≡ contains s.names n
onto_named s t f h n e = elim (same_graph f h) as (λ b. contains (State.names (if b then s else t)) n ≡ contains s.names n) [ true ↦ refl | false ↦ e ]

name_kept : (s : State) (operation : Operation) (n : Term) → writes s operation (Named n) ≡ false → contains (after s operation).names n ≡ contains s.names n
name_kept s (InsertData brought) n out =
    let qs = map (quad_from s.next) brought.quads in
    contains-union term_cmp_total s.names (from_list (flat_map names_in qs)) n
    ∙ ap (λ b. contains s.names n || b) (contains-from_list term_cmp_total (flat_map names_in qs) n ∙ no_such_name qs n out) ∙ or_false (contains s.names n)
name_kept s (DeleteData quads) n out = refl
name_kept s (Modify m) n out =
    let come = insertions s m in
    contains-union term_cmp_total s.names (from_list (flat_map names_in come)) n
    ∙ ap (λ b. contains s.names n || b)
    (contains-from_list term_cmp_total (flat_map names_in come) n ∙ no_such_name come n (second_not (list_any (λ q. same_graph (Named n) q.graph) (deletions s m)) _ out))
    ∙ or_false (contains s.names n)
name_kept s (Create silent graph) n out = name_elsewhere s.names (Iri graph) n out
name_kept s (Clear silent graphs) n out = refl
name_kept s (Drop silent graphs) n out =
    contains-kept term_cmp_total term_cmp-IsAntisymmetric s.names (λ m. not (is_meant graphs (Named m))) n ∙ ap (λ b. contains s.names n && not b) out ∙ and_true (contains s.names n)
name_kept s (Copy silent from to) n out = onto_named s (copied s (graph_of from) (graph_of to)) (graph_of from) (graph_of to) n (graph_elsewhere s.names (graph_of to) n out)
name_kept s (Move silent from to) n out =
    let f = graph_of from in let h = graph_of to in
    onto_named s (moved s f h) f h n
    (name_left (with_graph s.names h) f n (first_not (same_graph f (Named n)) _ out) ∙ graph_elsewhere s.names h n (second_not (same_graph f (Named n)) _ out))
name_kept s (Add silent from to) n out = onto_named s (added s (graph_of from) (graph_of to)) (graph_of from) (graph_of to) n (graph_elsewhere s.names (graph_of to) n out)

there_kept : (s : State) (operation : Operation) (g : GraphName) → writes s operation g ≡ false → is_there (after s operation) g ≡ is_there s g
there_kept s operation Default out = refl
there_kept s operation (Named n) out = name_kept s operation n out

-- ---- any operation

where_second : (a b x : Bool) → (x ≡ true → a ≡ b) → (a && x) ≡ (b && x)
where_second a b true h = ap (λ c. c && true) (h refl)
where_second a b false h = none a ∙ sym (none b)
  where
    none : (c : Bool) → (c && false) ≡ false
    none true = refl
    none false = refl

-- an operation leads to what it leaves, or changes nothing
led : (s t u : State) (silent : Bool) (against : Option ApplyFault) → answer s t silent against ≡ Ok u → (u ≡ s) ⊎ (u ≡ t)
led s t u silent None e = inr (sym (ap (state_or s) e))
led s t u true (Some fault) e = inl (sym (ap (state_or s) e))
led s t u false (Some fault) e = absurd (true≢false (sym (ap is_ok e)))

others : (s t : State) (operation : Operation) (g : GraphName) → (t ≡ s) ⊎ (t ≡ after s operation) → writes s operation g ≡ false → (quads_of t.quads g ≡ quads_of s.quads g) × (is_there t g ≡ is_there s g)
others s t operation g (inl same) out = (ap (λ (z : State). quads_of z.quads g) same, ap (λ z. is_there z g) same)
others s t operation g (inr is) out = (
  ap (λ (z : State). quads_of z.quads g) is
      ∙ same_set quad_cmp_total quad_cmp-IsAntisymmetric _ _ (λ q.
      contains-kept quad_cmp_total quad_cmp-IsAntisymmetric (after s operation).quads (λ x. same_graph g x.graph) q
      ∙ where_second (contains (after s operation).quads q) (contains s.quads q) (same_graph g q.graph) (quads_kept s operation g q out)
      ∙ sym (contains-kept quad_cmp_total quad_cmp-IsAntisymmetric s.quads (λ x. same_graph g x.graph) q)),
  ap (λ z. is_there z g) is ∙ there_kept s operation g out,
)

pub others_stay : OthersStay
others_stay s t operation g leads out = others s t operation g (led s (after s operation) t (is_silent operation) (obstacle s operation) leads) out
