-- Laws of the operations.
use Rattle.std.proofs.Common.{◌≡◌, Bool, true, false, ◌||◌, ◌&&◌, not, List, [], ◌∷◌, ◌++◌, map, refl, sym, ap, ◌∙◌, Result, Ok, Err, is_ok, if◌then◌else◌}
use mathlib.Core.Bool.{true≢false}
use Rattle.std.specs.FinSet as set
use Rattle.std.specs.FinSet.{contains, contains-from_list, contains-insert, contains-items, contains-union, from_list, same_set}
use Rattle.std.specs.List.{AllByRecursion, flat_map, list_any}
use Rattle.std.specs.Ordering.{eq_by_cmp}
use Rattle.rdf_terms.specs.Order.{quad_cmp, term_cmp}
use Rattle.rdf_terms.specs.OrderLaws.{graph_cmp_total, graph_cmp-IsAntisymmetric, term_cmp_total, term_cmp-IsAntisymmetric, quad_cmp_total, quad_cmp-IsAntisymmetric}
use Rattle.rdf_terms.specs.Quad.{QuadParts}
use Rattle.rdf_terms.specs.declared.quad.GraphName.{GraphName}
use Rattle.rdf_terms.specs.declared.quad.GraphName.TheVariants.{Default, Named}
use Rattle.rdf_terms.specs.declared.term.Term.{Term}
use Rattle.rdf_terms.specs.declared.term.Term.TheVariants.{Iri}
use Rattle.rdf_dataset.specs.Insertion.{graph_names, names_in, quad_from, with_data}
use Rattle.rdf_dataset.specs.State.{Names, Quads, State, IsNamed, IsSound}
use Rattle.sparql_eval.specs.Graphs.{graph_of, is_there, quad_in, quads_in, quads_of, same_graph, without_graph}
use Rattle.sparql_eval.specs.Laws.{CopyReads, DropAllEmpties, InsertAgain, MoveIsCopyThenDrop, OneAnswer, SilentChangesNothing, reference}
use Rattle.sparql_eval.specs.Operations.{after, answer, copied, dropped, go_on, moved, onto, step, unless}
use Rattle.sparql_eval.specs.declared.fault.ApplyFault.{ApplyFault}
use Rattle.sparql_eval.specs.declared.fault.ApplyFault.TheVariants.{BlankNumbers, MissingGraph}
use Rattle.sparql_eval.proofs.GraphLemmas.{default_gone, one_gone}
use Rattle.sparql_eval.proofs.QuadLemmas.{any_map}
use Rattle.sparql_eval.proofs.SetLemmas.{and_second, both_ways, contains-kept, kept_none, tie_itself, tie_same}
use Rattle.sparql_trees.specs.declared.operation.GraphOrDefault.{GraphOrDefault}
use Rattle.sparql_trees.specs.declared.operation.GraphOrDefault.TheVariants as one
use Rattle.sparql_trees.specs.declared.operation.GraphRefAll.TheVariants as some
use Rattle.sparql_trees.specs.declared.operation.Operation.TheVariants.{Drop}

pub one_answer : OneAnswer
one_answer s t operations fault a b = true≢false (ap is_ok (sym a ∙ b))

pub silent_changes_nothing : SilentChangesNothing
silent_changes_nothing s operation fault silent against = λ i. answer s (after s operation) (silent i) (against i)

pub drop_all_empties : DropAllEmpties
drop_all_empties s silent = λ i. Ok (record {
  quads = kept_none quad_cmp_total quad_cmp-IsAntisymmetric s.quads (λ q. false) (λ q h. refl) i;
  names = kept_none term_cmp_total term_cmp-IsAntisymmetric s.names (λ n. false) (λ n h. refl) i;
  next = s.next;
})

-- ---- COPY

-- the state of an answer, or another
abbrev pub state_or : State → Result State ApplyFault → State
state_or d (Ok t) = t
state_or d (Err fault) = d

-- nothing stands against an operation on a graph that is there
there_leads : (s t : State) (silent there : Bool) → there ≡ true → answer s t silent (unless there MissingGraph) ≡ Ok t
there_leads s t silent there h = ap (λ b. answer s t silent (unless b MissingGraph)) h

-- a quad's triple in the graph where it is
in_its_own : (g : GraphName) (x : QuadParts) → same_graph g x.graph ≡ true → quad_in g x ≡ x
in_its_own g x h = λ i. record { graph = tie_same graph_cmp_total graph_cmp-IsAntisymmetric g x.graph h i; subject = x.subject; predicate = x.predicate; object = x.object }

any_alike : (p r : QuadParts → Bool) (xs : List QuadParts) → ((x : QuadParts) → list_any (eq_by_cmp quad_cmp x) xs ≡ true → p x ≡ r x) → list_any p xs ≡ list_any r xs
any_alike p r [] same = refl
any_alike p r (x ∷ xs) same =
    λ i. same x (ap (λ b. b || list_any (eq_by_cmp quad_cmp x) xs) (tie_itself quad_cmp_total quad_cmp-IsAntisymmetric x)) i || any_alike p r xs (λ y a. same y (also (eq_by_cmp quad_cmp y x) a)) i
  where
    also : (b : Bool) {c : Bool} → c ≡ true → (b || c) ≡ true
    also true e = refl
    also false e = e

-- a triple is in another graph where it is in its own
carried : (quads : Quads) (g h : GraphName) (q : QuadParts) → contains (quads_in h (quads_of quads g)) (quad_in h q) ≡ contains (quads_of quads g) (quad_in g q)
carried quads g h q =
    let here = quads_of quads g in
    contains-from_list quad_cmp_total (map (quad_in h) (set.items here)) (quad_in h q)
    ∙ any_map (eq_by_cmp quad_cmp (quad_in h q)) (quad_in h) (set.items here)
    ∙ any_alike (λ x. eq_by_cmp quad_cmp (quad_in h q) (quad_in h x)) (eq_by_cmp quad_cmp (quad_in g q)) (set.items here)
    (λ x a. alike x (and_second (contains quads x) _ (sym (contains-kept quad_cmp_total quad_cmp-IsAntisymmetric quads (λ q. same_graph g q.graph) x) ∙ contains-items here x ∙ a)))
    ∙ sym (contains-items here (quad_in g q))
  where
    alike : (x : QuadParts) → same_graph g x.graph ≡ true → eq_by_cmp quad_cmp (quad_in h q) (quad_in h x) ≡ eq_by_cmp quad_cmp (quad_in g q) x
    alike x own = both_ways _ _
        (λ t. ap (eq_by_cmp quad_cmp (quad_in g q)) (sym (ap (quad_in g) (tie_same quad_cmp_total quad_cmp-IsAntisymmetric (quad_in h q) (quad_in h x) t) ∙ in_its_own g x own)) ∙ tie_itself quad_cmp_total quad_cmp-IsAntisymmetric (quad_in g q))
        (λ t. ap (eq_by_cmp quad_cmp (quad_in h q)) (sym (ap (quad_in h) (tie_same quad_cmp_total quad_cmp-IsAntisymmetric (quad_in g q) x t))) ∙ tie_itself quad_cmp_total quad_cmp-IsAntisymmetric (quad_in h q))

-- a graph has the triples that are its quads
own_quads : (quads : Quads) (g : GraphName) (q : QuadParts) → contains (quads_of quads g) (quad_in g q) ≡ contains quads (quad_in g q)
own_quads quads g q =
    contains-kept quad_cmp_total quad_cmp-IsAntisymmetric quads (λ q. same_graph g q.graph) (quad_in g q)
    ∙ ap (λ b. contains quads (quad_in g q) && b) (tie_itself graph_cmp_total graph_cmp-IsAntisymmetric g) ∙ whole (contains quads (quad_in g q))
  where
    whole : (a : Bool) → (a && true) ≡ a
    whole true = refl
    whole false = refl

others_no : (quads : Quads) (h : GraphName) (q : QuadParts) → contains (without_graph quads h) (quad_in h q) ≡ false
others_no quads h q =
    contains-kept quad_cmp_total quad_cmp-IsAntisymmetric quads (λ q. not (same_graph h q.graph)) (quad_in h q)
    ∙ ap (λ b. contains quads (quad_in h q) && not b) (tie_itself graph_cmp_total graph_cmp-IsAntisymmetric h) ∙ none (contains quads (quad_in h q))
  where
    none : (a : Bool) → (a && false) ≡ false
    none true = refl
    none false = refl

copied_reads : (s : State) (g h : GraphName) (q : QuadParts) → contains (copied s g h).quads (quad_in h q) ≡ contains s.quads (quad_in g q)
copied_reads s g h q =
    contains-union quad_cmp_total (without_graph s.quads h) (quads_in h (quads_of s.quads g)) (quad_in h q)
    ∙ (λ i. others_no s.quads h q i || (carried s.quads g h q ∙ own_quads s.quads g q) i)

onto_reads : (s : State) (g h : GraphName) (q : QuadParts) → contains (onto g h s (copied s g h)).quads (quad_in h q) ≡ contains s.quads (quad_in g q)
onto_reads s g h q =
    elim (same_graph g h) as (λ b. same_graph g h ≡ b → contains (State.quads (if b then s else copied s g h)) (quad_in h q) ≡ contains s.quads (quad_in g q)) [
      | true ↦ λ e. ap (λ k. contains s.quads (quad_in k q)) (sym (tie_same graph_cmp_total graph_cmp-IsAntisymmetric g h e))
      | false ↦ λ _. copied_reads s g h q
    ] refl

pub copy_reads : CopyReads
copy_reads s t silent from to q there leads =
    let g = graph_of from in let h = graph_of to in
    let led : onto g h s (copied s g h) ≡ t = ap (state_or s) (sym (there_leads s (onto g h s (copied s g h)) silent (is_there s g) there) ∙ leads) in
    ap (λ (z : State). contains z.quads (quad_in h q)) (sym led) ∙ onto_reads s g h q

-- ---- MOVE

still_there : (s : State) (g h : GraphName) → is_there s g ≡ true → is_there (copied s g h) g ≡ true
still_there s Default h there = refl
still_there s (Named n) Default there = there
still_there s (Named n) (Named m) there = contains-insert term_cmp_total s.names m n ∙ later (eq_by_cmp term_cmp n m) there
  where
    later : (b : Bool) {c : Bool} → c ≡ true → (b || c) ≡ true
    later true e = refl
    later false e = e

dropped_leads : (t : State) (silent : Bool) (from : GraphOrDefault) (h : GraphName) (s : State) → t ≡ copied s (graph_of from) h → is_there t (graph_of from) ≡ true
    → step t (Drop silent (reference from)) ≡ Ok (moved s (graph_of from) h)
dropped_leads t silent one.Default h s is there = ap Ok (sym (default_gone t) ∙ ap (λ z. record { quads = without_graph (State.quads z) Default; names = State.names z; next = State.next z }) is)
dropped_leads t silent (one.Graph iri) h s is there =
    there_leads t (dropped t (some.Graph iri)) silent (set.contains t.names (Iri iri)) there
    ∙ ap Ok (sym (one_gone t (Iri iri)) ∙ ap (λ z. record { quads = without_graph (State.quads z) (Named (Iri iri)); names = set.remove (State.names z) (Iri iri); next = State.next z }) is)

pub move_is_copy_then_drop : MoveIsCopyThenDrop
move_is_copy_then_drop s silent from to there out =
    let g = graph_of from in let h = graph_of to in
    there_leads s (onto g h s (moved s g h)) silent (is_there s g) there
    ∙ ap (λ b. Ok (if b then s else moved s g h)) out
    ∙ sym (ap (λ z. go_on z (λ t. step t (Drop silent (reference from)))) (there_leads s (onto g h s (copied s g h)) silent (is_there s g) there ∙ ap (λ b. Ok (if b then s else copied s g h)) out)
    ∙ dropped_leads (copied s g h) silent from h s refl (still_there s g h there))

-- ---- INSERT DATA

pub not_silent : (s t u : State) (right : Bool) → answer s t false (unless right BlankNumbers) ≡ Ok u → t ≡ u
not_silent s t u true e = ap (state_or s) e
not_silent s t u false e = absurd (true≢false (sym (ap is_ok e)))

all_there : (quads : Quads) (qs : List QuadParts) (q : QuadParts) → AllByRecursion (λ x. contains quads x ≡ true) qs → list_any (eq_by_cmp quad_cmp q) qs ≡ true → contains quads q ≡ true
all_there quads [] q all a = absurd (true≢false (sym a))
all_there quads (x ∷ xs) q all a =
    elim (eq_by_cmp quad_cmp q x) as (λ b. eq_by_cmp quad_cmp q x ≡ b → (b || list_any (eq_by_cmp quad_cmp q) xs) ≡ true → contains quads q ≡ true) [
      | true ↦ λ t _. ap (contains quads) (tie_same quad_cmp_total quad_cmp-IsAntisymmetric q x t) ∙ all.0
      | false ↦ λ _ a. all_there quads xs q all.1 a
    ] refl a

named_there : (names : Names) (g : GraphName) (n : Term) → IsNamed names g → list_any (eq_by_cmp term_cmp n) (graph_names g) ≡ true → contains names n ≡ true
named_there names Default n h a = absurd (true≢false (sym a))
named_there names (Named m) n h a = ap (contains names) (tie_same term_cmp_total term_cmp-IsAntisymmetric n m (sym (alone (eq_by_cmp term_cmp n m)) ∙ a)) ∙ h
  where
    alone : (b : Bool) → (b || false) ≡ b
    alone true = refl
    alone false = refl

pub any_join : (p : Term → Bool) (xs ys : List Term) → list_any p (xs ++ ys) ≡ (list_any p xs || list_any p ys)
any_join p [] ys = refl
any_join p (x ∷ xs) ys = ap (λ b. p x || b) (any_join p xs ys) ∙ assoc (p x) (list_any p xs) (list_any p ys)
  where
    assoc : (a b c : Bool) → (a || (b || c)) ≡ ((a || b) || c)
    assoc true b c = refl
    assoc false b c = refl

names_there : (s : State) (qs : List QuadParts) (n : Term) → IsSound s → AllByRecursion (λ x. contains s.quads x ≡ true) qs → list_any (eq_by_cmp term_cmp n) (flat_map names_in qs) ≡ true → contains s.names n ≡ true
names_there s [] n sound all a = absurd (true≢false (sym a))
names_there s (q ∷ qs) n sound all a =
    elim (list_any (eq_by_cmp term_cmp n) (graph_names q.graph)) as (λ b. list_any (eq_by_cmp term_cmp n) (graph_names q.graph) ≡ b → (b || list_any (eq_by_cmp term_cmp n) (flat_map names_in qs)) ≡ true → contains s.names n ≡ true) [
      | true ↦ λ t _. named_there s.names q.graph n (sound.named q all.0) t
      | false ↦ λ _ a. names_there s qs n sound all.1 a
    ] refl (sym (any_join (eq_by_cmp term_cmp n) (graph_names q.graph) (flat_map names_in qs)) ∙ a)

within : (a b : Bool) → (b ≡ true → a ≡ true) → (a || b) ≡ a
within true b h = refl
within false true h = sym (h refl)
within false false h = refl

pub insert_again : InsertAgain
insert_again s t brought sound all leads =
    let qs = map (quad_from s.next) brought.quads in
    let led : with_data s brought.quads brought.blanks ≡ t = not_silent s (with_data s brought.quads brought.blanks) t _ leads in (
      ap (λ (z : State). z.quads) (sym led) ∙ same_set quad_cmp_total quad_cmp-IsAntisymmetric _ _ (λ q.
          contains-union quad_cmp_total s.quads (from_list qs) q ∙ ap (λ b. contains s.quads q || b) (contains-from_list quad_cmp_total qs q) ∙ within (contains s.quads q) _ (all_there s.quads qs q all)),
      ap (λ (z : State). z.names) (sym led) ∙ same_set term_cmp_total term_cmp-IsAntisymmetric _ _ (λ n.
          contains-union term_cmp_total s.names (from_list (flat_map names_in qs)) n ∙ ap (λ b. contains s.names n || b) (contains-from_list term_cmp_total (flat_map names_in qs) n) ∙ within (contains s.names n) _ (names_there s qs n sound all)),
    )
