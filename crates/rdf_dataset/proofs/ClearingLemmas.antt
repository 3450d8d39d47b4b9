-- Graphs that are emptied, and names that go.
use Rattle.std.proofs.Common.{◌≡◌, ℕ, ◌+◌, ◌<◌, Bool, true, false, ◌||◌, ◌&&◌, not, List, [], ◌∷◌, ◌++◌, length, drop, get_or, Option, None, Some, refl, sym, ap, ◌∙◌, subst}
use mathlib.Core.Bool.{true≢false}
use Rattle.std.specs.Prelude.{IfSome}
use Rattle.std.proofs.lemmas.List.{drop_more}
use Rattle.std.specs.declared.cmp.Ordering.{Ordering}
use Rattle.std.specs.Cmp.{IsTotalOrder}
use Rattle.std.specs.List.{list_any}
use Rattle.std.specs.Ordering.{eq_by_cmp}
use Rattle.std.specs.FinSet as set
use Rattle.std.specs.FinSet.{IsAntisymmetric, contains, contains-difference, contains-empty, contains-from_list, contains-remove, difference, from_list, remove, retain, same_set}
use Rattle.rdf_terms.specs.declared.term.Term.{Term}
use Rattle.rdf_terms.specs.declared.quad.GraphName.{GraphName}
use Rattle.rdf_terms.specs.declared.quad.GraphName.TheVariants.{Default, Named}
use Rattle.rdf_terms.specs.Quad.{QuadParts}
use Rattle.rdf_terms.specs.Lists.{AppendsOnce, ListsOnce}
use Rattle.rdf_terms.specs.Order.{graph_cmp, term_cmp}
use Rattle.rdf_terms.specs.OrderLaws.{quad_cmp_total, quad_cmp-IsAntisymmetric, term_cmp_total, term_cmp-IsAntisymmetric}
use Rattle.rdf_sets.proofs.CallerLemmas.{retained, tie_itself, tie_same}
use Rattle.rdf_dataset.specs.State.{Names, Quads, State, IsEmptyGraph, IsNamed, in_named, is_default, matches, without_graph, without_name, without_named, without_names, without_quad}
use Rattle.rdf_dataset.specs.Staging.{Staging, staged}
use Rattle.rdf_dataset.specs.Inside.Emptied.{less}

pub kept : (quads : Quads) (test : QuadParts → Bool) (q : QuadParts) → contains (retain quads test) q ≡ (contains quads q && test q)
kept quads test q = retained quad_cmp_total quad_cmp-IsAntisymmetric quads test q

pub same : (s t : Quads) → ((q : QuadParts) → contains s q ≡ contains t q) → s ≡ t
same s t h = same_set quad_cmp_total quad_cmp-IsAntisymmetric s t h

and_true : (a : Bool) → (a && true) ≡ a
and_true true = refl
and_true false = refl

pub and_false : (a : Bool) → (a && false) ≡ false
and_false true = refl
and_false false = refl

second : (a b : Bool) → (a && b) ≡ true → b ≡ true
second true b h = h
second false b h = absurd (true≢false (sym h))

where_true : (a x y : Bool) → (a ≡ true → x ≡ y) → (a && x) ≡ (a && y)
where_true true x y h = h refl
where_true false x y h = refl

in_a_row : (a b c : Bool) → ((a && b) && c) ≡ (a && (b && c))
in_a_row true b c = refl
in_a_row false b c = refl

-- tests that agree on the members
pub kept_alike : (quads : Quads) (p r : QuadParts → Bool) → ((q : QuadParts) → contains quads q ≡ true → p q ≡ r q) → retain quads p ≡ retain quads r
kept_alike quads p r h = same _ _ (λ q. kept quads p q ∙ where_true (contains quads q) (p q) (r q) (h q) ∙ sym (kept quads r q))

-- two tests, one after the other
kept_twice : (quads : Quads) (p r w : QuadParts → Bool) → ((q : QuadParts) → (p q && r q) ≡ w q) → retain (retain quads p) r ≡ retain quads w
kept_twice quads p r w h = same _ _ (λ q.
    kept (retain quads p) r q ∙ ap (λ b. b && r q) (kept quads p q) ∙ in_a_row (contains quads q) (p q) (r q) ∙ ap (λ b. contains quads q && b) (h q) ∙ sym (kept quads w q))

kept_all : (quads : Quads) (p : QuadParts → Bool) → ((q : QuadParts) → p q ≡ true) → retain quads p ≡ quads
kept_all quads p h = same _ _ (λ q. kept quads p q ∙ ap (λ b. contains quads q && b) (h q) ∙ and_true (contains quads q))

-- what passes a test goes
goes : (quads gone : Quads) (p r : QuadParts → Bool) → gone ≡ retain quads p → ((q : QuadParts) → not (p q) ≡ r q) → difference quads gone ≡ retain quads r
goes quads gone p r e h = same _ _ (λ q.
    contains-difference quad_cmp_total quads gone q
    ∙ ap (λ z. contains quads q && not (contains z q)) e
    ∙ ap (λ b. contains quads q && not b) (kept quads p q)
    ∙ not_and (contains quads q) (p q)
    ∙ ap (λ b. contains quads q && b) (h q)
    ∙ sym (kept quads r q))
  where
    not_and : (a b : Bool) → (a && not (a && b)) ≡ (a && not b)
    not_and true b = refl
    not_and false b = refl

same_state : (s t : State) → s.quads ≡ t.quads → s.names ≡ t.names → s.next ≡ t.next → s ≡ t
same_state s t q n c = λ i. record { quads = q i; names = n i; next = c i }

pub same_staging : (s t : Staging) (now : State) → t.under ≡ s.under → t.now ≡ now → t ≡ staged s now
same_staging s t now u n = λ i. record { under = u i; now = n i }

-- ---- quads of a list go

module _ {K : Type 0} {R : K → K → Ordering} (o : IsTotalOrder R) (apart : IsAntisymmetric R) where
  difference-nothing : (s : set.FinSet R) → difference s (from_list []) ≡ s
  difference-nothing s = same_set o apart _ _ (λ x. contains-difference o s (from_list []) x ∙ ap (λ b. contains s x && not b) (contains-empty R x) ∙ and_true (contains s x))

  difference-more : (s : set.FinSet R) (k : K) (ks : List K) → difference (remove s k) (from_list ks) ≡ difference s (from_list (k ∷ ks))
  difference-more s k ks = same_set o apart _ _ (λ x.
      contains-difference o (remove s k) (from_list ks) x
      ∙ (λ i. contains-remove o s k x i && not (contains-from_list o ks x i))
      ∙ but_first (eq_by_cmp R x k) (contains s x) (list_any (eq_by_cmp R x) ks)
      ∙ sym (contains-difference o s (from_list (k ∷ ks)) x ∙ ap (λ b. contains s x && not b) (contains-from_list o (k ∷ ks) x)))
    where
      but_first : (e a b : Bool) → ((not e && a) && not b) ≡ (a && not (e || b))
      but_first true true b = refl
      but_first true false b = refl
      but_first false a b = refl

next_of : {X : Type 0} (xs : List X) (x : X) (i : ℕ) → i < length xs → x ≡ get_or xs i x → drop i xs ≡ x ∷ drop (i + 1) xs
next_of xs x i h is = drop_more xs i x h ∙ ap (λ y. y ∷ drop (i + 1) xs) (sym is)

less-nothing : (s : State) → less s [] ≡ s
less-nothing s = λ i. record { quads = difference-nothing quad_cmp_total quad_cmp-IsAntisymmetric s.quads i; names = s.names; next = s.next }

less-more : (s : State) (q : QuadParts) (qs : List QuadParts) → less (without_quad s q) qs ≡ less s (q ∷ qs)
less-more s q qs = λ i. record { quads = difference-more quad_cmp_total quad_cmp-IsAntisymmetric s.quads q qs i; names = s.names; next = s.next }

pub removing_goes_on : (s now new : State) (qs : List QuadParts) (i : ℕ) (q : QuadParts) → i < length qs → q ≡ get_or qs i q → new ≡ without_quad now q
    → less now (drop i qs) ≡ less s qs → less new (drop (i + 1) qs) ≡ less s qs
removing_goes_on s now new qs i q h is n e = ap (λ t. less t (drop (i + 1) qs)) n ∙ less-more now q (drop (i + 1) qs) ∙ ap (less now) (sym (next_of qs q i h is)) ∙ e

pub removing_ends : (s now : State) (qs rest : List QuadParts) → rest ≡ [] → less now rest ≡ less s qs → now ≡ less s qs
removing_ends s now qs rest r e = sym (less-nothing now) ∙ ap (less now) (sym r) ∙ e

-- ---- a graph is emptied

pub front_nothing : {X : Type 0} (old new found : List X) → old ≡ [] → new ≡ old ++ found → new ≡ found
front_nothing old new found e f = f ∙ ap (λ l. l ++ found) e

-- those that a look-up found go
pub found_gone : (s : State) (g : GraphName) (old found : List QuadParts) → old ≡ [] → AppendsOnce (retain s.quads (matches g None None None)) old found → less s found ≡ without_graph s g
found_gone s g old found none l =
    same_state (less s found) (without_graph s g)
    (goes s.quads (from_list found) (matches g None None None) (λ q. not (eq_by_cmp graph_cmp g q.graph))
    (ap from_list (front_nothing old found l.found none l.appended) ∙ l.each_once.all) (λ q. ap not (and_true (eq_by_cmp graph_cmp g q.graph)))) refl refl

-- those of named graphs go
pub since_gone : (s : State) (since : List QuadParts) → ListsOnce (retain s.quads in_named) since → less s since ≡ without_named s
since_gone s since l = same_state (less s since) (without_named s) (goes s.quads (from_list since) in_named (λ q. is_default q.graph) l.all (λ q. twice (is_default q.graph))) refl refl
  where
    twice : (b : Bool) → not (not b) ≡ b
    twice true = refl
    twice false = refl

-- ---- the names of graphs

nothing_names_the_default : (ns : List Term) → list_any (λ n. eq_by_cmp graph_cmp (Named n) Default) ns ≡ false
nothing_names_the_default [] = refl
nothing_names_the_default (n ∷ ns) = nothing_names_the_default ns

pub turned : (m n : Term) → eq_by_cmp term_cmp n m ≡ eq_by_cmp term_cmp m n
turned m n = both_ways _ _ (λ t. ap (λ z. eq_by_cmp term_cmp m z) (tie_same term_cmp_total term_cmp-IsAntisymmetric n m t) ∙ tie_itself term_cmp_total term_cmp-IsAntisymmetric m)
    (λ t. ap (λ z. eq_by_cmp term_cmp n z) (tie_same term_cmp_total term_cmp-IsAntisymmetric m n t) ∙ tie_itself term_cmp_total term_cmp-IsAntisymmetric n)
  where
    both_ways : (a b : Bool) → (a ≡ true → b ≡ true) → (b ≡ true → a ≡ true) → a ≡ b
    both_ways true b f g = sym (f refl)
    both_ways false true f g = g refl
    both_ways false false f g = refl

pub any_turned : (m : Term) (ns : List Term) → list_any (λ n. eq_by_cmp graph_cmp (Named n) (Named m)) ns ≡ list_any (eq_by_cmp term_cmp m) ns
any_turned m [] = refl
any_turned m (n ∷ ns) = λ i. turned m n i || any_turned m ns i

-- where all names are listed, those of named graphs are among them
pub listed : (names : Names) (ns : List Term) (g : GraphName) → from_list ns ≡ names → IsNamed names g → not (list_any (λ n. eq_by_cmp graph_cmp (Named n) g) ns) ≡ is_default g
listed names ns Default e h = ap not (nothing_names_the_default ns)
listed names ns (Named m) e h = ap not (any_turned m ns ∙ sym (contains-from_list term_cmp_total ns m) ∙ ap (λ z. contains z m) e ∙ h)

-- ---- names go

-- the names are to go
abbrev pub each_gone : State → List Term → State
each_gone s [] = s
each_gone s (n ∷ ns) = each_gone (without_name s n) ns

each_gone-quads : (s : State) (ns : List Term) → (each_gone s ns).quads ≡ s.quads
each_gone-quads s [] = refl
each_gone-quads s (n ∷ ns) = each_gone-quads (without_name s n) ns

each_gone-next : (s : State) (ns : List Term) → (each_gone s ns).next ≡ s.next
each_gone-next s [] = refl
each_gone-next s (n ∷ ns) = each_gone-next (without_name s n) ns

each_gone-names : (s : State) (ns : List Term) → (each_gone s ns).names ≡ difference s.names (from_list ns)
each_gone-names s [] = sym (difference-nothing term_cmp_total term_cmp-IsAntisymmetric s.names)
each_gone-names s (n ∷ ns) = each_gone-names (without_name s n) ns ∙ difference-more term_cmp_total term_cmp-IsAntisymmetric s.names n ns

pub names_gone : (s : State) (old found rest : List Term) → without_named s ≡ s → old ≡ [] → AppendsOnce s.names old found → rest ≡ found → each_gone s rest ≡ without_names s
names_gone s old found rest only none l e =
    ap (each_gone s) e
    ∙ same_state (each_gone s found) (without_names s) (each_gone-quads s found ∙ sym (ap (λ (t : State). t.quads) only))
    (each_gone-names s found ∙ nothing_left) (each_gone-next s found)
  where
    out : (a : Bool) → (a && not a) ≡ false
    out true = refl
    out false = refl

    nothing_left : difference s.names (from_list found) ≡ set.empty
    nothing_left = same_set term_cmp_total term_cmp-IsAntisymmetric _ _ (λ n.
        contains-difference term_cmp_total s.names (from_list found) n
        ∙ ap (λ z. contains s.names n && not (contains z n)) (ap from_list (front_nothing old found l.found none l.appended) ∙ l.each_once.all)
        ∙ out (contains s.names n) ∙ sym (contains-empty term_cmp n))

-- a state without quads of named graphs
pub no_named_quads : (s : State) (n : Term) → without_named s ≡ s → IsEmptyGraph s (Named n)
no_named_quads s n only q h is =
    true≢false (sym (second (contains s.quads q) (is_default q.graph) (sym (kept s.quads (λ q. is_default q.graph) q) ∙ ap (λ (t : State). contains t.quads q) only ∙ h)) ∙ ap is_default is)

-- it stays one without them
pub still_only : (s t : State) → t.quads ≡ s.quads → without_named s ≡ s → without_named t ≡ t
still_only s t e only = λ i. record { quads = (ap (λ z. retain z (λ q. is_default q.graph)) e ∙ ap (λ (u : State). u.quads) only ∙ sym e) i; names = t.names; next = t.next }

-- once they are gone
pub named_gone_twice : (s : State) → without_named (without_named s) ≡ without_named s
named_gone_twice s = λ i. record { quads = kept_twice s.quads (λ q. is_default q.graph) (λ q. is_default q.graph) (λ q. is_default q.graph) (λ q. twice (is_default q.graph)) i; names = s.names; next = s.next }
  where
    twice : (b : Bool) → (b && b) ≡ b
    twice true = refl
    twice false = refl

-- the names go from what is left
pub names_after_named : (s : State) → without_names (without_named s) ≡ without_names s
names_after_named s = λ i. record { quads = ap (λ (t : State). t.quads) (named_gone_twice s) i; names = set.empty; next = s.next }

pub named_gone_once : (s t : State) → t ≡ without_named s → without_named t ≡ t
named_gone_once s t e = ap without_named e ∙ named_gone_twice s ∙ sym e

pub default_gone_once : (s t : State) → t ≡ without_graph s Default → without_graph t Default ≡ t
default_gone_once s t e = ap (λ x. without_graph x Default) e ∙ twice ∙ sym e
  where
    both : (b : Bool) → (b && b) ≡ b
    both true = refl
    both false = refl

    twice : without_graph (without_graph s Default) Default ≡ without_graph s Default
    twice = λ i. record {
      quads = kept_twice s.quads (λ q. not (eq_by_cmp graph_cmp Default q.graph)) (λ q. not (eq_by_cmp graph_cmp Default q.graph)) (λ q. not (eq_by_cmp graph_cmp Default q.graph)) (λ q. both (not (eq_by_cmp graph_cmp Default q.graph))) i;
      names = s.names;
      next = s.next;
    }

-- ---- turns of a loop over names

pub going_goes_on : (now new : Staging) (t : State) (names rest : List Term) (n : Term) → names ≡ n ∷ rest → new ≡ staged now (without_name now.now n) → each_gone now.now names ≡ t → each_gone new.now rest ≡ t
going_goes_on now new t names rest n e f h = ap (λ (s : Staging). each_gone s.now rest) f ∙ ap (each_gone now.now) (sym e) ∙ h

pub going_ends : (now t : State) (rest : List Term) → rest ≡ [] → each_gone now rest ≡ t → now ≡ t
going_ends now t rest r h = ap (each_gone now) (sym r) ∙ h

pub if_some : {X : Type 0} (P : X → Type 0) (o : Option X) (x : X) → o ≡ Some x → IfSome o P → P x
if_some P o x e h = subst (λ z. IfSome z P) e h
