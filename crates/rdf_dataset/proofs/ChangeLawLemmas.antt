-- What is in a state behind a change, by tests of its sets.
use Rattle.std.proofs.Common.{◌≡◌, ◌⊎◌, ◌↔◌, ◌∙◌, ap, refl, sym, subst, inl, inr, ℕ, zero, suc, ◌+◌, ◌<◌, Bool, true, false, not, ◌&&◌, List, [], ◌∷◌, map, length, Option, Some, None, Contains, arith}
use mathlib.Core.Bool.{true≢false}
use Rattle.std.proofs.lemmas.Bool.{and_from, and_parts, or_cases, or_left, or_right}
use Rattle.std.proofs.lemmas.List.Elements.{Contains-append_left, Contains-append_right, Contains-append_cases}
use Rattle.std.proofs.lemmas.Map.Views.{Contains-from_any, list_any-from_Contains}
use Rattle.std.proofs.lemmas.Option.{same_Some}
use Rattle.std.specs.declared.cmp.Ordering.{Ordering}
use Rattle.std.specs.Cmp.{Equal-is, IsTotalOrder, eq_by_cmp_equiv, tied_itself}
use Rattle.std.specs.FinSet as set
use Rattle.std.specs.FinSet.{IsAntisymmetric, contains, contains-difference, contains-from_list, contains-union, difference, from_list, union}
use Rattle.std.specs.List.{flat_map}
use Rattle.std.specs.Ordering.{eq_by_cmp, is_eq}
use Rattle.rdf_terms.specs.Order.{graph_cmp, quad_cmp, term_cmp}
use Rattle.rdf_terms.specs.OrderLaws.{graph_cmp_total, graph_cmp-IsAntisymmetric, quad_cmp_total, quad_cmp-IsAntisymmetric, term_cmp_total, term_cmp-IsAntisymmetric}
use Rattle.rdf_terms.specs.Quad.{QuadParts}
use Rattle.rdf_terms.specs.declared.quad.GraphName.{GraphName}
use Rattle.rdf_terms.specs.declared.quad.GraphName.TheVariants.{Default, Named}
use Rattle.rdf_terms.specs.declared.term.Term.{Term}
use Rattle.rdf_terms.specs.declared.term.Term.TheVariants.{Blank}
use Rattle.rdf_dataset.specs.ChangeLaws.{DataLaws, ExchangeLaws, HasName, HasQuad, LookUpsMatch, NetLaws, Takes}
use Rattle.rdf_dataset.specs.Exchange.{exchanged}
use Rattle.rdf_dataset.specs.Insertion.{graph_from, graph_names, names_in, quad_from, with_data}
use Rattle.rdf_dataset.specs.State.{State, fits_place, net_between}
use Rattle.rdf_dataset.proofs.StateLemmas.{net_ends}

-- ---- lists

nowhere : {A : Type 0} (q : A) → Contains [] q → ⊥
nowhere {A} q (i, l, e) = let z : i < length {A = A} [] = l in omega (arith, z)

which : {A : Type 0} (y q : A) (ys : List A) → Contains (y ∷ ys) q → (y ≡ q) ⊎ Contains ys q
which y q ys (zero, l, e) = inl e
which y q ys (suc i, l, e) = inr (i, (let z : suc i < length (y ∷ ys) = l in omega (arith, z)), e)

here : {A : Type 0} (x q : A) (xs : List A) → x ≡ q → Contains (x ∷ xs) q
here x q xs e = (0, (let z : 0 < length (x ∷ xs) = omega arith in z), e)

there : {A : Type 0} (y q : A) (ys : List A) → Contains ys q → Contains (y ∷ ys) q
there y q ys h = Contains-append_right (y ∷ []) ys q h

from_map : {X A : Type 0} (f : X → A) (q : A) (xs : List X) → Contains (map f xs) q → (x : X) × Contains xs x × (f x ≡ q)
from_map f q [] h = absurd (nowhere q h)
from_map f q (x ∷ xs) h = elim (which (f x) q (map f xs) h) [
  | inl e ↦ (x, here x x xs refl, e)
  | inr t ↦ (let w = from_map f q xs t in (w.0, there x w.0 xs w.1, w.2))
]

to_map : {X A : Type 0} (f : X → A) (q : A) (xs : List X) (x : X) → Contains xs x → f x ≡ q → Contains (map f xs) q
to_map f q [] x h e = absurd (nowhere x h)
to_map {A = A} f q (y ∷ xs) x h e = elim (which y x xs h) [
  | inl same ↦ here (f y) q (map f xs) (ap f same ∙ e)
  | inr t ↦ there (f y) q (map f xs) (to_map f q xs x t e)
]

from_joined : {X A : Type 0} (f : X → List A) (q : A) (xs : List X) → Contains (flat_map f xs) q → (x : X) × Contains xs x × Contains (f x) q
from_joined f q [] h = absurd (nowhere q h)
from_joined f q (x ∷ xs) h = elim (Contains-append_cases (f x) (flat_map f xs) q h) [
  | inl k ↦ (x, here x x xs refl, k)
  | inr k ↦ (let w = from_joined f q xs k in (w.0, there x w.0 xs w.1, w.2))
]

to_joined : {X A : Type 0} (f : X → List A) (q : A) (xs : List X) (x : X) → Contains xs x → Contains (f x) q → Contains (flat_map f xs) q
to_joined f q [] x h k = absurd (nowhere x h)
to_joined {X = X} f q (y ∷ xs) x h k = elim (which y x xs h) [
  | inl e ↦ Contains-append_left (f y) (flat_map f xs) q (subst (λ (z : X). Contains (f z) q) (sym e) k)
  | inr t ↦ Contains-append_right (f y) (flat_map f xs) q (to_joined f q xs x t k)
]

-- ---- tests

is_not : (b : Bool) → not b ≡ true → b ≡ true → ⊥
is_not true h e = true≢false (sym h)
is_not false h e = true≢false (sym e)

not_is : (b : Bool) → ¬ (b ≡ true) → not b ≡ true
not_is true h = absurd (h refl)
not_is false h = refl

module _ {K : Type 0} (R : K → K → Ordering) (o : IsTotalOrder R) (apart : IsAntisymmetric R) where
  tied_is : (x y : K) → eq_by_cmp R x y ≡ true → x ≡ y
  tied_is x y h = apart x y ((Equal-is (R x y)).0 h)

  tied_own : (x y : K) → x ≡ y → eq_by_cmp R x y ≡ true
  tied_own x y e = subst (λ (z : K). eq_by_cmp R x z ≡ true) e (ap is_eq (tied_itself o x))

  listed : (ks : List K) (q : K) → (contains (from_list {R = R} ks) q ≡ true) ↔ Contains ks q
  listed ks q = (
    (λ h. Contains-from_any tied_is q ks (sym (contains-from_list o ks q) ∙ h)),
    (λ h. contains-from_list o ks q ∙ list_any-from_Contains (eq_by_cmp_equiv o) q ks h),
  )

  -- what a set has that another lacks
  alone : (s t : set.FinSet R) (q : K) → (contains (difference t s) q ≡ true) ↔ ((contains t q ≡ true) × ¬ (contains s q ≡ true))
  alone s t q = (
    (λ h. let p = and_parts (contains t q) (not (contains s q)) (sym (contains-difference o t s q) ∙ h) in (p.0, is_not (contains s q) p.1)),
    (λ p. contains-difference o t s q ∙ and_from (contains t q) (not (contains s q)) p.0 (not_is (contains s q) p.1)),
  )

  -- what it has with more in it
  with_more : (s : set.FinSet R) (ks : List K) (q : K) → (contains (union s (from_list ks)) q ≡ true) ↔ ((contains s q ≡ true) ⊎ Contains ks q)
  with_more s ks q = (
    (λ h. elim (or_cases (contains s q) (contains (from_list ks) q) (sym (contains-union o s (from_list ks) q) ∙ h)) [
      | inl a ↦ inl a
      | inr b ↦ inr ((listed ks q).0 b)
    ]),
    (λ p. contains-union o s (from_list ks) q ∙ elim p [
      | inl a ↦ or_left (contains s q) (contains (from_list ks) q) a
      | inr b ↦ or_right (contains s q) (contains (from_list ks) q) ((listed ks q).1 b)
    ]),
  )

-- ---- nets

pub net_laws : NetLaws
net_laws = record {
  ends = λ s t. net_ends s t (net_between s t) refl;
  goes_back = λ s t. net_ends t s (net_between t s) refl;
  added = λ s t q. alone quad_cmp quad_cmp_total quad_cmp-IsAntisymmetric s.quads t.quads q;
  removed = λ s t q. alone quad_cmp quad_cmp_total quad_cmp-IsAntisymmetric t.quads s.quads q;
  names_added = λ s t n. alone term_cmp term_cmp_total term_cmp-IsAntisymmetric s.names t.names n;
  names_removed = λ s t n. alone term_cmp term_cmp_total term_cmp-IsAntisymmetric t.names s.names n;
}

-- ---- names of graphs

named_is : (g : GraphName) (n : Term) → Contains (graph_names g) n → g ≡ Named n
named_is Default n h = absurd (nowhere n h)
named_is (Named name) n h = elim (which name n [] h) [ inl e ↦ ap Named e | inr t ↦ absurd (nowhere n t) ]

is_named : (g : GraphName) (n : Term) → g ≡ Named n → Contains (graph_names g) n
is_named g n e = subst (λ (z : GraphName). Contains (graph_names z) n) (sym e) (here n n [] refl)

-- of a list of quads
named_from : (qs : List QuadParts) (n : Term) → Contains (flat_map names_in qs) n ↔ ((d : QuadParts) × Contains qs d × (d.graph ≡ Named n))
named_from qs n = (
  (λ h. let w = from_joined names_in n qs h in (w.0, w.1, named_is w.0.graph n w.2)),
  (λ w. to_joined names_in n qs w.0 w.1 (is_named w.0.graph n w.2)),
)

-- ---- data

data_quads_are : (s : State) (qs : List QuadParts) (blanks : ℕ) (q : QuadParts) →
    HasQuad (with_data s qs blanks) q ↔ (HasQuad s q ⊎ ((d : QuadParts) × Contains qs d × (quad_from s.next d ≡ q)))
data_quads_are s qs blanks q =
    let more = with_more quad_cmp quad_cmp_total quad_cmp-IsAntisymmetric s.quads (map (quad_from s.next) qs) q in (
      (λ h. elim (more.0 h) [ inl a ↦ inl a | inr b ↦ inr (from_map (quad_from s.next) q qs b) ]),
      (λ p. more.1 (elim p [ inl a ↦ inl a | inr w ↦ inr (to_map (quad_from s.next) q qs w.0 w.1 w.2) ])),
    )

data_names_are : (s : State) (qs : List QuadParts) (blanks : ℕ) (n : Term) →
    HasName (with_data s qs blanks) n ↔ (HasName s n ⊎ ((d : QuadParts) × Contains qs d × (graph_from s.next d.graph ≡ Named n)))
data_names_are s qs blanks n =
    let more = with_more term_cmp term_cmp_total term_cmp-IsAntisymmetric s.names (flat_map names_in (map (quad_from s.next) qs)) n in
    let named = named_from (map (quad_from s.next) qs) n in (
      (λ h. elim (more.0 h) [
        | inl a ↦ inl a
        | inr b ↦ (
            let w = named.0 b in
            let v = from_map (quad_from s.next) w.0 qs w.1 in
            inr (v.0, v.1, ap (λ (d : QuadParts). d.graph) v.2 ∙ w.2))
      ]),
      (λ p. more.1 (elim p [
        | inl a ↦ inl a
        | inr w ↦ inr (named.1 (quad_from s.next w.0, to_map (quad_from s.next) (quad_from s.next w.0) qs w.0 w.1 refl, w.2))
      ])),
    )

blank_number : (a b : ℕ) → Blank a ≡ Blank b → a ≡ b
blank_number a b e = cc

pub data_laws : DataLaws
data_laws = record {
  quads = data_quads_are;
  names = data_names_are;
  counter = λ s qs blanks. refl;
  new = λ s number below. (let z : s.next + number < s.next = below in omega (arith, z));
  apart = λ first one other e. (let z : first + one ≡ first + other = blank_number (first + one) (first + other) e in omega (arith, z));
  iris = λ first iri. refl;
  literals = λ first l. refl;
}

-- ---- quads that go and others that come

exchanged_quads_are : (s : State) (gone : List QuadParts) (blanks : ℕ) (come : List QuadParts) (q : QuadParts) →
    HasQuad (exchanged s gone blanks come) q ↔ (Contains come q ⊎ (HasQuad s q × ¬ Contains gone q))
exchanged_quads_are s gone blanks come q =
    let more = with_more quad_cmp quad_cmp_total quad_cmp-IsAntisymmetric (difference s.quads (from_list gone)) come q in
    let left = alone quad_cmp quad_cmp_total quad_cmp-IsAntisymmetric (from_list gone) s.quads q in
    let went = listed quad_cmp quad_cmp_total quad_cmp-IsAntisymmetric gone q in (
      (λ h. elim (more.0 h) [
        | inl a ↦ (let p = left.0 a in inr (p.0, λ in_gone. p.1 (went.1 in_gone)))
        | inr b ↦ inl b
      ]),
      (λ p. more.1 (elim p [ inl b ↦ inr b | inr r ↦ inl (left.1 (r.0, λ there_too. r.1 (went.0 there_too))) ])),
    )

exchanged_names_are : (s : State) (gone : List QuadParts) (blanks : ℕ) (come : List QuadParts) (n : Term) →
    HasName (exchanged s gone blanks come) n ↔ (HasName s n ⊎ ((d : QuadParts) × Contains come d × (d.graph ≡ Named n)))
exchanged_names_are s gone blanks come n =
    let more = with_more term_cmp term_cmp_total term_cmp-IsAntisymmetric s.names (flat_map names_in come) n in
    let named = named_from come n in (
      (λ h. elim (more.0 h) [ inl a ↦ inl a | inr b ↦ inr (named.0 b) ]),
      (λ p. more.1 (elim p [ inl a ↦ inl a | inr w ↦ inr (named.1 w) ])),
    )

pub exchange_laws : ExchangeLaws
exchange_laws = record { quads = exchanged_quads_are; names = exchanged_names_are; counter = λ s gone blanks come. refl }

-- ---- look-ups

fits_is : (place : Option Term) (t : Term) → (fits_place place t ≡ true) ↔ Takes place t
fits_is None t = ((λ h wanted e. absurd (let z : ⊥ = cc in z)), (λ h. refl))
fits_is (Some w) t = (
  (λ h wanted e. sym (same_Some w wanted e) ∙ tied_is term_cmp term_cmp_total term_cmp-IsAntisymmetric w t h),
  (λ h. tied_own term_cmp term_cmp_total term_cmp-IsAntisymmetric w t (h w refl)),
)

pub look_ups_match : LookUpsMatch
look_ups_match g s p o q = (
  (λ h.
      let a = and_parts (eq_by_cmp graph_cmp g q.graph) (fits_place s q.subject && (fits_place p q.predicate && fits_place o q.object)) h in
      let b = and_parts (fits_place s q.subject) (fits_place p q.predicate && fits_place o q.object) a.1 in
      let c = and_parts (fits_place p q.predicate) (fits_place o q.object) b.1 in (
        tied_is graph_cmp graph_cmp_total graph_cmp-IsAntisymmetric g q.graph a.0,
        (fits_is s q.subject).0 b.0,
        (fits_is p q.predicate).0 c.0,
        (fits_is o q.object).0 c.1,
      )),
  (λ w. and_from (eq_by_cmp graph_cmp g q.graph) (fits_place s q.subject && (fits_place p q.predicate && fits_place o q.object))
      (tied_own graph_cmp graph_cmp_total graph_cmp-IsAntisymmetric g q.graph w.0)
      (and_from (fits_place s q.subject) (fits_place p q.predicate && fits_place o q.object) ((fits_is s q.subject).1 w.1)
      (and_from (fits_place p q.predicate) (fits_place o q.object) ((fits_is p q.predicate).1 w.2) ((fits_is o q.object).1 w.3)))),
)
