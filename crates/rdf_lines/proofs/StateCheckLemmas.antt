-- The tests of a listed state tell whether it is sound.
use Rattle.std.proofs.Common.{◌≡◌, ◌∙◌, ap, refl, sym, subst, inl, inr, ◌⊎◌, ℕ, ◌≤◌, ◌<◌, ◌^◌, arith, Bool, true, false, ◌&&◌, ◌||◌, not, true≢false, List, [], ◌∷◌, ◌++◌, Option, Some, None, nat_lt, nat_le}
use Rattle.std.specs.Prelude.{IsTrue, if◌then◌else◌, ⊤}
use Rattle.std.specs.List.{list_any, list_all, AllByRecursion}
use Rattle.std.specs.List.Sorted.{IsStrictlySortedBy}
use Rattle.std.specs.declared.cmp.Ordering.{Ordering}
use Rattle.std.specs.declared.cmp.Ordering.TheVariants.{Less, Equal, Greater}
use Rattle.std.specs.Ordering.{eq_by_cmp, is_eq, is_lt, is_gt, ordering_reverse, ordering_then}
use Rattle.std.specs.Cmp.{IsTotalOrder, Equal-is}
use Rattle.std.specs.FinSet as set
use Rattle.std.specs.FinSet.{IsAntisymmetric}
use Rattle.std.proofs.lemmas.Bool.{cases_Bool, and_parts, and_from, ltb-true, lt-ltb, leb-true, le-leb}
use Rattle.rdf_terms.specs.Below.{IsTermBelow, IsGraphBelow, IsQuadBelow, AreBelow}
use Rattle.rdf_terms.specs.Lists.{ListsSorted}
use Rattle.rdf_terms.specs.Order.{term_cmp, graph_cmp, quad_cmp}
use Rattle.rdf_terms.specs.OrderLaws.{term_cmp_total, term_cmp-IsAntisymmetric, graph_cmp-IsAntisymmetric, quad_cmp_total, quad_cmp-IsAntisymmetric}
use Rattle.rdf_terms.specs.Quad.{is_quad}
use Rattle.rdf_terms.specs.declared.term.Term.{Term}
use Rattle.rdf_terms.specs.declared.term.Term.TheVariants.{Blank, Iri, Literal}
use Rattle.rdf_terms.specs.declared.quad.GraphName.{GraphName}
use Rattle.rdf_terms.specs.declared.quad.GraphName.TheVariants.{Default, Named}
use Rattle.rdf_terms.specs.declared.quad.Quad.{Quad}
use Rattle.rdf_lines.specs.StateText.{Names, Quads, names_of, quads_of, IsNamed, is_graph_name, last_number, IsSoundState, IsStateText, IsNoStateText, state_text, StateTextIsOne, StateTextsDiffer}
use Rattle.rdf_lines.specs.Inside.StateListing.{AreNames, AreQuads, IsSoundListing, ArePartsOf, HasNoParts, is_term_below, is_graph_below, is_quad_below, rises, names_from, is_first, after_graph, is_found, are_named, both_rise, are_below, is_sound}
use Rattle.rdf_lines.proofs.StatePartLemmas.{parts_are}
use Rattle.rdf_lines.proofs.StateSetLemmas.{has, has_of, member_fact, each_member, rising_head, rising_tail, rising_cons, rising_nil, lists_sorted, one_list}

-- ---- blank numbers

abbrev Tells : Bool → Type 0 → Type 0
Tells b P = (b ≡ true → P) × (P → b ≡ true)

both_tell : {P Q : Type 0} (a b : Bool) → Tells a P → Tells b Q → Tells (a && b) (P × Q)
both_tell a b x y = (λ h. (x.0 (and_parts a b h).0, y.0 (and_parts a b h).1), λ h. and_from a b (x.1 h.0) (y.1 h.1))

all_tell : {X : Type 0} (p : X → Bool) (P : X → Type 0) → ((x : X) → Tells (p x) (P x)) → (xs : List X) → Tells (list_all p xs) (AllByRecursion P xs)
all_tell p P f [] = (λ _. tt, λ _. refl)
all_tell p P f (x ∷ xs) = both_tell (p x) (list_all p xs) (f x) (all_tell p P f xs)

term_below : (next : ℕ) (t : Term) → Tells (is_term_below next t) (IsTermBelow next t)
term_below next (Blank n) = (ltb-true n next, lt-ltb n next)
term_below next (Iri iri) = (λ _. tt, λ _. refl)
term_below next (Literal l) = (λ _. tt, λ _. refl)

graph_below : (next : ℕ) (g : GraphName) → Tells (is_graph_below next g) (IsGraphBelow next g)
graph_below next Default = (λ _. tt, λ _. refl)
graph_below next (Named t) = term_below next t

quad_below : (next : ℕ) (q : Quad) → Tells (is_quad_below next q) (IsQuadBelow next q)
quad_below next q =
    let all = both_tell _ _ (graph_below next q.graph) (both_tell _ _ (term_below next q.subject) (both_tell _ _ (term_below next q.predicate) (term_below next q.object))) in (
      λ h. let p = all.0 h in record { graph = p.0; subject = p.1.0; predicate = p.1.1.0; object = p.1.1.1 },
      λ b. all.1 (b.graph, (b.subject, (b.predicate, b.object))),
    )

-- ---- rising lists

less_is : (a : Ordering) → is_lt a ≡ true → a ≡ Less
less_is Less h = refl
less_is Equal h = absurd (true≢false (sym h))
less_is Greater h = absurd (true≢false (sym h))

all_map : {X : Type 0} (P Q : X → Type 0) → ((x : X) → P x → Q x) → (xs : List X) → AllByRecursion P xs → AllByRecursion Q xs
all_map P Q f [] a = tt
all_map P Q f (x ∷ xs) a = (f x a.0, all_map P Q f xs a.1)

all_both : {X : Type 0} (P Q C : X → Type 0) → ((x : X) → P x → Q x → C x) → (xs : List X) → AllByRecursion P xs → AllByRecursion Q xs → AllByRecursion C xs
all_both P Q C f [] a b = tt
all_both P Q C f (x ∷ xs) a b = (f x a.0 b.0, all_both P Q C f xs a.1 b.1)

module _ {K : Type 0} {R : K → K → Ordering} (o : IsTotalOrder R) (apart : IsAntisymmetric R) where
  above : (x : K) (xs : List K) → rises R (Some x) xs ≡ true → AllByRecursion (λ y. R x y ≡ Less) xs × IsStrictlySortedBy R xs
  above x [] h = (tt, rising_nil o apart)
  above x (y ∷ ys) h =
      let parts = and_parts (is_lt (R x y)) (rises R (Some y) ys) h in
      let first = less_is (R x y) parts.0 in
      let behind = above y ys parts.1 in (
        (first, all_map (λ z. R y z ≡ Less) (λ z. R x z ≡ Less) (λ z l. o.trans x y z first l) ys behind.0),
        rising_cons o apart y ys behind.0 behind.1,
      )

  goes_up : (x : K) (xs : List K) → AllByRecursion (λ y. R x y ≡ Less) xs → IsStrictlySortedBy R xs → rises R (Some x) xs ≡ true
  goes_up x [] a s = refl
  goes_up x (y ∷ ys) a s = and_from (is_lt (R x y)) (rises R (Some y) ys) (ap is_lt a.0) (goes_up y ys (rising_head o apart y ys s) (rising_tail o apart y ys s))

  rising_tells : (xs : List K) → Tells (rises R None xs) (IsStrictlySortedBy R xs)
  rising_tells [] = (λ _. rising_nil o apart, λ _. refl)
  rising_tells (x ∷ xs) = (
    λ h. let p = above x xs h in rising_cons o apart x xs p.0 p.1,
    λ s. goes_up x xs (rising_head o apart x xs s) (rising_tail o apart x xs s),
  )

-- ---- names of graphs

abbrev is_in : Term → List Term → Bool
is_in name names = has term_cmp_total term_cmp-IsAntisymmetric name names

abbrev names_rise : List Term → Type 0
names_rise names = IsStrictlySortedBy term_cmp names

names_head : (n : Term) (ns : List Term) → names_rise (n ∷ ns) → AllByRecursion (λ y. term_cmp n y ≡ Less) ns
names_head = rising_head term_cmp_total term_cmp-IsAntisymmetric

names_tail : (n : Term) (ns : List Term) → names_rise (n ∷ ns) → names_rise ns
names_tail = rising_tail term_cmp_total term_cmp-IsAntisymmetric

turned : (s t : Term) → term_cmp s t ≡ ordering_reverse (term_cmp t s)
turned s t = term_cmp_total.antisymm s t

none_there : (g : Term) (ns : List Term) → AllByRecursion (λ y. term_cmp g y ≡ Less) ns → is_in g ns ≡ false
none_there g [] a = refl
none_there g (n ∷ ns) a = ap (λ r. is_eq r || is_in g ns) a.0 ∙ none_there g ns a.1

from_rises : (g : Term) (ns : List Term) → names_rise ns → names_rise (names_from g ns)
from_rises g [] s = s
from_rises g (n ∷ ns) s = by (is_lt (term_cmp n g)) (from_rises g ns (names_tail n ns s))
  where
    by : (b : Bool) → names_rise (names_from g ns) → names_rise (if b then names_from g ns else n ∷ ns)
    by true below = below
    by false below = s

first_tells : (g : Term) (ns : List Term) → names_rise ns → is_first g (names_from g ns) ≡ is_in g ns
first_tells g [] s = refl
first_tells g (n ∷ ns) s = by (term_cmp n g) refl (first_tells g ns (names_tail n ns s))
  where
    by : (a : Ordering) → term_cmp n g ≡ a → is_first g (names_from g ns) ≡ is_in g ns → is_first g (if is_lt (term_cmp n g) then names_from g ns else n ∷ ns) ≡ (is_eq (term_cmp g n) || is_in g ns)
    by Less e below =
        ap (λ r. is_first g (if is_lt r then names_from g ns else n ∷ ns)) e ∙ below
        ∙ ap (λ r. is_eq r || is_in g ns) (sym (turned g n ∙ ap ordering_reverse e))
    by Equal e below =
        ap (λ r. is_first g (if is_lt r then names_from g ns else n ∷ ns)) e ∙ ap is_eq e
        ∙ ap (λ r. is_eq r || is_in g ns) (sym (turned g n ∙ ap ordering_reverse e))
    by Greater e below =
        let less : term_cmp g n ≡ Less = turned g n ∙ ap ordering_reverse e in
        ap (λ r. is_first g (if is_lt r then names_from g ns else n ∷ ns)) e ∙ ap is_eq e
        ∙ sym (ap (λ r. is_eq r || is_in g ns) less ∙ none_there g ns (all_map (λ y. term_cmp n y ≡ Less) (λ y. term_cmp g y ≡ Less) (λ y l. term_cmp_total.trans g n y less l) ns (names_head n ns s)))

-- a name that isn't less is skipped nowhere
not_skipped : (g t : Term) (ns : List Term) → is_lt (term_cmp t g) ≡ false → is_in t (names_from g ns) ≡ is_in t ns
not_skipped g t [] h = refl
not_skipped g t (n ∷ ns) h = by (is_lt (term_cmp n g)) refl (not_skipped g t ns h)
  where
    by : (b : Bool) → is_lt (term_cmp n g) ≡ b → is_in t (names_from g ns) ≡ is_in t ns → is_in t (if b then names_from g ns else n ∷ ns) ≡ (eq_by_cmp term_cmp t n || is_in t ns)
    by true e below = elim (cases_Bool (eq_by_cmp term_cmp t n)) [
      | inl tie ↦ absurd (true≢false (sym e ∙ ap (λ x. is_lt (term_cmp x g)) (sym (term_cmp-IsAntisymmetric t n ((Equal-is (term_cmp t n)).0 tie))) ∙ h))
      | inr other ↦ below ∙ ap (λ b. b || is_in t ns) (sym other)
    ]
    by false e below = refl

-- the same names serve the graph
abbrev Serves : List Term → List Term → GraphName → Type 0
Serves names rest Default = ⊤
Serves names rest (Named g) = is_in g names ≡ is_in g rest

not_less : (a b : Ordering) → a ≡ ordering_reverse b → is_gt b ≡ false → is_lt a ≡ false
not_less a Less e h = ap is_lt e
not_less a Equal e h = ap is_lt e
not_less a Greater e h = absurd (true≢false h)

serves_on : (names rest : List Term) (g : Term) (h : GraphName) → is_gt (graph_cmp (Named g) h) ≡ false → Serves names rest h → Serves names (names_from g rest) h
serves_on names rest g Default l s = tt
serves_on names rest g (Named t) l s = s ∙ sym (not_skipped g t rest (not_less (term_cmp t g) (term_cmp g t) (turned t g) l))

not_after : (a b : Ordering) → ordering_then a b ≡ Less → is_gt a ≡ false
not_after Less b e = refl
not_after Equal b e = refl
not_after Greater b e = absurd cc

quads_head : (q : Quad) (qs : List Quad) → IsStrictlySortedBy quad_cmp (q ∷ qs) → AllByRecursion (λ r. quad_cmp q r ≡ Less) qs
quads_head = rising_head quad_cmp_total quad_cmp-IsAntisymmetric

quads_tail : (q : Quad) (qs : List Quad) → IsStrictlySortedBy quad_cmp (q ∷ qs) → IsStrictlySortedBy quad_cmp qs
quads_tail = rising_tail quad_cmp_total quad_cmp-IsAntisymmetric

abbrev AreNamed : List Term → List Quad → Type 0
AreNamed names quads = AllByRecursion (λ q. IsNamed (names_of names) q.graph) quads

-- one graph, and the others behind it
named_step : (names rest : List Term) (qs : List Quad) (g : GraphName) → names_rise rest → Serves names rest g
    → AllByRecursion (λ r. is_gt (graph_cmp g r.graph) ≡ false) qs → AllByRecursion (λ r. Serves names rest r.graph) qs
    → ((others : List Term) → names_rise others → AllByRecursion (λ r. Serves names others r.graph) qs → Tells (are_named others qs) (AreNamed names qs))
    → Tells (is_found rest g && are_named (after_graph rest g) qs) (IsNamed (names_of names) g × AreNamed names qs)
named_step names rest qs Default s h b a below = both_tell true (are_named rest qs) (λ _. tt, λ _. refl) (below rest s a)
named_step names rest qs (Named g) s h b a below =
    let same = first_tells g rest s ∙ sym h ∙ sym (has_of term_cmp_total term_cmp-IsAntisymmetric names g) in
    both_tell (is_first g (names_from g rest)) (are_named (names_from g rest) qs) (λ e. sym same ∙ e, λ e. same ∙ e)
    (below (names_from g rest) (from_rises g rest s)
    (all_both (λ r. is_gt (graph_cmp (Named g) r.graph) ≡ false) (λ r. Serves names rest r.graph) (λ r. Serves names (names_from g rest) r.graph) (λ r l m. serves_on names rest g r.graph l m) qs b a))

named_from : (names rest : List Term) (quads : List Quad) → names_rise rest → IsStrictlySortedBy quad_cmp quads → AllByRecursion (λ q. Serves names rest q.graph) quads
    → Tells (are_named rest quads) (AreNamed names quads)
named_from names rest [] s t a = (λ _. tt, λ _. refl)
named_from names rest (q ∷ qs) s t a =
    let behind = all_map (λ r. quad_cmp q r ≡ Less) (λ r. is_gt (graph_cmp q.graph r.graph) ≡ false) (λ r l. not_after (graph_cmp q.graph r.graph) _ l) qs (quads_head q qs t) in
    named_step names rest qs q.graph s a.0 behind a.1 (λ others u b. named_from names others qs u (quads_tail q qs t) b)

all_serve : (names : List Term) (quads : List Quad) → AllByRecursion (λ q. Serves names names q.graph) quads
all_serve names [] = tt
all_serve names (q ∷ qs) = (by q.graph, all_serve names qs)
  where
    by : (g : GraphName) → Serves names names g
    by Default = tt
    by (Named g) = refl

-- ---- a listed state

next_tells : (next : ℕ) → Tells (nat_le next last_number) (next ≤ last_number)
next_tells next = (leb-true next last_number, le-leb next last_number)

pub sound_tells : (next : ℕ) (names : List Term) (quads : List Quad) → Tells (is_sound next names quads) (IsSoundListing next names quads)
sound_tells next names quads =
    let limit = next_tells next in
    let both = both_tell _ _ (rising_tells term_cmp_total term_cmp-IsAntisymmetric names) (rising_tells quad_cmp_total quad_cmp-IsAntisymmetric quads) in
    let below = both_tell _ _ (all_tell (is_term_below next) (IsTermBelow next) (term_below next) names) (all_tell (is_quad_below next) (IsQuadBelow next) (quad_below next) quads) in (
      λ h.
          let n = and_parts (nat_le next last_number) (both_rise names quads && (are_below next names quads && are_named names quads)) h in
          let r = and_parts (both_rise names quads) (are_below next names quads && are_named names quads) n.1 in
          let b = and_parts (are_below next names quads) (are_named names quads) r.1 in
          let up = both.0 r.0 in
          record {
            names_rise = up.0;
            quads_rise = up.1;
            named = (named_from names names quads up.0 up.1 (all_serve names quads)).0 b.1;
            quads_below = (below.0 b.0).1;
            names_below = (below.0 b.0).0;
            limit = limit.0 n.0;
          },
      λ s. and_from (nat_le next last_number) _ (limit.1 s.limit) (and_from (both_rise names quads) _ (both.1 (s.names_rise, s.quads_rise))
          (and_from (are_below next names quads) _ (below.1 (s.names_below, s.quads_below)) ((named_from names names quads s.names_rise s.quads_rise (all_serve names quads)).1 s.named))),
    )

-- ---- states as sets

listed_sound : (next : ℕ) (names : List Term) (quads : List Quad) → AreNames names → AreQuads quads → IsSoundListing next names quads → IsSoundState next (names_of names) (quads_of quads)
listed_sound next names quads n q s = record {
  right_quads = λ x m. member_fact quad_cmp_total quad_cmp-IsAntisymmetric (λ y. IsTrue (is_quad y)) quads x q m;
  right_names = λ x m. member_fact term_cmp_total term_cmp-IsAntisymmetric (λ y. IsTrue (is_graph_name y)) names x n m;
  named = λ x m. member_fact quad_cmp_total quad_cmp-IsAntisymmetric (λ y. IsNamed (names_of names) y.graph) quads x s.named m;
  quads_below = λ x m. member_fact quad_cmp_total quad_cmp-IsAntisymmetric (IsQuadBelow next) quads x s.quads_below m;
  names_below = λ x m. member_fact term_cmp_total term_cmp-IsAntisymmetric (IsTermBelow next) names x s.names_below m;
  limit = s.limit;
}

-- the listing of a sound state
record Listed (next : ℕ) (names : List Term) (quads : List Quad) : Type 0 where
  right_names : AreNames names
  right_quads : AreQuads quads
  sound : IsSoundListing next names quads

sound_listed : (next : ℕ) (names : Names) (quads : Quads) (ns : List Term) (qs : List Quad) → IsSoundState next names quads → ListsSorted names ns → ListsSorted quads qs → Listed next ns qs
sound_listed next names quads ns qs s l m =
    let in_names : (x : Term) → set.contains (names_of ns) x ≡ true → set.contains names x ≡ true = λ x h. ap (λ (z : Names). set.contains z x) (sym l.lists.all) ∙ h in
    let in_quads : (x : Quad) → set.contains (quads_of qs) x ≡ true → set.contains quads x ≡ true = λ x h. ap (λ (z : Quads). set.contains z x) (sym m.lists.all) ∙ h in
    record {
      right_names = each_member term_cmp_total term_cmp-IsAntisymmetric (λ y. IsTrue (is_graph_name y)) ns (λ x h. s.right_names x (in_names x h));
      right_quads = each_member quad_cmp_total quad_cmp-IsAntisymmetric (λ y. IsTrue (is_quad y)) qs (λ x h. s.right_quads x (in_quads x h));
      sound = record {
        names_rise = l.rises;
        quads_rise = m.rises;
        named = subst (λ (z : Names). AllByRecursion (λ y. IsNamed z y.graph) qs) (sym l.lists.all)
            (each_member quad_cmp_total quad_cmp-IsAntisymmetric (λ y. IsNamed names y.graph) qs (λ x h. s.named x (in_quads x h)));
        quads_below = each_member quad_cmp_total quad_cmp-IsAntisymmetric (IsQuadBelow next) qs (λ x h. s.quads_below x (in_quads x h));
        names_below = each_member term_cmp_total term_cmp-IsAntisymmetric (IsTermBelow next) ns (λ x h. s.names_below x (in_names x h));
        limit = s.limit;
      };
    }

limit_fits : (next : ℕ) → next ≤ last_number → next < 2 ^ 64
limit_fits next h = omega (arith, h)

-- ---- what a reader answers

pub record Answers (text : List ℕ) (next : ℕ) (names : List Term) (quads : List Quad) : Type 0 where
  pub sound : IsSoundState next (names_of names) (quads_of quads)
  pub names_listed : ListsSorted (names_of names) names
  pub quads_listed : ListsSorted (quads_of quads) quads
  pub is_text : IsStateText next (names_of names) (quads_of quads) text

pub answers : (text : List ℕ) (next : ℕ) (names : List Term) (quads : List Quad) → ArePartsOf text next names quads → is_sound next names quads ≡ true → Answers text next names quads
answers text next names quads p h =
    let s = (sound_tells next names quads).0 h in
    let l = lists_sorted term_cmp_total term_cmp-IsAntisymmetric names s.names_rise in
    let m = lists_sorted quad_cmp_total quad_cmp-IsAntisymmetric quads s.quads_rise in
    record {
      sound = listed_sound next names quads p.right_names p.right_quads s;
      names_listed = l;
      quads_listed = m;
      is_text = record { names_listed = names; quads_listed = quads; names_sorted = l; quads_sorted = m; is = p.writes };
    }

pub none_of : (text : List ℕ) → HasNoParts text → IsNoStateText text
none_of text none next names quads s t =
    let l = sound_listed next names quads t.names_listed t.quads_listed s t.names_sorted t.quads_sorted in
    none next t.names_listed t.quads_listed (limit_fits next s.limit) l.right_names l.right_quads t.is

pub none_sound : (text : List ℕ) (next : ℕ) (names : List Term) (quads : List Quad) → ArePartsOf text next names quads → is_sound next names quads ≡ false → IsNoStateText text
none_sound text next names quads p h other ns qs s t =
    let l = sound_listed other ns qs t.names_listed t.quads_listed s t.names_sorted t.quads_sorted in
    let same = parts_are other next t.names_listed names t.quads_listed quads (limit_fits other s.limit) p.fits l.right_names p.right_names l.right_quads p.right_quads (sym t.is ∙ p.writes) in
    let known = (sound_tells other t.names_listed t.quads_listed).1 l.sound in
    true≢false (sym known ∙ (λ i. is_sound (same.0 i) (same.1 i) (same.2 i)) ∙ h)

-- ---- the laws

pub state_text_is_one : StateTextIsOne
state_text_is_one next names quads text other t u =
    let n = one_list term_cmp_total term_cmp-IsAntisymmetric names u.names_listed t.names_listed u.names_sorted t.names_sorted in
    let q = one_list quad_cmp_total quad_cmp-IsAntisymmetric quads u.quads_listed t.quads_listed u.quads_sorted t.quads_sorted in
    u.is ∙ (λ i. state_text next (n i) (q i)) ∙ sym t.is

pub state_texts_differ : StateTextsDiffer
state_texts_differ next other_next names other_names quads other_quads text s v t u =
    let l = sound_listed next names quads t.names_listed t.quads_listed s t.names_sorted t.quads_sorted in
    let m = sound_listed other_next other_names other_quads u.names_listed u.quads_listed v u.names_sorted u.quads_sorted in
    let same = parts_are other_next next u.names_listed t.names_listed u.quads_listed t.quads_listed (limit_fits other_next v.limit) (limit_fits next s.limit) m.right_names l.right_names m.right_quads l.right_quads (sym u.is ∙ t.is) in (
      same.0,
      sym u.names_sorted.lists.all ∙ ap names_of same.1 ∙ t.names_sorted.lists.all,
      sym u.quads_sorted.lists.all ∙ ap quads_of same.2 ∙ t.quads_sorted.lists.all,
    )
