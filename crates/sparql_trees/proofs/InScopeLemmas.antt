-- The names of each form of a pattern.
use Rattle.std.proofs.Common.{◌≡◌, ◌⊎◌, ◌↔◌, ◌∙◌, ap, refl, sym, subst, inl, inr, map, ℕ, zero, suc, ◌<◌, Bool, true, false, cond, List, [], ◌∷◌, ◌++◌, length, Contains, arith}
use Rattle.std.specs.List.{flat_map}
use Rattle.std.proofs.lemmas.List.{append-nil}
use Rattle.std.proofs.lemmas.List.Elements.{Contains-append_left, Contains-append_right, Contains-append_cases}
use Rattle.sparql_trees.specs.InScope.{alone, OccursIn, ScopeTable, MinusShowsNone, MinusNames}
use Rattle.sparql_trees.specs.Visible.{Names, joined, member_names, name_names, named, names_of_member, names_of_pattern, names_where, place_names, triple_names, visible}
use Rattle.sparql_trees.specs.VisibleLaws.{AreNames}
use Rattle.sparql_trees.specs.declared.expression.Expression.{Expression}
use Rattle.sparql_trees.specs.declared.pattern.BasicGraphPattern.{BasicGraphPattern}
use Rattle.sparql_trees.specs.declared.pattern.Member.{Member}
use Rattle.sparql_trees.specs.declared.pattern.Member.TheVariants as m
use Rattle.sparql_trees.specs.declared.pattern.Member.TheOpen.{Member-F}
use Rattle.sparql_trees.specs.declared.pattern.Member.TheFolds.{fold-roll-Member, fold-roll-Pattern}
use Rattle.sparql_trees.specs.declared.pattern.Pattern.{Pattern}
use Rattle.sparql_trees.specs.declared.pattern.TriplePattern.{TriplePattern}
use Rattle.sparql_trees.specs.declared.pattern.VarOrIri.{VarOrIri}
use Rattle.sparql_trees.specs.declared.pattern.VarOrIri.TheVariants as name
use Rattle.sparql_trees.specs.declared.pattern.VarOrTerm.{VarOrTerm}
use Rattle.sparql_trees.specs.declared.pattern.VarOrTerm.TheVariants as place
use Rattle.sparql_trees.proofs.VisibleOrder.{named_are_sorted, visible_are_sorted}

-- ---- lists

nowhere : {A : Type 0} (q : A) → Contains [] q → ⊥
nowhere {A} q (i, l, e) = let z : i < length {A = A} [] = l in omega (arith, z)

which : {A : Type 0} (y q : A) (ys : List A) → Contains (y ∷ ys) q → (y ≡ q) ⊎ Contains ys q
which y q ys (zero, l, e) = inl e
which y q ys (suc i, l, e) = inr (i, (let z : suc i < length (y ∷ ys) = l in omega (arith, z)), e)

here : {A : Type 0} (x q : A) (xs : List A) → x ≡ q → Contains (x ∷ xs) q
here x q xs e = (0, (let z : 0 < length (x ∷ xs) = omega arith in z), e)

there : {A : Type 0} (y q : A) (ys : List A) → Contains ys q → Contains (y ∷ ys) q
there y q ys h = Contains-append_right (y ∷ []) ys q h

-- what stands in lists that are joined stands in one of them
module _ {X A : Type 0} (f : X → List A) (q : A) where
  Within : List X → Type 0
  Within xs = (x : X) × Contains xs x × Contains (f x) q

  from_joined : (xs : List X) → Contains (flat_map f xs) q → Within xs
  unfolding Within
  from_joined [] h = absurd (nowhere q h)
  from_joined (x ∷ xs) h = elim (Contains-append_cases (f x) (flat_map f xs) q h) [
    | inl k ↦ (x, here x x xs refl, k)
    | inr k ↦ (let w = from_joined xs k in (w.0, there x w.0 xs w.1, w.2))
  ]

  to_joined : (xs : List X) (x : X) → Contains xs x → Contains (f x) q → Contains (flat_map f xs) q
  to_joined [] x h k = absurd (nowhere x h)
  to_joined (y ∷ xs) x h k = elim (which y x xs h) [
    | inl e ↦ Contains-append_left (f y) (flat_map f xs) q (subst (λ (z : X). Contains (f z) q) (sym e) k)
    | inr t ↦ Contains-append_right (f y) (flat_map f xs) q (to_joined xs x t k)
  ]

joined_map : {X : Type 0} (f : X → Names) (xs : List X) → joined (map f xs) ≡ flat_map f xs
joined_map f [] = refl
joined_map f (x ∷ xs) = ap (λ (ns : Names). f x ++ ns) (joined_map f xs)

-- ---- the names of a triple pattern are those that occur in it

place_is : (x : VarOrTerm) (v : List ℕ) → Contains (place_names x) v → x ≡ place.Variable v
place_is (place.Variable variable) v h = elim (which variable v [] h) [ inl e ↦ ap place.Variable e | inr t ↦ absurd (nowhere v t) ]
place_is (place.Hidden number) v h = absurd (nowhere v h)
place_is (place.Term t) v h = absurd (nowhere v h)

place_has : (x : VarOrTerm) (v : List ℕ) → x ≡ place.Variable v → Contains (place_names x) v
place_has x v e = subst (λ (z : VarOrTerm). Contains (place_names z) v) (sym e) (here v v [] refl)

name_is : (x : VarOrIri) (v : List ℕ) → Contains (name_names x) v → x ≡ name.Variable v
name_is (name.Variable variable) v h = elim (which variable v [] h) [ inl e ↦ ap name.Variable e | inr t ↦ absurd (nowhere v t) ]
name_is (name.Iri iri) v h = absurd (nowhere v h)

name_has : (x : VarOrIri) (v : List ℕ) → x ≡ name.Variable v → Contains (name_names x) v
name_has x v e = subst (λ (z : VarOrIri). Contains (name_names z) v) (sym e) (here v v [] refl)

occurs : (t : TriplePattern) (v : List ℕ) → Contains (triple_names t) v → OccursIn t v
occurs t v h = elim (Contains-append_cases (place_names t.subject) (name_names t.predicate ++ place_names t.object) v h) [
  | inl k ↦ inl (place_is t.subject v k)
  | inr k ↦ elim (Contains-append_cases (name_names t.predicate) (place_names t.object) v k) [
    | inl g ↦ inr (inl (name_is t.predicate v g))
    | inr g ↦ inr (inr (place_is t.object v g))
  ]
]

stands : (t : TriplePattern) (v : List ℕ) → OccursIn t v → Contains (triple_names t) v
stands t v (inl e) = Contains-append_left (place_names t.subject) (name_names t.predicate ++ place_names t.object) v (place_has t.subject v e)
stands t v (inr (inl e)) =
    Contains-append_right (place_names t.subject) (name_names t.predicate ++ place_names t.object) v
    (Contains-append_left (name_names t.predicate) (place_names t.object) v (name_has t.predicate v e))
stands t v (inr (inr e)) =
    Contains-append_right (place_names t.subject) (name_names t.predicate ++ place_names t.object) v
    (Contains-append_right (name_names t.predicate) (place_names t.object) v (place_has t.object v e))

-- ---- the names of each form

module _ (minus : Bool) where
  group-is : (ms : List Member) (filters : List Expression) →
      names_where minus (record { members = ms; filters = filters }) ≡ flat_map (member_names minus) ms
  group-is ms filters =
      fold-roll-Pattern Names Names (names_of_member minus) names_of_pattern (record { members = ms; filters = filters }) ∙ joined_map (member_names minus) ms

  alone-is : (x : Member) → names_where minus (alone x) ≡ member_names minus x
  alone-is x = group-is (x ∷ []) [] ∙ append-nil (member_names minus x)

  basic-is : (b : BasicGraphPattern) → member_names minus (m.Basic b) ≡ flat_map triple_names b.triples
  basic-is b = ap (member_names minus) (sym (m.rolls-Basic b)) ∙ fold-roll-Member Names Names (names_of_member minus) names_of_pattern (Member-F.Basic b)

  union-is : (groups : List Pattern) → member_names minus (m.Union groups) ≡ flat_map (names_where minus) groups
  union-is groups =
      ap (member_names minus) (sym (m.rolls-Union groups)) ∙ fold-roll-Member Names Names (names_of_member minus) names_of_pattern (Member-F.Union groups)
      ∙ joined_map (names_where minus) groups

  optional-is : (G : Pattern) → member_names minus (m.Optional G) ≡ names_where minus G
  optional-is G = ap (member_names minus) (sym (m.rolls-Optional G)) ∙ fold-roll-Member Names Names (names_of_member minus) names_of_pattern (Member-F.Optional G)

  graph-is : (x : VarOrIri) (G : Pattern) → member_names minus (m.Graph x G) ≡ name_names x ++ names_where minus G
  graph-is x G = ap (member_names minus) (sym (m.rolls-Graph x G)) ∙ fold-roll-Member Names Names (names_of_member minus) names_of_pattern (Member-F.Graph x G)

  minus-is : (G : Pattern) → member_names minus (m.Minus G) ≡ cond minus (names_where minus G) []
  minus-is G = ap (member_names minus) (sym (m.rolls-Minus G)) ∙ fold-roll-Member Names Names (names_of_member minus) names_of_pattern (Member-F.Minus G)

  -- scope lists just these names
  module _ (scope : Pattern → Names) (just : (p : Pattern) → AreNames (names_where minus p) (scope p)) where
    has : (p : Pattern) (ns : Names) (v : List ℕ) → names_where minus p ≡ ns → Contains (scope p) v → Contains ns v
    has p ns v e h = subst (λ (z : Names). Contains z v) e (((just p).stands v).0 h)

    is_had : (p : Pattern) (ns : Names) (v : List ℕ) → names_where minus p ≡ ns → Contains ns v → Contains (scope p) v
    is_had p ns v e h = ((just p).stands v).1 (subst (λ (z : Names). Contains z v) (sym e) h)

    shown : (x : Member) (ns : Names) (v : List ℕ) → member_names minus x ≡ ns → Contains (scope (alone x)) v → Contains ns v
    shown x ns v e h = has (alone x) ns v (alone-is x ∙ e) h

    is_shown : (x : Member) (ns : Names) (v : List ℕ) → member_names minus x ≡ ns → Contains ns v → Contains (scope (alone x)) v
    is_shown x ns v e h = is_had (alone x) ns v (alone-is x ∙ e) h

    triples : (b : BasicGraphPattern) (v : List ℕ) → Contains (scope (alone (m.Basic b))) v ↔ ((t : TriplePattern) × Contains b.triples t × OccursIn t v)
    unfolding Within
    triples b v = (
      (λ h. let w = from_joined triple_names v b.triples (shown (m.Basic b) (flat_map triple_names b.triples) v (basic-is b) h) in (w.0, w.1, occurs w.0 v w.2)),
      (λ w. is_shown (m.Basic b) (flat_map triple_names b.triples) v (basic-is b) (to_joined triple_names v b.triples w.0 w.1 (stands w.0 v w.2))),
    )

    group : (ms : List Member) (filters : List Expression) (v : List ℕ) →
        Contains (scope (record { members = ms; filters = filters })) v ↔ ((x : Member) × Contains ms x × Contains (scope (alone x)) v)
    unfolding Within
    group ms filters v = (
      (λ h. let w = from_joined (member_names minus) v ms (has (record { members = ms; filters = filters }) (flat_map (member_names minus) ms) v (group-is ms filters) h) in
          (w.0, w.1, is_shown w.0 (member_names minus w.0) v refl w.2)),
      (λ w. is_had (record { members = ms; filters = filters }) (flat_map (member_names minus) ms) v (group-is ms filters)
          (to_joined (member_names minus) v ms w.0 w.1 (shown w.0 (member_names minus w.0) v refl w.2))),
    )

    union : (groups : List Pattern) (v : List ℕ) → Contains (scope (alone (m.Union groups))) v ↔ ((G : Pattern) × Contains groups G × Contains (scope G) v)
    unfolding Within
    union groups v = (
      (λ h. let w = from_joined (names_where minus) v groups (shown (m.Union groups) (flat_map (names_where minus) groups) v (union-is groups) h) in
          (w.0, w.1, is_had w.0 (names_where minus w.0) v refl w.2)),
      (λ w. is_shown (m.Union groups) (flat_map (names_where minus) groups) v (union-is groups)
          (to_joined (names_where minus) v groups w.0 w.1 (has w.0 (names_where minus w.0) v refl w.2))),
    )

    optional : (G : Pattern) (v : List ℕ) → Contains (scope (alone (m.Optional G))) v ↔ Contains (scope G) v
    optional G v = (
      (λ h. is_had G (names_where minus G) v refl (shown (m.Optional G) (names_where minus G) v (optional-is G) h)),
      (λ h. is_shown (m.Optional G) (names_where minus G) v (optional-is G) (has G (names_where minus G) v refl h)),
    )

    graph_names : (x : VarOrIri) (G : Pattern) (v : List ℕ) → Contains (name_names x ++ names_where minus G) v → (x ≡ name.Variable v) ⊎ Contains (scope G) v
    graph_names x G v h = elim (Contains-append_cases (name_names x) (names_where minus G) v h) [
      | inl k ↦ inl (name_is x v k)
      | inr k ↦ inr (is_had G (names_where minus G) v refl k)
    ]

    graph_has : (x : VarOrIri) (G : Pattern) (v : List ℕ) → (x ≡ name.Variable v) ⊎ Contains (scope G) v → Contains (name_names x ++ names_where minus G) v
    graph_has x G v (inl e) = Contains-append_left (name_names x) (names_where minus G) v (name_has x v e)
    graph_has x G v (inr h) = Contains-append_right (name_names x) (names_where minus G) v (has G (names_where minus G) v refl h)

    graph : (x : VarOrIri) (G : Pattern) (v : List ℕ) → Contains (scope (alone (m.Graph x G))) v ↔ ((x ≡ name.Variable v) ⊎ Contains (scope G) v)
    graph x G v = (
      (λ h. graph_names x G v (shown (m.Graph x G) (name_names x ++ names_where minus G) v (graph-is x G) h)),
      (λ h. is_shown (m.Graph x G) (name_names x ++ names_where minus G) v (graph-is x G) (graph_has x G v h)),
    )

    scope_table : ScopeTable scope
    scope_table = record { triples = triples; group = group; union = union; optional = optional; graph = graph }

pub visible_table : ScopeTable visible
visible_table = scope_table false visible visible_are_sorted

pub named_table : ScopeTable named
named_table = scope_table true named named_are_sorted

pub minus_shows_none : MinusShowsNone
minus_shows_none G v h = nowhere v (shown false visible visible_are_sorted (m.Minus G) [] v (minus-is false G) h)

pub minus_names : MinusNames
minus_names G v = (
  (λ h. is_had true named named_are_sorted G (names_where true G) v refl (shown true named named_are_sorted (m.Minus G) (names_where true G) v (minus-is true G) h)),
  (λ h. is_shown true named named_are_sorted (m.Minus G) (names_where true G) v (minus-is true G) (has true named named_are_sorted G (names_where true G) v refl h)),
)
