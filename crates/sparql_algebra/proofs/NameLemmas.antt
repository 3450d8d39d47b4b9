-- Which variables a pattern sees: just those that are visible.
use Rattle.std.proofs.Common.{◌≡◌, ℕ, suc, ◌+◌, ◌<◌, Bool, true, false, cond, ◌||◌, List, [], ◌∷◌, ◌++◌, map, get_or, length, Option, Some, None, refl, sym, ap, ◌∙◌, subst, arith}
use Rattle.std.specs.Cmp.Lexicographic.{nat_list_cmp_total}
use Rattle.std.specs.List.{fold, flat_map, list_any, position_from}
use Rattle.std.specs.Option.{option_map}
use Rattle.std.specs.Ordering.{eq_by_cmp}
use Rattle.std.proofs.lemmas.Bool.{eqb-true, eq-eqb}
use Rattle.std.proofs.lemmas.Iterator.Adapters.{position_from-zero}
use Rattle.std.proofs.lemmas.List.Folds.{list_any-append}
use Rattle.std.proofs.lemmas.List.Quantifiers.{position-Some}
use Rattle.rdf_terms.specs.Order.{text_cmp}
use Rattle.rdf_terms.specs.OrderLaws.{text_cmp-IsAntisymmetric}
use Rattle.sparql_trees.specs.Visible.{Names, joined, member_names, name_names, names_in, names_of_member, names_of_pattern, place_names, triple_names}
use Rattle.sparql_trees.specs.declared.expression.Expression.{Expression}
use Rattle.sparql_trees.specs.declared.pattern.Member.{Member}
use Rattle.sparql_trees.specs.declared.pattern.Member.TheFolds.{fold-roll-Member, fold-roll-Pattern, map-Member, map-Pattern, ind-Pattern}
use Rattle.sparql_trees.specs.declared.pattern.Member.TheOpen.{Member-F, Pattern-F}
use Rattle.sparql_trees.specs.declared.pattern.Member.TheViews.{roll-Member, roll-Pattern}
use Rattle.sparql_trees.specs.declared.pattern.Pattern.{Pattern}
use Rattle.sparql_trees.specs.declared.pattern.TriplePattern.{TriplePattern}
use Rattle.sparql_trees.specs.declared.pattern.VarOrIri.{VarOrIri}
use Rattle.sparql_trees.specs.declared.pattern.VarOrIri.TheVariants as v
use Rattle.sparql_trees.specs.declared.pattern.VarOrTerm.{VarOrTerm}
use Rattle.sparql_trees.specs.declared.pattern.VarOrTerm.TheVariants as x
use Rattle.sparql_values.specs.Mapping.{Variables, column}
use Rattle.sparql_algebra.specs.Algebra as algebra
use Rattle.sparql_algebra.specs.Algebra.{Algebra, union, Element, optional, removed, Translated, empty_pattern, extended, filtered, whole, group_of, union_of, group_in, element_in, parts, translation, element}
use Rattle.sparql_algebra.specs.Laws.{is_among}
use Rattle.sparql_algebra.specs.Solutions.{var_or_term, is_at, is_column, occurs}
use Rattle.sparql_algebra.specs.Under.{sees}
use Rattle.sparql_algebra.proofs.SetLemmas as sets
use Rattle.sparql_algebra.proofs.TruthLemmas.{or_assoc, or_false, both_true}

abbrev pub same : List ℕ → List ℕ → Bool
same a b = eq_by_cmp text_cmp a b

pub same_is : (a b : List ℕ) → same a b ≡ true → a ≡ b
same_is a b h = sets.same_is nat_list_cmp_total text_cmp-IsAntisymmetric a b h

pub same_own : (a : List ℕ) → same a a ≡ true
same_own a = sets.own nat_list_cmp_total text_cmp-IsAntisymmetric a

-- ---- columns

from_next : {X : Type 0} (p : X → Bool) (i : ℕ) (xs : List X) → position_from p (i + 1) xs ≡ option_map suc (position_from p i xs)
from_next p i [] = refl
from_next p i (x ∷ xs) = by_test (p x) (from_next p (i + 1) xs)
  where
    by_test : (b : Bool) → position_from p (i + 1 + 1) xs ≡ option_map suc (position_from p (i + 1) xs) →
        cond b (Some (i + 1)) (position_from p (i + 1 + 1) xs) ≡ option_map suc (cond b (Some i) (position_from p (i + 1) xs))
    by_test true h = let e : i + 1 ≡ suc i = omega arith in ap Some e
    by_test false h = h

pub column-cons : (n : List ℕ) (vs : Variables) (name : List ℕ) →
    column (n ∷ vs) name ≡ cond (same name n) (Some 0) (option_map suc (column vs name))
column-cons n vs name =
    position_from-zero (same name) (n ∷ vs)
    ∙ ap (λ (o : Option ℕ). cond (same name n) (Some 0) o) (from_next (same name) 0 vs ∙ ap (option_map suc) (sym (position_from-zero (same name) vs)))

pub column_among : (vs : Variables) (name : List ℕ) → is_among name vs ≡ true → (c : ℕ) × (column vs name ≡ Some c)
column_among [] name h = cc
column_among (n ∷ vs) name h = by_test (same name n) refl h (column_among vs name)
  where
    by_test : (b : Bool) → same name n ≡ b → (b || is_among name vs) ≡ true → (is_among name vs ≡ true → (c : ℕ) × (column vs name ≡ Some c)) →
        (c : ℕ) × (column (n ∷ vs) name ≡ Some c)
    by_test true e k r = (0, column-cons n vs name ∙ ap (λ b. cond b (Some 0) (option_map suc (column vs name))) e)
    by_test false e k r =
        let there : (c : ℕ) × (column vs name ≡ Some c) = r k in
        (suc there.0, column-cons n vs name ∙ ap (λ b. cond b (Some 0) (option_map suc (column vs name))) e ∙ ap (option_map suc) there.1)

pub column_within : (vs : Variables) (name : List ℕ) (c : ℕ) → column vs name ≡ Some c → c < length vs
column_within vs name c e = (position-Some (same name) vs c [] e).0

pub one_column : (vs : Variables) (name other : List ℕ) (c : ℕ) → column vs name ≡ Some c → column vs other ≡ Some c → name ≡ other
one_column vs name other c e f =
    same_is name (get_or vs c []) (position-Some (same name) vs c [] e).1
    ∙ sym (same_is other (get_or vs c []) (position-Some (same other) vs c [] f).1)

or_turn : (a b : Bool) → (a || b) ≡ (b || a)
or_turn true true = refl
or_turn true false = refl
or_turn false true = refl
or_turn false false = refl

among_append : (name : List ℕ) (ns ms : Names) → is_among name (ns ++ ms) ≡ (is_among name ns || is_among name ms)
among_append name ns ms = list_any-append (same name) ns ms

module _ (vs : Variables) (c : ℕ) (name : List ℕ) (at : column vs name ≡ Some c) where
  -- ---- triple patterns

  variable_is : (n : List ℕ) → is_at c (column vs n) ≡ same name n
  variable_is n = both_true (is_at c (column vs n)) (same name n) (forth (column vs n) refl) back
    where
      forth : (o : Option ℕ) → column vs n ≡ o → is_at c o ≡ true → same name n ≡ true
      forth (Some k) e h =
          let here : column vs n ≡ Some c = e ∙ ap Some (sym (eqb-true c k h)) in
          ap (same name) (one_column vs n name c here at) ∙ same_own name
      forth None e h = cc

      back : same name n ≡ true → is_at c (column vs n) ≡ true
      back h = ap (is_at c) (ap (column vs) (sym (same_is name n h)) ∙ at) ∙ eq-eqb c c refl

  hidden_is : (b : Bool) (k : ℕ) → is_at c (Some (length vs + k)) ≡ b → b ≡ false
  hidden_is true k h =
      let e : c ≡ length vs + k = eqb-true c (length vs + k) h in absurd (omega (arith, e, column_within vs name c at))
  hidden_is false k h = refl

  place_is : (p : VarOrTerm) → is_column vs c p ≡ is_among name (place_names p)
  place_is (x.Variable n) = variable_is n ∙ sym (or_false (same name n))
  place_is (x.Hidden k) = hidden_is (is_at c (Some (length vs + k))) k refl
  place_is (x.Term t) = refl

  name_is : (p : VarOrIri) → is_column vs c (var_or_term p) ≡ is_among name (name_names p)
  name_is (v.Variable n) = variable_is n ∙ sym (or_false (same name n))
  name_is (v.Iri iri) = refl

  triple_is : (t : TriplePattern) →
      (is_column vs c t.subject || (is_column vs c (var_or_term t.predicate) || is_column vs c t.object)) ≡ is_among name (triple_names t)
  triple_is t =
      ap (λ b. b || (is_column vs c (var_or_term t.predicate) || is_column vs c t.object)) (place_is t.subject)
      ∙ ap (λ b. is_among name (place_names t.subject) || (b || is_column vs c t.object)) (name_is t.predicate)
      ∙ ap (λ b. is_among name (place_names t.subject) || (is_among name (name_names t.predicate) || b)) (place_is t.object)
      ∙ ap (λ b. is_among name (place_names t.subject) || b) (sym (among_append name (name_names t.predicate) (place_names t.object)))
      ∙ sym (among_append name (place_names t.subject) (name_names t.predicate ++ place_names t.object))

  pub occurs_is : (ts : List TriplePattern) → occurs vs ts c ≡ is_among name (flat_map triple_names ts)
  occurs_is [] = refl
  occurs_is (t ∷ ts) =
      ap (λ b. b || occurs vs ts c) (triple_is t) ∙ ap (λ b. is_among name (triple_names t) || b) (occurs_is ts)
      ∙ sym (among_append name (triple_names t) (flat_map triple_names ts))

  -- ---- elements, and groups of them

  -- what stands in MINUS is not seen
  abbrev element_sees : Element → Bool
  element_sees (algebra.joined A) = sees vs A c
  element_sees (optional F A) = sees vs A c
  element_sees (removed A) = false

  sees_extended : (G : Algebra) (k : Element) → sees vs (extended G k) c ≡ (sees vs G c || element_sees k)
  sees_extended G (algebra.joined A) = refl
  sees_extended G (optional F A) = refl
  sees_extended G (removed A) = sym (or_false (sees vs G c))

  sees_group : (G : Algebra) (ks : List Element) → sees vs (fold extended G ks) c ≡ (sees vs G c || list_any element_sees ks)
  sees_group G [] = sym (or_false (sees vs G c))
  sees_group G (k ∷ ks) =
      sees_group (extended G k) ks ∙ ap (λ b. b || list_any element_sees ks) (sees_extended G k)
      ∙ or_assoc (sees vs G c) (element_sees k) (list_any element_sees ks)

  sees_filtered : (F : List Expression) (G : Algebra) → sees vs (filtered F G) c ≡ sees vs G c
  sees_filtered [] G = refl
  sees_filtered (f ∷ F) G = refl

  sees_unions : (A : Algebra) (As : List Algebra) → sees vs (fold union A As) c ≡ (sees vs A c || list_any (λ B. sees vs B c) As)
  sees_unions A [] = sym (or_false (sees vs A c))
  sees_unions A (B ∷ As) =
      sees_unions (union A B) As ∙ or_assoc (sees vs A c) (sees vs B c) (list_any (λ D. sees vs D c) As)

  sees_union_of : (As : List Algebra) → sees vs (union_of As) c ≡ list_any (λ B. sees vs B c) As
  sees_union_of [] = refl
  sees_union_of (A ∷ As) = sees_unions A As

  -- ---- members and patterns

  abbrev IsGoodMember : Member → Type 0
  IsGoodMember m = element_sees (element m) ≡ is_among name (member_names false m)

  abbrev IsGood : Pattern → Type 0
  IsGood p = sees vs (translation p) c ≡ is_among name (names_in p)

  abbrev GoodMember : Type 0
  GoodMember = (m : Member) × IsGoodMember m

  abbrev GoodPattern : Type 0
  GoodPattern = (p : Pattern) × IsGood p

  abbrev plain : Member-F GoodMember GoodPattern → Member-F Member Pattern
  plain y = map-Member GoodMember GoodPattern Member Pattern (λ e. e.0) (λ e. e.0) y

  abbrev plain_group : Pattern-F GoodMember GoodPattern → Pattern-F Member Pattern
  plain_group y = map-Pattern GoodMember GoodPattern Member Pattern (λ e. e.0) (λ e. e.0) y

  members_are : (ms : List GoodMember) → list_any element_sees (map element (map (λ e. e.0) ms)) ≡ is_among name (joined (map (member_names false) (map (λ e. e.0) ms)))
  members_are [] = refl
  members_are (m ∷ ms) =
      ap (λ b. b || list_any element_sees (map element (map (λ e. e.0) ms))) m.1
      ∙ ap (λ b. is_among name (member_names false m.0) || b) (members_are ms)
      ∙ sym (among_append name (member_names false m.0) (joined (map (member_names false) (map (λ e. e.0) ms))))

  groups_are : (ps : List GoodPattern) → list_any (λ B. sees vs B c) (map whole (map parts (map (λ e. e.0) ps))) ≡ is_among name (joined (map names_in (map (λ e. e.0) ps)))
  groups_are [] = refl
  groups_are (p ∷ ps) =
      ap (λ b. b || list_any (λ B. sees vs B c) (map whole (map parts (map (λ e. e.0) ps)))) p.1
      ∙ ap (λ b. is_among name (names_in p.0) || b) (groups_are ps)
      ∙ sym (among_append name (names_in p.0) (joined (map names_in (map (λ e. e.0) ps))))

  graph_is : (n : VarOrIri) (p : GoodPattern) → sees vs (algebra.graph n (whole (parts p.0))) c ≡ is_among name (name_names n ++ names_in p.0)
  graph_is (v.Iri iri) p = p.1
  graph_is (v.Variable n) p =
      ap (λ b. b || is_at c (column vs n)) p.1 ∙ ap (λ b. is_among name (names_in p.0) || b) (variable_is n)
      ∙ or_turn (is_among name (names_in p.0)) (same name n)

  layer_is : (y : Member-F GoodMember GoodPattern) →
      element_sees (element_in (map-Member Member Pattern Element Translated element parts (plain y)))
      ≡ is_among name (names_of_member false (map-Member Member Pattern Names Names (member_names false) names_in (plain y)))
  layer_is (Member-F.Basic b) = occurs_is b.triples
  layer_is (Member-F.Union ps) = sees_union_of (map whole (map parts (map (λ e. e.0) ps))) ∙ groups_are ps
  layer_is (Member-F.Optional p) = sym (sees_filtered (parts p.0).filters (parts p.0).pattern) ∙ p.1
  layer_is (Member-F.Graph n p) = graph_is n p
  layer_is (Member-F.Minus p) = refl

  rolled_member : (y : Member-F GoodMember GoodPattern) → IsGoodMember (roll-Member (plain y))
  rolled_member y =
      ap element_sees (fold-roll-Member Element Translated element_in group_in (plain y)) ∙ layer_is y
      ∙ ap (is_among name) (sym (fold-roll-Member Names Names (names_of_member false) names_of_pattern (plain y)))

  rolled_group : (y : Pattern-F GoodMember GoodPattern) → IsGood (roll-Pattern (plain_group y))
  rolled_group y =
      ap (λ (t : Translated). sees vs (whole t) c) (fold-roll-Pattern Element Translated element_in group_in (plain_group y))
      ∙ sees_filtered y.filters (group_of (map element (map (λ e. e.0) y.members)))
      ∙ sees_group empty_pattern (map element (map (λ e. e.0) y.members))
      ∙ members_are y.members
      ∙ ap (is_among name) (sym (fold-roll-Pattern Names Names (names_of_member false) names_of_pattern (plain_group y)))

  member_step : (z : Member-F Member Pattern) (y : Member-F GoodMember GoodPattern) → plain y ≡ z → IsGoodMember (roll-Member z)
  member_step z y is = subst (λ a. IsGoodMember (roll-Member a)) is (rolled_member y)

  group_step : (z : Pattern-F Member Pattern) (y : Pattern-F GoodMember GoodPattern) → plain_group y ≡ z → IsGood (roll-Pattern z)
  group_step z y is = subst (λ a. IsGood (roll-Pattern a)) is (rolled_group y)

  -- a pattern sees the column of a variable where the variable is visible
  pub sees_visible : (p : Pattern) → IsGood p
  sees_visible = ind-Pattern IsGoodMember IsGood member_step group_step
