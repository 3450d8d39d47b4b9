-- Mappings, place by place.
use Rattle.std.proofs.Common.{◌≡◌, ◌≢◌, ◌⊎◌, ◌↔◌, ◌∙◌, ℕ, zero, suc, ◌<◌, true, false, ◌&&◌, ◌||◌, List, [], ◌∷◌, length, map, replicate, set, zip, Option, Some, None, is_some, ap, sym, refl, subst, inl, inr, arith, true≢false}
use Rattle.std.proofs.lemmas.Bool.{and_parts, and_from}
use Rattle.std.proofs.lemmas.List.{get_or-set_same, get_or-set_other, length-replicate}
use Rattle.std.proofs.lemmas.List.Quantifiers.{position-Some}
use Rattle.std.proofs.lemmas.Option.{same_Some}
use Rattle.std.specs.Cmp.{eq_by_cmp_equiv}
use Rattle.std.specs.List.{list_all}
use Rattle.std.specs.Ordering.{eq_by_cmp}
use Rattle.rdf_terms.specs.Order.{text_cmp}
use Rattle.rdf_terms.specs.OrderLaws.{term_cmp_total}
use Rattle.rdf_terms.specs.declared.term.Term.{Term}
use Rattle.sparql_values.specs.Mapping.{Variables, Mapping, agrees, column, compatible, empty_mapping, first_of, merge, same_mapping, same_term, same_value, set_in, single, value_at}
use Rattle.sparql_values.specs.MappingLaws.{Has, SameIsOne, CompatibleLaws, MergeLaws, SingleBinds}
use Rattle.sparql_values.proofs.TermLemmas.{same_term_is, same_term_own}

-- ---- equality

same_value_is : (x y : Option Term) → same_value x y ≡ true → x ≡ y
same_value_is (Some s) (Some t) h = ap Some (same_term_is s t h)
same_value_is (Some s) None h = absurd (true≢false (sym h))
same_value_is None (Some t) h = absurd (true≢false (sym h))
same_value_is None None h = refl

same_value_own : (x : Option Term) → same_value x x ≡ true
same_value_own (Some t) = same_term_own t
same_value_own None = refl

same_is : (a b : Mapping) → same_mapping a b ≡ true → a ≡ b
same_is [] [] h = refl
same_is [] (y ∷ b) h = absurd (true≢false (sym h))
same_is (x ∷ a) [] h = absurd (true≢false (sym h))
same_is (x ∷ a) (y ∷ b) h =
    let p = and_parts (same_value x y) (same_mapping a b) h in
    ap (λ (z : Option Term). z ∷ a) (same_value_is x y p.0) ∙ ap (λ (zs : Mapping). y ∷ zs) (same_is a b p.1)

same_own : (a : Mapping) → same_mapping a a ≡ true
same_own [] = refl
same_own (x ∷ a) = and_from (same_value x x) (same_mapping a a) (same_value_own x) (same_own a)

pub same_is_one : SameIsOne
same_is_one a b = (same_is a b, λ e. subst (λ (m : Mapping). same_mapping a m ≡ true) e (same_own a))

-- ---- compatible mappings

Agree : Mapping → Mapping → Type 0
Agree a b = (place : ℕ) (s t : Term) → Has a place s → Has b place t → s ≡ t

agrees_is : (x y : Option Term) (s t : Term) → agrees (x, y) ≡ true → x ≡ Some s → y ≡ Some t → s ≡ t
agrees_is (Some p) (Some q) s t h e f = sym (same_Some p s e) ∙ same_term_is p q h ∙ same_Some q t f
agrees_is (Some p) None s t h e f = absurd (let z : ⊥ = cc in z)
agrees_is None y s t h e f = absurd (let z : ⊥ = cc in z)

agrees_from : (x y : Option Term) → ((s t : Term) → x ≡ Some s → y ≡ Some t → s ≡ t) → agrees (x, y) ≡ true
agrees_from (Some s) (Some t) h = subst (λ (z : Term). same_term s z ≡ true) (h s t refl refl) (same_term_own s)
agrees_from (Some s) None h = refl
agrees_from None y h = refl

agree : (a b : Mapping) → compatible a b ≡ true → Agree a b
unfolding Agree
agree [] b h place s t e f = absurd (let z : ⊥ = cc in z)
agree (x ∷ a) [] h place s t e f = absurd (let z : ⊥ = cc in z)
agree (x ∷ a) (y ∷ b) h zero s t e f = agrees_is x y s t (and_parts (agrees (x, y)) (compatible a b) h).0 e f
agree (x ∷ a) (y ∷ b) h (suc place) s t e f = agree a b (and_parts (agrees (x, y)) (compatible a b) h).1 place s t e f

agree_from : (a b : Mapping) → Agree a b → compatible a b ≡ true
unfolding Agree
agree_from [] b h = refl
agree_from (x ∷ a) [] h = refl
agree_from (x ∷ a) (y ∷ b) h = and_from (agrees (x, y)) (compatible a b) (agrees_from x y (λ s t. h 0 s t)) (agree_from a b (λ place. h (suc place)))

agrees_turned : (x y : Option Term) → agrees (x, y) ≡ agrees (y, x)
agrees_turned (Some s) (Some t) = (eq_by_cmp_equiv term_cmp_total).symm s t
agrees_turned (Some s) None = refl
agrees_turned None (Some t) = refl
agrees_turned None None = refl

turned : (a b : Mapping) → compatible a b ≡ compatible b a
turned [] [] = refl
turned [] (y ∷ b) = refl
turned (x ∷ a) [] = refl
turned (x ∷ a) (y ∷ b) = λ i. agrees_turned x y i && turned a b i

empty_agrees : (n : ℕ) (m : Mapping) → list_all agrees (zip (replicate n None) m) ≡ true
empty_agrees zero m = refl
empty_agrees (suc n) [] = refl
empty_agrees (suc n) (y ∷ m) = empty_agrees n m

pub compatible_laws : CompatibleLaws
unfolding Agree
compatible_laws = record {
  agree = λ a b. (agree a b, agree_from a b);
  symmetric = turned;
  empty = λ variables m. empty_agrees (length variables) m;
}

-- ---- merges

short : {n : ℕ} {P : Type 0} → suc n ≡ 0 → P
short e = absurd (let z : ⊥ = omega (arith, e) in z)

-- past both ends there is nothing
merged_at : (a b : Mapping) (place : ℕ) → length a ≡ length b → value_at (merge a b) place ≡ first_of (value_at a place, value_at b place)
merged_at [] [] place e = refl
merged_at [] (y ∷ b) place e = short (sym e)
merged_at (x ∷ a) [] place e = short e
merged_at (x ∷ a) (y ∷ b) zero e = refl
merged_at (x ∷ a) (y ∷ b) (suc place) e = merged_at a b place (omega (arith, e))

one_of : (x y : Option Term) (t : Term) → first_of (x, y) ≡ Some t → (x ≡ Some t) ⊎ (y ≡ Some t)
one_of (Some s) y t e = inl e
one_of None y t e = inr e

first_is : (x y : Option Term) (t : Term) → ((s t : Term) → x ≡ Some s → y ≡ Some t → s ≡ t) → (x ≡ Some t) ⊎ (y ≡ Some t) → first_of (x, y) ≡ Some t
first_is (Some s) y t h (inl e) = e
first_is (Some s) y t h (inr e) = ap Some (h s t refl e)
first_is None y t h (inl e) = absurd (let z : ⊥ = cc in z)
first_is None y t h (inr e) = e

united : (a b : Mapping) (place : ℕ) (t : Term) → length a ≡ length b → compatible a b ≡ true → Has (merge a b) place t ↔ (Has a place t ⊎ Has b place t)
unfolding Agree
united a b place t e h = (
  (λ k. one_of (value_at a place) (value_at b place) t (sym (merged_at a b place e) ∙ k)),
  (λ k. merged_at a b place e ∙ first_is (value_at a place) (value_at b place) t (agree a b h place) k),
)

some_of : (x y : Option Term) → is_some (first_of (x, y)) ≡ (is_some x || is_some y)
some_of (Some s) y = refl
some_of None y = refl

either_first : (x y : Option Term) → agrees (x, y) ≡ true → first_of (x, y) ≡ first_of (y, x)
either_first (Some s) (Some t) h = ap Some (same_term_is s t h)
either_first (Some s) None h = refl
either_first None (Some t) h = refl
either_first None None h = refl

commutes : (a b : Mapping) → compatible a b ≡ true → merge a b ≡ merge b a
commutes [] [] h = refl
commutes [] (y ∷ b) h = refl
commutes (x ∷ a) [] h = refl
commutes (x ∷ a) (y ∷ b) h =
    let p = and_parts (agrees (x, y)) (compatible a b) h in
    ap (λ (z : Option Term). z ∷ merge a b) (either_first x y p.0) ∙ ap (λ (zs : Mapping). first_of (y, x) ∷ zs) (commutes a b p.1)

first_of_three : (x y z : Option Term) → first_of (first_of (x, y), z) ≡ first_of (x, first_of (y, z))
first_of_three (Some s) y z = refl
first_of_three None y z = refl

associates : (a b c : Mapping) → merge (merge a b) c ≡ merge a (merge b c)
associates [] b c = refl
associates (x ∷ a) [] c = refl
associates (x ∷ a) (y ∷ b) [] = refl
associates (x ∷ a) (y ∷ b) (z ∷ c) =
    ap (λ (u : Option Term). u ∷ merge (merge a b) c) (first_of_three x y z) ∙ ap (λ (us : Mapping). first_of (x, first_of (y, z)) ∷ us) (associates a b c)

empty_adds : (n : ℕ) (m : Mapping) → length m ≡ n → map first_of (zip (replicate n None) m) ≡ m
empty_adds zero [] e = refl
empty_adds zero (y ∷ m) e = short e
empty_adds (suc n) [] e = short (sym e)
empty_adds (suc n) (y ∷ m) e = ap (λ (us : Mapping). y ∷ us) (empty_adds n m (omega (arith, e)))

pub merge_laws : MergeLaws
merge_laws = record {
  union = united;
  domain = λ a b place e. ap is_some (merged_at a b place e) ∙ some_of (value_at a place) (value_at b place);
  commutes = commutes;
  associates = associates;
  empty = λ variables m e. empty_adds (length variables) m e;
}

-- ---- the mapping of one variable

nothing_at : (n place : ℕ) → value_at (replicate n None) place ≡ None
nothing_at zero place = refl
nothing_at (suc n) zero = refl
nothing_at (suc n) (suc place) = nothing_at n place

set_at : (n place : ℕ) (t : Term) → place < n →
    Has (set (replicate n None) place (Some t)) place t × ((other : ℕ) → other ≢ place → value_at (set (replicate n None) place (Some t)) other ≡ None)
set_at n place t l =
    let long : length {A = Option Term} (replicate n None) ≡ n = length-replicate n None in
    let within : place < length {A = Option Term} (replicate n None) = omega (arith, l, long) in (
      get_or-set_same (replicate n None) place (Some t) None within,
      λ other apart. get_or-set_other (replicate n None) place other (Some t) None apart ∙ nothing_at n other,
    )

set_in_is : (variables : Variables) (name : List ℕ) (t : Term) (place : ℕ) → column variables name ≡ Some place →
    single variables name t ≡ set (empty_mapping variables) place (Some t)
set_in_is variables name t place e = ap (λ (o : Option ℕ). set_in (empty_mapping variables) o t) e

pub single_binds : SingleBinds
single_binds variables name t place e =
    let l = (position-Some (λ (v : List ℕ). eq_by_cmp text_cmp name v) variables place [] e).0 in
    subst (λ (m : Mapping). Has m place t × ((other : ℕ) → other ≢ place → value_at m other ≡ None)) (sym (set_in_is variables name t place e)) (set_at (length variables) place t l)
