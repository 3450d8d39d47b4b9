-- The laws of comparisons and of results.
use Rattle.std.proofs.Common.{◌≡◌, ◌∙◌, ℕ, ◌<◌, Bool, true, false, not, ◌&&◌, if◌then◌else◌, List, Some, ap, refl, arith}
use Rattle.std.proofs.Math.IntN.{ℤ, pos, negsuc}
use Rattle.std.specs.Prelude.{int_lt}
use Rattle.std.specs.Cmp.Lexicographic.{nat_list_cmp_total, nat_list_eq_equiv}
use Rattle.std.specs.Ordering.{is_lt, ordering_reverse}
use Rattle.std.specs.declared.cmp.Ordering.{Ordering}
use Rattle.std.specs.declared.cmp.Ordering.TheVariants.{Less, Equal, Greater}
use Rattle.std.proofs.lemmas.Bool.{ltb-true, le-ltb}
use Rattle.std.proofs.lemmas.Cmp.{eq_by_cmp_equiv, int_eq_equiv}
use Rattle.rdf_terms.specs.Order.{text_cmp}
use Rattle.rdf_terms.specs.OrderLaws.{term_cmp_total}
use Rattle.sparql_values.specs.Mapping.{same_term}
use Rattle.sparql_values.specs.Values.{Operand, number, boolean, text, opaque, resource, equal_by, equal_terms, less_by, operand}
use Rattle.sparql_values.specs.Laws.{EqualIsSymmetric, EqualToItself, LessOneWay, LogicTable, NotTable}
use Rattle.sparql_values.proofs.TermLemmas.{same_term_own}

pub logic_table : LogicTable
logic_table = record {
  true_true = (refl, refl);
  true_false = (refl, refl);
  false_true = (refl, refl);
  false_false = (refl, refl);
  true_error = (refl, refl);
  error_true = (refl, refl);
  false_error = (refl, refl);
  error_false = (refl, refl);
  error_error = (refl, refl);
}

pub not_table : NotTable
not_table = record { of_true = refl; of_false = refl; of_error = refl }

-- ---- `=`

terms_turned : (same : Bool) (x y : Operand) → equal_terms same x y ≡ equal_terms same y x
terms_turned true x y = refl
terms_turned false (number m) (number n) = refl
terms_turned false (number m) (boolean c) = refl
terms_turned false (number m) (text v) = refl
terms_turned false (number m) opaque = refl
terms_turned false (number m) resource = refl
terms_turned false (boolean b) (number n) = refl
terms_turned false (boolean b) (boolean c) = refl
terms_turned false (boolean b) (text v) = refl
terms_turned false (boolean b) opaque = refl
terms_turned false (boolean b) resource = refl
terms_turned false (text u) (number n) = refl
terms_turned false (text u) (boolean c) = refl
terms_turned false (text u) (text v) = refl
terms_turned false (text u) opaque = refl
terms_turned false (text u) resource = refl
terms_turned false opaque (number n) = refl
terms_turned false opaque (boolean c) = refl
terms_turned false opaque (text v) = refl
terms_turned false opaque opaque = refl
terms_turned false opaque resource = refl
terms_turned false resource (number n) = refl
terms_turned false resource (boolean c) = refl
terms_turned false resource (text v) = refl
terms_turned false resource opaque = refl
terms_turned false resource resource = refl

booleans_turned : (a b : Bool) → (if a then b else not b) ≡ (if b then a else not a)
booleans_turned true true = refl
booleans_turned true false = refl
booleans_turned false true = refl
booleans_turned false false = refl

turned : (same : Bool) (x y : Operand) → equal_by same x y ≡ equal_by same y x
turned same (number m) (number n) = ap Some (int_eq_equiv.symm m n)
turned same (boolean b) (boolean c) = ap Some (booleans_turned b c)
turned same (text u) (text v) = ap Some (nat_list_eq_equiv.symm u v)
turned same (number m) (boolean c) = terms_turned same (number m) (boolean c)
turned same (number m) (text v) = terms_turned same (number m) (text v)
turned same (number m) opaque = terms_turned same (number m) opaque
turned same (number m) resource = terms_turned same (number m) resource
turned same (boolean b) (number n) = terms_turned same (boolean b) (number n)
turned same (boolean b) (text v) = terms_turned same (boolean b) (text v)
turned same (boolean b) opaque = terms_turned same (boolean b) opaque
turned same (boolean b) resource = terms_turned same (boolean b) resource
turned same (text u) (number n) = terms_turned same (text u) (number n)
turned same (text u) (boolean c) = terms_turned same (text u) (boolean c)
turned same (text u) opaque = terms_turned same (text u) opaque
turned same (text u) resource = terms_turned same (text u) resource
turned same opaque (number n) = terms_turned same opaque (number n)
turned same opaque (boolean c) = terms_turned same opaque (boolean c)
turned same opaque (text v) = terms_turned same opaque (text v)
turned same opaque opaque = terms_turned same opaque opaque
turned same opaque resource = terms_turned same opaque resource
turned same resource (number n) = terms_turned same resource (number n)
turned same resource (boolean c) = terms_turned same resource (boolean c)
turned same resource (text v) = terms_turned same resource (text v)
turned same resource opaque = terms_turned same resource opaque
turned same resource resource = terms_turned same resource resource

pub symmetric : EqualIsSymmetric
symmetric a b = turned (same_term a b) (operand a) (operand b) ∙ ap (λ s. equal_by s (operand b) (operand a)) ((eq_by_cmp_equiv term_cmp_total).symm a b)

boolean_own : (b : Bool) → (if b then b else not b) ≡ true
boolean_own true = refl
boolean_own false = refl

own_by : (x : Operand) → equal_by true x x ≡ Some true
own_by (number n) = ap Some (int_eq_equiv.refl n)
own_by (boolean b) = ap Some (boolean_own b)
own_by (text u) = ap Some (nat_list_eq_equiv.refl u)
own_by opaque = refl
own_by resource = refl

pub own : EqualToItself
own a = ap (λ s. equal_by s (operand a) (operand a)) (same_term_own a) ∙ own_by (operand a)

-- ---- `<`

pub one_number : (a b : ℤ) → int_lt a b ≡ true → int_lt b a ≡ false
one_number (pos a) (pos b) h = let l : a < b = ltb-true a b h in le-ltb b a (omega arith)
one_number (pos a) (negsuc b) h = cc
one_number (negsuc a) (pos b) h = refl
one_number (negsuc a) (negsuc b) h = let l : b < a = ltb-true b a h in le-ltb a b (omega arith)

one_boolean : (a b : Bool) → (not a && b) ≡ true → (not b && a) ≡ false
one_boolean true b h = cc
one_boolean false true h = refl
one_boolean false false h = cc

reversed : (o : Ordering) → is_lt o ≡ true → is_lt (ordering_reverse o) ≡ false
reversed Less h = refl
reversed Equal h = cc
reversed Greater h = cc

one_text : (a b : List ℕ) → is_lt (text_cmp a b) ≡ true → is_lt (text_cmp b a) ≡ false
one_text a b h = ap is_lt (nat_list_cmp_total.antisymm b a) ∙ reversed (text_cmp a b) h

some : (a b : Bool) → Some a ≡ Some b → a ≡ b
some a b e = cc

one_way_by : (x y : Operand) → less_by x y ≡ Some true → less_by y x ≡ Some false
one_way_by (number m) (number n) h = ap Some (one_number m n (some _ _ h))
one_way_by (boolean b) (boolean c) h = ap Some (one_boolean b c (some _ _ h))
one_way_by (text u) (text v) h = ap Some (one_text u v (some _ _ h))
one_way_by x y h = cc

pub one_way : LessOneWay
one_way a b h = one_way_by (operand a) (operand b) h
