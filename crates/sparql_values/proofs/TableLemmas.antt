-- The standard's tables.
use Rattle.std.proofs.Common.{◌≡◌, ◌≢◌, ◌∙◌, ◌⊎◌, inl, inr, ℕ, Bool, true, false, not, cond, ◌&&◌, nat_eq, List, [], ◌∷◌, Option, Some, None, is_some, ap, sym, subst, refl}
use Rattle.std.proofs.Math.IntN.{ℤ, one, pos, ◌*ℤ◌, *ℤ_comm, *ℤ-one}
use Rattle.std.specs.Prelude.{int_lt}
use Rattle.std.specs.Cmp.Lexicographic.{nat_list_cmp_total, pointwise, texts_ties}
use Rattle.std.specs.Cmp.Lexicographic as lists
use Rattle.std.specs.FinMap.{int_cmp-IsAntisymmetric}
use Rattle.std.specs.Option.{option_and_then, option_map}
use Rattle.std.specs.Ordering.{int_eq, is_eq, is_lt, ordering_reverse}
use Rattle.std.specs.declared.cmp.Ordering.{Ordering}
use Rattle.std.specs.declared.cmp.Ordering.TheVariants.{Less, Equal, Greater}
use Rattle.std.proofs.lemmas.Bool.{and_parts, cond-true, cond-false, false_from_ne_true}
use Rattle.std.proofs.lemmas.Bool.Decides.{Decides-int_eq}
use Rattle.std.proofs.lemmas.Cmp.{int_eq_equiv}
use Rattle.rdf_terms.specs.Integers.{fits_128_bits, integer_of, is_integer_form, written_integer}
use Rattle.rdf_terms.specs.Literal.{LiteralParts, xsd_string}
use Rattle.rdf_terms.specs.Order.{text_cmp}
use Rattle.rdf_terms.specs.Vocabulary.{xsd_boolean, xsd_integer}
use Rattle.rdf_terms.specs.declared.term.Term.{Term}
use Rattle.rdf_terms.specs.declared.term.Term.TheVariants as t
use Rattle.sparql_trees.specs.declared.expression.Expression.{Expression}
use Rattle.sparql_trees.specs.declared.expression.Expression.TheVariants as e
use Rattle.sparql_trees.specs.declared.expression.Sign.{Sign}
use Rattle.sparql_trees.specs.declared.expression.Sign.TheVariants.{Plus, Minus}
use Rattle.sparql_values.specs.Mapping.{same_term}
use Rattle.sparql_values.specs.Tables.{KindTable, BoundTable, EqualTable, LessTable, NoOrderTurned, OneOfThree, OrderTable, EffectiveTable, FunctionTable, FilterTable, VariableTable, NumberTable}
use Rattle.sparql_values.specs.Values.{Bindings, Truth, Operand, number, boolean, text, opaque, resource, boolean_operand, boolean_term, either, effective, equal, equal_by, has_datatype, integer_term, is_before, is_not_zero, is_satisfied, is_true, less, less_by, literal_operand, negated, number_in, number_or_opaque, of_number, on_both, operand, plus_or_minus, same_text, signed, times, truth, value, within}
use Rattle.rdf_terms.proofs.CallerLemmas.{fits_decides}
use Rattle.sparql_values.proofs.LawLemmas.{one_number, own}
use Rattle.sparql_values.proofs.NumberLemmas.{integer_effective}
use Rattle.sparql_values.proofs.ResultLemmas.{value_fits}
use Rattle.sparql_values.proofs.TermLemmas.{same_term_is}
use Rattle.sparql_values.proofs.ValueLemmas.{value-Bound, value-Product, value-Signed, value-Sum, value-Variable}

-- ---- kinds

-- what has a value is an xsd:integer
integer_datatype : (l : LiteralParts) (n : ℤ) → integer_of l ≡ Some n → same_text l.datatype xsd_integer ≡ true
unfolding integer_of
integer_datatype l n h = by_test (pointwise nat_eq l.datatype xsd_integer && (is_integer_form l.lexical && fits_128_bits (written_integer l.lexical))) refl h
  where
    by_test : (b : Bool) → (pointwise nat_eq l.datatype xsd_integer && (is_integer_form l.lexical && fits_128_bits (written_integer l.lexical))) ≡ b
        → cond b (Some (written_integer l.lexical)) None ≡ Some n → pointwise nat_eq l.datatype xsd_integer ≡ true
    by_test true e k = (and_parts _ _ e).0
    by_test false e k = absurd (let z : ⊥ = cc in z)

no_value : (l : LiteralParts) → same_text l.datatype xsd_integer ≡ false → integer_of l ≡ None
unfolding integer_of
no_value l h = ap (λ b. cond (b && (is_integer_form l.lexical && fits_128_bits (written_integer l.lexical))) (Some (written_integer l.lexical)) None) h

integer_kind : (l : LiteralParts) (n : ℤ) → integer_of l ≡ Some n → literal_operand l ≡ number n
integer_kind l n h =
    cond-false _ _ _ (ap (λ d. same_text d xsd_string) is) ∙ cond-false _ _ _ (ap (λ d. same_text d xsd_boolean) is) ∙ ap number_or_opaque h
  where
    is : l.datatype ≡ xsd_integer
    is = lists.same_text l.datatype xsd_integer (sym (integer_datatype l n h))

other_kind : (l : LiteralParts) → has_datatype xsd_string l ≡ false → has_datatype xsd_boolean l ≡ false → has_datatype xsd_integer l ≡ false
    → literal_operand l ≡ opaque
other_kind l s b i = cond-false _ _ _ s ∙ cond-false _ _ _ b ∙ ap number_or_opaque (no_value l i)

pub kinds : KindTable
kinds = record {
  string = λ x. refl;
  written_true = refl;
  one = refl;
  written_false = refl;
  zero = refl;
  no_boolean = λ x p q. cond-false _ _ _ p ∙ cond-false _ _ _ q;
  integer = integer_kind;
  no_integer = λ x h. ap number_or_opaque h;
  other = other_kind;
  iri = λ x. refl;
  blank = λ n. refl;
}

pub bounds : BoundTable
unfolding fits_128_bits
bounds = record { greatest = refl; past_it = refl; least = refl; below_it = refl }

-- ---- `=`

differ : (a b : Term) (x y : Operand) → operand a ≡ x → operand b ≡ y → (x ≡ y → ⊥) → same_term a b ≡ false
differ a b x y p q h = false_from_ne_true (same_term a b) (λ s. h (sym p ∙ ap operand (same_term_is a b s) ∙ q))

equal_at : (a b : Term) (s : Bool) (x y : Operand) → same_term a b ≡ s → operand a ≡ x → operand b ≡ y → equal a b ≡ equal_by s x y
equal_at a b s x y h p q = λ i. equal_by (h i) (p i) (q i)

apart : (a b : Term) (x y : Operand) → operand a ≡ x → operand b ≡ y → (x ≡ y → ⊥) → equal a b ≡ equal_by false x y
apart a b x y p q h = equal_at a b false x y (differ a b x y p q h) p q

resources_by : (s : Bool) → equal_by s resource resource ≡ Some s
resources_by true = refl
resources_by false = refl

no_resource : (l : LiteralParts) → literal_operand l ≡ resource → ⊥
no_resource l = by_tests (has_datatype xsd_string l) (has_datatype xsd_boolean l)
  where
    of_boolean : (b c : Bool) → cond b (boolean true) (cond c (boolean false) opaque) ≡ resource → ⊥
    of_boolean true c h = cc
    of_boolean false true h = cc
    of_boolean false false h = cc

    of_number : (x : Option ℤ) → number_or_opaque x ≡ resource → ⊥
    of_number (Some n) h = cc
    of_number None h = cc

    by_tests : (b c : Bool) → cond b (text l.lexical) (cond c (boolean_operand l.lexical) (number_or_opaque (integer_of l))) ≡ resource → ⊥
    by_tests true c h = cc
    by_tests false true h = of_boolean _ _ h
    by_tests false false h = of_number (integer_of l) h

pub equals : EqualTable
equals = record {
  numbers = λ a b m n p q. equal_at a b (same_term a b) (number m) (number n) refl p q;
  strings = λ a b x y p q. equal_at a b (same_term a b) (text x) (text y) refl p q;
  both_true = λ a b p q. equal_at a b (same_term a b) (boolean true) (boolean true) refl p q;
  both_false = λ a b p q. equal_at a b (same_term a b) (boolean false) (boolean false) refl p q;
  true_false = λ a b p q. equal_at a b (same_term a b) (boolean true) (boolean false) refl p q;
  resources = λ a b p q. equal_at a b (same_term a b) resource resource refl p q ∙ resources_by (same_term a b);
  resource_and_literal = λ a l p. apart a (t.Literal l) resource (literal_operand l) p refl (λ h. no_resource l (sym h));
  opaque_itself = own;
  opaque_others = λ a b p q h. equal_at a b false opaque opaque h p q;
  number_and_string = λ a b n x p q. apart a b (number n) (text x) p q (λ h. let k : ⊥ = cc in k);
  number_and_boolean = λ a b n c p q. apart a b (number n) (boolean c) p q (λ h. let k : ⊥ = cc in k);
  number_and_opaque = λ a b n p q. apart a b (number n) opaque p q (λ h. let k : ⊥ = cc in k);
  string_and_boolean = λ a b x c p q. apart a b (text x) (boolean c) p q (λ h. let k : ⊥ = cc in k);
  string_and_opaque = λ a b x p q. apart a b (text x) opaque p q (λ h. let k : ⊥ = cc in k);
  boolean_and_opaque = λ a b c p q. apart a b (boolean c) opaque p q (λ h. let k : ⊥ = cc in k);
}

-- ---- `<`

less_at : (a b : Term) (x y : Operand) → operand a ≡ x → operand b ≡ y → less a b ≡ less_by x y
less_at a b x y p q = λ i. less_by (p i) (q i)

pub lesses : LessTable
lesses = record {
  numbers = λ a b m n p q. less_at a b (number m) (number n) p q;
  strings = λ a b x y p q. less_at a b (text x) (text y) p q;
  false_true = λ a b p q. less_at a b (boolean false) (boolean true) p q;
  true_false = λ a b p q. less_at a b (boolean true) (boolean false) p q;
  both_true = λ a b p q. less_at a b (boolean true) (boolean true) p q;
  both_false = λ a b p q. less_at a b (boolean false) (boolean false) p q;
  opaque = λ a b p. less_at a b opaque (operand b) p refl;
  resource = λ a b p. less_at a b resource (operand b) p refl;
  number_and_string = λ a b n x p q. less_at a b (number n) (text x) p q;
  number_and_boolean = λ a b n c p q. less_at a b (number n) (boolean c) p q;
  string_and_boolean = λ a b x c p q. less_at a b (text x) (boolean c) p q;
}

turned : (x y : Operand) → less_by x y ≡ None → less_by y x ≡ None
turned (number m) (number n) h = absurd (let k : ⊥ = cc in k)
turned (number m) (boolean c) h = refl
turned (number m) (text v) h = refl
turned (number m) opaque h = refl
turned (number m) resource h = refl
turned (boolean b) (number n) h = refl
turned (boolean b) (boolean c) h = absurd (let k : ⊥ = cc in k)
turned (boolean b) (text v) h = refl
turned (boolean b) opaque h = refl
turned (boolean b) resource h = refl
turned (text u) (number n) h = refl
turned (text u) (boolean c) h = refl
turned (text u) (text v) h = absurd (let k : ⊥ = cc in k)
turned (text u) opaque h = refl
turned (text u) resource h = refl
turned opaque (number n) h = refl
turned opaque (boolean c) h = refl
turned opaque (text v) h = refl
turned opaque opaque h = refl
turned opaque resource h = refl
turned resource (number n) h = refl
turned resource (boolean c) h = refl
turned resource (text v) h = refl
turned resource opaque h = refl
turned resource resource h = refl

pub no_order_turned : NoOrderTurned
no_order_turned a b h = turned (operand a) (operand b) h

-- the first is less, both are equal, or the second is less
abbrev Three : Truth → Truth → Truth → Type 0
Three l e g =
    ((l ≡ Some true) × (e ≡ Some false) × (g ≡ Some false)) ⊎ ((l ≡ Some false) × (e ≡ Some true) × (g ≡ Some false))
    ⊎ ((l ≡ Some false) × (e ≡ Some false) × (g ≡ Some true))

both_ways : (m n : ℤ) → int_lt m n ≡ true → int_lt n m ≡ true → ⊥
both_ways m n p q = let k : int_lt n m ≡ false = one_number m n p in let z : ⊥ = cc in z

less_itself : (m n : ℤ) → int_lt m n ≡ true → int_eq m n ≡ true → ⊥
less_itself m n p e =
    let is : m ≡ n = (Decides-int_eq m n).0 e in
    both_ways n n (subst (λ (k : ℤ). int_lt k n ≡ true) is p) (subst (λ (k : ℤ). int_lt k n ≡ true) is p)

neither : (m n : ℤ) → int_lt m n ≡ false → int_lt n m ≡ false → int_eq m n ≡ true
neither m n p q = (Decides-int_eq m n).1 (int_cmp-IsAntisymmetric m n (cond-false _ _ _ p ∙ cond-false _ _ _ q))

three_numbers : (m n : ℤ) → Three (Some (int_lt m n)) (Some (int_eq m n)) (Some (int_lt n m))
three_numbers m n = by_tests (int_lt m n) (int_eq m n) (int_lt n m) refl refl refl
  where
    by_tests : (l e g : Bool) → int_lt m n ≡ l → int_eq m n ≡ e → int_lt n m ≡ g → Three (Some l) (Some e) (Some g)
    by_tests true e true p r q = absurd (both_ways m n p q)
    by_tests true true false p r q = absurd (less_itself m n p r)
    by_tests true false false p r q = inl (refl, refl, refl)
    by_tests false true true p r q = absurd (less_itself n m q (int_eq_equiv.symm n m ∙ r))
    by_tests false false true p r q = inr (inr (refl, refl, refl))
    by_tests false true false p r q = inr (inl (refl, refl, refl))
    by_tests false false false p r q = absurd (let k : int_eq m n ≡ true = neither m n p q in let z : ⊥ = cc in z)

three_ordering : (o : Ordering) → Three (Some (is_lt o)) (Some (is_eq o)) (Some (is_lt (ordering_reverse o)))
three_ordering Less = inl (refl, refl, refl)
three_ordering Equal = inr (inl (refl, refl, refl))
three_ordering Greater = inr (inr (refl, refl, refl))

three_texts : (u v : List ℕ) → Three (Some (is_before u v)) (Some (same_text u v)) (Some (is_before v u))
three_texts u v =
    subst (λ (e : Bool). Three (Some (is_before u v)) (Some e) (Some (is_before v u))) (sym (texts_ties u v))
    (subst (λ (g : Ordering). Three (Some (is_before u v)) (Some (is_eq (text_cmp u v))) (Some (is_lt g))) (sym (nat_list_cmp_total.antisymm v u))
    (three_ordering (text_cmp u v)))

three_by : (s : Bool) (x y : Operand) → less_by x y ≢ None → Three (less_by x y) (equal_by s x y) (less_by y x)
three_by s (number m) (number n) h = three_numbers m n
three_by s (boolean true) (boolean true) h = inr (inl (refl, refl, refl))
three_by s (boolean true) (boolean false) h = inr (inr (refl, refl, refl))
three_by s (boolean false) (boolean true) h = inl (refl, refl, refl)
three_by s (boolean false) (boolean false) h = inr (inl (refl, refl, refl))
three_by s (text u) (text v) h = three_texts u v
three_by s (number m) (boolean c) h = absurd (h refl)
three_by s (number m) (text v) h = absurd (h refl)
three_by s (number m) opaque h = absurd (h refl)
three_by s (number m) resource h = absurd (h refl)
three_by s (boolean b) (number n) h = absurd (h refl)
three_by s (boolean b) (text v) h = absurd (h refl)
three_by s (boolean b) opaque h = absurd (h refl)
three_by s (boolean b) resource h = absurd (h refl)
three_by s (text u) (number n) h = absurd (h refl)
three_by s (text u) (boolean c) h = absurd (h refl)
three_by s (text u) opaque h = absurd (h refl)
three_by s (text u) resource h = absurd (h refl)
three_by s opaque y h = absurd (h refl)
three_by s resource y h = absurd (h refl)

pub one_of_three : OneOfThree
one_of_three a b h = three_by (same_term a b) (operand a) (operand b) h

up_to : (l e g : Truth) → Three l e g → negated g ≡ either l e
up_to l e g (inl (p, q, r)) = (λ i. negated (r i)) ∙ sym (λ i. either (p i) (q i))
up_to l e g (inr (inl (p, q, r))) = (λ i. negated (r i)) ∙ sym (λ i. either (p i) (q i))
up_to l e g (inr (inr (p, q, r))) = (λ i. negated (r i)) ∙ sym (λ i. either (p i) (q i))

down_to : (l e g : Truth) → Three l e g → negated l ≡ either g e
down_to l e g (inl (p, q, r)) = (λ i. negated (p i)) ∙ sym (λ i. either (r i) (q i))
down_to l e g (inr (inl (p, q, r))) = (λ i. negated (p i)) ∙ sym (λ i. either (r i) (q i))
down_to l e g (inr (inr (p, q, r))) = (λ i. negated (p i)) ∙ sym (λ i. either (r i) (q i))

pub orders : OrderTable
orders = record {
  less_is = λ a b. refl;
  greater_is = λ a b. refl;
  less_or_equal = λ a b h. up_to _ _ _ (one_of_three a b h);
  greater_or_equal = λ a b h. down_to _ _ _ (one_of_three a b h);
  no_less_or_equal = λ a b h. ap negated (no_order_turned a b h);
  no_greater_or_equal = λ a b h. ap negated h;
}

-- ---- the effective boolean value

not_nought : (n : ℤ) → fits_128_bits n ≡ true → int_eq n (pos 0) ≡ false → effective (integer_term n) ≡ Some true
not_nought n f h = integer_effective n ((fits_decides n).0 f) ∙ ap (λ b. Some (not b)) h

nought_fits : fits_128_bits (pos 0) ≡ true
unfolding fits_128_bits
nought_fits = refl

past : (x : List ℕ) → fits_128_bits (written_integer x) ≡ false → integer_of (record { lexical = x; datatype = xsd_integer; tag = None }) ≡ None
unfolding integer_of
past x h = by_form (is_integer_form x)
  where
    by_form : (b : Bool) → cond (b && fits_128_bits (written_integer x)) (Some (written_integer x)) None ≡ None
    by_form true = ap (λ c. cond c (Some (written_integer x)) None) h
    by_form false = refl

pub effectives : EffectiveTable
effectives = record {
  written_true = refl;
  one = refl;
  no_truth = λ x h. ap Some h;
  empty = refl;
  not_empty = λ c x. refl;
  tagged_empty = λ datatype tag. refl;
  tagged = λ c x datatype tag. refl;
  nought = integer_effective (pos 0) ((fits_decides (pos 0)).0 nought_fits);
  not_nought = not_nought;
  no_integer = λ x h. cond-false _ _ _ h;
  past_128_bits = λ x f h. cond-true _ _ _ f ∙ ap (option_map is_not_zero) (past x h);
  other = λ datatype x b i s. cond-false _ _ _ b ∙ cond-false _ _ _ i ∙ cond-false _ _ _ s;
  iri = λ x. refl;
  blank = λ n. refl;
}

-- ---- functions

pub functions : FunctionTable
functions = record {
  kinds_of_iri = λ x. (refl, refl, refl);
  kinds_of_blank = λ n. (refl, refl, refl);
  kinds_of_literal = λ l. (refl, refl, refl);
  str_of_iri = λ x. refl;
  str_of_literal = λ l. refl;
  str_of_blank = λ n. refl;
  lang_of_tagged = λ x datatype tag. refl;
  lang_of_untagged = λ x datatype. refl;
  lang_of_iri = λ x. refl;
  lang_of_blank = λ n. refl;
  datatype_of_literal = λ l. refl;
  datatype_of_iri = λ x. refl;
  datatype_of_blank = λ n. refl;
}

-- ---- expressions

module _ (b : Bindings) where
  truth_is : (x : Expression) (term : Term) (y : Truth) → value b x ≡ Some term → effective term ≡ y → is_satisfied b x ≡ is_true y
  truth_is x term y p q = ap (λ v. is_true (truth v)) p ∙ ap is_true q

  pub filters : FilterTable b
  filters = record {
    true_stays = λ x term p q. truth_is x term (Some true) p q;
    false_goes = λ x term p q. truth_is x term (Some false) p q;
    no_truth_goes = λ x term p q. truth_is x term None p q;
    error_goes = λ x p. ap (λ v. is_true (truth v)) p;
  }

  pub variables : VariableTable b
  variables = record {
    bound = λ name term p. (value-Bound b name ∙ ap (λ v. Some (boolean_term (is_some v))) p, value-Variable b name ∙ p);
    unbound = λ name p. (value-Bound b name ∙ ap (λ v. Some (boolean_term (is_some v))) p, value-Variable b name ∙ p);
  }

  both_at : (operation : ℤ → ℤ → ℤ) (x y : Option ℤ) (m n : ℤ) → x ≡ Some m → y ≡ Some n → on_both operation x y ≡ within (operation m n)
  both_at operation x y m n p q = λ i. on_both operation (p i) (q i)

  fits_is : (n : ℤ) → fits_128_bits n ≡ true → of_number (within n) ≡ Some (integer_term n)
  fits_is n f = ap of_number (cond-true _ _ _ f)

  past_is : (n : ℤ) → fits_128_bits n ≡ false → of_number (within n) ≡ None
  past_is n f = ap of_number (cond-false _ _ _ f)

  sum_at : (x y : Expression) (sign : Sign) (m n : ℤ) → number_in (value b x) ≡ Some m → number_in (value b y) ≡ Some n
      → value b (e.Sum x ((sign, y) ∷ [])) ≡ of_number (within (plus_or_minus sign m n))
  sum_at x y sign m n p q = value-Sum b x ((sign, y) ∷ []) ∙ ap of_number (both_at (plus_or_minus sign) (number_in (value b x)) (number_in (value b y)) m n p q)

  no_second : (operation : ℤ → ℤ → ℤ) (x : Option ℤ) → on_both operation x None ≡ None
  no_second operation (Some m) = refl
  no_second operation None = refl

  no_sum : (x y : Expression) (sign : Sign) → number_in (value b y) ≡ None → value b (e.Sum x ((sign, y) ∷ [])) ≡ None
  no_sum x y sign q =
      value-Sum b x ((sign, y) ∷ [])
      ∙ ap of_number (ap (on_both (plus_or_minus sign) (number_in (value b x))) q ∙ no_second (plus_or_minus sign) (number_in (value b x)))

  once : (m : ℤ) → fits_128_bits m ≡ true → on_both times (Some (pos 1)) (Some m) ≡ Some m
  unfolding one
  once m f = ap within (*ℤ_comm (pos 1) m ∙ *ℤ-one m) ∙ cond-true _ _ _ f

  product_at : (x y : Expression) (m n : ℤ) → number_in (value b x) ≡ Some m → number_in (value b y) ≡ Some n
      → value b (e.Product (x ∷ y ∷ [])) ≡ of_number (within (m *ℤ n))
  product_at x y m n p q =
      value-Product b (x ∷ y ∷ [])
      ∙ ap of_number (both_at times (on_both times (Some (pos 1)) (number_in (value b x))) (number_in (value b y)) m n
      (ap (on_both times (Some (pos 1))) p ∙ once m (value_fits (value b x) m p)) q)

  signed_at : (x : Expression) (sign : Sign) (y : Option ℤ) → number_in (value b x) ≡ y → value b (e.Signed sign x) ≡ of_number (option_and_then (signed sign) y)
  signed_at x sign y p = value-Signed b sign x ∙ ap (λ v. of_number (option_and_then (signed sign) v)) p

  no_sign : (sign : Sign) → of_number (option_and_then (signed sign) None) ≡ None
  no_sign sign = refl

  pub numbers : NumberTable b
  numbers = record {
    sum = λ x y m n p q f. sum_at x y Plus m n p q ∙ fits_is _ f;
    sum_past = λ x y m n p q f. sum_at x y Plus m n p q ∙ past_is _ f;
    difference = λ x y m n p q f. sum_at x y Minus m n p q ∙ fits_is _ f;
    difference_past = λ x y m n p q f. sum_at x y Minus m n p q ∙ past_is _ f;
    sum_without_number = no_sum;
    product = λ x y m n p q f. product_at x y m n p q ∙ fits_is _ f;
    product_past = λ x y m n p q f. product_at x y m n p q ∙ past_is _ f;
    plus = λ x n p. signed_at x Plus (Some n) p;
    minus = λ x n p f. signed_at x Minus (Some n) p ∙ fits_is _ f;
    minus_past = λ x n p f. signed_at x Minus (Some n) p ∙ past_is _ f;
    sign_without_number = λ x sign p. signed_at x sign None p ∙ no_sign sign;
  }
