-- The standard's tables, kind by kind of terms (SPARQL 1.1 Query, sections 17.1 to 17.4).
use Rattle.std.specs.Prelude.{◌≡◌, ◌≢◌, ◌⊎◌, ◌++◌, ℕ, ◌-◌, ◌^◌, ◌+◌, ℤ, pos, ◌+ℤ◌, ◌-ℤ◌, ◌*ℤ◌, neg_ℤ, int_lt, Bool, true, false, List, [], ◌∷◌, codes, Some, None}
use Rattle.std.specs.Ordering.{int_eq}
use Rattle.rdf_terms.specs.Integers.{integer_of, is_integer_form, fits_128_bits, written_integer}
use Rattle.rdf_terms.specs.Literal.{LiteralParts, xsd_string}
use Rattle.rdf_terms.specs.Vocabulary.{xsd_boolean, xsd_integer}
use Rattle.rdf_terms.specs.declared.term.Term.{Term}
use Rattle.rdf_terms.specs.declared.term.Term.TheVariants as t
use Rattle.sparql_trees.specs.declared.expression.Comparison.{Comparison}
use Rattle.sparql_trees.specs.declared.expression.Comparison.TheVariants.{Less, Greater, LessOrEqual, GreaterOrEqual}
use Rattle.sparql_trees.specs.declared.expression.Expression.{Expression}
use Rattle.sparql_trees.specs.declared.expression.Expression.TheVariants as e
use Rattle.sparql_trees.specs.declared.expression.Function.{Function}
use Rattle.sparql_trees.specs.declared.expression.Function.TheVariants.{IsIri, IsBlank, IsLiteral, Str, Lang, Datatype}
use Rattle.sparql_trees.specs.declared.expression.Sign.{Sign}
use Rattle.sparql_trees.specs.declared.expression.Sign.TheVariants.{Plus, Minus}
use Rattle.sparql_values.specs.Mapping.{same_term}
use Rattle.sparql_values.specs.Values.{Bindings, Value, number, boolean, text, opaque, resource, boolean_term, both, called, compared, effective, either, equal, has_datatype, integer_term, is_before, is_satisfied, is_written_false, is_written_true, less, negated, number_in, operand, same_text, truth, value}

-- a literal without a tag
abbrev pub literal : List ℕ → List ℕ → Term
literal datatype lexical = t.Literal (record { lexical = lexical; datatype = datatype; tag = None })

-- ---- which kind a term is of (section 17.1)

pub record KindTable : Type 0 where
  pub string : (x : List ℕ) → operand (literal xsd_string x) ≡ text x
  pub written_true : operand (literal xsd_boolean (codes "true")) ≡ boolean true
  pub one : operand (literal xsd_boolean (codes "1")) ≡ boolean true
  pub written_false : operand (literal xsd_boolean (codes "false")) ≡ boolean false
  pub zero : operand (literal xsd_boolean (codes "0")) ≡ boolean false
  pub no_boolean : (x : List ℕ) → is_written_true x ≡ false → is_written_false x ≡ false → operand (literal xsd_boolean x) ≡ opaque
  pub integer : (l : LiteralParts) (n : ℤ) → integer_of l ≡ Some n → operand (t.Literal l) ≡ number n
  pub no_integer : (x : List ℕ) → integer_of (record { lexical = x; datatype = xsd_integer; tag = None }) ≡ None → operand (literal xsd_integer x) ≡ opaque
  -- decimals, doubles, dates, tagged strings, and all that nobody knows
  pub other : (l : LiteralParts) → has_datatype xsd_string l ≡ false → has_datatype xsd_boolean l ≡ false → has_datatype xsd_integer l ≡ false →
      operand (t.Literal l) ≡ opaque
  pub iri : (x : List ℕ) → operand (t.Iri x) ≡ resource
  pub blank : (n : ℕ) → operand (t.Blank n) ≡ resource

-- the whole numbers of 128 bits
pub record BoundTable : Type 0 where
  pub greatest : fits_128_bits (pos (2 ^ 127 - 1)) ≡ true
  pub past_it : fits_128_bits (pos (2 ^ 127)) ≡ false
  pub least : fits_128_bits (neg_ℤ (pos (2 ^ 127))) ≡ true
  pub below_it : fits_128_bits (neg_ℤ (pos (2 ^ 127 + 1))) ≡ false

-- ---- `=` (section 17.3)

pub record EqualTable : Type 0 where
  pub numbers : (a b : Term) (m n : ℤ) → operand a ≡ number m → operand b ≡ number n → equal a b ≡ Some (int_eq m n)
  pub strings : (a b : Term) (x y : List ℕ) → operand a ≡ text x → operand b ≡ text y → equal a b ≡ Some (same_text x y)
  pub both_true : (a b : Term) → operand a ≡ boolean true → operand b ≡ boolean true → equal a b ≡ Some true
  pub both_false : (a b : Term) → operand a ≡ boolean false → operand b ≡ boolean false → equal a b ≡ Some true
  pub true_false : (a b : Term) → operand a ≡ boolean true → operand b ≡ boolean false → equal a b ≡ Some false
  -- IRIs and blank nodes are equal to themselves alone
  pub resources : (a b : Term) → operand a ≡ resource → operand b ≡ resource → equal a b ≡ Some (same_term a b)
  pub resource_and_literal : (a : Term) (l : LiteralParts) → operand a ≡ resource → equal a (t.Literal l) ≡ Some false
  -- and so are opaque literals, but nobody knows whether others stand for the same value
  pub opaque_itself : (a : Term) → equal a a ≡ Some true
  pub opaque_others : (a b : Term) → operand a ≡ opaque → operand b ≡ opaque → same_term a b ≡ false → equal a b ≡ None
  pub number_and_string : (a b : Term) (n : ℤ) (x : List ℕ) → operand a ≡ number n → operand b ≡ text x → equal a b ≡ None
  pub number_and_boolean : (a b : Term) (n : ℤ) (c : Bool) → operand a ≡ number n → operand b ≡ boolean c → equal a b ≡ None
  pub number_and_opaque : (a b : Term) (n : ℤ) → operand a ≡ number n → operand b ≡ opaque → equal a b ≡ None
  pub string_and_boolean : (a b : Term) (x : List ℕ) (c : Bool) → operand a ≡ text x → operand b ≡ boolean c → equal a b ≡ None
  pub string_and_opaque : (a b : Term) (x : List ℕ) → operand a ≡ text x → operand b ≡ opaque → equal a b ≡ None
  pub boolean_and_opaque : (a b : Term) (c : Bool) → operand a ≡ boolean c → operand b ≡ opaque → equal a b ≡ None

-- ---- `<` and its like (section 17.3)

pub record LessTable : Type 0 where
  pub numbers : (a b : Term) (m n : ℤ) → operand a ≡ number m → operand b ≡ number n → less a b ≡ Some (int_lt m n)
  pub strings : (a b : Term) (x y : List ℕ) → operand a ≡ text x → operand b ≡ text y → less a b ≡ Some (is_before x y)
  pub false_true : (a b : Term) → operand a ≡ boolean false → operand b ≡ boolean true → less a b ≡ Some true
  pub true_false : (a b : Term) → operand a ≡ boolean true → operand b ≡ boolean false → less a b ≡ Some false
  pub both_true : (a b : Term) → operand a ≡ boolean true → operand b ≡ boolean true → less a b ≡ Some false
  pub both_false : (a b : Term) → operand a ≡ boolean false → operand b ≡ boolean false → less a b ≡ Some false
  pub opaque : (a b : Term) → operand a ≡ opaque → less a b ≡ None
  pub resource : (a b : Term) → operand a ≡ resource → less a b ≡ None
  pub number_and_string : (a b : Term) (n : ℤ) (x : List ℕ) → operand a ≡ number n → operand b ≡ text x → less a b ≡ None
  pub number_and_boolean : (a b : Term) (n : ℤ) (c : Bool) → operand a ≡ number n → operand b ≡ boolean c → less a b ≡ None
  pub string_and_boolean : (a b : Term) (x : List ℕ) (c : Bool) → operand a ≡ text x → operand b ≡ boolean c → less a b ≡ None

-- what has no order one way has none the other way
abbrev pub NoOrderTurned : Type 0
NoOrderTurned = (a b : Term) → less a b ≡ None → less b a ≡ None

-- of two terms that have an order one is less, or they are equal, and no two of these hold
abbrev pub OneOfThree : Type 0
OneOfThree = (a b : Term) → less a b ≢ None →
    ((less a b ≡ Some true) × (equal a b ≡ Some false) × (less b a ≡ Some false))
    ⊎ ((less a b ≡ Some false) × (equal a b ≡ Some true) × (less b a ≡ Some false))
    ⊎ ((less a b ≡ Some false) × (equal a b ≡ Some false) × (less b a ≡ Some true))

-- the four comparisons of terms that have an order, and of those that have none
pub record OrderTable : Type 0 where
  pub less_is : (a b : Term) → compared Less a b ≡ less a b
  pub greater_is : (a b : Term) → compared Greater a b ≡ less b a
  pub less_or_equal : (a b : Term) → less a b ≢ None → compared LessOrEqual a b ≡ either (less a b) (equal a b)
  pub greater_or_equal : (a b : Term) → less a b ≢ None → compared GreaterOrEqual a b ≡ either (less b a) (equal a b)
  pub no_less_or_equal : (a b : Term) → less a b ≡ None → compared LessOrEqual a b ≡ None
  pub no_greater_or_equal : (a b : Term) → less a b ≡ None → compared GreaterOrEqual a b ≡ None

-- ---- the effective boolean value (section 17.2.2)

pub record EffectiveTable : Type 0 where
  pub written_true : effective (literal xsd_boolean (codes "true")) ≡ Some true
  pub one : effective (literal xsd_boolean (codes "1")) ≡ Some true
  -- one that isn't well formed is false, as `false` and `0` are
  pub no_truth : (x : List ℕ) → is_written_true x ≡ false → effective (literal xsd_boolean x) ≡ Some false
  pub empty : effective (literal xsd_string []) ≡ Some false
  pub not_empty : (c : ℕ) (x : List ℕ) → effective (literal xsd_string (c ∷ x)) ≡ Some true
  pub tagged_empty : (datatype tag : List ℕ) → effective (t.Literal (record { lexical = []; datatype = datatype; tag = Some tag })) ≡ Some false
  pub tagged : (c : ℕ) (x datatype tag : List ℕ) → effective (t.Literal (record { lexical = c ∷ x; datatype = datatype; tag = Some tag })) ≡ Some true
  pub nought : effective (integer_term (pos 0)) ≡ Some false
  pub not_nought : (n : ℤ) → fits_128_bits n ≡ true → int_eq n (pos 0) ≡ false → effective (integer_term n) ≡ Some true
  pub no_integer : (x : List ℕ) → is_integer_form x ≡ false → effective (literal xsd_integer x) ≡ Some false
  pub past_128_bits : (x : List ℕ) → is_integer_form x ≡ true → fits_128_bits (written_integer x) ≡ false → effective (literal xsd_integer x) ≡ None
  pub other : (datatype x : List ℕ) → same_text datatype xsd_boolean ≡ false → same_text datatype xsd_integer ≡ false → same_text datatype xsd_string ≡ false →
      effective (literal datatype x) ≡ None
  pub iri : (x : List ℕ) → effective (t.Iri x) ≡ None
  pub blank : (n : ℕ) → effective (t.Blank n) ≡ None

-- ---- functions (section 17.4.2)

abbrev pub yes : Value
yes = Some (boolean_term true)

abbrev pub no : Value
no = Some (boolean_term false)

pub record FunctionTable : Type 0 where
  pub kinds_of_iri : (x : List ℕ) → (called IsIri (t.Iri x) ≡ yes) × (called IsBlank (t.Iri x) ≡ no) × (called IsLiteral (t.Iri x) ≡ no)
  pub kinds_of_blank : (n : ℕ) → (called IsIri (t.Blank n) ≡ no) × (called IsBlank (t.Blank n) ≡ yes) × (called IsLiteral (t.Blank n) ≡ no)
  pub kinds_of_literal : (l : LiteralParts) → (called IsIri (t.Literal l) ≡ no) × (called IsBlank (t.Literal l) ≡ no) × (called IsLiteral (t.Literal l) ≡ yes)
  pub str_of_iri : (x : List ℕ) → called Str (t.Iri x) ≡ Some (literal xsd_string x)
  pub str_of_literal : (l : LiteralParts) → called Str (t.Literal l) ≡ Some (literal xsd_string l.lexical)
  pub str_of_blank : (n : ℕ) → called Str (t.Blank n) ≡ None
  pub lang_of_tagged : (x datatype tag : List ℕ) →
      called Lang (t.Literal (record { lexical = x; datatype = datatype; tag = Some tag })) ≡ Some (literal xsd_string tag)
  pub lang_of_untagged : (x datatype : List ℕ) → called Lang (literal datatype x) ≡ Some (literal xsd_string [])
  pub lang_of_iri : (x : List ℕ) → called Lang (t.Iri x) ≡ None
  pub lang_of_blank : (n : ℕ) → called Lang (t.Blank n) ≡ None
  pub datatype_of_literal : (l : LiteralParts) → called Datatype (t.Literal l) ≡ Some (t.Iri l.datatype)
  pub datatype_of_iri : (x : List ℕ) → called Datatype (t.Iri x) ≡ None
  pub datatype_of_blank : (n : ℕ) → called Datatype (t.Blank n) ≡ None

-- ---- expressions

-- FILTER keeps a solution where the expression is true, and not where it is false, an error, or has no effective boolean value
pub record FilterTable (bindings : Bindings) : Type 0 where
  pub true_stays : (x : Expression) (term : Term) → value bindings x ≡ Some term → effective term ≡ Some true → is_satisfied bindings x ≡ true
  pub false_goes : (x : Expression) (term : Term) → value bindings x ≡ Some term → effective term ≡ Some false → is_satisfied bindings x ≡ false
  pub no_truth_goes : (x : Expression) (term : Term) → value bindings x ≡ Some term → effective term ≡ None → is_satisfied bindings x ≡ false
  pub error_goes : (x : Expression) → value bindings x ≡ None → is_satisfied bindings x ≡ false

pub record VariableTable (bindings : Bindings) : Type 0 where
  pub bound : (name : List ℕ) (term : Term) → bindings name ≡ Some term → (value bindings (e.Bound name) ≡ yes) × (value bindings (e.Variable name) ≡ Some term)
  pub unbound : (name : List ℕ) → bindings name ≡ None → (value bindings (e.Bound name) ≡ no) × (value bindings (e.Variable name) ≡ None)

-- A sum, a difference, a product or a number behind a sign is the xsd:integer of its number, an error past 128 bits, and an error where a part
-- is no number (section 17.3).
pub record NumberTable (bindings : Bindings) : Type 0 where
  pub sum : (x y : Expression) (m n : ℤ) → number_in (value bindings x) ≡ Some m → number_in (value bindings y) ≡ Some n →
      fits_128_bits (m +ℤ n) ≡ true → value bindings (e.Sum x ((Plus, y) ∷ [])) ≡ Some (integer_term (m +ℤ n))
  pub sum_past : (x y : Expression) (m n : ℤ) → number_in (value bindings x) ≡ Some m → number_in (value bindings y) ≡ Some n →
      fits_128_bits (m +ℤ n) ≡ false → value bindings (e.Sum x ((Plus, y) ∷ [])) ≡ None
  pub difference : (x y : Expression) (m n : ℤ) → number_in (value bindings x) ≡ Some m → number_in (value bindings y) ≡ Some n →
      fits_128_bits (m -ℤ n) ≡ true → value bindings (e.Sum x ((Minus, y) ∷ [])) ≡ Some (integer_term (m -ℤ n))
  pub difference_past : (x y : Expression) (m n : ℤ) → number_in (value bindings x) ≡ Some m → number_in (value bindings y) ≡ Some n →
      fits_128_bits (m -ℤ n) ≡ false → value bindings (e.Sum x ((Minus, y) ∷ [])) ≡ None
  pub sum_without_number : (x y : Expression) (sign : Sign) → number_in (value bindings y) ≡ None → value bindings (e.Sum x ((sign, y) ∷ [])) ≡ None
  pub product : (x y : Expression) (m n : ℤ) → number_in (value bindings x) ≡ Some m → number_in (value bindings y) ≡ Some n →
      fits_128_bits (m *ℤ n) ≡ true → value bindings (e.Product (x ∷ y ∷ [])) ≡ Some (integer_term (m *ℤ n))
  pub product_past : (x y : Expression) (m n : ℤ) → number_in (value bindings x) ≡ Some m → number_in (value bindings y) ≡ Some n →
      fits_128_bits (m *ℤ n) ≡ false → value bindings (e.Product (x ∷ y ∷ [])) ≡ None
  pub plus : (x : Expression) (n : ℤ) → number_in (value bindings x) ≡ Some n → value bindings (e.Signed Plus x) ≡ Some (integer_term n)
  pub minus : (x : Expression) (n : ℤ) → number_in (value bindings x) ≡ Some n → fits_128_bits (neg_ℤ n) ≡ true →
      value bindings (e.Signed Minus x) ≡ Some (integer_term (neg_ℤ n))
  pub minus_past : (x : Expression) (n : ℤ) → number_in (value bindings x) ≡ Some n → fits_128_bits (neg_ℤ n) ≡ false →
      value bindings (e.Signed Minus x) ≡ None
  pub sign_without_number : (x : Expression) (sign : Sign) → number_in (value bindings x) ≡ None → value bindings (e.Signed sign x) ≡ None

-- What each form of an expression makes of its parts: the operators of section 17.2 over effective boolean values, comparisons and functions over
-- terms, and an error where a part is one
pub record FormTable (bindings : Bindings) : Type 0 where
  pub disjunction_of_one : (x : Expression) → truth (value bindings (e.Or (x ∷ []))) ≡ truth (value bindings x)
  pub disjunction : (xs : List Expression) (x : Expression) →
      truth (value bindings (e.Or (xs ++ x ∷ []))) ≡ either (truth (value bindings (e.Or xs))) (truth (value bindings x))
  pub conjunction_of_one : (x : Expression) → truth (value bindings (e.And (x ∷ []))) ≡ truth (value bindings x)
  pub conjunction : (xs : List Expression) (x : Expression) →
      truth (value bindings (e.And (xs ++ x ∷ []))) ≡ both (truth (value bindings (e.And xs))) (truth (value bindings x))
  pub negation : (x : Expression) → truth (value bindings (e.Not x)) ≡ negated (truth (value bindings x))
  pub comparison : (c : Comparison) (x y : Expression) (s u : Term) → value bindings x ≡ Some s → value bindings y ≡ Some u →
      truth (value bindings (e.Compare c x y)) ≡ compared c s u
  pub comparison_with_error : (c : Comparison) (x y : Expression) → (value bindings x ≡ None) ⊎ (value bindings y ≡ None) → value bindings (e.Compare c x y) ≡ None
  -- section 17.4.1.8
  pub same_term_is : (x y : Expression) (s : Term) → value bindings x ≡ Some s → value bindings y ≡ Some s → value bindings (e.SameTerm x y) ≡ yes
  pub same_term_is_not : (x y : Expression) (s u : Term) → value bindings x ≡ Some s → value bindings y ≡ Some u → s ≢ u → value bindings (e.SameTerm x y) ≡ no
  pub same_term_with_error : (x y : Expression) → (value bindings x ≡ None) ⊎ (value bindings y ≡ None) → value bindings (e.SameTerm x y) ≡ None
  pub call : (f : Function) (x : Expression) (s : Term) → value bindings x ≡ Some s → value bindings (e.Call f x) ≡ called f s
  pub call_of_error : (f : Function) (x : Expression) → value bindings x ≡ None → value bindings (e.Call f x) ≡ None
  pub constant : (s : Term) → value bindings (e.Term s) ≡ Some s
