-- The values of expressions (SPARQL 1.1 Query, sections 17.2 to 17.4), over the types of this profile: whole numbers, truth values and
-- strings. Every other literal is a term and nothing more.
use Rattle.std.specs.Prelude.{ℕ, ℤ, pos, ◌+ℤ◌, ◌-ℤ◌, ◌*ℤ◌, neg_ℤ, int_lt, Bool, true, false, not, ◌&&◌, ◌||◌, if◌then◌else◌, nat_eq, List, [], ◌∷◌, map, codes, Option, Some, None, is_some}
use Rattle.std.specs.Cmp.Lexicographic.{pointwise}
use Rattle.std.specs.List.{fold}
use Rattle.std.specs.Option.{option_map, option_and_then}
use Rattle.std.specs.Ordering.{int_eq, is_lt}
use Rattle.rdf_terms.specs.Integers.{integer_of, integer_literal, is_integer_form, fits_128_bits}
use Rattle.rdf_terms.specs.Literal.{LiteralParts, xsd_string}
use Rattle.rdf_terms.specs.Order.{text_cmp}
use Rattle.rdf_terms.specs.Vocabulary.{xsd_boolean, xsd_integer}
use Rattle.rdf_terms.specs.declared.term.Term.{Term}
use Rattle.rdf_terms.specs.declared.term.Term.TheVariants as t
use Rattle.sparql_trees.specs.declared.expression.Comparison.{Comparison}
use Rattle.sparql_trees.specs.declared.expression.Comparison.TheVariants as c
use Rattle.sparql_trees.specs.declared.expression.Function.{Function}
use Rattle.sparql_trees.specs.declared.expression.Function.TheVariants as f
use Rattle.sparql_trees.specs.declared.expression.Sign.{Sign}
use Rattle.sparql_trees.specs.declared.expression.Sign.TheVariants.{Plus, Minus}
use Rattle.sparql_trees.specs.declared.expression.Expression.{Expression}
use Rattle.sparql_trees.specs.declared.expression.Expression.TheOpen.{Expression-F}
use Rattle.sparql_trees.specs.declared.expression.Expression.TheFolds.{fold-Expression}
use Rattle.sparql_values.specs.Mapping.{same_term}

-- what an expression is: a term, or none where it is an error
abbrev pub Value : Type 0
Value = Option Term

-- true, false, or none where it is an error
abbrev pub Truth : Type 0
Truth = Option Bool

-- what a solution binds
abbrev pub Bindings : Type 0
Bindings = List ℕ → Option Term

-- ---- literals (section 17.1)

abbrev pub same_text : List ℕ → List ℕ → Bool
same_text a b = pointwise nat_eq a b

abbrev pub has_datatype : List ℕ → LiteralParts → Bool
has_datatype iri l = same_text l.datatype iri

abbrev pub is_written_true : List ℕ → Bool
is_written_true text = same_text text (codes "true") || same_text text (codes "1")

abbrev pub is_written_false : List ℕ → Bool
is_written_false text = same_text text (codes "false") || same_text text (codes "0")

-- a term as an operand: a whole number, a truth value, a string, another literal, or no literal
pub data Operand : Type 0 where
  number : ℤ → Operand
  boolean : Bool → Operand
  text : List ℕ → Operand
  opaque : Operand
  resource : Operand

abbrev pub number_or_opaque : Option ℤ → Operand
number_or_opaque (Some n) = number n
number_or_opaque None = opaque

abbrev pub boolean_operand : List ℕ → Operand
boolean_operand lexical =
    if is_written_true lexical then boolean true else if is_written_false lexical then boolean false else opaque

abbrev pub literal_operand : LiteralParts → Operand
literal_operand l =
    if has_datatype xsd_string l then text l.lexical
    else if has_datatype xsd_boolean l then boolean_operand l.lexical
    else number_or_opaque (integer_of l)

abbrev pub operand : Term → Operand
operand (t.Literal l) = literal_operand l
operand (t.Iri iri) = resource
operand (t.Blank b) = resource

-- ---- the effective boolean value (section 17.2.2); that of a tagged string is this project's own

abbrev pub is_not_empty : List ℕ → Bool
is_not_empty [] = false
is_not_empty (c ∷ cs) = true

abbrev pub is_not_zero : ℤ → Bool
is_not_zero n = not (int_eq n (pos 0))

-- false where it is no whole number at all, an error where it is one past 128 bits
abbrev pub integer_truth : LiteralParts → Truth
integer_truth l = if is_integer_form l.lexical then option_map is_not_zero (integer_of l) else Some false

abbrev pub untagged_truth : LiteralParts → Truth
untagged_truth l =
    if has_datatype xsd_boolean l then Some (is_written_true l.lexical)
    else if has_datatype xsd_integer l then integer_truth l
    else if has_datatype xsd_string l then Some (is_not_empty l.lexical)
    else None

abbrev pub literal_truth : LiteralParts → Option (List ℕ) → Truth
literal_truth l (Some tag) = Some (is_not_empty l.lexical)
literal_truth l None = untagged_truth l

abbrev pub effective : Term → Truth
effective (t.Literal l) = literal_truth l l.tag
effective (t.Iri iri) = None
effective (t.Blank b) = None

-- ---- the logical operators (section 17.2)

-- true where one side is true, else an error where one side is one
abbrev pub either : Truth → Truth → Truth
either (Some true) y = Some true
either (Some false) y = y
either None (Some true) = Some true
either None _ = None

-- false where one side is false, else an error where one side is one
abbrev pub both : Truth → Truth → Truth
both (Some false) y = Some false
both (Some true) y = y
both None (Some false) = Some false
both None _ = None

abbrev pub negated : Truth → Truth
negated x = option_map not x

-- ---- comparisons (sections 17.3 and 17.4.1.7)

-- two literals that differ may have the same value, which nobody knows
abbrev pub equal_terms : Bool → Operand → Operand → Truth
equal_terms true x y = Some true
equal_terms false resource y = Some false
equal_terms false x resource = Some false
equal_terms false x y = None

-- by value, where both are whole numbers, truth values or strings; else by term
abbrev pub equal_by : Bool → Operand → Operand → Truth
equal_by same (number a) (number b) = Some (int_eq a b)
equal_by same (boolean a) (boolean b) = Some (if a then b else not b)
equal_by same (text a) (text b) = Some (same_text a b)
equal_by same x y = equal_terms same x y

abbrev pub equal : Term → Term → Truth
equal a b = equal_by (same_term a b) (operand a) (operand b)

abbrev pub is_before : List ℕ → List ℕ → Bool
is_before a b = is_lt (text_cmp a b)

-- whole numbers by value, false before true, strings by their code points; anything else is an error
abbrev pub less_by : Operand → Operand → Truth
less_by (number a) (number b) = Some (int_lt a b)
less_by (boolean a) (boolean b) = Some (not a && b)
less_by (text a) (text b) = Some (is_before a b)
less_by _ _ = None

abbrev pub less : Term → Term → Truth
less a b = less_by (operand a) (operand b)

abbrev pub compared : Comparison → Term → Term → Truth
compared c.Equal a b = equal a b
compared c.NotEqual a b = negated (equal a b)
compared c.Less a b = less a b
compared c.Greater a b = less b a
compared c.LessOrEqual a b = negated (less b a)
compared c.GreaterOrEqual a b = negated (less a b)

-- ---- whole numbers (section 17.3): a result past 128 bits is an error

abbrev pub within : ℤ → Option ℤ
within n = if fits_128_bits n then Some n else None

abbrev pub on_both : (ℤ → ℤ → ℤ) → Option ℤ → Option ℤ → Option ℤ
on_both operation x y = option_and_then (λ a. option_and_then (λ b. within (operation a b)) y) x

abbrev pub signed : Sign → ℤ → Option ℤ
signed Plus n = Some n
signed Minus n = within (neg_ℤ n)

abbrev pub plus_or_minus : Sign → ℤ → ℤ → ℤ
plus_or_minus Plus a b = a +ℤ b
plus_or_minus Minus a b = a -ℤ b

abbrev pub times : ℤ → ℤ → ℤ
times a b = a *ℤ b

abbrev pub number_of_operand : Operand → Option ℤ
number_of_operand (number n) = Some n
number_of_operand _ = None

-- ---- values as terms

abbrev pub string_term : List ℕ → Term
string_term characters = t.Literal (record { lexical = characters; datatype = xsd_string; tag = None })

abbrev pub boolean_text : Bool → List ℕ
boolean_text true = codes "true"
boolean_text false = codes "false"

abbrev pub boolean_term : Bool → Term
boolean_term b = t.Literal (record { lexical = boolean_text b; datatype = xsd_boolean; tag = None })

abbrev pub integer_term : ℤ → Term
integer_term n = t.Literal (integer_literal n)

-- ---- functions (section 17.4.2)

abbrev pub is_iri : Term → Bool
is_iri (t.Iri iri) = true
is_iri _ = false

abbrev pub is_blank : Term → Bool
is_blank (t.Blank b) = true
is_blank _ = false

abbrev pub is_literal : Term → Bool
is_literal (t.Literal l) = true
is_literal _ = false

abbrev pub str : Term → Value
str (t.Iri iri) = Some (string_term iri)
str (t.Literal l) = Some (string_term l.lexical)
str (t.Blank b) = None

abbrev pub tag_text : Option (List ℕ) → List ℕ
tag_text None = []
tag_text (Some tag) = tag

abbrev pub lang : Term → Value
lang (t.Literal l) = Some (string_term (tag_text l.tag))
lang _ = None

abbrev pub datatype : Term → Value
datatype (t.Literal l) = Some (t.Iri l.datatype)
datatype _ = None

abbrev pub called : Function → Term → Value
called f.IsIri x = Some (boolean_term (is_iri x))
called f.IsBlank x = Some (boolean_term (is_blank x))
called f.IsLiteral x = Some (boolean_term (is_literal x))
called f.Str x = str x
called f.Lang x = lang x
called f.Datatype x = datatype x

-- ---- expressions

abbrev pub truth : Value → Truth
truth x = option_and_then effective x

abbrev pub number_in : Value → Option ℤ
number_in x = option_and_then (λ term. number_of_operand (operand term)) x

abbrev pub of_truth : Truth → Value
of_truth x = option_map boolean_term x

abbrev pub of_number : Option ℤ → Value
of_number x = option_map integer_term x

-- the sum so far, and a value that is added to it or taken from it
abbrev pub added : Option ℤ → Sign × Value → Option ℤ
added x y = on_both (plus_or_minus y.0) x (number_in y.1)

abbrev pub is_true : Truth → Bool
is_true (Some true) = true
is_true _ = false

module _ (bindings : Bindings) where
  abbrev pub value_by : Expression-F Value → Value
  value_by (Expression-F.Or xs) = of_truth (fold either (Some false) (map truth xs))
  value_by (Expression-F.And xs) = of_truth (fold both (Some true) (map truth xs))
  value_by (Expression-F.Compare operator x y) = of_truth (option_and_then (λ a. option_and_then (compared operator a) y) x)
  value_by (Expression-F.Sum x ys) = of_number (fold added (number_in x) ys)
  value_by (Expression-F.Product xs) = of_number (fold (on_both times) (Some (pos 1)) (map number_in xs))
  value_by (Expression-F.Not x) = of_truth (negated (truth x))
  value_by (Expression-F.Signed sign x) = of_number (option_and_then (signed sign) (number_in x))
  value_by (Expression-F.Variable name) = bindings name
  value_by (Expression-F.Term term) = Some term
  value_by (Expression-F.Bound name) = Some (boolean_term (is_some (bindings name)))
  value_by (Expression-F.SameTerm x y) = of_truth (option_and_then (λ a. option_map (same_term a) y) x)
  value_by (Expression-F.Call function x) = option_and_then (called function) x

  -- the value of an expression
  abbrev pub value : Expression → Value
  value = fold-Expression Value value_by

  -- whether a solution passes a FILTER: the expression's effective boolean value is true, neither false nor an error (section 18.5: Filter)
  abbrev pub is_satisfied : Expression → Bool
  is_satisfied e = is_true (truth (value e))
