-- What holds of the logical operators, of comparisons and of results (SPARQL 1.1 Query, sections 17.2 to 17.4).
use Rattle.std.specs.Prelude.{◌≡◌, pos, Bool, true, false, List, map, Some, None}
use Rattle.std.specs.List.{fold}
use Rattle.std.specs.Option.{option_and_then}
use Rattle.rdf_terms.specs.declared.term.Term.{Term}
use Rattle.sparql_trees.specs.declared.expression.Comparison.TheVariants.{Equal, NotEqual}
use Rattle.sparql_trees.specs.declared.expression.Expression.{Expression}
use Rattle.sparql_trees.specs.declared.expression.Expression.TheVariants as e
use Rattle.sparql_trees.specs.declared.expression.Sign.{Sign}
use Rattle.sparql_values.specs.Values.{Bindings, Truth, added, boolean_term, both, compared, effective, either, equal, less, negated, number_in, on_both, signed, times, value}

-- ---- the logical operators

-- both operators at a pair of truths
abbrev pub Row : Truth → Truth → Truth → Truth → Type 0
Row a b disjunction conjunction = (either a b ≡ disjunction) × (both a b ≡ conjunction)

-- the table of section 17.2, whose errors are None here
pub record LogicTable : Type 0 where
  pub true_true : Row (Some true) (Some true) (Some true) (Some true)
  pub true_false : Row (Some true) (Some false) (Some true) (Some false)
  pub false_true : Row (Some false) (Some true) (Some true) (Some false)
  pub false_false : Row (Some false) (Some false) (Some false) (Some false)
  pub true_error : Row (Some true) None (Some true) None
  pub error_true : Row None (Some true) (Some true) None
  pub false_error : Row (Some false) None None (Some false)
  pub error_false : Row None (Some false) None (Some false)
  pub error_error : Row None None None None

pub record NotTable : Type 0 where
  pub of_true : negated (Some true) ≡ Some false
  pub of_false : negated (Some false) ≡ Some true
  pub of_error : negated None ≡ None

-- ---- comparisons

abbrev pub EqualIsSymmetric : Type 0
EqualIsSymmetric = (a b : Term) → equal a b ≡ equal b a

abbrev pub EqualToItself : Type 0
EqualToItself = (a : Term) → equal a a ≡ Some true

abbrev pub NotEqualNegates : Type 0
NotEqualNegates = (a b : Term) → compared NotEqual a b ≡ negated (compared Equal a b)

abbrev pub LessOneWay : Type 0
LessOneWay = (a b : Term) → less a b ≡ Some true → less b a ≡ Some false

-- ---- results

abbrev pub TruthsComeBack : Type 0
TruthsComeBack = (b : Bool) → effective (boolean_term b) ≡ Some b

-- the value of a sum is an xsd:integer with its number, and so are those below
abbrev pub SumsComeBack : Type 0
SumsComeBack =
    (bindings : Bindings) (x : Expression) (ys : List (Sign × Expression)) →
    number_in (value bindings (e.Sum x ys)) ≡ fold added (number_in (value bindings x)) (map (λ y. (y.0, value bindings y.1)) ys)

abbrev pub ProductsComeBack : Type 0
ProductsComeBack =
    (bindings : Bindings) (xs : List Expression) →
    number_in (value bindings (e.Product xs)) ≡ fold (on_both times) (Some (pos 1)) (map (λ x. number_in (value bindings x)) xs)

abbrev pub SignedComeBack : Type 0
SignedComeBack =
    (bindings : Bindings) (sign : Sign) (x : Expression) →
    number_in (value bindings (e.Signed sign x)) ≡ option_and_then (signed sign) (number_in (value bindings x))
