-- Quad patterns whose blank nodes have numbers below a limit.
use Rattle.std.specs.Prelude.{ℕ, List}
use Rattle.std.specs.List.{AllByRecursion}
use Rattle.rdf_terms.specs.Below.{IsTermBelow}
use Rattle.sparql_drafts.specs.declared.draft.QuadPattern.{QuadPattern}
use Rattle.sparql_drafts.specs.declared.draft.VarOrTerm.{VarOrTerm}
use Rattle.sparql_drafts.specs.declared.draft.VarOrTerm.TheVariants as place

-- a blank node has a number below the limit
abbrev pub IsPlaceBelow : ℕ → VarOrTerm → Type 0
IsPlaceBelow limit (place.Variable name) = Unit {0}
IsPlaceBelow limit (place.Term t) = IsTermBelow limit t

abbrev pub IsPatternBelow : ℕ → QuadPattern → Type 0
IsPatternBelow limit p = IsPlaceBelow limit p.subject × IsPlaceBelow limit p.object

abbrev pub ArePatternsBelow : ℕ → List QuadPattern → Type 0
ArePatternsBelow limit patterns = AllByRecursion (IsPatternBelow limit) patterns
