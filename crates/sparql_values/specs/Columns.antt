-- What stands at columns that are kept in a tree.
use Rattle.std.specs.Prelude.{◌≡◌, ℕ, ◌+◌, ◌^◌, ◌<◌, List, ◌++◌, length, Option, None, replicate}
use Rattle.rdf_terms.specs.declared.term.Term.{Term}
use Rattle.sparql_values.specs.declared.columns.Form.{Form}
use Rattle.sparql_values.specs.declared.columns.Form.TheVariants.{Plain, Nothing, Fork}

-- what stands at each column
abbrev pub values : Form → List (Option Term)
values (Plain xs) = xs.items
values (Nothing columns) = replicate columns None
values (Fork first many others) = first.value ++ others.value

-- a fork has columns on both sides, whose number fits, and knows how many the first ones are
pub record IsFork (first : List (Option Term)) (many : ℕ) (others : List (Option Term)) : Type 0 where
  pub many_is : many ≡ length first
  pub some_first : 0 < length first
  pub some_others : 0 < length others
  pub fits : length first + length others < 2 ^ 64

abbrev pub IsRight : Form → Type 0
IsRight (Plain xs) = Unit {0}
IsRight (Nothing columns) = Unit {0}
IsRight (Fork first many others) = IsFork first.value many others.value
