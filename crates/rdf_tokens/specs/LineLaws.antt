-- That the number of a line counts the line ends before it.
use Rattle.std.specs.Prelude.{◌≡◌, ℕ, false, List, [], ◌∷◌, ◌++◌, length}
use Rattle.std.specs.List.{AllByRecursion}
use Rattle.rdf_terms.specs.LineEnds.{is_line_end, IsLineEnd}
use Rattle.rdf_tokens.specs.Lines.{line_ends}

-- neither LF nor CR
abbrev pub IsLine : List ℕ → Type 0
IsLine line = AllByRecursion (λ c. is_line_end c ≡ false) line

-- The text is these lines, each with its end behind it, and then perhaps a last line without an end.
abbrev pub HasLines : List ℕ → List (List ℕ) → Type 0
HasLines text [] = IsLine text
HasLines text (line ∷ lines) = (end rest : List ℕ) × (text ≡ line ++ (end ++ rest)) × IsLine line × IsLineEnd end rest × HasLines rest lines

-- ---- laws

abbrev pub TextsHaveLines : Type 0
TextsHaveLines = (text : List ℕ) → (lines : List (List ℕ)) × HasLines text lines

abbrev pub LineEndsAreCounted : Type 0
LineEndsAreCounted = (text : List ℕ) (lines : List (List ℕ)) → HasLines text lines → line_ends text ≡ length lines
