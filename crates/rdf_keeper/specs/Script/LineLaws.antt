-- The lines of a script are its text, cut behind each LF.
use Rattle.std.specs.Prelude.{◌≡◌, ◌≢◌, ◌⊎◌, ℕ, List, [], ◌∷◌, ◌++◌}
use Rattle.std.specs.List.{AllByRecursion, concat}
use Rattle.rdf_keeper.specs.Script.Lines.{raw_lines}

-- no byte is an LF
abbrev pub HasNoEnd : List ℕ → Type 0
HasNoEnd line = AllByRecursion (λ b. b ≢ 10) line

-- an LF ends the line, and stands nowhere else
abbrev pub IsEnded : List ℕ → Type 0
IsEnded line = (front : List ℕ) × (line ≡ front ++ 10 ∷ []) × HasNoEnd front

-- some bytes, and no LF
abbrev pub IsOpen : List ℕ → Type 0
IsOpen line = (line ≢ []) × HasNoEnd line

-- each line is ended, but for the last, which may be open
abbrev pub AreLines : List (List ℕ) → Type 0
AreLines [] = Unit {0}
AreLines (line ∷ []) = IsEnded line ⊎ IsOpen line
AreLines (line ∷ (other ∷ others)) = IsEnded line × AreLines (other ∷ others)

-- Put together, the lines are the text.
abbrev pub LinesAreTheText : Type 0
LinesAreTheText = (text : List ℕ) → concat (raw_lines text) ≡ text

-- An LF ends each of them but perhaps the last, and stands nowhere else; none is empty.
abbrev pub LinesAreEnded : Type 0
LinesAreEnded = (text : List ℕ) → AreLines (raw_lines text)

-- No other lines of this kind are the text.
abbrev pub OneCut : Type 0
OneCut = (lines : List (List ℕ)) → AreLines lines → raw_lines (concat lines) ≡ lines
