-- The lines of a text and what ends them.
use Rattle.std.specs.Prelude.{◌≡◌, ◌≢◌, ◌⊎◌, ℕ, false, List, [], ◌∷◌, ◌++◌}
use Rattle.std.specs.List.{list_any}
use Rattle.rdf_terms.specs.LineEnds.{is_line_end, IsLineEnd}
use Rattle.rdf_lines.specs.Lines.{lines}

-- What stands between a line and what comes behind: a line end, or nothing at the end of the text, behind a line that isn't empty.
abbrev pub EndsLine : List ℕ → List ℕ → List ℕ → Type 0
EndsLine line end behind = IsLineEnd end behind ⊎ ((end ≡ []) × (behind ≡ []) × (line ≢ []))

-- These lines, none of which holds LF or CR, are the text, each with its end.
abbrev pub AreTheText : List (List ℕ) → List ℕ → Type 0
AreTheText [] text = text ≡ []
AreTheText (line ∷ more) text =
    (end behind : List ℕ) × (text ≡ line ++ (end ++ behind)) × (list_any is_line_end line ≡ false) × EndsLine line end behind × AreTheText more behind

-- The lines of a text are it.
abbrev pub LinesAreTheText : Type 0
LinesAreTheText = (text : List ℕ) → AreTheText (lines text) text

-- No others are.
abbrev pub NoOthersAreTheText : Type 0
NoOthersAreTheText = (text : List ℕ) (others : List (List ℕ)) → AreTheText others text → others ≡ lines text
