-- The lines of a text of bytes.
use Rattle.std.specs.Prelude.{ℕ, ◌+◌, Bool, List, [], ◌∷◌, take, ◌||◌, ◌&&◌, not, if◌then◌else◌}
use Rattle.rdf_terms.specs.LineEnds.{is_line_feed, is_return, begins_with_lf}

-- a byte, with those behind it, is the last of a line end: LF, or a CR that no LF follows
abbrev pub ends_line : ℕ → List ℕ → Bool
ends_line c behind = is_line_feed c || (is_return c && not (begins_with_lf behind))

-- how many line ends there are: LF, CR, and CRLF counting once
unfoldable pub line_ends : List ℕ → ℕ
line_ends [] = 0
line_ends (c ∷ cs) = if ends_line c cs then 1 + line_ends cs else line_ends cs

-- the number of the line of a place: 1 and the number of line ends before it
abbrev pub line_of : List ℕ → ℕ → ℕ
line_of text place = 1 + line_ends (take place text)
