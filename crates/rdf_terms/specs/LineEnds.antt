-- What ends a line (RDF 1.1 N-Triples, section 7, EOL; Turtle 1.1, section 6.2).
use Rattle.std.specs.Prelude.{◌≡◌, ◌⊎◌, ℕ, Bool, false, ◌==◌, ◌||◌, List, [], ◌∷◌}

abbrev pub is_line_feed : ℕ → Bool
is_line_feed c = c == 10

abbrev pub is_return : ℕ → Bool
is_return c = c == 13

-- LF or CR, of which line ends are made
abbrev pub is_line_end : ℕ → Bool
is_line_end c = is_line_feed c || is_return c

abbrev pub begins_with_lf : List ℕ → Bool
begins_with_lf [] = false
begins_with_lf (c ∷ _) = is_line_feed c

-- Between a line and what comes behind its end: LF, or CR and LF, or a CR behind which no LF stands.
abbrev pub IsLineEnd : List ℕ → List ℕ → Type 0
IsLineEnd end behind = (end ≡ 10 ∷ []) ⊎ ((end ≡ 13 ∷ 10 ∷ []) ⊎ ((end ≡ 13 ∷ []) × (begins_with_lf behind ≡ false)))
