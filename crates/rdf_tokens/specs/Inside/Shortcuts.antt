-- Characters at which a reader needn't look further.
use Rattle.std.specs.Prelude.{ℕ, Bool, ◌==◌, ◌||◌, not}
use Rattle.rdf_terms.specs.LineEnds.{is_line_end}

-- a comment goes on
abbrev pub in_line : ℕ → Bool
in_line c = not (is_line_end c)

-- blank, LF, `,`, `;`: no part of a local part
abbrev pub ends_local : ℕ → Bool
ends_local c = (c == 32) || (c == 10) || (c == 44) || (c == 59)

-- `:` or one of these: no part of a prefix or a label
abbrev pub ends_name : ℕ → Bool
ends_name c = (c == 58) || ends_local c

-- `;` `,` `[` `]` `(` `)` `{` `}`: a symbol, whatever follows
abbrev pub stands_alone : ℕ → Bool
stands_alone c = (c == 59) || (c == 44) || (c == 91) || (c == 93) || (c == 40) || (c == 41) || (c == 123) || (c == 125)

abbrev pub is_colon : ℕ → Bool
is_colon c = c == 58
