-- The classes of characters that the formats share, by their code points (Turtle 1.1, section 6.5).
use Rattle.std.specs.Prelude.{ℕ, Bool, Option, Some, None, ◌==◌, ◌||◌, if◌then◌else◌}
use Rattle.std.specs.Int.{is_in_range}

-- PN_CHARS_BASE
unfoldable pub is_pn_chars_base : ℕ → Bool
is_pn_chars_base c =
    is_in_range 0x41 0x5A c || is_in_range 0x61 0x7A c || is_in_range 0xC0 0xD6 c || is_in_range 0xD8 0xF6 c
    || is_in_range 0xF8 0x2FF c || is_in_range 0x370 0x37D c || is_in_range 0x37F 0x1FFF c || is_in_range 0x200C 0x200D c
    || is_in_range 0x2070 0x218F c || is_in_range 0x2C00 0x2FEF c || is_in_range 0x3001 0xD7FF c || is_in_range 0xF900 0xFDCF c
    || is_in_range 0xFDF0 0xFFFD c || is_in_range 0x1_0000 0xE_FFFF c

-- PN_CHARS_U: PN_CHARS_BASE and `_`
unfoldable pub is_pn_chars_u : ℕ → Bool
is_pn_chars_u c = is_pn_chars_base c || (c == 95)

-- PN_CHARS: PN_CHARS_U, `-`, the digits, U+00B7, U+0300 to U+036F, U+203F and U+2040
unfoldable pub is_pn_chars : ℕ → Bool
is_pn_chars c =
    is_pn_chars_u c || (c == 45) || is_in_range 48 57 c || (c == 0xB7) || is_in_range 0x300 0x36F c || is_in_range 0x203F 0x2040 c

-- What a letter behind a backslash stands for (ECHAR):  t b n r f  and  " ' \  themselves.
unfoldable pub short_escape : ℕ → Option ℕ
short_escape c =
    if c == 116 then Some 9
    else if c == 98 then Some 8
    else if c == 110 then Some 10
    else if c == 114 then Some 13
    else if c == 102 then Some 12
    else if (c == 34) || (c == 39) || (c == 92) then Some c
    else None
