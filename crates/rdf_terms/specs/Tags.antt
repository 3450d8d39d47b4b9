-- Language tags without their `@` (Turtle 1.1, section 6.5, LANGTAG), as characters of a text.
use Rattle.std.specs.Prelude.{◌≡◌, ◌<◌, ℕ, Bool, true, false, List, [], ◌∷◌, ◌++◌, length, Option, option_map, ◌==◌, ◌&&◌, if◌then◌else◌}
use Rattle.std.specs.List.{AllByRecursion}
use Rattle.std.specs.Char.{is_ascii_alphabetic, is_ascii_alphanumeric}
use Rattle.rdf_terms.specs.Skips.{some_of}

-- groups of `-` and one or more ASCII letters or digits
abbrev pub IsGroups : List ℕ → List (List ℕ) → Type 0
IsGroups slice [] = slice ≡ []
IsGroups slice (group ∷ groups) =
    (others : List ℕ) × (slice ≡ 45 ∷ (group ++ others)) × (0 < length group) × AllByRecursion (λ c. is_ascii_alphanumeric c ≡ true) group × IsGroups others groups

-- one or more ASCII letters, then groups
abbrev pub IsTagName : List ℕ → Type 0
IsTagName name =
    (c : ℕ) × (letters others : List ℕ) × (groups : List (List ℕ)) × (name ≡ c ∷ (letters ++ others)) × (is_ascii_alphabetic c ≡ true)
    × AllByRecursion (λ d. is_ascii_alphabetic d ≡ true) letters × IsGroups others groups

-- ---- reading one from left to right

unfoldable pub begins_group : List ℕ → Bool
begins_group [] = false
begins_group (c ∷ _) = is_ascii_alphanumeric c

-- what follows groups, within one or not
unfoldable pub skip_groups : Bool → List ℕ → List ℕ
skip_groups within [] = []
skip_groups within (c ∷ cs) =
    if within && is_ascii_alphanumeric c then skip_groups true cs
    else if (c == 45) && begins_group cs then skip_groups true cs
    else c ∷ cs

-- what follows LANGTAG, from behind its `@`
unfoldable pub tag_end_at : List ℕ → Option (List ℕ)
tag_end_at cs = option_map (skip_groups false) (some_of is_ascii_alphabetic is_ascii_alphabetic cs)
