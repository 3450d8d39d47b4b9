-- Where a text is cut: at the first of a character, and after the last slash.
use Rattle.std.specs.Prelude.{ℕ, ◌==◌, if◌then◌else◌, List, [], ◌∷◌, Option, None, Some}
use Rattle.std.specs.List.{list_any}

abbrev pub number_sign : ℕ
number_sign = 35

abbrev pub slash : ℕ
slash = 47

abbrev pub colon : ℕ
colon = 58

abbrev pub question_mark : ℕ
question_mark = 63

-- the text before the first `mark`, or all of it where there is none
abbrev pub before : ℕ → List ℕ → List ℕ
before mark [] = []
before mark (c ∷ cs) = if c == mark then [] else c ∷ before mark cs

-- the text after the first `mark`, if there is one
abbrev pub after : ℕ → List ℕ → Option (List ℕ)
after mark [] = None
after mark (c ∷ cs) = if c == mark then Some cs else after mark cs

-- the text up to and with its last slash, and nothing where it has none
abbrev pub up_to_slash : List ℕ → List ℕ
up_to_slash [] = []
up_to_slash (c ∷ cs) = if list_any (λ d. d == slash) (c ∷ cs) then c ∷ up_to_slash cs else []
