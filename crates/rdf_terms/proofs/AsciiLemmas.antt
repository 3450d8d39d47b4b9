-- Texts with ASCII characters at their ends.
use Rattle.std.proofs.Common.{◌≡◌, ◌∙◌, ap, ℕ, ◌<◌, List, [], ◌∷◌, ◌++◌, chars, IsUtf8}
use Rattle.std.proofs.lemmas.Str.{chars-append, chars-IsAscii, IsUtf8-from_ascii, IsUtf8-append}
use Rattle.rdf_terms.proofs.TagForms.{ascii_from}

pub chars_one : (c : ℕ) → c < 128 → chars (c ∷ []) ≡ c ∷ []
chars_one c h = chars-IsAscii (c ∷ []) (ascii_from (c ∷ []) (h, tt))

pub utf8_one : (c : ℕ) → c < 128 → IsUtf8 (c ∷ [])
utf8_one c h = IsUtf8-from_ascii (c ∷ []) (ascii_from (c ∷ []) (h, tt))

pub utf8_cons : (c : ℕ) (text : List ℕ) → c < 128 → IsUtf8 text → IsUtf8 (c ∷ text)
utf8_cons c text h u = IsUtf8-append (c ∷ []) text (utf8_one c h) u

pub chars_cons : (c : ℕ) (text : List ℕ) → c < 128 → chars (c ∷ text) ≡ c ∷ chars text
chars_cons c text h = chars-append (c ∷ []) text (utf8_one c h) ∙ ap (λ (t : List ℕ). t ++ chars text) (chars_one c h)

-- between two ASCII characters
pub around_utf8 : (c d : ℕ) (text : List ℕ) → c < 128 → d < 128 → IsUtf8 text → IsUtf8 (c ∷ (text ++ d ∷ []))
around_utf8 c d text h k u = utf8_cons c (text ++ d ∷ []) h (IsUtf8-append text (d ∷ []) u (utf8_one d k))

pub around_chars : (c d : ℕ) (text : List ℕ) → c < 128 → d < 128 → IsUtf8 text → chars (c ∷ (text ++ d ∷ [])) ≡ c ∷ (chars text ++ d ∷ [])
around_chars c d text h k u = chars_cons c (text ++ d ∷ []) h ∙ ap (λ (t : List ℕ). c ∷ t) (chars-append text (d ∷ []) u ∙ ap (λ (t : List ℕ). chars text ++ t) (chars_one d k))
