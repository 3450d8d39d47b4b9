-- The characters of a text between quotes, as they are written.
use Rattle.std.proofs.Common.{◌≡◌, ◌≢◌, ◌∙◌, ap, refl, sym, subst, inl, inr, ℕ, ◌<◌, ◌≤◌, arith, Bool, true, false, ◌==◌, List, [], ◌∷◌, ◌++◌, length, get_or, chars, IsUtf8, true≢false, append-nil, Some, suc, if◌then◌else◌}
use Rattle.std.specs.List.{flat_map}
use Rattle.std.specs.Char.{encode_utf8}
use Rattle.std.specs.Str.{encode_utf8_all}
use Rattle.std.proofs.lemmas.Bool.{and_parts, eqb-true, eq-eqb, cases_lt}
use Rattle.std.proofs.lemmas.List.Concat.{flat_map-append}
use Rattle.std.proofs.lemmas.Str.{encode_ascii, inside_one, encodes-append, IsUtf8-append, IsUtf8-encode, IsUtf8-nil, chars_from_encodes, encodes-chars, scalars-chars}
use lib.Utf8.{scalars, scalar}
use Rattle.rdf_terms.specs.Characters.{short_escape}
use Rattle.rdf_terms.specs.Escapes.{Writes}
use Rattle.rdf_terms.specs.Quoted.{IsStringCharacter, IsQuoted}
use Rattle.rdf_terms.specs.TermText.{escaped}
use Rattle.rdf_terms.proofs.AsciiLemmas.{around_utf8, around_chars}

if_cases : (P : List ℕ → Type 0) (b : Bool) (x y : List ℕ) → (b ≡ true → P x) → (b ≡ false → P y) → P (if b then x else y)
if_cases P true x y f g = f refl
if_cases P false x y f g = g refl

-- what holds of the four escapes, and of each other character by itself, holds of each character as it is written
pub by_escape : (P : ℕ → List ℕ → Type 0) → P 34 (92 ∷ 34 ∷ []) → P 92 (92 ∷ 92 ∷ []) → P 10 (92 ∷ 110 ∷ []) → P 13 (92 ∷ 114 ∷ [])
    → ((c : ℕ) → (c == 34) ≡ false → (c == 92) ≡ false → (c == 10) ≡ false → (c == 13) ≡ false → P c (c ∷ [])) → (c : ℕ) → P c (escaped c)
by_escape P quote backslash feed return plain c =
    if_cases (P c) (c == 34) _ _ (λ h. subst (λ n. P n (92 ∷ 34 ∷ [])) (sym (eqb-true c 34 h)) quote)
    (λ q. if_cases (P c) (c == 92) _ _ (λ h. subst (λ n. P n (92 ∷ 92 ∷ [])) (sym (eqb-true c 92 h)) backslash)
    (λ b. if_cases (P c) (c == 10) _ _ (λ h. subst (λ n. P n (92 ∷ 110 ∷ [])) (sym (eqb-true c 10 h)) feed)
    (λ f. if_cases (P c) (c == 13) _ _ (λ h. subst (λ n. P n (92 ∷ 114 ∷ [])) (sym (eqb-true c 13 h)) return)
    (λ r. plain c q b f r))))

short_quote : short_escape 34 ≡ Some 34
unfolding short_escape
short_quote = refl

short_backslash : short_escape 92 ≡ Some 92
unfolding short_escape
short_backslash = refl

short_feed : short_escape 110 ≡ Some 10
unfolding short_escape
short_feed = refl

short_return : short_escape 114 ≡ Some 13
unfolding short_escape
short_return = refl

is_not : (c d : ℕ) → (c == d) ≡ false → c ≢ d
is_not c d h e = true≢false (sym (eq-eqb c d e) ∙ h)

string_character : (c : ℕ) → IsStringCharacter 34 (escaped c) c
string_character = by_escape (λ c unit. IsStringCharacter 34 unit c) (inr (inr (34, refl, short_quote))) (inr (inr (92, refl, short_backslash)))
    (inr (inr (110, refl, short_feed))) (inr (inr (114, refl, short_return)))
    (λ c q b f r. inl (refl, is_not c 34 q, is_not c 92 b, is_not c 10 f, is_not c 13 r))

pub string_body : (cs : List ℕ) → Writes (IsStringCharacter 34) (flat_map escaped cs) cs
string_body [] = refl
string_body (c ∷ cs) = (escaped c, flat_map escaped cs, refl, string_character c, string_body cs)

-- ---- the bytes of a quoted text are those of its characters

plain_escaped : (c : ℕ) → 128 ≤ c → escaped c ≡ c ∷ []
plain_escaped c h = by_escape (λ d unit. 128 ≤ d → unit ≡ d ∷ []) (λ l. absurd (omega (arith, l))) (λ l. absurd (omega (arith, l))) (λ l. absurd (omega (arith, l))) (λ l. absurd (omega (arith, l)))
    (λ d q b f r l. refl) c h

high_escaped : (bs : List ℕ) → ((k : ℕ) → k < length bs → 128 ≤ get_or bs k 0) → flat_map escaped bs ≡ bs
high_escaped [] h = refl
high_escaped (b ∷ bs) h =
    ap (λ (t : List ℕ). t ++ flat_map escaped bs) (plain_escaped b (h 0 (omega arith))) ∙ ap (λ (t : List ℕ). b ∷ t) (high_escaped bs (λ k l. h (suc k) (omega (arith, l))))

low_escape : (c : ℕ) → c < 128 → encode_utf8_all (escaped c) ≡ escaped c
unfolding encode_utf8
low_escape = by_escape (λ d unit. d < 128 → encode_utf8_all unit ≡ unit) (λ l. refl) (λ l. refl) (λ l. refl) (λ l. refl)
    (λ d q b f r l. ap (λ (t : List ℕ). t ++ []) (encode_ascii d l))

one_escaped : (c : ℕ) → flat_map escaped (encode_utf8 c) ≡ encode_utf8_all (escaped c)
one_escaped c = elim (cases_lt c 128) [
  | inl low ↦ ap (flat_map escaped) (encode_ascii c low) ∙ append-nil (escaped c) ∙ sym (low_escape c low)
  | inr high ↦
      let bytes : (k : ℕ) → k < length (encode_utf8 c) → 128 ≤ get_or (encode_utf8 c) k 0 =
      λ k l. elim (cases_lt (get_or (encode_utf8 c) k 0) 128) [
        | inl small ↦ let same = inside_one c [] (encode_utf8 c) k (sym (append-nil (encode_utf8 c))) l small in absurd (omega (arith, same, small, high))
        | inr large ↦ large
      ] in
      high_escaped (encode_utf8 c) bytes ∙ sym (append-nil (encode_utf8 c)) ∙ sym (ap encode_utf8_all (plain_escaped c high))
]

all_escaped : (cs : List ℕ) → flat_map escaped (encode_utf8_all cs) ≡ encode_utf8_all (flat_map escaped cs)
all_escaped [] = refl
all_escaped (c ∷ cs) =
    flat_map-append escaped (encode_utf8 c) (encode_utf8_all cs) ∙ (λ i. one_escaped c i ++ all_escaped cs i) ∙ sym (encodes-append (escaped c) (flat_map escaped cs))

escape_utf8 : (c : ℕ) → scalar c ≡ true → IsUtf8 (encode_utf8_all (escaped c))
escape_utf8 = by_escape (λ d unit. scalar d ≡ true → IsUtf8 (encode_utf8_all unit)) (λ s. (92 ∷ 34 ∷ [], (refl, refl))) (λ s. (92 ∷ 92 ∷ [], (refl, refl)))
    (λ s. (92 ∷ 110 ∷ [], (refl, refl))) (λ s. (92 ∷ 114 ∷ [], (refl, refl)))
    (λ d q b f r s. subst IsUtf8 (sym (append-nil (encode_utf8 d))) (IsUtf8-encode d s))

escapes_utf8 : (cs : List ℕ) → scalars cs ≡ true → IsUtf8 (encode_utf8_all (flat_map escaped cs))
escapes_utf8 [] h = IsUtf8-nil
escapes_utf8 (c ∷ cs) h =
    let both = and_parts (scalar c) (scalars cs) h in
    subst IsUtf8 (sym (encodes-append (escaped c) (flat_map escaped cs))) (IsUtf8-append (encode_utf8_all (escaped c)) (encode_utf8_all (flat_map escaped cs)) (escape_utf8 c both.0) (escapes_utf8 cs both.1))

-- an escaped text is one, and its characters are the text's, escaped
pub escaped_text : (text : List ℕ) → IsUtf8 text → IsUtf8 (flat_map escaped text) × (chars (flat_map escaped text) ≡ flat_map escaped (chars text))
escaped_text text u =
    let bytes : flat_map escaped text ≡ encode_utf8_all (flat_map escaped (chars text)) = ap (flat_map escaped) (sym (encodes-chars text u)) ∙ all_escaped (chars text) in
    let own : IsUtf8 (flat_map escaped text) = subst IsUtf8 (sym bytes) (escapes_utf8 (chars text) (scalars-chars text u)) in
    (own, sym (chars_from_encodes (flat_map escaped (chars text)) (flat_map escaped text) own (sym bytes)))

-- ---- between its quotes

abbrev pub quoted : List ℕ → List ℕ
quoted text = 34 ∷ (flat_map escaped text ++ 34 ∷ [])

pub quoted_form : (text : List ℕ) → IsUtf8 text → IsQuoted 34 (quoted (chars text)) text
quoted_form text u = (flat_map escaped (chars text), chars text, refl, string_body (chars text), sym (encodes-chars text u))

pub quoted_chars : (text : List ℕ) → IsUtf8 text → chars (quoted text) ≡ quoted (chars text)
quoted_chars text u =
    let e = escaped_text text u in
    around_chars 34 34 (flat_map escaped text) (omega arith) (omega arith) e.0 ∙ ap (λ (t : List ℕ). 34 ∷ (t ++ 34 ∷ [])) e.1

pub quoted_utf8 : (text : List ℕ) → IsUtf8 text → IsUtf8 (quoted text)
quoted_utf8 text u = around_utf8 34 34 (flat_map escaped text) (omega arith) (omega arith) (escaped_text text u).0
