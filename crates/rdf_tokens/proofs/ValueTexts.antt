-- The values of strings.
use Rattle.std.proofs.Common.{◌≡◌, ◌≢◌, ◌==◌, ◌||◌, true, ℕ, suc, List, [], ◌∷◌, ◌++◌, Some, None, refl, sym, ap, ◌∙◌, inl, inr, append_assoc, arith}
use Rattle.std.proofs.lemmas.Bool.{ne_eqb, cases_Bool, and_parts, and_from}
use Rattle.std.specs.Str.{encode_utf8_all, IsUtf8}
use lib.Utf8.{scalar, scalars}
use Rattle.rdf_terms.specs.Characters.{short_escape}
use Rattle.rdf_tokens.proofs.SliceLemmas.{scalars_parts}
use Rattle.rdf_terms.specs.Escapes.{Writes, IsCharacter}
use Rattle.rdf_terms.specs.Quoted.{IsStringCharacter}
use Rattle.rdf_terms.specs.Reading.{expect}
use Rattle.rdf_terms.proofs.CallerLemmas.{string_character_begins}
use Rattle.rdf_tokens.specs.Forms.{IsShort, IsLong, IsLongBody, IsLongCharacter, IsString, IsText}
use Rattle.rdf_tokens.specs.Values.{enclosed, enclosed_thrice, quoted_body, text_body, text_value}
use Rattle.rdf_tokens.proofs.ValueEscapes.{unescaped_is, text_value_by}
use Rattle.rdf_tokens.proofs.ValuePlaces.{enclosed_complete}

-- ---- what bodies write

short_writes : (q : ℕ) (body cs : List ℕ) → Writes (IsStringCharacter q) body cs → Writes IsCharacter body cs
short_writes q body [] w = w
short_writes q body (c ∷ cs) w = (w.0, w.1, w.2, character_of q w.0 c w.3, short_writes q w.1 cs w.4)
  where
    character_of : (q : ℕ) (unit : List ℕ) (c : ℕ) → IsStringCharacter q unit c → IsCharacter unit c
    character_of q unit c (inl h) = inl (h.0, h.2)
    character_of q unit c (inr h) = inr h

long_writes : (q n : ℕ) (body cs : List ℕ) → q ≢ 92 → IsLongBody q n body cs → Writes IsCharacter body cs
long_writes q n body [] apart w = w.0
long_writes q n body (c ∷ cs) apart w =
    elim w.3 [
      | inl bare ↦ (w.0, w.1, w.2, inl (bare.0 ∙ ap (λ (x : ℕ). x ∷ []) (sym bare.1), λ e. apart (sym bare.1 ∙ e)), long_writes q (suc n) w.1 cs apart bare.3)
      | inr other ↦ (w.0, w.1, w.2, character_of q w.0 c other.0, long_writes q 0 w.1 cs apart other.1)
    ]
  where
    character_of : (q : ℕ) (unit : List ℕ) (c : ℕ) → IsLongCharacter q unit c → IsCharacter unit c
    character_of q unit c (inl h) = inl (h.0, h.2)
    character_of q unit c (inr h) = inr h

-- ---- where bodies stand

not_first : (q b : ℕ) (bs : List ℕ) → b ≢ q → expect q (b ∷ bs) ≡ None
unfolding expect
not_first q b bs ne = rw (ne_eqb b q ne) refl

expect_nothing : (q : ℕ) → expect q [] ≡ None
unfolding expect
expect_nothing q = refl

-- no bare quote begins a short string's body
no_quote : (q : ℕ) (body cs : List ℕ) → 92 ≢ q → Writes (IsStringCharacter q) body cs → expect q body ≡ None
no_quote q body [] apart w = ap (expect q) w ∙ expect_nothing q
no_quote q body (c ∷ cs) apart w =
    let b = string_character_begins q apart w.0 c w.3 in
    ap (expect q) (w.2 ∙ ap (λ (t : List ℕ). t ++ w.1) b.2) ∙ not_first q b.0 (b.1 ++ w.1) b.3

no_more : (q : ℕ) (cs : List ℕ) → expect q cs ≡ None → enclosed q q cs ≡ None
unfolding enclosed
no_more q cs e = rw e refl

once_only : (q : ℕ) (slice body : List ℕ) → enclosed q q slice ≡ Some body → enclosed q q body ≡ None → quoted_body q slice ≡ Some body
unfolding quoted_body enclosed_thrice
once_only q slice body e none = rw e (rw none refl)

thrice : (q : ℕ) (slice once twice body : List ℕ) → enclosed q q slice ≡ Some once → enclosed q q once ≡ Some twice → enclosed q q twice ≡ Some body → quoted_body q slice ≡ Some body
unfolding quoted_body enclosed_thrice
thrice q slice once twice body a b c = rw a (rw b (rw c refl))

short_body : (q : ℕ) (slice cs : List ℕ) → 92 ≢ q → (h : IsShort q slice cs) → quoted_body q slice ≡ Some h.0
short_body q slice cs apart h =
    once_only q slice h.0 (ap (enclosed q q) h.1 ∙ enclosed_complete q q h.0) (no_more q h.0 (no_quote q h.0 cs apart h.2))

long_body : (q : ℕ) (slice cs : List ℕ) → (h : IsLong q slice cs) → quoted_body q slice ≡ Some h.0
long_body q slice cs h =
    let body = h.0 in
    let twice : List ℕ = q ∷ (body ++ q ∷ []) in
    let once : List ℕ = q ∷ (twice ++ q ∷ []) in
    let two : body ++ q ∷ q ∷ [] ≡ (body ++ q ∷ []) ++ q ∷ [] = sym (append_assoc body (q ∷ []) (q ∷ [])) in
    let three : body ++ q ∷ q ∷ q ∷ [] ≡ ((body ++ q ∷ []) ++ q ∷ []) ++ q ∷ [] =
    sym (append_assoc body (q ∷ []) (q ∷ q ∷ [])) ∙ sym (append_assoc (body ++ q ∷ []) (q ∷ []) (q ∷ [])) in
    let whole : slice ≡ q ∷ (once ++ q ∷ []) = h.1 ∙ ap (λ (t : List ℕ). q ∷ q ∷ q ∷ t) three in
    thrice q slice once twice body (ap (enclosed q q) whole ∙ enclosed_complete q q once) (enclosed_complete q q twice) (enclosed_complete q q body)

-- ---- the value

starts : (q : ℕ) (slice cs : List ℕ) → IsString q slice cs → (rest : List ℕ) × (slice ≡ q ∷ rest)
starts q slice cs (inl h) = (h.0 ++ q ∷ [], h.1)
starts q slice cs (inr h) = (q ∷ q ∷ (h.0 ++ q ∷ q ∷ q ∷ []), h.1)

string_body : (q : ℕ) (slice cs : List ℕ) → 92 ≢ q → IsString q slice cs → (body : List ℕ) × (quoted_body q slice ≡ Some body) × Writes IsCharacter body cs
string_body q slice cs apart (inl h) = (h.0, short_body q slice cs apart h, short_writes q h.0 cs h.2)
string_body q slice cs apart (inr h) = (h.0, long_body q slice cs h, long_writes q 0 h.0 cs (λ e. apart (sym e)) h.2)

not_double : (rest : List ℕ) → quoted_body 34 (39 ∷ rest) ≡ None
unfolding quoted_body enclosed_thrice enclosed expect
not_double rest = refl

first_body : (slice body : List ℕ) → quoted_body 34 slice ≡ Some body → text_body slice ≡ Some body
unfolding text_body
first_body slice body e = rw e refl

second_body : (slice body : List ℕ) → quoted_body 34 slice ≡ None → quoted_body 39 slice ≡ Some body → text_body slice ≡ Some body
unfolding text_body
second_body slice body none e = rw none e

value_from : (slice body cs : List ℕ) → text_body slice ≡ Some body → Writes IsCharacter body cs → encode_utf8_all cs ≡ text_value slice
value_from slice body cs e w = sym (text_value_by slice body e ∙ ap encode_utf8_all (unescaped_is body cs w))

pub text_value_is : (slice cs : List ℕ) → IsText slice cs → encode_utf8_all cs ≡ text_value slice
text_value_is slice cs (inl h) =
    let b = string_body 34 slice cs (omega arith) h in
    value_from slice b.0 cs (first_body slice b.0 b.1) b.2
text_value_is slice cs (inr h) =
    let b = string_body 39 slice cs (omega arith) h in
    let s = starts 39 slice cs h in
    value_from slice b.0 cs (second_body slice b.0 (ap (quoted_body 34) s.1 ∙ not_double s.0) b.1) b.2

-- ---- texts of Unicode characters

scalar_along : (x c : ℕ) → scalar x ≡ true → Some x ≡ Some c → scalar c ≡ true
scalar_along x c h e = let is : x ≡ c = cc e in ap scalar (sym is) ∙ h

short_scalar : (l c : ℕ) → scalar l ≡ true → short_escape l ≡ Some c → scalar c ≡ true
unfolding short_escape
short_scalar l c h e =
    elim (cases_Bool (l == 116)) [
      | inl tab ↦ scalar_along 9 c refl (rw tab at e)
      | inr a ↦ elim (cases_Bool (l == 98)) [
        | inl back ↦ scalar_along 8 c refl (rw (a, back) at e)
        | inr b ↦ elim (cases_Bool (l == 110)) [
          | inl feed ↦ scalar_along 10 c refl (rw (a, b, feed) at e)
          | inr d ↦ elim (cases_Bool (l == 114)) [
            | inl turn ↦ scalar_along 13 c refl (rw (a, b, d, turn) at e)
            | inr f ↦ elim (cases_Bool (l == 102)) [
              | inl form ↦ scalar_along 12 c refl (rw (a, b, d, f, form) at e)
              | inr g ↦ elim (cases_Bool ((l == 34 || l == 39) || l == 92)) [
                | inl same ↦ scalar_along l c h (rw (a, b, d, f, g, same) at e)
                | inr none ↦ (let no : None ≡ Some c = rw (a, b, d, f, g, none) at e in absurd (cc no))
              ]
            ]
          ]
        ]
      ]
    ]

written_scalars : (body cs : List ℕ) → scalars body ≡ true → Writes IsCharacter body cs → scalars cs ≡ true
written_scalars body [] all w = refl
written_scalars body (c ∷ cs) all w =
    let parts = scalars_parts w.0 w.1 (ap scalars (sym w.2) ∙ all) in
    and_from (scalar c) (scalars cs) (character w.0 c parts.0 w.3) (written_scalars w.1 cs parts.1 w.4)
  where
    character : (unit : List ℕ) (d : ℕ) → scalars unit ≡ true → IsCharacter unit d → scalar d ≡ true
    character unit d s (inl itself) = (and_parts (scalar d) true (ap scalars (sym itself.0) ∙ s)).0
    character unit d s (inr (inl escape)) = escape.scalar
    character unit d s (inr (inr short)) =
        let both = (and_parts (scalar 92) (scalars (short.0 ∷ [])) (ap scalars (sym short.1) ∙ s)).1 in
        short_scalar short.0 d (and_parts (scalar short.0) true both).0 short.2

string_scalars : (q : ℕ) (slice cs : List ℕ) → 92 ≢ q → scalars slice ≡ true → IsString q slice cs → scalars cs ≡ true
string_scalars q slice cs apart all (inl h) =
    let behind = (and_parts (scalar q) (scalars (h.0 ++ q ∷ [])) (ap scalars (sym h.1) ∙ all)).1 in
    written_scalars h.0 cs (scalars_parts h.0 (q ∷ []) behind).0 (short_writes q h.0 cs h.2)
string_scalars q slice cs apart all (inr h) =
    let marks = scalars_parts (q ∷ q ∷ q ∷ []) (h.0 ++ q ∷ q ∷ q ∷ []) (ap scalars (sym h.1) ∙ all) in
    written_scalars h.0 cs (scalars_parts h.0 (q ∷ q ∷ q ∷ []) marks.1).0 (long_writes q 0 h.0 cs (λ e. apart (sym e)) h.2)

text_scalars : (slice cs : List ℕ) → scalars slice ≡ true → IsText slice cs → scalars cs ≡ true
text_scalars slice cs all (inl h) = string_scalars 34 slice cs (omega arith) all h
text_scalars slice cs all (inr h) = string_scalars 39 slice cs (omega arith) all h

-- a string of Unicode characters stands for a text of them
pub text_value_utf8 : (slice cs : List ℕ) → scalars slice ≡ true → IsText slice cs → IsUtf8 (text_value slice)
text_value_utf8 slice cs all h = (cs, (text_scalars slice cs all h, text_value_is slice cs h))
