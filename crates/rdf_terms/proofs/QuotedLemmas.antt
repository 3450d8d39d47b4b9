-- The characters of IRIs and strings, and the two units that hold them.
use Rattle.std.specs.Str.{encode_utf8_all}
use Rattle.std.proofs.Common.{◌≡◌, ◌≢◌, ◌⊎◌, ℕ, ◌<◌, true, false, eqb, ◌||◌, List, [], ◌∷◌, ◌++◌, Option, Some, refl, sym, ap, subst, ◌∙◌, inl, inr, append_assoc, arith}
use Rattle.std.proofs.lemmas.Bool.{cases_Bool, eqb-true, eqb-false, eq-eqb, ne_eqb, or_parts, or_from, true≢false}
use Rattle.rdf_terms.specs.Iri.{is_forbidden}
use Rattle.rdf_terms.specs.Characters.{short_escape}
use Rattle.rdf_terms.specs.Reading.{◌>>=◌, expect, numeric_at, escape_at, allowed_only, iri_character_at, string_character_at, iri_body_at, iri_at, quoted_body_at, quoted_at}
use Rattle.rdf_terms.specs.Runs.{ends_run}
use Rattle.rdf_terms.specs.Escapes.{IsNumericEscape, IsShortEscape}
use Rattle.rdf_terms.specs.ReadingLaws.{IsEscapeBehind}
use Rattle.rdf_terms.specs.Quoted.{IsIriCharacter, IsStringCharacter, IsIriRef, IsQuoted}
use Rattle.rdf_terms.proofs.OptionLemmas.{bind_some, some_is, some_pair, none_is, guard_some, guard_none}
use Rattle.rdf_terms.proofs.EscapeLemmas.{numeric_sound, numeric_complete}
use Rattle.rdf_terms.proofs.RunLemmas.{IsOne, run_sound, run_complete}

-- an escape begins with its backslash
pub numeric_begins : (unit : List ℕ) (c : ℕ) → IsNumericEscape unit c → (bs : List ℕ) × (unit ≡ 92 ∷ bs)
numeric_begins unit c h = elim h.form [ inl s ↦ (117 ∷ h.digits, s.0) | inr l ↦ (85 ∷ h.digits, l.0) ]

-- ---- a character of an IRI

allowed_sound : (n : ℕ) (cs : List ℕ) (c : ℕ) (rest : List ℕ) → allowed_only n cs ≡ Some (c, rest) → (is_forbidden c ≡ false) × (n ≡ c) × (cs ≡ rest)
unfolding allowed_only
allowed_sound n cs c rest e =
    let g = guard_none (is_forbidden n) (Some (n, cs)) (c, rest) e in
    let p = some_pair n c cs rest g.1 in
    (subst (λ (x : ℕ). is_forbidden x ≡ false) p.0 g.0, p.0, p.1)

allowed_complete : (n : ℕ) (cs : List ℕ) → is_forbidden n ≡ false → allowed_only n cs ≡ Some (n, cs)
unfolding allowed_only
allowed_complete n cs h = rw h refl

forbids_more : is_forbidden 62 ≡ true
forbids_more = refl

forbids_backslash : is_forbidden 92 ≡ true
forbids_backslash = refl

not_forbidden : (c d : ℕ) → is_forbidden c ≡ false → is_forbidden d ≡ true → c ≢ d
not_forbidden c d p q e = true≢false (sym q ∙ ap is_forbidden (sym e) ∙ p)

iri_character_sound : (cs : List ℕ) (c : ℕ) (rest : List ℕ) → iri_character_at cs ≡ Some (c, rest) → (unit : List ℕ) × (cs ≡ unit ++ rest) × IsIriCharacter unit c
unfolding iri_character_at
iri_character_sound [] c rest e = none_is (c, rest) e
iri_character_sound (d ∷ cs) c rest e =
    elim (cases_Bool (eqb d 92)) [
      | inl is ↦
          let b = bind_some (numeric_at cs) (λ n. allowed_only n.0 n.1) (c, rest) (rw is at e) in
          let a = allowed_sound b.0.0 b.0.1 c rest b.2 in
          let n = numeric_sound cs b.0.0 b.0.1 b.1 in (
            92 ∷ n.0,
            ap (λ (x : ℕ). x ∷ cs) (eqb-true d 92 is) ∙ ap (λ (t : List ℕ). 92 ∷ t) (n.1 ∙ ap (λ (t : List ℕ). n.0 ++ t) a.2),
            (a.0, inr (subst (IsNumericEscape (92 ∷ n.0)) a.1 n.2)),
          )
      | inr not ↦
          let a = allowed_sound d cs c rest (rw not at e) in
          (c ∷ [], ap (λ (x : ℕ). x ∷ cs) a.1 ∙ ap (λ (t : List ℕ). c ∷ t) a.2, (a.0, inl refl))
    ]

pub iri_character-plain : (c : ℕ) (rest : List ℕ) → is_forbidden c ≡ false → iri_character_at (c ∷ rest) ≡ Some (c, rest)
unfolding iri_character_at
iri_character-plain c rest h = rw (ne_eqb c 92 (not_forbidden c 92 h forbids_backslash)) (allowed_complete c rest h)

iri_character-escape : (unit : List ℕ) (c : ℕ) (rest : List ℕ) → is_forbidden c ≡ false → IsNumericEscape (92 ∷ unit) c → iri_character_at (92 ∷ (unit ++ rest)) ≡ Some (c, rest)
unfolding iri_character_at
iri_character-escape unit c rest h n = rw (numeric_complete unit c rest n) (allowed_complete c rest h)

iri_character_complete : (unit : List ℕ) (c : ℕ) (rest : List ℕ) → IsIriCharacter unit c → iri_character_at (unit ++ rest) ≡ Some (c, rest)
iri_character_complete unit c rest h =
    elim h.1 [
      | inl plain ↦ ap (λ (t : List ℕ). iri_character_at (t ++ rest)) plain ∙ iri_character-plain c rest h.0
      | inr n ↦
          let b = numeric_begins unit c n in
          ap (λ (t : List ℕ). iri_character_at (t ++ rest)) b.1
          ∙ iri_character-escape b.0 c rest h.0 (subst (λ (t : List ℕ). IsNumericEscape t c) b.1 n)
    ]

iri_character_begins : (unit : List ℕ) (c : ℕ) → IsIriCharacter unit c → (b : ℕ) × (bs : List ℕ) × (unit ≡ b ∷ bs) × (b ≢ 62)
iri_character_begins unit c h =
    elim h.1 [
      | inl plain ↦ (c, [], plain, not_forbidden c 62 h.0 forbids_more)
      | inr n ↦ let b = numeric_begins unit c n in (92, b.0, b.1, λ e. omega arith)
    ]

pub iri_one : IsOne IsIriCharacter iri_character_at 62
iri_one = record { sound = iri_character_sound; complete = iri_character_complete; begins = iri_character_begins }

-- ---- a character of a string

abbrev beside : List ℕ → ℕ → Option (ℕ × List ℕ)
beside cs meant = Some (meant, cs)

short_sound : (d : ℕ) (cs : List ℕ) (c : ℕ) (rest : List ℕ) → (short_escape d >>= λ meant. beside cs meant) ≡ Some (c, rest) → (short_escape d ≡ Some c) × (cs ≡ rest)
short_sound d cs c rest e =
    let b = bind_some (short_escape d) (beside cs) (c, rest) e in
    let p = some_pair b.0 c cs rest b.2 in
    (b.1 ∙ ap (λ (n : ℕ). Some n) p.0, p.1)

pub escape_sound : (cs : List ℕ) (c : ℕ) (rest : List ℕ) → escape_at cs ≡ Some (c, rest)
    → (unit : List ℕ) × (cs ≡ unit ++ rest) × (IsNumericEscape (92 ∷ unit) c ⊎ IsShortEscape (92 ∷ unit) c)
unfolding escape_at
escape_sound [] c rest e = none_is (c, rest) e
escape_sound (d ∷ cs) c rest e =
    elim (cases_Bool (eqb d 117 || eqb d 85)) [
      | inl is ↦ let n = numeric_sound (d ∷ cs) c rest (rw is at e) in (n.0, n.1, inl n.2)
      | inr not ↦
          let s = short_sound d cs c rest (rw not at e) in
          (d ∷ [], ap (λ (t : List ℕ). d ∷ t) s.1, inr (d, refl, s.0))
    ]

not_short-u : (c : ℕ) → short_escape 117 ≡ Some c → 1 < 0
unfolding short_escape
not_short-u c e = none_is c e

not_short-U : (c : ℕ) → short_escape 85 ≡ Some c → 1 < 0
unfolding short_escape
not_short-U c e = none_is c e

short_letter : (d c : ℕ) → short_escape d ≡ Some c → (eqb d 117 || eqb d 85) ≡ false
short_letter d c e =
    let u : d ≢ 117 = λ is. (omega (arith, not_short-u c (ap short_escape (sym is) ∙ e))) in
    let v : d ≢ 85 = λ is. (omega (arith, not_short-U c (ap short_escape (sym is) ∙ e))) in
    or_from (eqb d 117) (eqb d 85) (ne_eqb d 117 u) (ne_eqb d 85 v)

pub escape-short : (d c : ℕ) (rest : List ℕ) → short_escape d ≡ Some c → escape_at (d ∷ rest) ≡ Some (c, rest)
unfolding escape_at
escape-short d c rest e = rw (short_letter d c e, e) refl

numeric_letter : (d c : ℕ) (cs : List ℕ) → IsNumericEscape (92 ∷ d ∷ cs) c → (eqb d 117 || eqb d 85) ≡ true
numeric_letter d c cs h =
    elim h.form [
      | inl s ↦ let e : d ≡ 117 = cc s.0 in rw e refl
      | inr l ↦ let e : d ≡ 85 = cc l.0 in rw e refl
    ]

pub escape-numeric : (unit : List ℕ) (c : ℕ) (rest : List ℕ) → IsNumericEscape (92 ∷ unit) c → escape_at (unit ++ rest) ≡ Some (c, rest)
unfolding escape_at
escape-numeric [] c rest h = absurd (elim h.form [ inl s ↦ cc s.0 | inr l ↦ cc l.0 ])
escape-numeric (d ∷ unit) c rest h = rw (numeric_letter d c unit h) (numeric_complete (d ∷ unit) c rest h)

-- less its backslash, a short escape is its letter
short_tail : (unit : List ℕ) (d : ℕ) → (92 ∷ unit) ≡ 92 ∷ d ∷ [] → unit ≡ d ∷ []
short_tail unit d e = cc

pub escape_complete : (unit : List ℕ) (c : ℕ) (rest : List ℕ) → IsEscapeBehind unit c → escape_at (unit ++ rest) ≡ Some (c, rest)
escape_complete unit c rest (inl n) = escape-numeric unit c rest n
escape_complete unit c rest (inr s) = ap (λ (t : List ℕ). escape_at (t ++ rest)) (short_tail unit s.0 s.1) ∙ escape-short s.0 c rest s.2

string_character_sound : (q : ℕ) (cs : List ℕ) (c : ℕ) (rest : List ℕ) → string_character_at q cs ≡ Some (c, rest) → (unit : List ℕ) × (cs ≡ unit ++ rest) × IsStringCharacter q unit c
unfolding string_character_at
string_character_sound q [] c rest e = none_is (c, rest) e
string_character_sound q (d ∷ cs) c rest e =
    elim (cases_Bool (eqb d 92)) [
      | inl is ↦
          let s = escape_sound cs c rest (rw is at e) in
          (92 ∷ s.0, ap (λ (x : ℕ). x ∷ cs) (eqb-true d 92 is) ∙ ap (λ (t : List ℕ). 92 ∷ t) s.1, inr s.2)
      | inr not ↦
          let g = guard_none ((eqb d q || eqb d 10) || eqb d 13) (Some (d, cs)) (c, rest) (rw not at e) in
          let p = some_pair d c cs rest g.1 in
          let parts = or_parts (eqb d q || eqb d 10) (eqb d 13) g.0 in
          let more = or_parts (eqb d q) (eqb d 10) parts.0 in (
            d ∷ [],
            ap (λ (t : List ℕ). d ∷ t) p.1,
            subst (IsStringCharacter q (d ∷ [])) p.0 (inl (refl, eqb-false d q more.0, eqb-false d 92 not, eqb-false d 10 more.1, eqb-false d 13 parts.1)),
          )
    ]

string_character-plain : (q : ℕ) (c : ℕ) (rest : List ℕ) → c ≢ q → c ≢ 92 → c ≢ 10 → c ≢ 13 → string_character_at q (c ∷ rest) ≡ Some (c, rest)
unfolding string_character_at
string_character-plain q c rest p o r s = rw (ne_eqb c 92 o, ne_eqb c q p, ne_eqb c 10 r, ne_eqb c 13 s) refl

pub string_character-run : (q : ℕ) (c : ℕ) (rest : List ℕ) → ends_run q c ≡ false → string_character_at q (c ∷ rest) ≡ Some (c, rest)
unfolding string_character_at
string_character-run q c rest h =
    let parts = or_parts (eqb c 92) ((eqb c q || eqb c 10) || eqb c 13) h in
    rw (parts.0, parts.1) refl

string_character-escape : (q : ℕ) (rest : List ℕ) → string_character_at q (92 ∷ rest) ≡ escape_at rest
unfolding string_character_at
string_character-escape q rest = refl

string_character_complete : (q : ℕ) (unit : List ℕ) (c : ℕ) (rest : List ℕ) → IsStringCharacter q unit c → string_character_at q (unit ++ rest) ≡ Some (c, rest)
string_character_complete q unit c rest (inl h) =
    ap (λ (t : List ℕ). string_character_at q (t ++ rest)) h.0 ∙ string_character-plain q c rest h.1 h.2 h.3 h.4
string_character_complete q unit c rest (inr (inl n)) =
    let b = numeric_begins unit c n in
    ap (λ (t : List ℕ). string_character_at q (t ++ rest)) b.1 ∙ string_character-escape q (b.0 ++ rest)
    ∙ escape-numeric b.0 c rest (subst (λ (t : List ℕ). IsNumericEscape t c) b.1 n)
string_character_complete q unit c rest (inr (inr s)) =
    ap (λ (t : List ℕ). string_character_at q (t ++ rest)) s.1 ∙ string_character-escape q (s.0 ∷ rest) ∙ escape-short s.0 c rest s.2

pub string_character_begins : (q : ℕ) → 92 ≢ q → (unit : List ℕ) (c : ℕ) → IsStringCharacter q unit c → (b : ℕ) × (bs : List ℕ) × (unit ≡ b ∷ bs) × (b ≢ q)
string_character_begins q nq unit c (inl h) = (c, [], h.0, h.1)
string_character_begins q nq unit c (inr (inl n)) = let b = numeric_begins unit c n in (92, b.0, b.1, nq)
string_character_begins q nq unit c (inr (inr s)) = (92, s.0 ∷ [], s.1, nq)

pub string_one : (q : ℕ) → 92 ≢ q → IsOne (IsStringCharacter q) (string_character_at q) q
string_one q nq = record { sound = string_character_sound q; complete = string_character_complete q; begins = string_character_begins q nq }

-- ---- the units

pub expect_sound : (wanted : ℕ) (cs rest : List ℕ) → expect wanted cs ≡ Some rest → cs ≡ wanted ∷ rest
unfolding expect
expect_sound wanted [] rest e = none_is rest e
expect_sound wanted (c ∷ cs) rest e =
    let g = guard_some (eqb c wanted) (Some cs) rest e in
    ap (λ (x : ℕ). x ∷ cs) (eqb-true c wanted g.0) ∙ ap (λ (t : List ℕ). wanted ∷ t) (some_is cs rest g.1)

pub expect_complete : (wanted : ℕ) (rest : List ℕ) → expect wanted (wanted ∷ rest) ≡ Some rest
unfolding expect
expect_complete wanted rest = rw (eq-eqb wanted wanted refl) refl

pub iri_sound : (cs text rest : List ℕ) → iri_at cs ≡ Some (text, rest) → (slice : List ℕ) × (cs ≡ slice ++ rest) × IsIriRef slice text
unfolding iri_at iri_body_at
iri_sound cs text rest e =
    let b = bind_some (expect 60 cs) iri_body_at (text, rest) e in
    let r = run_sound iri_character_at 62 iri_one b.0 text rest b.2 in (
      60 ∷ (r.0 ++ 62 ∷ []),
      expect_sound 60 cs b.0 b.1 ∙ ap (λ (t : List ℕ). 60 ∷ t) (r.2 ∙ sym (append_assoc r.0 (62 ∷ []) rest)),
      (r.0, r.1, refl, r.3, r.4),
    )

pub iri_complete : (slice text rest : List ℕ) → IsIriRef slice text → iri_at (slice ++ rest) ≡ Some (text, rest)
unfolding iri_at iri_body_at
iri_complete slice text rest h =
    let begins : slice ++ rest ≡ 60 ∷ (h.0 ++ 62 ∷ rest) = ap (λ (t : List ℕ). t ++ rest) h.2 ∙ ap (λ (t : List ℕ). 60 ∷ t) (append_assoc h.0 (62 ∷ []) rest) in
    let run : iri_body_at (h.0 ++ 62 ∷ rest) ≡ Some (encode_utf8_all h.1, rest) = run_complete iri_character_at 62 iri_one h.1 h.0 rest h.3 in
    rw (begins, expect_complete 60 (h.0 ++ 62 ∷ rest), h.4) run

pub quoted_sound : (q : ℕ) → 92 ≢ q → (cs text rest : List ℕ) → quoted_at q cs ≡ Some (text, rest) → (slice : List ℕ) × (cs ≡ slice ++ rest) × IsQuoted q slice text
unfolding quoted_at quoted_body_at
quoted_sound q nq cs text rest e =
    let b = bind_some (expect q cs) (quoted_body_at q) (text, rest) e in
    let r = run_sound (string_character_at q) q (string_one q nq) b.0 text rest b.2 in (
      q ∷ (r.0 ++ q ∷ []),
      expect_sound q cs b.0 b.1 ∙ ap (λ (t : List ℕ). q ∷ t) (r.2 ∙ sym (append_assoc r.0 (q ∷ []) rest)),
      (r.0, r.1, refl, r.3, r.4),
    )

pub quoted_complete : (q : ℕ) → 92 ≢ q → (slice text rest : List ℕ) → IsQuoted q slice text → quoted_at q (slice ++ rest) ≡ Some (text, rest)
unfolding quoted_at quoted_body_at
quoted_complete q nq slice text rest h =
    let begins : slice ++ rest ≡ q ∷ (h.0 ++ q ∷ rest) = ap (λ (t : List ℕ). t ++ rest) h.2 ∙ ap (λ (t : List ℕ). q ∷ t) (append_assoc h.0 (q ∷ []) rest) in
    let run : quoted_body_at q (h.0 ++ q ∷ rest) ≡ Some (encode_utf8_all h.1, rest) = run_complete (string_character_at q) q (string_one q nq) h.1 h.0 rest h.3 in
    rw (begins, expect_complete q (h.0 ++ q ∷ rest), h.4) run
