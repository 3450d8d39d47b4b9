-- Long strings: the first three quotes that stand together close them.
use Rattle.std.proofs.Common.{◌≡◌, ◌≢◌, ◌⊎◌, ◌||◌, ◌<◌, ◌≤◌, ℕ, zero, suc, false, eqb, List, [], ◌∷◌, ◌++◌, length, Some, None, refl, sym, ap, subst, ◌∙◌, inl, inr, append_assoc, length-append, arith}
use Rattle.std.proofs.lemmas.Bool.{cases_Bool, eqb-true, eqb-false, ne_eqb, or_parts}
use Rattle.std.specs.List.{list_any}
use Rattle.rdf_tokens.specs.declared.token.Kind.TheVariants as kind
use Rattle.rdf_terms.specs.Escapes.{IsNumericEscape, IsShortEscape, Writes}
use Rattle.rdf_terms.specs.Quoted.{IsStringCharacter}
use Rattle.rdf_tokens.specs.Forms.{IsLongCharacter, IsLongBody, IsLong, IsShort}
use Rattle.rdf_terms.specs.Reading.{expect, escape_at, character_at}
use Rattle.rdf_terms.specs.Runs.{IsPast, ends_run}
use Rattle.rdf_tokens.specs.Inside.TokenReading.{or_else, as_kind, two_at, three_at, long_up, long_body_at, long_at, text_at}
use Rattle.rdf_terms.proofs.CallerLemmas.{cases_Option, bind_some, some_is, some_pair, none_is, expect_sound, expect_complete, escape_sound, escape-short, escape-numeric, numeric_begins, string_character_begins}
use Rattle.rdf_tokens.proofs.TokenClaims.{Beats}
use Rattle.rdf_tokens.proofs.TokenEnds.{quoted_end_read}

-- ---- one character

abbrev IsEscape : List ℕ → ℕ → Type 0
IsEscape unit c = IsNumericEscape unit c ⊎ IsShortEscape unit c

character_sound : (q : ℕ) (cs : List ℕ) (v : ℕ) (rest : List ℕ) → character_at cs ≡ Some (v, rest)
    → ((cs ≡ q ∷ rest) × (v ≡ q)) ⊎ ((unit : List ℕ) × (cs ≡ unit ++ rest) × IsLongCharacter q unit v)
unfolding character_at
character_sound q [] v rest e = none_is (v, rest) e
character_sound q (c ∷ cs) v rest e =
    elim (cases_Bool (eqb c 92)) [
      | inl is ↦
          let s = escape_sound cs v rest (rw is at e) in
          inr (92 ∷ s.0, ap (λ (x : ℕ). x ∷ cs) (eqb-true c 92 is) ∙ ap (λ (t : List ℕ). 92 ∷ t) s.1, inr s.2)
      | inr not ↦
          let p = some_pair c v cs rest (rw not at e) in
          elim (cases_Bool (eqb c q)) [
            | inl quote ↦ inl (ap (λ (x : ℕ). x ∷ cs) (eqb-true c q quote) ∙ ap (λ (t : List ℕ). q ∷ t) p.1, sym p.0 ∙ eqb-true c q quote)
            | inr other ↦ inr (c ∷ [], ap (λ (t : List ℕ). c ∷ t) p.1, inl (ap (λ (x : ℕ). x ∷ []) p.0, subst (λ (x : ℕ). x ≢ q) p.0 (eqb-false c q other), subst (λ (x : ℕ). x ≢ 92) p.0 (eqb-false c 92 not)))
          ]
    ]

plain_read : (c : ℕ) (rest : List ℕ) → c ≢ 92 → character_at (c ∷ rest) ≡ Some (c, rest)
unfolding character_at
plain_read c rest ne = rw (ne_eqb c 92 ne) refl

escape_read : (rest : List ℕ) → character_at (92 ∷ rest) ≡ escape_at rest
unfolding character_at
escape_read rest = refl

character_complete : (q : ℕ) (unit : List ℕ) (c : ℕ) (rest : List ℕ) → IsLongCharacter q unit c → character_at (unit ++ rest) ≡ Some (c, rest)
character_complete q unit c rest (inl h) = ap (λ (t : List ℕ). character_at (t ++ rest)) h.0 ∙ plain_read c rest h.2
character_complete q unit c rest (inr (inl n)) =
    let b = numeric_begins unit c n in
    ap (λ (t : List ℕ). character_at (t ++ rest)) b.1 ∙ escape_read (b.0 ++ rest)
    ∙ escape-numeric b.0 c rest (subst (λ (t : List ℕ). IsNumericEscape t c) b.1 n)
character_complete q unit c rest (inr (inr s)) =
    ap (λ (t : List ℕ). character_at (t ++ rest)) s.1 ∙ escape_read (s.0 ∷ rest) ∙ escape-short s.0 c rest s.2

character_begins : (q : ℕ) → 92 ≢ q → (unit : List ℕ) (c : ℕ) → IsLongCharacter q unit c → (b : ℕ) × (bs : List ℕ) × (unit ≡ b ∷ bs) × (b ≢ q)
character_begins q nq unit c (inl h) = (c, [], h.0, h.1)
character_begins q nq unit c (inr (inl n)) = let b = numeric_begins unit c n in (92, b.0, b.1, nq)
character_begins q nq unit c (inr (inr s)) = (92, s.0 ∷ [], s.1, nq)

pub long_shrinks : (cs : List ℕ) (v : ℕ) (rest : List ℕ) → character_at cs ≡ Some (v, rest) → length rest < length cs
long_shrinks cs v rest e =
    elim (character_sound 34 cs v rest e) [
      | inl h ↦ omega (arith, ap length h.0)
      | inr h ↦
          let b = character_begins 34 (λ same. omega (arith, same)) h.0 v h.2 in
          omega (arith, ap length h.1, length-append h.0 rest, ap length b.2)
    ]

-- ---- quotes

not_first : (q c : ℕ) (cs : List ℕ) → c ≢ q → expect q (c ∷ cs) ≡ None
unfolding expect
not_first q c cs ne = rw (ne_eqb c q ne) refl

two_behind : (q : ℕ) (cs : List ℕ) → two_at q (q ∷ cs) ≡ expect q cs
unfolding two_at
two_behind q cs = rw (expect_complete q cs) refl

three_behind : (q : ℕ) (cs : List ℕ) → three_at q (q ∷ cs) ≡ two_at q cs
unfolding three_at
three_behind q cs = rw (expect_complete q cs) refl

no_two : (q : ℕ) (cs : List ℕ) → expect q cs ≡ None → two_at q cs ≡ None
unfolding two_at
no_two q cs e = rw e refl

no_three : (q : ℕ) (cs : List ℕ) → expect q cs ≡ None → three_at q cs ≡ None
unfolding three_at
no_three q cs e = rw e refl

two_sound : (q : ℕ) (cs rest : List ℕ) → two_at q cs ≡ Some rest → cs ≡ q ∷ q ∷ rest
unfolding two_at
two_sound q cs rest e =
    let a = bind_some (expect q cs) (expect q) rest e in
    expect_sound q cs a.0 a.1 ∙ ap (λ (t : List ℕ). q ∷ t) (expect_sound q a.0 rest a.2)

three_sound : (q : ℕ) (cs rest : List ℕ) → three_at q cs ≡ Some rest → cs ≡ q ∷ q ∷ q ∷ rest
unfolding three_at
three_sound q cs rest e =
    let a = bind_some (expect q cs) (two_at q) rest e in
    expect_sound q cs a.0 a.1 ∙ ap (λ (t : List ℕ). q ∷ t) (two_sound q a.0 rest a.2)

three_found : (q : ℕ) (rest : List ℕ) → three_at q (q ∷ q ∷ q ∷ rest) ≡ Some rest
three_found q rest = three_behind q (q ∷ q ∷ rest) ∙ two_behind q (q ∷ rest) ∙ expect_complete q rest

-- ---- the loop

enough : (q n m : ℕ) (cs : List ℕ) → length cs ≤ n → length cs ≤ m → long_up q n cs ≡ long_up q m cs
unfolding long_up three_at expect character_at
enough q zero zero cs p r = refl
enough q zero (suc m) [] p r = refl
enough q zero (suc m) (c ∷ cs) p r = absurd (omega arith)
enough q (suc n) zero [] p r = refl
enough q (suc n) zero (c ∷ cs) p r = absurd (omega arith)
enough q (suc n) (suc m) cs p r =
    elim (cases_Option (character_at cs)) [
      | inl none ↦ rw none refl
      | inr some ↦
          let short = long_shrinks cs some.0.0 some.0.1 some.1 in
          rw some.1 (ap (or_else (three_at q cs)) (enough q n m some.0.1 (omega (arith, short, p)) (omega (arith, short, r))))
    ]

pub long_ends : (q : ℕ) (cs rest : List ℕ) → three_at q cs ≡ Some rest → long_body_at q cs ≡ Some rest
unfolding long_body_at long_up
long_ends q [] rest e = absurd (omega (arith, ap length (three_sound q [] rest e)))
long_ends q (c ∷ cs) rest e = rw e refl

pub long_fails : (q : ℕ) (cs : List ℕ) → character_at cs ≡ None → three_at q cs ≡ None → long_body_at q cs ≡ None
unfolding long_body_at long_up
long_fails q [] e f = refl
long_fails q (c ∷ cs) e f = rw (e, f) refl

pub long_on : (q : ℕ) (cs : List ℕ) (v : ℕ) (rest : List ℕ) → character_at cs ≡ Some (v, rest) → three_at q cs ≡ None → long_body_at q cs ≡ long_body_at q rest
unfolding long_body_at long_up
long_on q [] v rest e f = absurd (omega (arith, long_shrinks [] v rest e))
long_on q (c ∷ cs) v rest e f =
    let short = long_shrinks (c ∷ cs) v rest e in
    rw (f, e) (enough q (length cs) (length rest) rest (omega (arith, short)) (omega arith))

-- over characters that are no quote and no backslash

over_plain : (q c : ℕ) → ends_run q c ≡ false → (c ≢ q) × (c ≢ 92)
over_plain q c h =
    let parts = or_parts (eqb c 92) ((eqb c q || eqb c 10) || eqb c 13) h in
    let quote = or_parts (eqb c q) (eqb c 10) (or_parts (eqb c q || eqb c 10) (eqb c 13) parts.1).0 in
    (eqb-false c q quote.0, eqb-false c 92 parts.0)

long_over : (q : ℕ) (over stop : List ℕ) → list_any (ends_run q) over ≡ false → long_body_at q (over ++ stop) ≡ long_body_at q stop
long_over q [] stop h = refl
long_over q (c ∷ cs) stop h =
    let parts = or_parts (ends_run q c) (list_any (ends_run q) cs) h in
    let plain = over_plain q c parts.0 in
    long_on q (c ∷ (cs ++ stop)) c (cs ++ stop) (plain_read c (cs ++ stop) plain.1) (no_three q (c ∷ (cs ++ stop)) (not_first q c (cs ++ stop) plain.0)) ∙ long_over q cs stop parts.1

pub long_past : (q : ℕ) (cs stop : List ℕ) → IsPast (ends_run q) cs stop → long_body_at q cs ≡ long_body_at q stop
long_past q cs stop past = ap (long_body_at q) past.1 ∙ long_over q past.0 stop past.2

-- ---- what is read is a long string

-- the quotes so far don't close with what follows
abbrev Open : ℕ → ℕ → List ℕ → Type 0
Open q zero cs = Unit {0}
Open q (suc zero) cs = two_at q cs ≡ None
Open q (suc (suc zero)) cs = expect q cs ≡ None
Open q _ cs = ⊥

abbrev Body : ℕ → ℕ → List ℕ → List ℕ → Type 0
Body q n cs rest = (body vs : List ℕ) × (cs ≡ body ++ q ∷ q ∷ q ∷ rest) × IsLongBody q n body vs

closes : (q n : ℕ) (cs rest : List ℕ) → Open q n cs → cs ≡ q ∷ q ∷ q ∷ rest → n ≡ 0
closes q zero cs rest o e = refl
closes q (suc zero) cs rest o e = none_is (q ∷ rest) (sym o ∙ ap (two_at q) e ∙ two_behind q (q ∷ q ∷ rest) ∙ expect_complete q (q ∷ rest))
closes q (suc (suc zero)) cs rest o e = none_is (q ∷ q ∷ rest) (sym o ∙ ap (expect q) e ∙ expect_complete q (q ∷ q ∷ rest))
closes q (suc (suc (suc n))) cs rest o e = absurd o

quote_more : (q n : ℕ) (cs : List ℕ) → Open q n (q ∷ cs) → three_at q (q ∷ cs) ≡ None → (n < 2) × Open q (suc n) cs
quote_more q zero cs o t = (omega arith, sym (three_behind q cs) ∙ t)
quote_more q (suc zero) cs o t = (omega arith, sym (two_behind q cs) ∙ o)
quote_more q (suc (suc zero)) cs o t = none_is cs (sym o ∙ expect_complete q cs)
quote_more q (suc (suc (suc n))) cs o t = absurd o

by_quote : (q n v : ℕ) (cs r rest : List ℕ) → cs ≡ q ∷ r → v ≡ q → n < 2 → Body q (suc n) r rest → Body q n cs rest
by_quote q n v cs r rest e is lt b = (q ∷ b.0, v ∷ b.1, e ∙ ap (λ (t : List ℕ). q ∷ t) b.2, (q ∷ [], b.0, refl, inl (refl, is, lt, b.3)))

by_other : (q n v : ℕ) (cs unit r rest : List ℕ) → cs ≡ unit ++ r → IsLongCharacter q unit v → Body q 0 r rest → Body q n cs rest
by_other q n v cs unit r rest e h b =
    (unit ++ b.0, v ∷ b.1, e ∙ ap (λ (t : List ℕ). unit ++ t) b.2 ∙ sym (append_assoc unit b.0 (q ∷ q ∷ q ∷ rest)), (unit, b.0, refl, inr (h, b.3)))

up_sound : (fuel q n : ℕ) (cs rest : List ℕ) → Open q n cs → long_up q fuel cs ≡ Some rest → Body q n cs rest
unfolding long_up
up_sound zero q n cs rest o e = none_is rest e
up_sound (suc fuel) q n cs rest o e =
    elim (cases_Option (three_at q cs)) [
      | inr three ↦
          let same : cs ≡ q ∷ q ∷ q ∷ rest = three_sound q cs three.0 three.1 ∙ ap (λ (t : List ℕ). q ∷ q ∷ q ∷ t) (some_is three.0 rest (rw three.1 at e)) in
          ([], [], same, (refl, closes q n cs rest o same))
      | inl none ↦
          let b = bind_some (character_at cs) _ rest (rw none at e) in
          elim (character_sound q cs b.0.0 b.0.1 b.1) [
            | inl quote ↦
                let more = quote_more q n b.0.1 (subst (Open q n) quote.0 o) (ap (three_at q) (sym quote.0) ∙ none) in
                by_quote q n b.0.0 cs b.0.1 rest quote.0 quote.1 more.0 (up_sound fuel q (suc n) b.0.1 rest more.1 b.2)
            | inr other ↦ by_other q n b.0.0 cs other.0 b.0.1 rest other.1 other.2 (up_sound fuel q 0 b.0.1 rest tt b.2)
          ]
    ]

body_sound : (q : ℕ) (cs rest : List ℕ) → long_body_at q cs ≡ Some rest → Body q 0 cs rest
unfolding long_body_at
body_sound q cs rest e = up_sound (length cs) q 0 cs rest tt e

-- ---- every long string is read

other_first : (q : ℕ) → 92 ≢ q → (unit : List ℕ) (c : ℕ) (tail : List ℕ) → IsLongCharacter q unit c → expect q (unit ++ tail) ≡ None
other_first q nq unit c tail h =
    let b = character_begins q nq unit c h in
    ap (λ (t : List ℕ). expect q (t ++ tail)) b.2 ∙ not_first q b.0 (b.1 ++ tail) b.3

-- behind two quotes stands another character; behind one, no two quotes
after_two : (q : ℕ) → 92 ≢ q → (body cs tail : List ℕ) → IsLongBody q 2 body cs → expect q (body ++ tail) ≡ None
after_two q nq body [] tail h = absurd (omega (arith, h.1))
after_two q nq body (c ∷ cs) tail (first, others, e, inl h) = absurd (omega (arith, h.2))
after_two q nq body (c ∷ cs) tail (first, others, e, inr h) =
    ap (λ (t : List ℕ). expect q (t ++ tail)) e ∙ ap (expect q) (append_assoc first others tail) ∙ other_first q nq first c (others ++ tail) h.0

after_one : (q : ℕ) → 92 ≢ q → (body cs tail : List ℕ) → IsLongBody q 1 body cs → two_at q (body ++ tail) ≡ None
after_one q nq body [] tail h = absurd (omega (arith, h.1))
after_one q nq body (c ∷ cs) tail (first, others, e, inl h) =
    ap (λ (t : List ℕ). two_at q (t ++ tail)) (e ∙ ap (λ (t : List ℕ). t ++ others) h.0) ∙ two_behind q (others ++ tail) ∙ after_two q nq others cs tail h.3
after_one q nq body (c ∷ cs) tail (first, others, e, inr h) =
    ap (λ (t : List ℕ). two_at q (t ++ tail)) e ∙ ap (two_at q) (append_assoc first others tail) ∙ no_two q (first ++ (others ++ tail)) (other_first q nq first c (others ++ tail) h.0)

quote_open : (q : ℕ) → 92 ≢ q → (n : ℕ) (others cs tail : List ℕ) → n < 2 → IsLongBody q (suc n) others cs → three_at q (q ∷ (others ++ tail)) ≡ None
quote_open q nq zero others cs tail lt h = three_behind q (others ++ tail) ∙ after_one q nq others cs tail h
quote_open q nq (suc zero) others cs tail lt h = three_behind q (others ++ tail) ∙ no_two q (others ++ tail) (after_two q nq others cs tail h)
quote_open q nq (suc (suc n)) others cs tail lt h = absurd (omega arith)

long_read : (q : ℕ) → 92 ≢ q → (cs : List ℕ) (n : ℕ) (body rest : List ℕ) → IsLongBody q n body cs → long_body_at q (body ++ q ∷ q ∷ q ∷ rest) ≡ Some rest
long_read q nq [] n body rest h = ap (λ (t : List ℕ). long_body_at q (t ++ q ∷ q ∷ q ∷ rest)) h.0 ∙ long_ends q (q ∷ q ∷ q ∷ rest) rest (three_found q rest)
long_read q nq (c ∷ cs) n body rest (first, others, e, inl h) =
    let tail = q ∷ q ∷ q ∷ rest in
    ap (λ (t : List ℕ). long_body_at q (t ++ tail)) (e ∙ ap (λ (t : List ℕ). t ++ others) h.0)
    ∙ long_on q (q ∷ (others ++ tail)) q (others ++ tail) (plain_read q (others ++ tail) (λ same. nq (sym same))) (quote_open q nq n others cs tail h.2 h.3)
    ∙ long_read q nq cs (suc n) others rest h.3
long_read q nq (c ∷ cs) n body rest (first, others, e, inr h) =
    let tail = q ∷ q ∷ q ∷ rest in
    ap (λ (t : List ℕ). long_body_at q (t ++ tail)) e ∙ ap (long_body_at q) (append_assoc first others tail)
    ∙ long_on q (first ++ (others ++ tail)) c (others ++ tail) (character_complete q first c (others ++ tail) h.0) (no_three q (first ++ (others ++ tail)) (other_first q nq first c (others ++ tail) h.0))
    ∙ long_read q nq cs 0 others rest h.1

-- ---- a string, long or short

opened_sound : (q : ℕ) (cs rest : List ℕ) → long_at q cs ≡ Some rest → (three : List ℕ) × (cs ≡ q ∷ q ∷ q ∷ three) × Body q 0 three rest
unfolding long_at
opened_sound q cs rest e =
    let b = bind_some (three_at q cs) (long_body_at q) rest e in
    (b.0, three_sound q cs b.0 b.1, body_sound q b.0 rest b.2)

pub long_sound : (q : ℕ) (cs rest : List ℕ) → long_at q cs ≡ Some rest → (slice vs : List ℕ) × (cs ≡ slice ++ rest) × IsLong q slice vs
long_sound q cs rest e =
    let s = opened_sound q cs rest e in
    let b = s.2 in (
      q ∷ q ∷ q ∷ (b.0 ++ q ∷ q ∷ q ∷ []),
      b.1,
      s.1 ∙ ap (λ (t : List ℕ). q ∷ q ∷ q ∷ t) (b.2 ∙ sym (append_assoc b.0 (q ∷ q ∷ q ∷ []) rest)),
      (b.0, refl, b.3),
    )

pub long_claims : (q : ℕ) → 92 ≢ q → (body vs rest : List ℕ) → IsLongBody q 0 body vs → text_at q (q ∷ q ∷ q ∷ (body ++ q ∷ q ∷ q ∷ rest)) ≡ Some rest
unfolding text_at long_at
long_claims q nq body vs rest h = rw (three_found q (body ++ q ∷ q ∷ q ∷ rest), long_read q nq vs 0 body rest h) refl

head_is : (a b : ℕ) (xs ys : List ℕ) → (a ∷ xs) ≡ (b ∷ ys) → a ≡ b
head_is a b xs ys e = cc

tail_is : (a b : ℕ) (xs ys : List ℕ) → (a ∷ xs) ≡ (b ∷ ys) → xs ≡ ys
tail_is a b xs ys e = cc

body_empty : (q : ℕ) → 92 ≢ q → (vs body rest three : List ℕ) → Writes (IsStringCharacter q) body vs → body ++ q ∷ rest ≡ q ∷ q ∷ three → rest ≡ q ∷ three
body_empty q nq [] body rest three w e = tail_is q q rest (q ∷ three) (ap (λ (t : List ℕ). t ++ q ∷ rest) (sym w) ∙ e)
body_empty q nq (v ∷ vs) body rest three w e =
    let b = string_character_begins q nq w.0 v w.3 in
    let whole : body ++ q ∷ rest ≡ b.0 ∷ ((b.1 ++ w.1) ++ q ∷ rest) = ap (λ (t : List ℕ). t ++ q ∷ rest) (w.2 ∙ ap (λ (t : List ℕ). t ++ w.1) b.2) in
    absurd (b.3 (head_is b.0 q ((b.1 ++ w.1) ++ q ∷ rest) (q ∷ three) (sym whole ∙ e)))

pub short_claims : (q : ℕ) → 92 ≢ q → (slice vs rest : List ℕ) → IsShort q slice vs → Beats kind.Text rest (as_kind kind.Text (text_at q (slice ++ rest)))
unfolding text_at
short_claims q nq slice vs rest h =
    elim (cases_Option (long_at q (slice ++ rest))) [
      | inl none ↦ rw (none, quoted_end_read q slice vs rest nq h) (inl refl)
      | inr some ↦
          let s = opened_sound q (slice ++ rest) some.0 some.1 in
          let whole : slice ++ rest ≡ q ∷ (h.0 ++ q ∷ rest) = ap (λ (t : List ℕ). t ++ rest) h.1 ∙ ap (λ (t : List ℕ). q ∷ t) (append_assoc h.0 (q ∷ []) rest) in
          let e = body_empty q nq vs h.0 rest s.0 h.2 (tail_is q q (h.0 ++ q ∷ rest) (q ∷ q ∷ s.0) (sym whole ∙ s.1)) in
          rw some.1 (inr (omega (arith, ap length e, ap length s.2.2, length-append s.2.0 (q ∷ q ∷ q ∷ some.0))))
    ]
