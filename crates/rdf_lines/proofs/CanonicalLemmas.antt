-- Terms that stand in a line as canonical form writes them: what is read there is written the same.
use Rattle.std.proofs.Common.{◌≡◌, ◌∙◌, ◌⊎◌, ap, refl, sym, inl, inr, ℕ, suc, ◌+◌, ◌-◌, ◌<◌, ◌≤◌, arith, true, false, ◌==◌, List, [], ◌∷◌, ◌++◌, length, take, drop, get_or, append_assoc, append-nil, length-append, true≢false, Option, Some, None, is_some, ◌&&◌, ◌||◌, nat_lt}
use Rattle.std.specs.List.{flat_map, list_any, position, position_or_len}
use Rattle.std.specs.Char.{encode_utf8}
use Rattle.std.specs.Str.{NonePass, encode_utf8_all}
use Rattle.std.proofs.lemmas.Bool.{cases_Bool, cases_lt, cond-true, cond-false, and_from, and_parts, or_parts, le-ltb, lt-ltb}
use Rattle.std.proofs.lemmas.List.{take_all}
use Rattle.std.proofs.lemmas.List.Concat.{flat_map-append}
use Rattle.std.proofs.lemmas.Str.{encode_ascii, encodes-append, inside_one}
use Rattle.rdf_terms.specs.Cuts.{after, before}
use Rattle.rdf_terms.specs.Iri.{has_scheme, is_forbidden, is_scheme}
use Rattle.rdf_terms.specs.Reading.{LeadsTo, between, expect, iri_at, quoted_at}
use Rattle.rdf_terms.specs.Runs.{IsPast, ends_run}
use Rattle.rdf_terms.specs.TermText.{escaped}
use Rattle.rdf_terms.proofs.CallerLemmas.{between_is, by_escape, expect_sound, iri_complete, quoted_complete, string_body, writes_allowed}
use Rattle.rdf_lines.specs.Inside.Slices.{ReadsIri}
use Rattle.rdf_lines.proofs.LinePartLemmas.{differs}

encode_around : (c d : ℕ) → c < 128 → d < 128 → (body rest : List ℕ) → encode_utf8_all (c ∷ (body ++ d ∷ rest)) ≡ c ∷ (encode_utf8_all body ++ d ∷ encode_utf8_all rest)
encode_around c d low below body rest =
    ap (λ (t : List ℕ). t ++ encode_utf8_all (body ++ d ∷ rest)) (encode_ascii c low)
    ∙ ap (λ (t : List ℕ). c ∷ t) (encodes-append body (d ∷ rest) ∙ ap (λ (t : List ℕ). encode_utf8_all body ++ (t ++ encode_utf8_all rest)) (encode_ascii d below))

-- ---- IRIs without an escape

none_pass : (cs : List ℕ) → list_any is_forbidden cs ≡ false → NonePass is_forbidden cs
none_pass [] h = tt
none_pass (c ∷ cs) h = let parts = or_parts (is_forbidden c) (list_any is_forbidden cs) h in (parts.0, none_pass cs parts.1)

-- characters that stand for themselves, between angle brackets
iri_over : (cs body stop rest : List ℕ) → expect 60 cs ≡ Some body → IsPast is_forbidden body stop → expect 62 stop ≡ Some rest
    → (over : List ℕ) × (cs ≡ (60 ∷ (over ++ 62 ∷ [])) ++ rest) × (iri_at cs ≡ Some (encode_utf8_all over, rest))
iri_over cs body stop rest begins past ends =
    let whole : cs ≡ (60 ∷ (past.0 ++ 62 ∷ [])) ++ rest =
    expect_sound 60 cs body begins
    ∙ ap (λ (t : List ℕ). 60 ∷ t) (past.1 ∙ ap (λ (t : List ℕ). past.0 ++ t) (expect_sound 62 stop rest ends) ∙ sym (append_assoc past.0 (62 ∷ []) rest)) in (
      past.0,
      whole,
      ap iri_at whole ∙ iri_complete (60 ∷ (past.0 ++ 62 ∷ [])) (encode_utf8_all past.0) rest (past.0, past.0, refl, writes_allowed past.0 (none_pass past.0 past.2), refl),
    )

-- what is read over them is all before the place behind
pub iri_leads : (cs body stop rest : List ℕ) → expect 60 cs ≡ Some body → IsPast is_forbidden body stop → expect 62 stop ≡ Some rest → LeadsTo cs rest
iri_leads cs body stop rest begins past ends =
    let o = iri_over cs body stop rest begins past ends in (60 ∷ (o.0 ++ 62 ∷ []), o.1)

pub reads_iri : (cs body stop rest text : List ℕ) → expect 60 cs ≡ Some body → IsPast is_forbidden body stop → expect 62 stop ≡ Some rest
    → text ≡ encode_utf8_all (between cs rest) → ((iri : List ℕ) → text ≡ 60 ∷ (iri ++ 62 ∷ []) → has_scheme iri ≡ true) → ReadsIri cs text rest
reads_iri cs body stop rest text begins past ends is scheme =
    let o = iri_over cs body stop rest begins past ends in
    let slice = 60 ∷ (o.0 ++ 62 ∷ []) in
    let iri = encode_utf8_all o.0 in
    let bytes : text ≡ encode_utf8_all slice = is ∙ ap encode_utf8_all (between_is cs rest slice o.1) in
    let angled : text ≡ 60 ∷ (iri ++ 62 ∷ []) = bytes ∙ encode_around 60 62 (omega arith) (omega arith) o.0 [] in
    (iri, slice, o.2, cond-true (has_scheme iri) (Some iri) None (scheme iri angled), angled, o.1, bytes)

-- ---- schemes

abbrev place : List ℕ → ℕ
place cs = position_or_len (λ c. c == 58) cs

one_more : (n : ℕ) → 1 + n ≡ suc n
one_more n = omega arith

take_place : (cs : List ℕ) → take (place cs) cs ≡ before 58 cs
take_place [] = refl
take_place (c ∷ cs) =
    elim (cases_Bool (c == 58)) [
      | inl is ↦ rw is refl
      | inr not ↦ rw (not, one_more (place cs)) (ap (λ (t : List ℕ). c ∷ t) (take_place cs))
    ]

after_some : (cs : List ℕ) → place cs < length cs → Some (drop (suc (place cs)) cs) ≡ after 58 cs
after_some [] h = absurd (omega arith)
after_some (c ∷ cs) h =
    elim (cases_Bool (c == 58)) [
      | inl is ↦ rw is refl
      | inr not ↦ let g = rw not at h in let below : place cs < length cs = omega arith in rw (not, one_more (place cs)) (after_some cs below)
    ]

-- a scheme before the first colon
pub scheme_is : (text : List ℕ) (n : ℕ) → Some n ≡ position (λ c. c == 58) text → n < length text → is_scheme (take n text) ≡ true → has_scheme text ≡ true
scheme_is text n e within h =
    elim (cases_lt (place text) (length text)) [
      | inl below ↦
          let whole : Some n ≡ Some (place text) = e ∙ cond-true (nat_lt (place text) (length text)) (Some (place text)) None (lt-ltb (place text) (length text) below) in
          let same : n ≡ place text = cc in
          let front : is_scheme (before 58 text) ≡ true = ap is_scheme (sym (ap (λ (k : ℕ). take k text) same ∙ take_place text)) ∙ h in
          ap (λ (o : Option (List ℕ)). is_some o && is_scheme (before 58 text)) (sym (after_some text below)) ∙ front
      | inr past ↦
          let whole : Some n ≡ None = e ∙ cond-false (nat_lt (place text) (length text)) (Some (place text)) None (le-ltb (place text) (length text) past) in
          absurd (let bad : ⊥ = cc in bad)
    ]

behind_colon : (iri : List ℕ) → is_some (after 58 (iri ++ 62 ∷ [])) ≡ true → (is_some (after 58 iri) ≡ true) × (before 58 (iri ++ 62 ∷ []) ≡ before 58 iri)
behind_colon [] h = absurd (true≢false (sym h))
behind_colon (c ∷ cs) h =
    elim (cases_Bool (c == 58)) [
      | inl is ↦ rw is (refl, refl)
      | inr not ↦ let g = rw not at h in let r = behind_colon cs g in rw not (r.0, ap (λ (t : List ℕ). c ∷ t) r.1)
    ]

-- the scheme of an IRI before its `>`
pub scheme_before_angle : (iri : List ℕ) → has_scheme (iri ++ 62 ∷ []) ≡ true → has_scheme iri ≡ true
scheme_before_angle iri h =
    let parts = and_parts (is_some (after 58 (iri ++ 62 ∷ []))) (is_scheme (before 58 (iri ++ 62 ∷ []))) h in
    let r = behind_colon iri parts.0 in
    and_from (is_some (after 58 iri)) (is_scheme (before 58 iri)) r.0 (sym (ap is_scheme r.1) ∙ parts.1)

-- the same, behind a byte
pub scheme_behind : (text iri : List ℕ) → text ≡ 60 ∷ (iri ++ 62 ∷ []) → has_scheme (take (length text - 1) (drop 1 text)) ≡ true → has_scheme iri ≡ true
scheme_behind text iri e h =
    let n : length text - 1 ≡ length (iri ++ 62 ∷ []) = let l = ap length e in omega (arith, l) in
    let whole : take (length text - 1) (drop 1 text) ≡ iri ++ 62 ∷ [] =
    ap (λ (k : ℕ). take k (drop 1 text)) n ∙ ap (λ (t : List ℕ). take (length (iri ++ 62 ∷ [])) (drop 1 t)) e ∙ take_all (length (iri ++ 62 ∷ [])) (iri ++ 62 ∷ []) (omega arith) in
    scheme_before_angle iri (sym (ap has_scheme whole) ∙ h)

-- ---- strings

-- characters that stand for themselves are written so
pub run_escaped : (over : List ℕ) → list_any (ends_run 34) over ≡ false → flat_map escaped over ≡ over
run_escaped [] h = refl
run_escaped (c ∷ cs) h =
    let parts = or_parts (ends_run 34 c) (list_any (ends_run 34) cs) h in
    let backslash = or_parts (c == 92) ((c == 34) || (c == 10) || (c == 13)) parts.0 in
    let return = or_parts ((c == 34) || (c == 10)) (c == 13) backslash.1 in
    let marks = or_parts (c == 34) (c == 10) return.0 in
    let plain : escaped c ≡ c ∷ [] = rw (marks.0, backslash.0, marks.1, return.1) refl in
    ap (λ (t : List ℕ). t ++ flat_map escaped cs) plain ∙ ap (λ (t : List ℕ). c ∷ t) (run_escaped cs parts.1)

-- over characters that stand for themselves
pub over_run : (at cs rest stop : List ℕ) → at ≡ 34 ∷ (flat_map escaped cs ++ rest) → IsPast (ends_run 34) rest stop
    → (ds : List ℕ) × (at ≡ 34 ∷ (flat_map escaped ds ++ stop))
over_run at cs rest stop e past = (
  cs ++ past.0,
  e ∙ ap (λ (t : List ℕ). 34 ∷ (flat_map escaped cs ++ t)) (past.1 ∙ ap (λ (t : List ℕ). t ++ stop) (sym (run_escaped past.0 past.2)))
      ∙ ap (λ (t : List ℕ). 34 ∷ t) (sym (append_assoc (flat_map escaped cs) (flat_map escaped past.0) stop) ∙ ap (λ (t : List ℕ). t ++ stop) (sym (flat_map-append escaped cs past.0))),
)

-- a letter of an escape that canonical form writes
pub escape_is : (letter : ℕ) (rest : List ℕ) → (letter ≡ 34) ⊎ ((letter ≡ 92) ⊎ ((letter ≡ 110) ⊎ (letter ≡ 114))) → (c : ℕ) × ◌≡◌ {A = List ℕ} (92 ∷ letter ∷ rest) (escaped c ++ rest)
escape_is letter rest (inl e) = (34, ap (λ (x : ℕ). 92 ∷ x ∷ rest) e)
escape_is letter rest (inr (inl e)) = (92, ap (λ (x : ℕ). 92 ∷ x ∷ rest) e)
escape_is letter rest (inr (inr (inl e))) = (10, ap (λ (x : ℕ). 92 ∷ x ∷ rest) e)
escape_is letter rest (inr (inr (inr e))) = (13, ap (λ (x : ℕ). 92 ∷ x ∷ rest) e)

-- over an escape
pub over_escape : (at cs stop escape rest : List ℕ) (c : ℕ) → at ≡ 34 ∷ (flat_map escaped cs ++ stop) → stop ≡ 92 ∷ escape → 92 ∷ escape ≡ escaped c ++ rest
    → (ds : List ℕ) × (at ≡ 34 ∷ (flat_map escaped ds ++ rest))
over_escape at cs stop escape rest c e begins is = (
  cs ++ c ∷ [],
  e ∙ ap (λ (t : List ℕ). 34 ∷ (flat_map escaped cs ++ t)) (begins ∙ is ∙ ap (λ (t : List ℕ). t ++ rest) (sym (append-nil (escaped c))))
      ∙ ap (λ (t : List ℕ). 34 ∷ t) (sym (append_assoc (flat_map escaped cs) (flat_map escaped (c ∷ [])) rest) ∙ ap (λ (t : List ℕ). t ++ rest) (sym (flat_map-append escaped cs (c ∷ [])))),
)

some_bytes : (c : ℕ) → 1 ≤ length (escaped c)
some_bytes = by_escape (λ c unit. 1 ≤ length unit) (omega arith) (omega arith) (omega arith) (omega arith) (λ c q b f r. omega arith)

pub escape_falls : (from stop escape rest : List ℕ) (c : ℕ) → length stop ≤ length from → stop ≡ 92 ∷ escape → 92 ∷ escape ≡ escaped c ++ rest → length rest < length from
escape_falls from stop escape rest c h begins is =
    let some = some_bytes c in let l = ap length (begins ∙ is) in omega (arith, h, l, length-append (escaped c) rest, some)

-- ---- the bytes of a string that is written so

plain_escaped : (c : ℕ) → 128 ≤ c → escaped c ≡ c ∷ []
plain_escaped c h = by_escape (λ d unit. 128 ≤ d → unit ≡ d ∷ []) (λ l. absurd (omega (arith, l))) (λ l. absurd (omega (arith, l))) (λ l. absurd (omega (arith, l))) (λ l. absurd (omega (arith, l)))
    (λ d q b f r l. refl) c h

high_escaped : (bs : List ℕ) → ((k : ℕ) → k < length bs → 128 ≤ get_or bs k 0) → flat_map escaped bs ≡ bs
high_escaped [] h = refl
high_escaped (b ∷ bs) h =
    ap (λ (t : List ℕ). t ++ flat_map escaped bs) (plain_escaped b (h 0 (omega arith))) ∙ ap (λ (t : List ℕ). b ∷ t) (high_escaped bs (λ k l. h (suc k) (omega (arith, l))))

low_escape : (c : ℕ) → c < 128 → encode_utf8_all (escaped c) ≡ escaped c
unfolding encode_utf8
low_escape = by_escape (λ d unit. d < 128 → encode_utf8_all unit ≡ unit) (λ l. refl) (λ l. refl) (λ l. refl) (λ l. refl)
    (λ d q b f r l. ap (λ (t : List ℕ). t ++ []) (encode_ascii d l))

one_escaped : (c : ℕ) → flat_map escaped (encode_utf8 c) ≡ encode_utf8_all (escaped c)
one_escaped c = elim (cases_lt c 128) [
  | inl low ↦ ap (flat_map escaped) (encode_ascii c low) ∙ append-nil (escaped c) ∙ sym (low_escape c low)
  | inr high ↦
      let bytes : (k : ℕ) → k < length (encode_utf8 c) → 128 ≤ get_or (encode_utf8 c) k 0 =
      λ k l. elim (cases_lt (get_or (encode_utf8 c) k 0) 128) [
        | inl small ↦ let same = inside_one c [] (encode_utf8 c) k (sym (append-nil (encode_utf8 c))) l small in absurd (omega (arith, same, small, high))
        | inr large ↦ large
      ] in
      high_escaped (encode_utf8 c) bytes ∙ sym (append-nil (encode_utf8 c)) ∙ sym (ap encode_utf8_all (plain_escaped c high))
]

all_escaped : (cs : List ℕ) → flat_map escaped (encode_utf8_all cs) ≡ encode_utf8_all (flat_map escaped cs)
all_escaped [] = refl
all_escaped (c ∷ cs) =
    flat_map-append escaped (encode_utf8 c) (encode_utf8_all cs) ∙ (λ i. one_escaped c i ++ all_escaped cs i) ∙ sym (encodes-append (escaped c) (flat_map escaped cs))

-- a string that is written so, and what it says
pub string_reads : (at cs rest : List ℕ) → at ≡ 34 ∷ (flat_map escaped cs ++ 34 ∷ rest) → quoted_at 34 at ≡ Some (encode_utf8_all cs, rest)
string_reads at cs rest e =
    let parts : at ≡ (34 ∷ (flat_map escaped cs ++ 34 ∷ [])) ++ rest = e ∙ ap (λ (t : List ℕ). 34 ∷ t) (sym (append_assoc (flat_map escaped cs) (34 ∷ []) rest)) in
    ap (quoted_at 34) parts ∙ quoted_complete 34 (differs 92 34 refl) (34 ∷ (flat_map escaped cs ++ 34 ∷ [])) (encode_utf8_all cs) rest (flat_map escaped cs, cs, refl, string_body cs, refl)

-- and its text, with what follows it
pub string_text : (cs over : List ℕ) → encode_utf8_all (34 ∷ (flat_map escaped cs ++ 34 ∷ over)) ≡ 34 ∷ (flat_map escaped (encode_utf8_all cs) ++ 34 ∷ encode_utf8_all over)
string_text cs over = encode_around 34 34 (omega arith) (omega arith) (flat_map escaped cs) over ∙ ap (λ (t : List ℕ). 34 ∷ (t ++ 34 ∷ encode_utf8_all over)) (sym (all_escaped cs))
