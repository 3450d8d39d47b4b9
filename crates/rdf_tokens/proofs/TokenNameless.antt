-- Where a run of a prefix's characters ends without a colon, no prefixed name begins within it.
use Rattle.std.proofs.Common.{◌≡◌, ◌≢◌, ◌<◌, ◌≤◌, ℕ, true, false, eqb, List, [], ◌∷◌, ◌++◌, length, Some, None, refl, sym, ap, subst, ◌∙◌, inl, inr, append_assoc, length-append, arith}
use Rattle.std.specs.Str.{encode_utf8_all}
use Rattle.std.proofs.lemmas.Bool.{cases_Bool, eqb-true, ne_eqb}
use Rattle.std.proofs.lemmas.Str.{encodes-append}
use Rattle.rdf_terms.specs.Characters.{is_pn_chars_base, is_pn_chars}
use Rattle.rdf_terms.specs.Dotted.{skip_dots, dotted_at}
use Rattle.rdf_terms.specs.Reading.{byte_count, expect}
use Rattle.rdf_terms.specs.Skips.{skip, one_of}
use Rattle.rdf_terms.proofs.CallerLemmas.{unit_shortens, dotted_step, dotted_stop, cases_Option, some_is, guard_some}
use Rattle.rdf_tokens.specs.declared.token.Kind.{Kind}
use Rattle.rdf_tokens.specs.Tokens.{HasGap}
use Rattle.rdf_tokens.specs.Inside.TokenReading.{name_part_at, prefix_at, pname_at, token_at, NoPnameBefore}
use Rattle.rdf_tokens.proofs.TokenUnits.{name_unit}
use Rattle.rdf_tokens.proofs.TokenNames.{colon_stops}
use Rattle.rdf_tokens.proofs.TokenDispatch.{token_sound}
use Rattle.rdf_tokens.proofs.TokenLists.{within_start}

-- no more bytes follow a later place
later_bytes : (cs before later : List ℕ) → cs ≡ before ++ later → byte_count later ≤ byte_count cs
later_bytes cs before later e =
    omega (arith, ap byte_count e, ap length (encodes-append before later), length-append (encode_utf8_all before) (encode_utf8_all later))

apart : (end cs : List ℕ) → byte_count end < byte_count cs → end ≢ cs
apart end cs lt e = omega (arith, ap byte_count e, lt)

-- ---- runs

abbrev run : List ℕ → List ℕ
run cs = dotted_at name_part_at cs

dot_over : (cs : List ℕ) → skip_dots (46 ∷ cs) ≡ skip_dots cs
unfolding skip
dot_over cs = refl

no_dot : (d : ℕ) (cs : List ℕ) → eqb d 46 ≡ false → skip_dots (d ∷ cs) ≡ d ∷ cs
unfolding skip
no_dot d cs h = rw h refl

part_rest : (d : ℕ) (cs rest : List ℕ) → name_part_at (d ∷ cs) ≡ Some rest → cs ≡ rest
unfolding one_of
part_rest d cs rest e = some_is cs rest (guard_some (is_pn_chars d) (Some cs) rest e).1

-- a run that goes on, goes on behind its first character
run_tail : (d : ℕ) (cs end : List ℕ) → run (d ∷ cs) ≡ end → end ≢ (d ∷ cs) → run cs ≡ end
run_tail d cs end e ne =
    elim (cases_Option (name_part_at (skip_dots (d ∷ cs)))) [
      | inl none ↦ absurd (ne (sym e ∙ dotted_stop name_part_at (d ∷ cs) none))
      | inr some ↦
          let on : run some.0 ≡ end = sym (dotted_step name_part_at (unit_shortens name_part_at name_unit) (d ∷ cs) some.0 some.1) ∙ e in
          elim (cases_Bool (eqb d 46)) [
            | inl dot ↦
                let over : skip_dots (d ∷ cs) ≡ skip_dots cs = ap (λ (x : ℕ). skip_dots (x ∷ cs)) (eqb-true d 46 dot) ∙ dot_over cs in
                dotted_step name_part_at (unit_shortens name_part_at name_unit) cs some.0 (ap name_part_at (sym over) ∙ some.1) ∙ on
            | inr other ↦
                let same : cs ≡ some.0 = part_rest d cs some.0 (ap name_part_at (sym (no_dot d cs other)) ∙ some.1) in
                ap (λ (t : List ℕ). dotted_at name_part_at t) same ∙ on
          ]
    ]

-- and behind any of its characters
run_later : (before later end : List ℕ) → run (before ++ later) ≡ end → byte_count end < byte_count later → run later ≡ end
run_later [] later end e lt = e
run_later (d ∷ before) later end e lt =
    let more = later_bytes (d ∷ (before ++ later)) (d ∷ before) later refl in
    run_later before later end (run_tail d (before ++ later) end e (apart end (d ∷ (before ++ later)) (omega (arith, more, lt)))) lt

-- ---- no name in a run without a colon

no_colon : (d : ℕ) (cs : List ℕ) → d ≢ 58 → expect 58 (d ∷ cs) ≡ None
unfolding expect
no_colon d cs ne = rw (ne_eqb d 58 ne) refl

pname_none : (cs : List ℕ) → expect 58 (prefix_at cs) ≡ None → pname_at cs ≡ None
unfolding pname_at
pname_none cs e = rw e refl

letter_prefix : (d : ℕ) (cs : List ℕ) → is_pn_chars_base d ≡ true → prefix_at (d ∷ cs) ≡ run cs
unfolding prefix_at
letter_prefix d cs h = rw h refl

other_prefix : (d : ℕ) (cs : List ℕ) → is_pn_chars_base d ≡ false → prefix_at (d ∷ cs) ≡ d ∷ cs
unfolding prefix_at
other_prefix d cs h = rw h refl

within_run : (later end : List ℕ) → expect 58 end ≡ None → run later ≡ end → byte_count end < byte_count later → pname_at later ≡ None
within_run [] end e r lt = absurd (omega (arith, lt))
within_run (d ∷ cs) end e r lt =
    let ne : end ≢ (d ∷ cs) = apart end (d ∷ cs) lt in
    elim (cases_Bool (is_pn_chars_base d)) [
      | inl letter ↦ pname_none (d ∷ cs) (ap (expect 58) (letter_prefix d cs letter ∙ run_tail d cs end r ne) ∙ e)
      | inr other ↦
          pname_none (d ∷ cs)
          (ap (expect 58) (other_prefix d cs other)
          ∙ no_colon d cs (λ same. ne (sym r ∙ ap (λ (x : ℕ). dotted_at name_part_at (x ∷ cs)) same ∙ colon_stops cs ∙ ap (λ (x : ℕ). x ∷ cs) (sym same))))
    ]

tail_is : (a b : ℕ) (xs ys : List ℕ) → (a ∷ xs) ≡ (b ∷ ys) → xs ≡ ys
tail_is a b xs ys e = cc

none_before : (cs : List ℕ) → expect 58 (prefix_at cs) ≡ None → (before later : List ℕ) → cs ≡ before ++ later → byte_count (prefix_at cs) < byte_count later → pname_at later ≡ None
none_before [] e before later whole lt = absurd (omega (arith, later_bytes [] before later whole, lt))
none_before (d ∷ cs) e [] later whole lt = ap pname_at (sym whole) ∙ pname_none (d ∷ cs) e
none_before (d ∷ cs) e (b ∷ before) later whole lt =
    elim (cases_Bool (is_pn_chars_base d)) [
      | inl letter ↦
          let p = letter_prefix d cs letter in
          let small : byte_count (run cs) < byte_count later = subst (λ (t : List ℕ). byte_count t < byte_count later) p lt in
          let tail : cs ≡ before ++ later = tail_is d b cs (before ++ later) whole in
          within_run later (run cs) (ap (expect 58) (sym p) ∙ e) (run_later before later (run cs) (ap (λ (t : List ℕ). dotted_at name_part_at t) (sym tail)) small) small
      | inr other ↦
          let small : byte_count (d ∷ cs) < byte_count later = subst (λ (t : List ℕ). byte_count t < byte_count later) (other_prefix d cs other) lt in
          absurd (omega (arith, small, later_bytes (d ∷ cs) (b ∷ before) later whole))
    ]

-- ---- as the list is read

pub nameless_here : (cs : List ℕ) → expect 58 (prefix_at cs) ≡ None → NoPnameBefore cs (byte_count (prefix_at cs))
unfolding NoPnameBefore
nameless_here cs e = none_before cs e

pub nameless_use : (cs : List ℕ) (n : ℕ) → NoPnameBefore cs n → n < byte_count cs → pname_at cs ≡ None
unfolding NoPnameBefore
nameless_use cs n h lt = h [] cs refl lt

nameless_later : (cs before later : List ℕ) (n : ℕ) → cs ≡ before ++ later → NoPnameBefore cs n → NoPnameBefore later n
unfolding NoPnameBefore
nameless_later cs before later n e h =
    λ more last whole lt. h (before ++ more) last (e ∙ ap (λ (t : List ℕ). before ++ t) whole ∙ sym (append_assoc before more last)) lt

pub nameless_first : (cs : List ℕ) (n : ℕ) → n ≡ byte_count cs → NoPnameBefore cs n
unfolding NoPnameBefore
nameless_first cs n e = λ before later whole lt. absurd (omega (arith, later_bytes cs before later whole, e, lt))

pub nameless_start : (from start : List ℕ) (n : ℕ) → HasGap from start → NoPnameBefore from n → NoPnameBefore start n
nameless_start from start n gap h = let w = within_start from from start ([], refl) gap in nameless_later from w.0 start n w.1 h

pub nameless_after : (start : List ℕ) (k : Kind) (after : List ℕ) (n : ℕ) → token_at start ≡ Some (k, after) → NoPnameBefore start n → NoPnameBefore after n
nameless_after start k after n e h = let s = token_sound start (k, after) e in nameless_later start s.0 after n s.1 h
