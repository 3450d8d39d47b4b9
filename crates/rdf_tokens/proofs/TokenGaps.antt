-- What is skipped between tokens is a gap, and every gap is skipped.
use Rattle.std.proofs.Common.{◌≡◌, ◌≢◌, ◌⊎◌, ◌<◌, ℕ, Bool, true, false, eqb, List, [], ◌∷◌, ◌++◌, length, Some, None, refl, sym, ap, subst, ◌∙◌, inl, inr, append_assoc, arith}
use Rattle.std.specs.List.{AllByRecursion}
use Rattle.std.proofs.lemmas.List.{append-nil}
use Rattle.std.proofs.lemmas.Bool.{cases_Bool, eqb-true, eqb-false, ne_eqb, true≢false, or_cases}
use Rattle.std.specs.Prelude.{not}
use Rattle.rdf_terms.specs.LineEnds.{is_line_end}
use Rattle.rdf_terms.specs.Reading.{expect}
use Rattle.rdf_terms.specs.Skips.{skip}
use Rattle.rdf_terms.proofs.CallerLemmas.{none_is, expect_sound, expect_complete, skip_step, skip_stop, skip_end, skip_no_longer}
use Rattle.rdf_tokens.specs.Inside.Shortcuts.{in_line}
use Rattle.rdf_tokens.specs.Characters.{is_white}
use Rattle.rdf_tokens.specs.Tokens.{IsComment, IsBlank, Gap, HasGap, Ends}
use Rattle.rdf_tokens.specs.Inside.TokenReading.{gap_step, skip_gap}

-- no gap goes on here
abbrev pub Stops : List ℕ → Type 0
Stops [] = Unit {0}
Stops (c ∷ _) = (is_white c ≡ false) × (c ≢ 35)

abbrev InLine : List ℕ → Type 0
InLine cs = AllByRecursion (λ d. is_line_end d ≡ false) cs

-- ---- steps

step_white : (c : ℕ) (cs : List ℕ) → is_white c ≡ true → skip_gap false (c ∷ cs) ≡ skip_gap false cs
unfolding skip_gap gap_step
step_white c cs h = rw (skip_gap, white_no_mark c h, h) refl
  where
    white_no_mark : (c : ℕ) → is_white c ≡ true → eqb c 35 ≡ false
    white_no_mark c h = ne_eqb c 35 (λ e. true≢false (sym h ∙ ap is_white e))

step_mark : (cs : List ℕ) → skip_gap false (35 ∷ cs) ≡ skip_gap true cs
unfolding skip_gap gap_step
step_mark cs = refl

step_stop : (c : ℕ) (cs : List ℕ) → is_white c ≡ false → c ≢ 35 → skip_gap false (c ∷ cs) ≡ c ∷ cs
unfolding skip_gap gap_step
step_stop c cs h ne = rw (skip_gap, ne_eqb c 35 ne, h) refl

step_comment : (c : ℕ) (cs : List ℕ) → is_line_end c ≡ false → skip_gap true (c ∷ cs) ≡ skip_gap true cs
unfolding skip_gap gap_step
step_comment c cs h = rw (skip_gap, h) refl

step_line_end : (c : ℕ) (cs : List ℕ) → is_line_end c ≡ true → skip_gap true (c ∷ cs) ≡ skip_gap false cs
unfolding skip_gap gap_step
step_line_end c cs h = rw (skip_gap, h) refl

skip_nil : (b : Bool) → skip_gap b [] ≡ []
unfolding skip_gap
skip_nil b = refl

-- ---- what is skipped

-- outside a comment: a gap, and then what is left, or a last comment
abbrev Skipped : List ℕ → Type 0
Skipped cs =
    (last : List ℕ) × HasGap cs last × (((skip_gap false cs ≡ last) × Stops last) ⊎ (IsComment last × (skip_gap false cs ≡ [])))

-- within a comment: the rest of the line, and then the end or what follows the line
abbrev Comments : List ℕ → Type 0
Comments cs =
    (line : List ℕ) × InLine line
    × (((cs ≡ line) × (skip_gap true cs ≡ []))
    ⊎ ((end : ℕ) × (after : List ℕ) × (cs ≡ line ++ end ∷ after) × (is_line_end end ≡ true) × (skip_gap true cs ≡ skip_gap false after) × Skipped after))

abbrev Skips : Bool → List ℕ → Type 0
Skips false cs = Skipped cs
Skips true cs = Comments cs

more_gap : (blank cs last : List ℕ) → IsBlank blank → HasGap cs last → HasGap (blank ++ cs) last
more_gap blank cs last b g = (blank ∷ g.0, (cs, refl, b, g.1))

at_white : (c : ℕ) (cs : List ℕ) → is_white c ≡ true → Skipped cs → Skipped (c ∷ cs)
at_white c cs h s =
    let e = step_white c cs h in
    (s.0, more_gap (c ∷ []) cs s.0 (inl (c, refl, h)) s.1, rw e s.2)

at_mark : (cs : List ℕ) → Comments cs → Skipped (35 ∷ cs)
at_mark cs (line, all, inl h) =
    let e = step_mark cs in
    (35 ∷ cs, ([], refl), inr ((refl, subst InLine (sym h.0) all), e ∙ h.1))
at_mark cs (line, all, inr h) =
    let end = h.0 in
    let after = h.1 in
    let s = h.5 in
    let e : skip_gap false (35 ∷ cs) ≡ skip_gap false after = step_mark cs ∙ h.4 in
    let whole : 35 ∷ cs ≡ ((35 ∷ line) ++ end ∷ []) ++ after = ap (λ (t : List ℕ). 35 ∷ t) (h.2 ∙ sym (append_assoc line (end ∷ []) after)) in
    let blank : IsBlank ((35 ∷ line) ++ end ∷ []) = inr (35 ∷ line, end, refl, (refl, all), h.3) in
    (s.0, subst (λ (t : List ℕ). HasGap t s.0) (sym whole) (more_gap ((35 ∷ line) ++ end ∷ []) after s.0 blank s.1), rw e s.2)

comment_more : (c : ℕ) (cs : List ℕ) → is_line_end c ≡ false → Comments cs → Comments (c ∷ cs)
comment_more c cs h (line, all, inl k) =
    (c ∷ line, (h, all), inl (ap (λ (t : List ℕ). c ∷ t) k.0, step_comment c cs h ∙ k.1))
comment_more c cs h (line, all, inr k) =
    (c ∷ line, (h, all), inr (k.0, k.1, ap (λ (t : List ℕ). c ∷ t) k.2, k.3, step_comment c cs h ∙ k.4, k.5))

skips : (b : Bool) (cs : List ℕ) → Skips b cs
skips false [] = ([], ([], refl), inl (skip_nil false, tt))
skips true [] = ([], tt, inl (refl, skip_nil true))
skips false (c ∷ cs) =
    elim (cases_Bool (is_white c)) [
      | inl white ↦ at_white c cs white (skips false cs)
      | inr solid ↦
          elim (cases_Bool (eqb c 35)) [
            | inl mark ↦ subst (λ (x : ℕ). Skipped (x ∷ cs)) (sym (eqb-true c 35 mark)) (at_mark cs (skips true cs))
            | inr other ↦ (c ∷ cs, ([], refl), inl (step_stop c cs solid (eqb-false c 35 other), (solid, eqb-false c 35 other)))
          ]
    ]
skips true (c ∷ cs) =
    elim (cases_Bool (is_line_end c)) [
      | inl end ↦ ([], tt, inr (c, cs, refl, end, step_line_end c cs end, skips false cs))
      | inr not_end ↦ comment_more c cs not_end (skips true cs)
    ]

-- nothing is left: the text ends
pub skip_ends : (cs : List ℕ) → skip_gap false cs ≡ [] → Ends cs
skip_ends cs e =
    let s = skips false cs in
    elim s.2 [
      | inl h ↦ (s.0, s.1, inl (sym h.0 ∙ e))
      | inr h ↦ (s.0, s.1, inr h.0)
    ]

-- something is left: a gap comes before it, and it is no gap
pub skip_starts : (cs : List ℕ) (c : ℕ) (rest : List ℕ) → skip_gap false cs ≡ c ∷ rest → HasGap cs (c ∷ rest) × Stops (c ∷ rest)
skip_starts cs c rest e =
    let s = skips false cs in
    elim s.2 [
      | inl h ↦
          let same : s.0 ≡ c ∷ rest = sym h.0 ∙ e in
          (subst (λ (t : List ℕ). HasGap cs t) same s.1, subst Stops same h.1)
      | inr h ↦ absurd (nil_not_cons c rest (sym h.1 ∙ e))
    ]
  where
    nil_not_cons : (c : ℕ) (rest : List ℕ) → [] ≡ c ∷ rest → ⊥
    nil_not_cons c rest e = cc

-- ---- every gap is skipped

over_line : (line cs : List ℕ) → InLine line → skip_gap true (line ++ cs) ≡ skip_gap true cs
over_line [] cs h = refl
over_line (c ∷ line) cs h = step_comment c (line ++ cs) h.0 ∙ over_line line cs h.1

over_comment : (comment : List ℕ) (end : ℕ) (cs : List ℕ) → IsComment comment → is_line_end end ≡ true → skip_gap false ((comment ++ end ∷ []) ++ cs) ≡ skip_gap false cs
over_comment [] end cs h e = absurd h
over_comment (c ∷ line) end cs h e =
    ap (λ (x : ℕ). skip_gap false (x ∷ ((line ++ end ∷ []) ++ cs))) h.0
    ∙ step_mark ((line ++ end ∷ []) ++ cs)
    ∙ ap (skip_gap true) (append_assoc line (end ∷ []) cs)
    ∙ over_line line (end ∷ cs) h.1
    ∙ step_line_end end cs e

over_blank : (blank cs : List ℕ) → IsBlank blank → skip_gap false (blank ++ cs) ≡ skip_gap false cs
over_blank blank cs (inl h) = ap (λ (t : List ℕ). skip_gap false (t ++ cs)) h.1 ∙ step_white h.0 cs h.2
over_blank blank cs (inr h) = ap (λ (t : List ℕ). skip_gap false (t ++ cs)) h.2 ∙ over_comment h.0 h.1 cs h.3 h.4

over_gap : (blanks : List (List ℕ)) (text start : List ℕ) → Gap blanks text start → skip_gap false text ≡ skip_gap false start
over_gap [] text start h = ap (skip_gap false) h
over_gap (blank ∷ blanks) text start h = ap (skip_gap false) h.1 ∙ over_blank blank h.0 h.2 ∙ over_gap blanks h.0 start h.3

stops_there : (start : List ℕ) → Stops start → skip_gap false start ≡ start
stops_there [] h = skip_nil false
stops_there (c ∷ cs) h = step_stop c cs h.0 h.1

pub gap_skipped : (text start : List ℕ) → HasGap text start → Stops start → skip_gap false text ≡ start
gap_skipped text start g h = over_gap g.0 text start g.1 ∙ stops_there start h

comment_skipped : (last : List ℕ) → IsComment last → skip_gap false last ≡ []
comment_skipped [] h = absurd h
comment_skipped (c ∷ line) h =
    ap (λ (x : ℕ). skip_gap false (x ∷ line)) h.0 ∙ step_mark line ∙ ap (skip_gap true) (sym (append-nil line)) ∙ over_line line [] h.1 ∙ skip_nil true

pub end_skipped : (text : List ℕ) → Ends text → skip_gap false text ≡ []
end_skipped text (last, g, inl e) = over_gap g.0 text last g.1 ∙ ap (skip_gap false) e ∙ skip_nil false
end_skipped text (last, g, inr c) = over_gap g.0 text last g.1 ∙ comment_skipped last c

-- ---- white space at once, and a comment at once

pub gap_over_white : (cs : List ℕ) → skip_gap false (skip is_white cs) ≡ skip_gap false cs
gap_over_white [] = ap (skip_gap false) (skip_end is_white)
gap_over_white (c ∷ cs) =
    elim (cases_Bool (is_white c)) [
      | inl white ↦ ap (skip_gap false) (skip_step is_white c cs white) ∙ gap_over_white cs ∙ sym (step_white c cs white)
      | inr solid ↦ ap (skip_gap false) (skip_stop is_white c cs solid)
    ]

line_end_white : (c : ℕ) → is_line_end c ≡ true → is_white c ≡ true
line_end_white c h =
    elim (or_cases (eqb c 10) (eqb c 13) h) [
      | inl feed ↦ ap is_white (eqb-true c 10 feed)
      | inr return ↦ ap is_white (eqb-true c 13 return)
    ]

over_comment_line : (cs : List ℕ) → skip_gap false (skip is_white (skip in_line cs)) ≡ skip_gap true cs
over_comment_line [] = ap (λ (t : List ℕ). skip_gap false (skip is_white t)) (skip_end in_line) ∙ ap (skip_gap false) (skip_end is_white) ∙ skip_nil false ∙ sym (skip_nil true)
over_comment_line (c ∷ cs) =
    elim (cases_Bool (is_line_end c)) [
      | inl end ↦
          ap (λ (t : List ℕ). skip_gap false (skip is_white t)) (skip_stop in_line c cs (ap not end))
          ∙ gap_over_white (c ∷ cs) ∙ step_white c cs (line_end_white c end) ∙ sym (step_line_end c cs end)
      | inr on ↦
          ap (λ (t : List ℕ). skip_gap false (skip is_white t)) (skip_step in_line c cs (ap not on))
          ∙ over_comment_line cs ∙ sym (step_comment c cs on)
    ]

pub skip_again : (p : ℕ → Bool) (cs : List ℕ) → skip p (skip p cs) ≡ skip p cs
skip_again p [] = ap (skip p) (skip_end p)
skip_again p (c ∷ cs) =
    elim (cases_Bool (p c)) [
      | inl on ↦ ap (skip p) (skip_step p c cs on) ∙ skip_again p cs ∙ sym (skip_step p c cs on)
      | inr off ↦ ap (skip p) (skip_stop p c cs off)
    ]

-- behind a `#`, the line and the white space
pub gap_over_comment : (rest comment line_end last : List ℕ) → expect 35 rest ≡ Some comment → line_end ≡ skip in_line comment → last ≡ skip is_white line_end
    → skip_gap false last ≡ skip_gap false rest
gap_over_comment rest comment line_end last e line white =
    ap (skip_gap false) (white ∙ ap (skip is_white) line) ∙ over_comment_line comment ∙ sym (ap (skip_gap false) (expect_sound 35 rest comment e) ∙ step_mark comment)

pub comment_shorter : (rest comment line_end last : List ℕ) → expect 35 rest ≡ Some comment → line_end ≡ skip in_line comment → last ≡ skip is_white line_end
    → length last < length rest
comment_shorter rest comment line_end last e line white =
    omega (arith, ap length (expect_sound 35 rest comment e), ap length line, ap length white, skip_no_longer in_line comment, skip_no_longer is_white line_end)

pub gap_done : (rest : List ℕ) → skip is_white rest ≡ rest → expect 35 rest ≡ None → rest ≡ skip_gap false rest
gap_done [] h e = sym (skip_nil false)
gap_done (c ∷ cs) h e =
    elim (cases_Bool (is_white c)) [
      | inl white ↦ absurd (omega (arith, ap length (sym h ∙ skip_step is_white c cs white), skip_no_longer is_white cs))
      | inr solid ↦
          elim (cases_Bool (eqb c 35)) [
            | inl mark ↦ none_is cs (sym e ∙ ap (λ (x : ℕ). expect 35 (x ∷ cs)) (eqb-true c 35 mark) ∙ expect_complete 35 cs)
            | inr other ↦ sym (step_stop c cs solid (eqb-false c 35 other))
          ]
    ]
