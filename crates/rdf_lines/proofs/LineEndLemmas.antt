-- A text is its lines, each with its end, and is no others.
use Rattle.std.proofs.Common.{◌≡◌, ◌∙◌, inl, inr, ap, refl, sym, subst, ℕ, true, false, eqb, List, [], ◌∷◌, ◌++◌, append-nil}
use Rattle.std.specs.List.{list_any, onto_first}
use Rattle.std.proofs.lemmas.Bool.{cases_Bool, eqb-true, or_parts, or_from}
use Rattle.rdf_terms.specs.LineEnds.{is_line_end, begins_with_lf}
use Rattle.rdf_lines.specs.Lines.{lines_behind}
use Rattle.rdf_lines.specs.LineEnds.{EndsLine, AreTheText, LinesAreTheText, NoOthersAreTheText}
use Rattle.rdf_lines.specs.Pieces.{onto}
use Rattle.rdf_lines.proofs.PieceLemmas.{other, not_feed, onto-cons, onto-none}

-- ---- the lines are the text

longer : (b : ℕ) (line end behind : List ℕ) → EndsLine line end behind → EndsLine (b ∷ line) end behind
longer b line end behind (inl ended) = inl ended
longer b line end behind (inr last) = inr (last.0, last.1, λ e. cc)

-- a byte that ends no line goes onto the first one
onto_front : (b : ℕ) (bs : List ℕ) (ls : List (List ℕ)) → is_line_end b ≡ false → AreTheText ls bs → AreTheText (onto_first b ls) (b ∷ bs)
onto_front b bs [] plain over = ([], [], ap (λ (t : List ℕ). b ∷ t) over, or_from (is_line_end b) false plain refl, inr (refl, refl, λ e. cc), refl)
onto_front b bs (line ∷ more) plain t =
    (t.0, t.1, ap (λ (u : List ℕ). b ∷ u) t.2, or_from (is_line_end b) (list_any is_line_end line) plain t.3, longer b line t.0 t.1 t.4, t.5)

-- what the induction keeps: of a text, and of a CR before it
record Both (text : List ℕ) : Type 0 where
  here : AreTheText (lines_behind false text) text
  behind_return : AreTheText ([] ∷ lines_behind true text) (13 ∷ text)

at_feed : (bs : List ℕ) → Both bs → AreTheText (lines_behind false (10 ∷ bs)) (10 ∷ bs)
at_feed bs h = (10 ∷ [], bs, refl, refl, inl (inl refl), h.here)

at_both : (bs : List ℕ) → Both bs → AreTheText ([] ∷ lines_behind true (10 ∷ bs)) (13 ∷ 10 ∷ bs)
at_both bs h = (13 ∷ 10 ∷ [], bs, refl, refl, inl (inr (inl refl)), h.here)

one_more : (b : ℕ) (bs : List ℕ) → Both bs → AreTheText (lines_behind false (b ∷ bs)) (b ∷ bs)
one_more b bs h =
    elim (cases_Bool (eqb b 10)) [
      | inl feed ↦ subst (λ (c : ℕ). AreTheText (lines_behind false (c ∷ bs)) (c ∷ bs)) (sym (eqb-true b 10 feed)) (at_feed bs h)
      | inr no_feed ↦
          elim (cases_Bool (eqb b 13)) [
            | inl return ↦ subst (λ (c : ℕ). AreTheText (lines_behind false (c ∷ bs)) (c ∷ bs)) (sym (eqb-true b 13 return)) h.behind_return
            | inr no_return ↦
                let plain : is_line_end b ≡ false = or_from (eqb b 10) (eqb b 13) no_feed no_return in
                subst (λ (ls : List (List ℕ)). AreTheText ls (b ∷ bs)) (sym (other b bs plain)) (onto_front b bs (lines_behind false bs) plain h.here)
          ]
    ]

behind_one : (b : ℕ) (bs : List ℕ) → Both bs → AreTheText (lines_behind false (b ∷ bs)) (b ∷ bs) → AreTheText ([] ∷ lines_behind true (b ∷ bs)) (13 ∷ b ∷ bs)
behind_one b bs h here =
    elim (cases_Bool (eqb b 10)) [
      | inl feed ↦ subst (λ (c : ℕ). AreTheText ([] ∷ lines_behind true (c ∷ bs)) (13 ∷ c ∷ bs)) (sym (eqb-true b 10 feed)) (at_both bs h)
      | inr no_feed ↦
          subst (λ (ls : List (List ℕ)). AreTheText ([] ∷ ls) (13 ∷ b ∷ bs)) (sym (not_feed true b bs no_feed))
          (13 ∷ [], b ∷ bs, refl, refl, inl (inr (inr (refl, no_feed))), here)
    ]

both : (text : List ℕ) → Both text
both [] = record { here = refl; behind_return = (13 ∷ [], [], refl, refl, inl (inr (inr (refl, refl))), refl) }
both (b ∷ bs) =
    let h = both bs in
    let here = one_more b bs h in
    record { here = here; behind_return = behind_one b bs h here }

pub lines_are_the_text : LinesAreTheText
lines_are_the_text text = (both text).here

-- ---- and no others

run : (line tail : List ℕ) → list_any is_line_end line ≡ false → lines_behind false (line ++ tail) ≡ onto line (lines_behind false tail)
run [] tail plain = refl
run (b ∷ line) tail plain =
    let parts = or_parts (is_line_end b) (list_any is_line_end line) plain in
    other b (line ++ tail) parts.0 ∙ ap (onto_first b) (run line tail parts.1)

ended_line : (line tail : List ℕ) (more : List (List ℕ)) → list_any is_line_end line ≡ false → lines_behind false tail ≡ [] ∷ more → lines_behind false (line ++ tail) ≡ line ∷ more
ended_line line tail more plain e =
    run line tail plain ∙ ap (onto line) e ∙ onto-cons line [] more ∙ ap (λ (l : List ℕ). l ∷ more) (append-nil line)

no_more_feed : (behind : List ℕ) → begins_with_lf behind ≡ false → lines_behind true behind ≡ lines_behind false behind
no_more_feed [] h = refl
no_more_feed (b ∷ bs) h = not_feed true b bs h

first_of : (line end behind : List ℕ) → list_any is_line_end line ≡ false → EndsLine line end behind → lines_behind false (line ++ (end ++ behind)) ≡ line ∷ lines_behind false behind
first_of line end behind plain (inl (inl feed)) = ended_line line (end ++ behind) (lines_behind false behind) plain (ap (λ (e : List ℕ). lines_behind false (e ++ behind)) feed)
first_of line end behind plain (inl (inr (inl two))) = ended_line line (end ++ behind) (lines_behind false behind) plain (ap (λ (e : List ℕ). lines_behind false (e ++ behind)) two)
first_of line end behind plain (inl (inr (inr alone))) =
    ended_line line (end ++ behind) (lines_behind false behind) plain
    (ap (λ (e : List ℕ). lines_behind false (e ++ behind)) alone.0 ∙ ap (λ (ls : List (List ℕ)). [] ∷ ls) (no_more_feed behind alone.1))
first_of line end behind plain (inr last) =
    (λ i. lines_behind false (line ++ (last.0 i ++ last.1 i))) ∙ run line [] plain ∙ onto-none line last.2 ∙ ap (λ (t : List ℕ). line ∷ lines_behind false t) (sym last.1)

pub no_others : NoOthersAreTheText
no_others text [] over = sym (ap (lines_behind false) over)
no_others text (line ∷ more) t =
    ap (λ (ls : List (List ℕ)). line ∷ ls) (no_others t.1 more t.5) ∙ sym (first_of line t.0 t.1 t.3 t.4) ∙ sym (ap (lines_behind false) t.2)
