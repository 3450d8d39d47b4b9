-- The lines of a script are its text, cut behind each LF.
use Rattle.std.proofs.Common.{◌≡◌, ◌≢◌, inl, inr, ℕ, true, false, cond, List, [], ◌∷◌, ◌++◌, refl, sym, ap, ◌∙◌, append-nil, nat_eq}
use Rattle.std.proofs.lemmas.Bool.Decides.{eqb_tells}
use Rattle.std.specs.List.{concat, onto_first}
use Rattle.rdf_keeper.specs.Script.Lines.{raw_lines}
use Rattle.rdf_keeper.specs.Script.LineLaws.{AreLines, HasNoEnd, IsEnded, LinesAreTheText, LinesAreEnded, OneCut}

-- ---- the text

concat_onto : (b : ℕ) (ls : List (List ℕ)) → concat (onto_first b ls) ≡ b ∷ concat ls
concat_onto b [] = refl
concat_onto b (l ∷ ls) = refl

pub lines_are_the_text : LinesAreTheText
lines_are_the_text [] = refl
lines_are_the_text (b ∷ bs) =
    let later = lines_are_the_text bs in
    elim (nat_eq b 10) as (λ v. concat (cond v ((b ∷ []) ∷ raw_lines bs) (onto_first b (raw_lines bs))) ≡ b ∷ bs) [
      | true ↦ ap (λ xs. b ∷ xs) later
      | false ↦ concat_onto b (raw_lines bs) ∙ ap (λ xs. b ∷ xs) later
    ]

-- ---- its lines

ended_front : (l : List ℕ) (ls : List (List ℕ)) → IsEnded l → AreLines ls → AreLines (l ∷ ls)
ended_front l [] e a = inl e
ended_front l (m ∷ ms) e a = (e, a)

some_byte : (b : ℕ) (bs : List ℕ) → (b ∷ bs) ≢ []
some_byte b bs e = cc

onto_ended : (b : ℕ) (l : List ℕ) → b ≢ 10 → IsEnded l → IsEnded (b ∷ l)
onto_ended b l n e = (b ∷ e.0, ap (λ xs. b ∷ xs) e.1, (n, e.2))

onto_lines : (b : ℕ) (ls : List (List ℕ)) → b ≢ 10 → AreLines ls → AreLines (onto_first b ls)
onto_lines b [] n a = inr (some_byte b [], (n, tt))
onto_lines b (l ∷ []) n a = elim a [ inl e ↦ inl (onto_ended b l n e) | inr o ↦ inr (some_byte b l, (n, o.1)) ]
onto_lines b (l ∷ (m ∷ ms)) n a = (onto_ended b l n a.0, a.1)

pub lines_are_ended : LinesAreEnded
lines_are_ended [] = tt
lines_are_ended (b ∷ bs) =
    let later = lines_are_ended bs in
    elim (eqb_tells b 10) [
      | inl h ↦ rw h.0 (ended_front (b ∷ []) (raw_lines bs) ([], ap (λ x. x ∷ []) h.1, tt) later)
      | inr h ↦ rw h.0 (onto_lines b (raw_lines bs) h.1 later)
    ]

-- ---- and no others

not_end : (b : ℕ) → b ≢ 10 → nat_eq b 10 ≡ false
not_end b n = elim (eqb_tells b 10) [ inl h ↦ absurd (n h.1) | inr h ↦ h.0 ]

raw_ended : (front rest : List ℕ) → HasNoEnd front → raw_lines ((front ++ 10 ∷ []) ++ rest) ≡ (front ++ 10 ∷ []) ∷ raw_lines rest
raw_ended [] rest n = refl
raw_ended (b ∷ bs) rest n = rw (not_end b n.0) (ap (onto_first b) (raw_ended bs rest n.1))

pub raw_open : (line : List ℕ) → line ≢ [] → HasNoEnd line → raw_lines line ≡ line ∷ []
raw_open [] some n = absurd (some refl)
raw_open (b ∷ []) some n = rw (not_end b n.0) refl
raw_open (b ∷ (c ∷ cs)) some n = rw (not_end b n.0) (ap (onto_first b) (raw_open (c ∷ cs) (some_byte c cs) n.1))

pub cut_front : (line rest : List ℕ) → IsEnded line → raw_lines (line ++ rest) ≡ line ∷ raw_lines rest
cut_front line rest e = ap (λ l. raw_lines (l ++ rest)) e.1 ∙ raw_ended e.0 rest e.2 ∙ sym (ap (λ l. l ∷ raw_lines rest) e.1)

pub one_cut : OneCut
one_cut [] a = refl
one_cut (line ∷ []) a =
    elim a [
      | inl e ↦ cut_front line [] e
      | inr o ↦ ap raw_lines (append-nil line) ∙ raw_open line o.0 o.1
    ]
one_cut (line ∷ (other ∷ others)) a = cut_front line _ a.0 ∙ ap (λ ls. line ∷ ls) (one_cut (other ∷ others) a.1)
