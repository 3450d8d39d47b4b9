-- The first line of a text, and a text up to its last LF.
use Rattle.std.proofs.Common.{◌≡◌, ℕ, ◌+◌, Bool, true, false, cond, List, [], ◌∷◌, ◌++◌, take, drop, Some, None, refl, sym, ap, ◌∙◌, arith, nat_eq, ◌||◌, not, suc, inl, inr, subst, zero-add}
use Rattle.std.proofs.lemmas.List.{take-append-drop}
use Rattle.std.proofs.lemmas.Bool.Decides.{eqb_tells}
use Rattle.std.specs.List.{position_from}
use Rattle.rdf_keeper.specs.Inside.Says.{IsWholeLine}
use Rattle.rdf_keeper.specs.Script.Lines.{upto_last_end, is_empty}

-- the length of the first line with its end
abbrev pub cut : List ℕ → ℕ
cut [] = 0
cut (b ∷ bs) = cond (nat_eq b 10) 1 (suc (cut bs))

some_same : (i j : ℕ) → Some i ≡ Some j → i ≡ j
some_same i j e = cc

none_some : {A : Type 0} (i : ℕ) → Some i ≡ None → A
none_some i e = cc

pub cut-some : (xs : List ℕ) (j i : ℕ) → position_from (λ b. nat_eq b 10) j xs ≡ Some i → i + 1 ≡ j + cut xs
cut-some [] j i e = none_some i (sym e)
cut-some (b ∷ bs) j i e =
    elim (nat_eq b 10) as (λ v. cond v (Some j) (position_from (λ c. nat_eq c 10) (j + 1) bs) ≡ Some i → i + 1 ≡ j + cond v 1 (suc (cut bs))) [
      | true ↦ λ e. let s = some_same j i e in omega (arith, s)
      | false ↦ λ e. let s = cut-some bs (j + 1) i e in omega (arith, s)
    ] e

ends_not_empty : (xs : List ℕ) (b : ℕ) → is_empty (xs ++ b ∷ []) ≡ false
ends_not_empty [] b = refl
ends_not_empty (x ∷ xs) b = refl

pub or_true : (b : Bool) → (b || true) ≡ true
or_true true = refl
or_true false = refl

pub upto-end : (xs : List ℕ) → upto_last_end (xs ++ 10 ∷ []) ≡ xs ++ 10 ∷ []
upto-end [] = refl
upto-end (x ∷ xs) =
    ap (λ r. cond (nat_eq x 10 || not (is_empty r)) (x ∷ r) []) (upto-end xs) ∙ ap (λ v. cond (nat_eq x 10 || not v) (x ∷ (xs ++ 10 ∷ [])) []) (ends_not_empty xs 10) ∙ ap (λ v. cond v (x ∷ (xs ++ 10 ∷ [])) []) (or_true (nat_eq x 10))

-- ---- the first line that has its end

pub first_whole : (xs : List ℕ) (j i : ℕ) → position_from (λ b. nat_eq b 10) j xs ≡ Some i → IsWholeLine (take (cut xs) xs)
first_whole [] j i e = none_some i (sym e)
first_whole (b ∷ bs) j i e =
    elim (eqb_tells b 10) [
      | inl h ↦ rw h.0 ([], ap (λ x. x ∷ []) h.1, refl)
      | inr h ↦
          let later = first_whole bs (j + 1) i (rw h.0 at e) in
          rw h.0 (b ∷ later.0, ap (λ l. b ∷ l) later.1, rw (h.0, later.2) refl)
    ]

pub whole_parts : (xs : List ℕ) (i : ℕ) (line after : List ℕ) → position_from (λ b. nat_eq b 10) 0 xs ≡ Some i → line ≡ take (i + 1) xs → after ≡ drop (i + 1) xs → IsWholeLine line × (xs ≡ line ++ after)
whole_parts xs i line after e f g =
    let place : i + 1 ≡ cut xs = cut-some xs 0 i e ∙ zero-add (cut xs) in
    (subst IsWholeLine (sym (f ∙ ap (λ n. take n xs) place)) (first_whole xs 0 i e), sym (ap (λ l. l ++ after) f ∙ ap (λ l. take (i + 1) xs ++ l) g ∙ take-append-drop (i + 1) xs))

pub no_whole : (xs : List ℕ) (j : ℕ) → position_from (λ b. nat_eq b 10) j xs ≡ None → upto_last_end xs ≡ []
no_whole [] j e = refl
no_whole (b ∷ bs) j e =
    elim (eqb_tells b 10) [
      | inl h ↦ none_some j (rw h.0 at e)
      | inr h ↦ let later = no_whole bs (j + 1) (rw h.0 at e) in rw (h.0, later) refl
    ]
