-- The first word of a text.
use Rattle.std.proofs.Common.{◌≡◌, ℕ, suc, ◌+◌, Bool, true, false, cond, List, [], ◌∷◌, length, take, drop, Some, None, refl, sym, ap, ◌∙◌, arith, not, zero-add}
use Rattle.std.proofs.lemmas.List.{drop_all}
use Rattle.std.specs.Prelude.{filter}
use Rattle.std.specs.List.{position_from, slice_split, onto_first}
use Rattle.rdf_keeper.specs.Script.Lines.{is_empty}
use Rattle.rdf_keeper.specs.Script.LineWords.{is_gap, words}

-- how many elements stand before the first that passes
abbrev pub run : (ℕ → Bool) → List ℕ → ℕ
run p [] = 0
run p (b ∷ bs) = cond (p b) 0 (suc (run p bs))

some_same : (i j : ℕ) → Some i ≡ Some j → i ≡ j
some_same i j e = cc

none_some : {A : Type 0} (i : ℕ) → Some i ≡ None → A
none_some i e = cc

run-some : (p : ℕ → Bool) (xs : List ℕ) (j i : ℕ) → position_from p j xs ≡ Some i → i ≡ j + run p xs
run-some p [] j i e = none_some i (sym e)
run-some p (b ∷ bs) j i e =
    elim (p b) as (λ v. cond v (Some j) (position_from p (j + 1) bs) ≡ Some i → i ≡ j + cond v 0 (suc (run p bs))) [
      | true ↦ λ e. let s = some_same j i e in omega (arith, s)
      | false ↦ λ e. let s = run-some p bs (j + 1) i e in omega (arith, s)
    ] e

run-none : (p : ℕ → Bool) (xs : List ℕ) (j : ℕ) → position_from p j xs ≡ None → run p xs ≡ length xs
run-none p [] j e = refl
run-none p (b ∷ bs) j e =
    elim (p b) as (λ v. cond v (Some j) (position_from p (j + 1) bs) ≡ None → cond v 0 (suc (run p bs)) ≡ suc (length bs)) [
      | true ↦ λ e. none_some j e
      | false ↦ λ e. ap suc (run-none p bs (j + 1) e)
    ] e

abbrev pub is_solid : ℕ → Bool
is_solid b = not (is_gap b)

abbrev pub not_empty : List ℕ → Bool
not_empty word = not (is_empty word)

-- gaps before the first word say nothing
words-past_gap : (xs : List ℕ) → words xs ≡ words (drop (run is_solid xs) xs)
words-past_gap [] = refl
words-past_gap (b ∷ bs) =
    elim (is_gap b) as (λ v. is_gap b ≡ v → filter not_empty (cond v ([] ∷ slice_split is_gap bs) (onto_first b (slice_split is_gap bs))) ≡ filter not_empty (slice_split is_gap (drop (cond (not v) 0 (suc (run is_solid bs))) (b ∷ bs)))) [
      | true ↦ λ e. words-past_gap bs
      | false ↦ λ e. rw e refl
    ] refl

-- the parts of a text, the first of which ends at the first gap
parts_of : (xs : List ℕ) → (others : List (List ℕ)) × (slice_split is_gap xs ≡ take (run is_gap xs) xs ∷ others) × (filter not_empty others ≡ words (drop (run is_gap xs) xs))
parts_of [] = ([], refl, refl)
parts_of (b ∷ bs) =
    elim (is_gap b) as (λ v. is_gap b ≡ v → (others : List (List ℕ)) × (cond v ([] ∷ slice_split is_gap bs) (onto_first b (slice_split is_gap bs)) ≡ take (cond v 0 (suc (run is_gap bs))) (b ∷ bs) ∷ others) × (filter not_empty others ≡ words (drop (cond v 0 (suc (run is_gap bs))) (b ∷ bs)))) [
      | true ↦ λ e. (slice_split is_gap bs, refl, rw e refl)
      | false ↦ λ e. let r = parts_of bs in (r.0, ap (onto_first b) r.1, r.2)
    ] refl

-- a text that begins with a word
first_word : (b : ℕ) (bs : List ℕ) → is_gap b ≡ false → words (b ∷ bs) ≡ take (run is_gap (b ∷ bs)) (b ∷ bs) ∷ words (drop (run is_gap (b ∷ bs)) (b ∷ bs))
first_word b bs e =
    let r = parts_of (b ∷ bs) in
    ap (filter not_empty) r.1 ∙ (rw e refl) ∙ ap (λ ws. take (run is_gap (b ∷ bs)) (b ∷ bs) ∷ ws) r.2

-- where a word is left
abbrev BeginsWord : List ℕ → Type 0
BeginsWord xs = (b : ℕ) × (bs : List ℕ) × (xs ≡ b ∷ bs) × (is_gap b ≡ false)

begins_word : (xs : List ℕ) (j i : ℕ) → position_from is_solid j xs ≡ Some i → BeginsWord (drop (run is_solid xs) xs)
begins_word [] j i e = none_some i (sym e)
begins_word (b ∷ bs) j i e =
    elim (is_gap b) as (λ v. is_gap b ≡ v → cond (not v) (Some j) (position_from is_solid (j + 1) bs) ≡ Some i → BeginsWord (drop (cond (not v) 0 (suc (run is_solid bs))) (b ∷ bs))) [
      | true ↦ λ g e. begins_word bs (j + 1) i e
      | false ↦ λ g e. (b, bs, refl, g)
    ] refl e

pub no_word : (xs : List ℕ) → position_from is_solid 0 xs ≡ None → words xs ≡ []
no_word xs e =
    words-past_gap xs ∙ ap (λ n. words (drop n xs)) (run-none is_solid xs 0 e) ∙ ap words (drop_all (length xs) xs (omega arith))

word_here : (xs : List ℕ) → BeginsWord xs → words xs ≡ take (run is_gap xs) xs ∷ words (drop (run is_gap xs) xs)
word_here xs w = rw w.2 (first_word w.0 w.1 w.3)

-- the first word ends at a gap
pub ended_word : (xs from word rest : List ℕ) (gap end : ℕ) → position_from is_solid 0 xs ≡ Some gap → from ≡ drop gap xs → position_from is_gap 0 from ≡ Some end → word ≡ take end from → rest ≡ drop end from → words xs ≡ word ∷ words rest
ended_word xs from word rest gap end g f e w r =
    let place : gap ≡ run is_solid xs = run-some is_solid xs 0 gap g ∙ zero-add (run is_solid xs) in
    let is : from ≡ drop (run is_solid xs) xs = f ∙ ap (λ n. drop n xs) place in
    let stop : end ≡ run is_gap from = run-some is_gap from 0 end e ∙ zero-add (run is_gap from) in
    words-past_gap xs ∙ ap words (sym is) ∙ word_here from (rw is (begins_word xs 0 gap g))
    ∙ ap (λ n. take n from ∷ words (drop n from)) (sym stop) ∙ (λ i. sym w i ∷ words (sym r i))

-- or with the text
pub last_word : (xs from word rest : List ℕ) (gap : ℕ) → position_from is_solid 0 xs ≡ Some gap → from ≡ drop gap xs → position_from is_gap 0 from ≡ None → word ≡ take (length from) from → rest ≡ drop (length from) from → words xs ≡ word ∷ words rest
last_word xs from word rest gap g f e w r =
    let place : gap ≡ run is_solid xs = run-some is_solid xs 0 gap g ∙ zero-add (run is_solid xs) in
    let is : from ≡ drop (run is_solid xs) xs = f ∙ ap (λ n. drop n xs) place in
    words-past_gap xs ∙ ap words (sym is) ∙ word_here from (rw is (begins_word xs 0 gap g))
    ∙ ap (λ n. take n from ∷ words (drop n from)) (run-none is_gap from 0 e) ∙ (λ i. sym w i ∷ words (sym r i))
