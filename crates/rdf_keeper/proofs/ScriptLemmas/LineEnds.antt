-- How many lines end in a text, line by line.
use Rattle.std.proofs.Common.{◌≡◌, ◌∙◌, ℕ, ◌+◌, Bool, true, false, not, cond, ◌||◌, List, [], ◌∷◌, ◌++◌, length, nat_eq, ap, refl, arith}
use Rattle.std.specs.List.{filter}
use Rattle.std.proofs.lemmas.List.{length-append}
use Rattle.std.proofs.lemmas.List.Elements.{filter-append}
use Rattle.rdf_keeper.specs.Inside.Says.{IsWholeLine}
use Rattle.rdf_keeper.specs.Script.Lines.{is_empty, upto_last_end}

abbrev ends : List ℕ → List ℕ
ends text = filter (λ b. nat_eq b 10) text

-- where no line has its end, nothing ends
pub none_end : (text : List ℕ) → upto_last_end text ≡ [] → ends text ≡ []
none_end [] h = refl
none_end (b ∷ bs) h = by_tests (nat_eq b 10) (upto_last_end bs) refl refl (none_end bs) h
  where
    by_tests : (e : Bool) (u : List ℕ) → nat_eq b 10 ≡ e → upto_last_end bs ≡ u → (upto_last_end bs ≡ [] → ends bs ≡ [])
        → cond (e || not (is_empty u)) (b ∷ u) [] ≡ [] → ends (b ∷ bs) ≡ []
    by_tests true u p q f k = absurd (let z : ⊥ = cc in z)
    by_tests false [] p q f k = ap (λ e. cond e (b ∷ ends bs) (ends bs)) p ∙ f q
    by_tests false (c ∷ cs) p q f k = absurd (let z : ⊥ = cc in z)

-- a line that has its end is one
one_ends : (line : List ℕ) → IsWholeLine line → length (ends line) ≡ 1
one_ends line (front, is, none) =
    ap (λ xs. length (ends xs)) is ∙ ap length (filter-append (λ b. nat_eq b 10) front (10 ∷ []))
    ∙ ap (λ xs. length (xs ++ 10 ∷ [])) (none_end front none)

pub next_ends : (text line behind : List ℕ) (many whole : ℕ) → IsWholeLine line → text ≡ line ++ behind → whole ≡ many + length (ends text)
    → whole ≡ (many + 1) + length (ends behind)
next_ends text line behind many whole is e h =
    let split : length (ends text) ≡ 1 + length (ends behind) =
    ap (λ xs. length (ends xs)) e ∙ ap length (filter-append (λ b. nat_eq b 10) line behind) ∙ length-append (ends line) (ends behind)
    ∙ ap (λ n. n + length (ends behind)) (one_ends line is) in
    h ∙ ap (λ n. many + n) split ∙ omega arith

pub none_ends : (rest : List ℕ) (many whole : ℕ) → upto_last_end rest ≡ [] → whole ≡ many + length (ends rest) → many ≡ whole
none_ends rest many whole none h =
    let z : length (ends rest) ≡ 0 = ap length (none_end rest none) in
    omega (arith, z, h)
