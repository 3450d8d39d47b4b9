-- What stays of a list that only grows, step by step.
use Rattle.std.proofs.Common.{◌≡◌, ◌∙◌, ap, sym, ℕ, List, [], ◌++◌, length, take, drop, take-append-drop, append_assoc, append-nil}
use Rattle.std.proofs.Math.Seq.{take-append_seam}
use Rattle.rdf_terms.proofs.CallerLemmas.{kept_on}

-- `new` is `old` and what came behind it, in one step, in none, and in two
pub kept_before : (old xs new : List ℕ) → new ≡ old ++ xs → take (length old) new ≡ old
kept_before old xs new e = ap (λ (t : List ℕ). take (length old) t) e ∙ take-append_seam old xs

pub kept_same : (old new : List ℕ) → new ≡ old → take (length old) new ≡ old
kept_same old new e = kept_before old [] new (e ∙ sym (append-nil old))

pub kept_before_two : (old xs ys a new : List ℕ) → a ≡ old ++ xs → new ≡ a ++ ys → take (length old) new ≡ old
kept_before_two old xs ys a new first second = kept_on old xs a new first (kept_before a ys new second)

-- `new` begins with `mid`, and `mid` with `old`
pub kept_through : (old mid new : List ℕ) → take (length old) mid ≡ old → take (length mid) new ≡ mid → take (length old) new ≡ old
kept_through old mid new first second =
    kept_on old (drop (length old) mid) mid new (sym (take-append-drop (length old) mid) ∙ ap (λ (t : List ℕ). t ++ drop (length old) mid) first) second

-- the same, where `mid` and then `more` come behind `start`, which begins with `old`
pub kept_in_loop : (old start ys mid zs more new : List ℕ) → take (length old) start ≡ old → mid ≡ start ++ ys → more ≡ mid ++ zs
    → take (length more) new ≡ more → take (length old) new ≡ old
kept_in_loop old start ys mid zs more new begins is_mid is_more kept =
    kept_through old start new begins (kept_on start (ys ++ zs) more new (is_more ∙ ap (λ (t : List ℕ). t ++ zs) is_mid ∙ append_assoc start ys zs) kept)

-- the same over two steps, and over three
pub kept_over_two : (old xs ys a b new : List ℕ) → a ≡ old ++ xs → b ≡ a ++ ys → take (length b) new ≡ b → take (length old) new ≡ old
kept_over_two old xs ys a b new first second kept = kept_on old xs a new first (kept_on a ys b new second kept)

pub kept_over_three : (old xs ys zs a b d new : List ℕ) → a ≡ old ++ xs → b ≡ a ++ ys → d ≡ b ++ zs → take (length d) new ≡ d → take (length old) new ≡ old
kept_over_three old xs ys zs a b d new first second third kept = kept_over_two old xs ys a b new first second (kept_on b zs d new third kept)

-- ---- what was written, step by step

pub in_two : (old xs ys a new : List ℕ) → a ≡ old ++ xs → new ≡ a ++ ys → new ≡ old ++ (xs ++ ys)
in_two old xs ys a new first second = second ∙ ap (λ (t : List ℕ). t ++ ys) first ∙ append_assoc old xs ys

pub in_three : (old xs ys zs a b new : List ℕ) → a ≡ old ++ xs → b ≡ a ++ ys → new ≡ b ++ zs → new ≡ old ++ ((xs ++ ys) ++ zs)
in_three old xs ys zs a b new first second third =
    let front : b ≡ old ++ (xs ++ ys) = second ∙ ap (λ (t : List ℕ). t ++ ys) first ∙ append_assoc old xs ys in
    third ∙ ap (λ (t : List ℕ). t ++ zs) front ∙ append_assoc old (xs ++ ys) zs

pub in_four : (old xs ys zs us a b d new : List ℕ) → a ≡ old ++ xs → b ≡ a ++ ys → d ≡ b ++ zs → new ≡ d ++ us → new ≡ old ++ (((xs ++ ys) ++ zs) ++ us)
in_four old xs ys zs us a b d new first second third fourth =
    fourth ∙ ap (λ (t : List ℕ). t ++ us) (in_three old xs ys zs a b d first second third) ∙ append_assoc old ((xs ++ ys) ++ zs) us
