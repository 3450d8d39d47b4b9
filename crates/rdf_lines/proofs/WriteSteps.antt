-- The line of a quad, as it is written term by term.
use Rattle.std.proofs.Common.{◌≡◌, ◌∙◌, ap, sym, ℕ, List, ◌++◌, codes, length, take, append_assoc}
use Rattle.std.proofs.Math.Seq.{take-append_seam}
use Rattle.rdf_terms.proofs.CallerLemmas.{kept_on}

-- `new` is `old` and what came behind it
pub kept_before : (old xs new : List ℕ) → new ≡ old ++ xs → take (length old) new ≡ old
kept_before old xs new e = ap (λ (t : List ℕ). take (length old) t) e ∙ take-append_seam old xs

joined : (old xs ys a new : List ℕ) → a ≡ old ++ xs → new ≡ a ++ ys → new ≡ old ++ (xs ++ ys)
joined old xs ys a new first second = second ∙ ap (λ (t : List ℕ). t ++ ys) first ∙ append_assoc old xs ys

-- a term and the space behind it
joined_term : (old xs y a new : List ℕ) → a ≡ old ++ xs → new ≡ a ++ (y ++ codes " ") → new ≡ old ++ ((xs ++ y) ++ codes " ")
joined_term old xs y a new first second =
    joined old xs (y ++ codes " ") a new first second ∙ ap (λ (t : List ℕ). old ++ t) (sym (append_assoc xs y (codes " ")))

-- three terms, each with a space behind it, the graph, and what ends the line
pub line_written : (old s p o g a b d f new : List ℕ) → a ≡ old ++ (s ++ codes " ") → b ≡ a ++ (p ++ codes " ") → d ≡ b ++ (o ++ codes " ") → f ≡ d ++ g
    → new ≡ f ++ codes ".\n" → new ≡ old ++ (s ++ codes " " ++ p ++ codes " " ++ o ++ codes " " ++ g ++ codes ".\n")
line_written old s p o g a b d f new subject predicate object graph end =
    let two = joined_term old _ p a b subject predicate in
    let three = joined_term old _ o b d two object in
    joined old _ (codes ".\n") f new (joined old _ g d f three graph) end

-- the line of a quad begins with what was there before
pub line_kept : (old xs ys zs us a b d f new : List ℕ) → a ≡ old ++ xs → b ≡ a ++ ys → d ≡ b ++ zs → f ≡ d ++ us → take (length f) new ≡ f
    → take (length old) new ≡ old
line_kept old xs ys zs us a b d f new first second third fourth kept =
    kept_on old xs a new first (kept_on a ys b new second (kept_on b zs d new third (kept_on d us f new fourth kept)))
