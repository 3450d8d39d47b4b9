-- Bytes that are read and written one piece after another.
use Rattle.std.proofs.Common.{◌≡◌, ℕ, List, ◌++◌, Option, Some, None, sym, ap, ◌∙◌, append_assoc, take, drop}
use Rattle.std.proofs.lemmas.List.{take-append-drop}
use Rattle.std.specs.Io.KnownBytes.{Appends, Consumes}

pub Appends-chain : (a b c : Option (List ℕ)) (xs ys : List ℕ) → Appends a b xs → Appends b c ys → Appends a c (xs ++ ys)
Appends-chain None b c xs ys p q = tt
Appends-chain (Some a) None c xs ys p q = absurd p
Appends-chain (Some a) (Some b) None xs ys p q = absurd q
Appends-chain (Some a) (Some b) (Some c) xs ys p q = q ∙ ap (λ zs. zs ++ ys) p ∙ append_assoc a xs ys

pub Consumes-chain : (a b c : Option (List ℕ)) (xs ys : List ℕ) → Consumes a b xs → Consumes b c ys → Consumes a c (xs ++ ys)
Consumes-chain None b c xs ys p q = tt
Consumes-chain (Some a) None c xs ys p q = absurd p
Consumes-chain (Some a) (Some b) None xs ys p q = absurd q
Consumes-chain (Some a) (Some b) (Some c) xs ys p q = p ∙ ap (λ zs. xs ++ zs) q ∙ sym (append_assoc xs ys c)

pub split_on : (t f r l : List ℕ) (n : ℕ) → t ≡ f ++ r → l ≡ drop n r → t ≡ (f ++ take n r) ++ l
split_on t f r l n p q = p ∙ ap (λ xs. f ++ xs) (sym (take-append-drop n r)) ∙ sym (append_assoc f (take n r) (drop n r)) ∙ ap (λ xs. (f ++ take n r) ++ xs) (sym q)
