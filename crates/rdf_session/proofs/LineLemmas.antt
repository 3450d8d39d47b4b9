-- Lines one after another.
use Rattle.std.proofs.Common.{◌≡◌, ℕ, ◌+◌, ◌<◌, ◌≤◌, List, ◌∷◌, ◌++◌, length, drop, get_or, map, sym, ap, ◌∙◌, add-one, drop-cons, append_assoc}
use Rattle.std.proofs.lemmas.List.{append-nil, drop_all}
use Rattle.std.specs.List.{concat}

module _ {X : Type 0} (f : X → List ℕ) (xs : List X) where
  -- one line more
  pub line_more : (i : ℕ) (x : X) (front out out' : List ℕ) → i < length xs → x ≡ get_or xs i x → out' ≡ out ++ f x → out ++ concat (map f (drop i xs)) ≡ front ++ concat (map f xs) → out' ++ concat (map f (drop (i + 1) xs)) ≡ front ++ concat (map f xs)
  line_more i x front out out' h e o inv =
      let next : drop i xs ≡ x ∷ drop (i + 1) xs = drop-cons xs i x h ∙ (λ j. sym e j ∷ drop (sym (add-one i) j) xs) in
      ap (λ ys. ys ++ concat (map f (drop (i + 1) xs))) o ∙ append_assoc out (f x) (concat (map f (drop (i + 1) xs)))
      ∙ ap (λ ys. out ++ concat (map f ys)) (sym next) ∙ inv

  -- all lines
  pub lines_end : (i : ℕ) (front out : List ℕ) → length xs ≤ i → out ++ concat (map f (drop i xs)) ≡ front ++ concat (map f xs) → out ≡ front ++ concat (map f xs)
  lines_end i front out h inv = sym (ap (λ ys. out ++ concat (map f ys)) (drop_all i xs h) ∙ append-nil out) ∙ inv
