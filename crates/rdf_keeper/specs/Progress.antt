-- Whether the words of the command line ask that it is told how far documents are read.
use Rattle.std.specs.Prelude.{◌≡◌, ◌≢◌, ◌⊎◌, ℕ, List, [], ◌∷◌, codes}

-- `--progress` stands among the words, of which this gives the bytes, before any `--`: behind that stand files alone.
abbrev pub AsksProgress : {W : Type 0} → (W → List ℕ) → List W → Type 0
AsksProgress bytes [] = ⊥
AsksProgress bytes (word ∷ words) = (bytes word ≡ codes "--progress") ⊎ ((bytes word ≢ codes "--") × AsksProgress bytes words)
