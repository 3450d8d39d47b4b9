-- Steps one after the other, and what they give.
use Rattle.std.specs.Prelude.{List, [], ◌∷◌, ◌++◌}
use Rattle.rdf_grammar.specs.Steps.{Step, ◌>>=◌, pure}

-- these, and behind them what the steps give in order
abbrev pub collected_behind : {S A : Type 0} → List A → List (Step S A) → Step S (List A)
collected_behind found [] = pure found
collected_behind found (step ∷ steps) = do
  a ← step
  collected_behind (found ++ a ∷ []) steps

abbrev pub collected : {S A : Type 0} → List (Step S A) → Step S (List A)
collected steps = collected_behind [] steps
