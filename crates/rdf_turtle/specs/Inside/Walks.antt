-- What is looked for on a walk over the tokens of a text.
use Rattle.std.specs.Prelude.{ℕ, Bool, if◌then◌else◌, List, [], ◌∷◌}
use Rattle.rdf_tokens.specs.declared.token.Token.{Token}
use Rattle.rdf_tokens.specs.declared.walk.Found.{Found}
use Rattle.rdf_tokens.specs.declared.walk.Found.TheVariants.{Token as Read, NoToken}
use Rattle.rdf_turtle.specs.Document.{HasTokens}
use Rattle.rdf_turtle.specs.FaultyNames.{taken, declares_behind, is_unbound, bound_behind, moves_behind, is_lacking, base_behind}
use Rattle.rdf_turtle.specs.Leaves.{takes_tag}
use Rattle.rdf_turtle.specs.Lexemes.{Lexemes}
use Rattle.rdf_turtle.specs.Nesting.{IsTooDeep}
use Rattle.rdf_turtle.specs.Terminals.{terminal_of}

-- the text has tokens, and at most 100 brackets are open at once
abbrev pub IsShallow : List ℕ → Type 0
IsShallow text = (tokens : List Token) × (lexemes : Lexemes) × HasTokens text tokens lexemes × ¬ (IsTooDeep lexemes)

-- ---- where tokens start, in a text of so many bytes

module _ (size : ℕ) where
  -- of the first name with a prefix that isn't declared before it
  abbrev pub unbound_start : Bool → Bool → List (List ℕ) → List Found → ℕ
  unbound_start behind declares bound [] = size
  unbound_start behind declares bound (NoToken start ∷ all) = size
  unbound_start behind declares bound (Read start kind slice ∷ all) =
      if is_unbound declares bound (taken behind (terminal_of kind slice)) slice then start
      else unbound_start (takes_tag (terminal_of kind slice)) (declares_behind declares (taken behind (terminal_of kind slice))) (bound_behind declares bound (taken behind (terminal_of kind slice)) slice) all

  -- of the first reference that has no scheme where no base is in force
  abbrev pub lacking_start : Bool → Bool → Bool → List Found → ℕ
  lacking_start behind moves based [] = size
  lacking_start behind moves based (NoToken start ∷ all) = size
  lacking_start behind moves based (Read start kind slice ∷ all) =
      if is_lacking based (taken behind (terminal_of kind slice)) slice then start
      else lacking_start (takes_tag (terminal_of kind slice)) (moves_behind moves (taken behind (terminal_of kind slice))) (base_behind moves based (taken behind (terminal_of kind slice))) all
