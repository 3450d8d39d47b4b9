-- What a line that a session has gathered says.
use Rattle.std.specs.Prelude.{◌≡◌, ℕ, List, [], ◌∷◌, ◌++◌, Option, Some, None}
use Rattle.rdf_keeper.specs.Inside.Asks.{asked_of}
use Rattle.rdf_keeper.specs.Script.Lines.{upto_last_end}
use Rattle.rdf_keeper.specs.Script.Commands.{Asked, act, unended}
use Rattle.rdf_session.specs.Request.{Load}
use Rattle.rdf_session.specs.Session as session
use Rattle.rdf_session.specs.declared.format.Format.{Format}
use Rattle.rdf_keeper.specs.declared.script.command.Body.{Body}
use Rattle.rdf_keeper.specs.declared.script.gathered.Says.{Says}
use Rattle.rdf_keeper.specs.declared.script.gathered.Says.TheVariants.{Nothing, Opens, Inside, Loads, Asks}

-- an LF ends the line, and stands nowhere else
abbrev pub IsWholeLine : List ℕ → Type 0
IsWholeLine line = (front : List ℕ) × (line ≡ front ++ 10 ∷ []) × (upto_last_end front ≡ [])

-- the body of a text so far
abbrev pub body_so_far : Option Body → List ℕ → Option (Body × List ℕ)
body_so_far None text = None
body_so_far (Some body) text = Some (body, text)

-- the body with one more line
abbrev pub grown : Option (Body × List ℕ) → List ℕ → Option (Body × List ℕ)
grown None line = None
grown (Some body) line = Some (body.0, body.1 ++ line)

-- the load of the body that is open, if any
abbrev pub load_of_body : Format → Option (Body × List ℕ) → List Asked
load_of_body format None = []
load_of_body format (Some body) = act (session.Do (Load format body.1)) ∷ []

-- what the line asks for, by the body that is open before it
abbrev pub asked_by : Option (Body × List ℕ) → Says → List Asked
asked_by body Nothing = []
asked_by body (Opens begun) = []
asked_by body Inside = []
asked_by body (Loads format) = load_of_body format body
asked_by body (Asks command) = asked_of command ∷ []

-- the text is the one of the body that is open, if any
abbrev pub IsTextOf : Option (Body × List ℕ) → List ℕ → Type 0
IsTextOf None text = Unit {0}
IsTextOf (Some body) text = text ≡ body.1

-- the body that is open behind it, by the one before
abbrev pub body_behind : Option (Body × List ℕ) → List ℕ → Says → Option (Body × List ℕ)
body_behind body line Nothing = None
body_behind body line (Opens begun) = Some (begun, [])
body_behind body line Inside = grown body line
body_behind body line (Loads format) = None
body_behind body line (Asks command) = None

-- it stands within the body that is open, if it says so
abbrev pub IsInPlace : Option (Body × List ℕ) → Says → Type 0
IsInPlace None Inside = ⊥
IsInPlace None (Loads format) = ⊥
IsInPlace None Nothing = Unit {0}
IsInPlace None (Opens body) = Unit {0}
IsInPlace None (Asks command) = Unit {0}
IsInPlace (Some body) says = Unit {0}

-- what the script asks for where it ends with the line
abbrev pub asked_at_end : Option (Body × List ℕ) → Says → List Asked
asked_at_end body Nothing = []
asked_at_end body (Opens begun) = unended ∷ []
asked_at_end body Inside = unended ∷ []
asked_at_end body (Loads format) = load_of_body format body
asked_at_end body (Asks command) = asked_of command ∷ []
