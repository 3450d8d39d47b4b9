-- What reading a document for the beginning of a session answers.
use Rattle.std.specs.Prelude.{◌≡◌, ℕ, ◌+◌, ◌<◌, ◌≤◌, List, Option, Result, Ok, Err}
use Rattle.rdf_dataset.specs.State.{State, empty_state, last_number}
use Rattle.rdf_terms.specs.Quad.{QuadParts}
use Rattle.rdf_session.specs.Request.{IsRefused, Load, Makes, blank_limit, loaded}
use Rattle.rdf_session.specs.declared.fault.KeeperFault.{KeeperFault}
use Rattle.rdf_session.specs.declared.fault.KeeperFault.TheVariants.{NoMemory, BlankNumbers}
use Rattle.rdf_session.specs.declared.format.Format.{Format}

-- the state that the quads of a document make of an empty one, or its refusal
abbrev pub Starts : List QuadParts → Result State KeeperFault → Type 0
Starts quads (Ok t) = (0 + blank_limit quads ≤ last_number) × (t ≡ loaded (empty_state 0) quads)
Starts quads (Err (NoMemory _)) = Unit {0}
Starts quads (Err BlankNumbers) = last_number < 0 + blank_limit quads
Starts quads (Err _) = ⊥

-- the same of a text
abbrev pub BeginsAt : Format → Option (List ℕ) → List ℕ → Result State KeeperFault → Type 0
BeginsAt format base text (Ok t) = Makes base (Load format text) (empty_state 0) t
BeginsAt format base text (Err (NoMemory _)) = Unit {0}
BeginsAt format base text (Err fault) = IsRefused base (Load format text) (empty_state 0) fault
