-- A session that begins with what a document loads.
use Rattle.std.specs.Prelude.{ℕ, List, Option, Result, Ok, Err}
use Rattle.rdf_dataset.specs.State.{empty_state}
use Rattle.rdf_session.specs.Request.{Load}
use Rattle.rdf_session.specs.Session.{Session, Transition, Do, Commit, Changed, Done, Refused, fresh}
use Rattle.rdf_session.specs.declared.fault.Counts.{Counts}
use Rattle.rdf_session.specs.declared.fault.KeeperFault.{KeeperFault}
use Rattle.rdf_session.specs.declared.format.Format.{Format}

-- what the document loads into a session without quads is the start, so nothing of it can be undone; or the refusal of that load
abbrev pub BeginsWithLoad : Format → Option (List ℕ) → List ℕ → Result Session KeeperFault → Type 0
BeginsWithLoad format base text (Ok start) =
    (counts : Counts) × (loaded : Session)
    × Transition (fresh base (empty_state 0)) (Do (Load format text)) (Changed counts) loaded × Transition loaded Commit Done start
BeginsWithLoad format base text (Err fault) =
    Transition (fresh base (empty_state 0)) (Do (Load format text)) (Refused fault) (fresh base (empty_state 0))
