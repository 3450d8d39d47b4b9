-- How a session begins, and how it ends the program.
use Rattle.std.specs.Prelude.{ℕ, List, Option, Some, if◌then◌else◌, codes, Ok}
use Rattle.std.specs.Option.{option_map}
use Rattle.std.specs.Str.{bytes_eq}
use Rattle.rdf_dataset.specs.State.{State as DatasetState, IsSound, empty_state}
use Rattle.rdf_session.specs.Request.{Load}
use Rattle.rdf_session.specs.Saved.{IsTextOf, Restores}
use Rattle.rdf_session.specs.Session.{Session, Transition, Do, Commit, Changed, Done, Refused, fresh}
use Rattle.rdf_session.specs.declared.fault.Counts.{Counts}
use Rattle.rdf_session.specs.declared.fault.KeeperFault.TheVariants as keeper
use Rattle.rdf_session.specs.declared.format.Format.{Format}
use Rattle.rdf_keeper.specs.Script.Commands.{format_named}
use Rattle.rdf_keeper.specs.declared.program.words.StartFormat.{StartFormat}
use Rattle.rdf_keeper.specs.declared.program.words.StartFormat.TheVariants.{Document, State}
use Rattle.rdf_keeper.specs.declared.script.status.Status.{Status}
use Rattle.rdf_keeper.specs.declared.script.status.Status.TheVariants as script
use Rattle.rdf_keeper.specs.declared.program.outcome.Outcome.{Outcome}
use Rattle.rdf_keeper.specs.declared.program.outcome.Outcome.TheVariants as program

-- the format of the data that a session begins with, by its name
abbrev pub start_format_named : List ℕ → Option StartFormat
start_format_named word = if bytes_eq word (codes "state") then Some State else option_map Document (format_named word)

-- The session begins with the data of the text: what a document loads is the start, so nothing of it can be undone, and a state text is restored.
abbrev pub BeginsWith : StartFormat → Option (List ℕ) → List ℕ → Session → Type 0
BeginsWith (Document format) base text start =
    (counts : Counts) × (loaded : Session)
    × Transition (fresh base (empty_state 0)) (Do (Load format text)) (Changed counts) loaded × Transition loaded Commit Done start
BeginsWith State base text start = Restores base text (Ok start)

-- A document is refused by the fault of its load; where memory was wanting it isn't said to be faulty.
abbrev pub RefusesLoad : Format → List ℕ → Session → Outcome → Type 0
RefusesLoad format text old (program.NoMemory refused) = Unit {0}
RefusesLoad format text old (program.BadData (keeper.NoMemory refused)) = ⊥
RefusesLoad format text old (program.BadData fault) = Transition old (Do (Load format text)) (Refused fault) old
RefusesLoad format text old outcome = ⊥

-- The data of the text are refused, and this is how that ends the program: a document by the fault of its load, a state text as that of no sound state;
-- where memory was wanting they aren't said to be faulty.
abbrev pub RefusesData : StartFormat → Option (List ℕ) → List ℕ → Outcome → Type 0
RefusesData (Document format) base text outcome = RefusesLoad format text (fresh base (empty_state 0)) outcome
RefusesData State base text (program.NoMemory refused) = Unit {0}
RefusesData State base text program.NotState = (s : DatasetState) → IsSound s → ¬ (IsTextOf s text)
RefusesData State base text outcome = ⊥

-- how a script ends the program
abbrev pub outcome_after : Status → Outcome
outcome_after script.Accepted = program.Done
outcome_after script.Refused = program.SomeRefused
outcome_after script.ReadFailed = program.ReadFailed
outcome_after script.WriteFailed = program.WriteFailed
outcome_after (script.NoMemory refused) = program.NoMemory refused
