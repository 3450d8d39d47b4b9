-- What `%state` shows can be taken up again.
use Rattle.std.specs.Prelude.{◌≡◌, ◌⊎◌, ◌↔◌, ℕ, Bool, List, Option, Result, Ok, Err}
use Rattle.std.specs.List.{concat}
use Rattle.rdf_dataset.specs.State.{IsSound}
use Rattle.rdf_lines.specs.declared.state_text.fault.StateFault.{StateFault}
use Rattle.rdf_lines.specs.declared.state_text.fault.StateFault.TheVariants.{NoMemory}
use Rattle.rdf_terms.specs.Names.{refused}
use Rattle.rdf_session.specs.Saved.{Restores}
use Rattle.rdf_session.specs.Session.{Session, Commit, Done, Transition, fresh, now, with_depth}
use Rattle.rdf_keeper.specs.Script.Runs.{RunsOver}
use Rattle.rdf_keeper.specs.Script.Show.{Shows}
use Rattle.rdf_keeper.specs.declared.script.command.Topic.TheVariants.{State}
use Rattle.rdf_keeper.specs.declared.script.status.Status.{Status}

-- What is shown of a session's state, restored, is that state, without a history, whatever base IRI it is given. Only want of memory
-- refuses it.
abbrev pub ShownComesBack : Type 0
ShownComesBack = (session : Session) (base_iri : Option (List ℕ)) (lines : List (List ℕ)) (answer : Result Session StateFault)
    → IsSound (now session) → Shows State session lines → Restores base_iri (concat lines) answer
    → (answer ≡ Ok (fresh base_iri (now session))) ⊎ (answer ≡ Err (NoMemory refused))

-- What is restored from a text shows that text.
abbrev pub RestoredShowsItsText : Type 0
RestoredShowsItsText = (base_iri : Option (List ℕ)) (text : List ℕ) (lines : List (List ℕ)) (restored : Session)
    → Restores base_iri text (Ok restored) → Shows State restored lines → concat lines ≡ text

-- A session that is restored from what another showed, at the same base IRI and under the same depth, answers every script byte for byte
-- as that one may behind a commit, and they end alike: only an undo, a redo or a rollback past the save is lost.
abbrev pub ScriptsGoOnAlike : Type 0
ScriptsGoOnAlike =
    (old committed restored last : Session) (lines : List (List ℕ)) (stop : Bool) (before after : Option (List ℕ)) (answers : List (List ℕ)) (status : Status)
    → IsSound (now old) → Shows State old lines → Restores old.base_iri (concat lines) (Ok restored) → Transition old Commit Done committed
    → RunsOver stop before after (with_depth old.depth restored) answers last status ↔ RunsOver stop before after committed answers last status
