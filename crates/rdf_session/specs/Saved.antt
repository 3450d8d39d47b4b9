-- States that are saved as their state texts, and sessions that begin again at them.
use Rattle.std.specs.Prelude.{◌≡◌, ◌⊎◌, ◌↔◌, ℕ, List, Option, Result, Ok, Err}
use Rattle.rdf_dataset.specs.State.{State, IsSound}
use Rattle.rdf_lines.specs.StateText.{IsStateText}
use Rattle.rdf_lines.specs.declared.state_text.fault.StateFault.{StateFault}
use Rattle.rdf_lines.specs.declared.state_text.fault.StateFault.TheVariants.{NotState, NoMemory}
use Rattle.rdf_terms.specs.Names.{refused}
use Rattle.rdf_session.specs.Session.{Session, Command, Reply, Commit, Done, Transition, fresh, now, with_depth}
use Rattle.rdf_session.specs.Standing.{Run}

-- The text is that of the state: of its counter, the names of its graphs, and its quads.
abbrev pub IsTextOf : State → List ℕ → Type 0
IsTextOf s text = IsStateText s.next s.names s.quads text

-- What a restore of a text may answer: a session without history at the sound state whose text it is; that it is the text of
-- none; or that memory is wanting.
abbrev pub Restores : Option (List ℕ) → List ℕ → Result Session StateFault → Type 0
Restores base_iri text (Ok session) = (s : State) × IsSound s × IsTextOf s text × (session ≡ fresh base_iri s)
Restores base_iri text (Err NotState) = (s : State) → IsSound s → ¬ (IsTextOf s text)
Restores base_iri text (Err (NoMemory _)) = Unit {0}

-- ---- the laws

-- A session's state now, saved and restored, is the base of a session without history: whatever was done before, and whatever base IRI
-- it is given. Only want of memory refuses it.
abbrev pub SavedComesBack : Type 0
SavedComesBack = (session : Session) (base_iri : Option (List ℕ)) (text : List ℕ) (answer : Result Session StateFault)
    → IsSound (now session) → IsTextOf (now session) text → Restores base_iri text answer
    → (answer ≡ Ok (fresh base_iri (now session))) ⊎ (answer ≡ Err (NoMemory refused))

-- What is restored is saved as the text that it was restored from.
abbrev pub RestoredIsSavedAlike : Type 0
RestoredIsSavedAlike = (base_iri : Option (List ℕ)) (text other : List ℕ) (restored : Session)
    → Restores base_iri text (Ok restored) → IsTextOf (now restored) other → other ≡ text

-- A session that is restored from what another saved, at the same base IRI and under the same depth, is the very session that a commit
-- leaves there: undo, redo and rollback go no further back than the save, and nothing else is lost.
abbrev pub RestoredIsAsCommitted : Type 0
RestoredIsAsCommitted = (old committed restored : Session) (text : List ℕ)
    → IsSound (now old) → IsTextOf (now old) text → Restores old.base_iri text (Ok restored)
    → Transition old Commit Done committed → with_depth old.depth restored ≡ committed

-- So all commands behind the save have at the one the replies that they may have at the other, and lead to the same session.
abbrev pub CommandsGoOnAlike : Type 0
CommandsGoOnAlike = (old committed restored last : Session) (text : List ℕ) (events : List (Command × Reply))
    → IsSound (now old) → IsTextOf (now old) text → Restores old.base_iri text (Ok restored)
    → Transition old Commit Done committed → Run (with_depth old.depth restored) events last ↔ Run committed events last
