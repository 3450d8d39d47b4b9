-- An undo and a redo anywhere in a history.
use Rattle.std.specs.Prelude.{◌≡◌}
use Rattle.rdf_session.specs.Session.{Session, Undo, Redo, Changed, Transition}
use Rattle.rdf_session.specs.declared.fault.Counts.{Counts}

-- An undo and a redo behind it leave the session as it was, its history and marks too, and turn the counts.
abbrev pub UndoThenRedo : Type 0
UndoThenRedo = (old mid new : Session) (c d : Counts) → Transition old Undo (Changed c) mid → Transition mid Redo (Changed d) new
    → (new ≡ old) × (d.added ≡ c.removed) × (d.removed ≡ c.added)

-- So do a redo and an undo behind it.
abbrev pub RedoThenUndo : Type 0
RedoThenUndo = (old mid new : Session) (c d : Counts) → Transition old Redo (Changed c) mid → Transition mid Undo (Changed d) new
    → (new ≡ old) × (d.added ≡ c.removed) × (d.removed ≡ c.added)
