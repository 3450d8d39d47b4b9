-- An undo and a redo, or the other way.
use Rattle.std.proofs.Common.{◌≡◌, ℕ, ◌+◌, ◌-◌, ◌<◌, sym, ap, ◌∙◌, arith}
use Rattle.rdf_session.specs.Session.{Session, at_place, counts_between, now}
use Rattle.rdf_session.specs.UndoRedo.{UndoThenRedo, RedoThenUndo}
use Rattle.rdf_session.specs.declared.fault.Counts.{Counts}

there_and_back : (old mid new : Session) (c d : Counts) → new ≡ old → c ≡ counts_between (now old) (now mid) → d ≡ counts_between (now mid) (now new) → (new ≡ old) × (d.added ≡ c.removed) × (d.removed ≡ c.added)
there_and_back old mid new c d again e f =
    let g : d ≡ counts_between (now mid) (now old) = f ∙ ap (λ x. counts_between (now mid) (now x)) again in
    (again, ap (λ (x : Counts). x.added) g ∙ sym (ap (λ (x : Counts). x.removed) e), ap (λ (x : Counts). x.removed) g ∙ sym (ap (λ (x : Counts). x.added) e))

back_on : (k : ℕ) → 0 < k → (k - 1) + 1 ≡ k
back_on k h = omega arith

on_back : (k : ℕ) → (k + 1) - 1 ≡ k
on_back k = omega arith

pub undo_then_redo : UndoThenRedo
undo_then_redo old mid new c d un re =
    there_and_back old mid new c d
    (re.1 ∙ ap (λ (x : Session). at_place (x.states.cursor + 1) x) un.1 ∙ ap (λ k. at_place k old) (back_on old.states.cursor un.0)) un.2 re.2

pub redo_then_undo : RedoThenUndo
redo_then_undo old mid new c d re un =
    there_and_back old mid new c d
    (un.1 ∙ ap (λ (x : Session). at_place (x.states.cursor - 1) x) re.1 ∙ ap (λ k. at_place k old) (on_back old.states.cursor)) re.2 un.2
