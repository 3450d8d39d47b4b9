-- What undo, redo and rollback give back.
use Rattle.std.proofs.Common.{◌≡◌, ℕ, ◌+◌, ◌-◌, ◌<◌, List, [], ◌∷◌, Option, sym, ap, ◌∙◌, subst, arith}
use Rattle.rdf_dataset.specs.State.{State}
use Rattle.rdf_session.proofs.BehindLemmas.{one_place}
use Rattle.rdf_session.proofs.BetweenLemmas.{quiet_accepted, quiet_run}
use Rattle.rdf_session.proofs.ForgettingLemmas.{Holds, accepted_is, accepted_whole, holds_accepted, none_within, now_accepted}
use Rattle.rdf_session.proofs.MarkLemmas.{lie_marked, lie_nowhere, place_marked}
use Rattle.rdf_session.specs.Between.{Quietly}
use Rattle.rdf_session.specs.Depth.{IsDepth}
use Rattle.rdf_session.specs.GivesBack.{IsPlaced, IsWholeSession, Accepts, RunsAreWhole, UndoGivesBack, RedoGivesAgain, RollbackGivesBack}
use Rattle.rdf_session.specs.Request.{Request}
use Rattle.rdf_session.specs.History.{Marks}
use Rattle.rdf_session.specs.Standing.{Run}
use Rattle.rdf_session.specs.Session.{Session, Command, Reply, Do, Undo, Redo, Mark, Rollback, Commit, Changed, Done, Refused, Transition, accepted, at_place, counts_between, fresh, now, state_at, with_depth, with_mark, with_marks}
use Rattle.rdf_session.specs.declared.fault.Counts.{Counts}

-- ---- a session stays whole

fresh_whole : (depth : Option ℕ) (base_iri : Option (List ℕ)) (start : State) → IsDepth depth → IsWholeSession (with_depth depth (fresh base_iri start))
fresh_whole depth base_iri start h = record { cursor = omega arith; marks = lie_nowhere 0; depth = h; within = none_within depth }

transition_whole : (old new : Session) (c : Command) (r : Reply) → IsWholeSession old → Transition old c r new → IsWholeSession new
transition_whole old new c (Refused fault) w st = subst IsWholeSession (sym st.1) w
transition_whole old new (Do request) (Changed counts) w st = subst IsWholeSession (sym st.2) (accepted_whole st.0 old w)
transition_whole old new (Do request) Done w st = absurd st
transition_whole old new Undo (Changed counts) w st = subst IsWholeSession (sym st.1) (record { cursor = omega (arith, w.cursor); marks = w.marks; depth = w.depth; within = w.within })
transition_whole old new Undo Done w st = absurd st
transition_whole old new Redo (Changed counts) w st = subst IsWholeSession (sym st.1) (record { cursor = omega (arith, st.0); marks = w.marks; depth = w.depth; within = w.within })
transition_whole old new Redo Done w st = absurd st
transition_whole old new (Mark name) (Changed counts) w st = absurd st
transition_whole old new (Mark name) Done w st = subst IsWholeSession (sym st) (record { cursor = w.cursor; marks = lie_marked _ old.states.cursor name old.states.marks w.cursor w.marks; depth = w.depth; within = w.within })
transition_whole old new (Rollback name) (Changed counts) w st = subst IsWholeSession (sym st.3) (record { cursor = omega (arith, st.2, w.cursor); marks = w.marks; depth = w.depth; within = w.within })
transition_whole old new (Rollback name) Done w st = absurd st
transition_whole old new Commit (Changed counts) w st = absurd st
transition_whole old new Commit Done w st = subst IsWholeSession (sym st) (fresh_whole old.depth old.base_iri (now old) w.depth)

run_whole : (old new : Session) (events : List (Command × Reply)) → IsWholeSession old → Run old events new → IsWholeSession new
run_whole old new [] w run = subst IsWholeSession (sym run) w
run_whole old new (event ∷ events) w run = run_whole run.0 new events (transition_whole old run.0 event.0 event.1 w run.1) run.2

pub runs_are_whole : RunsAreWhole
runs_are_whole depth base_iri start events session h run = run_whole (with_depth depth (fresh base_iri start)) session events (fresh_whole depth base_iri start h) run

-- ---- the states behind an accepted request

again : (k : ℕ) → 0 < k → (k - 1) + 1 ≡ k
again k h = omega (arith, h)

-- what an undo behind an accepted request leaves, whatever marks are put since
record IsUndone (after : State) (old new : Session) : Type 0 where
  above : 0 < (accepted after old).states.cursor
  marks : Marks
  is : new ≡ with_marks marks (at_place ((accepted after old).states.cursor - 1) (accepted after old))

undone : (old mid later new : Session) (request : Request) (c d : Counts) (st : Transition old (Do request) (Changed c) mid) → Quietly mid later → Transition later Undo (Changed d) new → IsUndone st.0 old new
undone old mid later new request c d st quiet un =
    let q = quiet_accepted old mid later request c st quiet in
    record {
      above = subst (λ (x : Session). 0 < x.states.cursor) q.1 un.0;
      marks = q.0;
      is = un.1 ∙ ap (λ (x : Session). at_place (x.states.cursor - 1) x) q.1;
    }

-- the state is that before the request
state_undone : (after : State) (old new : Session) → IsPlaced old → IsUndone after old new → now new ≡ now old
state_undone after old new w u = ap now u.is ∙ (accepted_is after old w).back u.above

pub undo_gives_back : UndoGivesBack
undo_gives_back old mid later new request c d w st quiet un =
    let u = undone old mid later new request c d st quiet un in
    let q = quiet_accepted old mid later request c st quiet in
    let back : now new ≡ now old = state_undone st.0 old new w u in
    let there : now later ≡ st.0 = ap now q.1 ∙ now_accepted st.0 old w in
    let counts : d ≡ counts_between st.0 (now old) = un.2 ∙ (λ i. counts_between (there i) (back i)) in
    (back, ap (λ (x : Counts). x.added) counts ∙ sym (ap (λ (x : Counts). x.removed) st.3), ap (λ (x : Counts). x.removed) counts ∙ sym (ap (λ (x : Counts). x.added) st.3))

pub redo_gives_again : RedoGivesAgain
redo_gives_again old mid later back after new request c d e w st quiet un calm re =
    let u = undone old mid later back request c d st quiet un in
    let there : Session = accepted st.0 old in
    let q = quiet_run calm.0 back after calm.1 calm.2 in
    let here : after ≡ with_marks q.0 (at_place (there.states.cursor - 1) there) = q.1 ∙ ap (with_marks q.0) u.is in
    let marks : after.states.marks ≡ q.0 = ap (λ (x : Session). x.states.marks) here in
    let again : new ≡ with_marks after.states.marks mid =
    re.1 ∙ ap (λ (x : Session). at_place (x.states.cursor + 1) x) here
    ∙ ap (λ j. with_marks q.0 (at_place j there)) (again there.states.cursor u.above)
    ∙ ap (with_marks q.0) (sym st.2) ∙ ap (λ m. with_marks m mid) (sym marks) in
    let before : now after ≡ now old = ap now q.1 ∙ state_undone st.0 old back w u in
    let onward : now new ≡ st.0 = ap now again ∙ ap now st.2 ∙ now_accepted st.0 old w in
    (again, re.2 ∙ (λ i. counts_between (before i) (onward i)) ∙ sym st.3)

-- ---- a rollback

placed_accepted : (after : State) (s : Session) → IsPlaced s → IsPlaced (accepted after s)
placed_accepted after s w = omega (arith, (accepted_is after s w).cursor)

holds_all : (name : List ℕ) (there : State) (requests : List Request) (old new : Session) → IsPlaced old → Holds name there old → Accepts old requests new → Holds name there new
holds_all name there [] old new w h a = subst (Holds name there) (sym a) h
holds_all name there (request ∷ requests) old new w h a =
    holds_all name there requests a.0 new (subst IsPlaced (sym a.2.2) (placed_accepted a.2.0 old w))
    (subst (Holds name there) (sym a.2.2) (holds_accepted name there a.2.0 old w h)) a.3

-- a name that is put at the cursor is at the state now
holds_marked : (name : List ℕ) (s : Session) → Holds name (now s) (with_mark name s)
holds_marked name s place e _ = ap (state_at s) (one_place place s.states.cursor (sym e ∙ place_marked name s.states.marks s.states.cursor))

pub rollback_gives_back : RollbackGivesBack
rollback_gives_back old marked mid new name requests c w mark more back =
    let h = holds_all name (now old) requests marked mid (subst IsPlaced (sym mark) w) (subst (Holds name (now old)) (sym mark) (holds_marked name old)) more in
    let gives : now new ≡ now old = ap now back.3 ∙ h back.0 back.1 back.2 in
    (gives, back.4 ∙ ap (counts_between (now mid)) gives)
