-- A mark is at its state after any commands, so a rollback to it gives that back.
use Rattle.std.proofs.Common.{◌≡◌, ℕ, ◌+◌, ◌≤◌, true, false, cond, List, [], ◌∷◌, length, Option, Some, None, refl, sym, ap, ◌∙◌, subst, arith, add-one}
use Rattle.std.specs.List.{AllByRecursion}
use Rattle.rdf_dataset.specs.State.{State}
use Rattle.rdf_session.proofs.BehindLemmas.{behind_was, get_behind, one_place}
use Rattle.rdf_session.proofs.ForgettingLemmas.{accepted_is, by_depth, forgetting_at, length_pushed, stands}
use Rattle.rdf_session.proofs.MarkLemmas.{get_upto, one_name, place_kept, place_marked, place_nowhere, place_other, same, upto_kept}
use Rattle.rdf_session.specs.Faults.{no_memory}
use Rattle.rdf_session.specs.GivesBack.{IsPlaced}
use Rattle.rdf_session.specs.History.{is_too_long, place_of}
use Rattle.rdf_session.specs.RollsBack.{LeavesMark, IsRequest, RollbackGivesBackItsMark, RollbackIsTaken}
use Rattle.rdf_session.specs.Session.{Session, Command, Reply, Do, Undo, Redo, Mark, Rollback, Commit, Changed, Done, Refused, Transition, MayRefuse, accepted, counts_between, forgetting, grown, now, state_at, with_mark}
use Rattle.rdf_session.specs.Standing.{Run}
use Rattle.rdf_session.specs.declared.fault.KeeperFault.{KeeperFault}
use Rattle.rdf_session.specs.declared.fault.KeeperFault.TheVariants.{NoSuchMark, MarkAhead, NoMemory}

-- ---- the cursor lies in the list

placed_accepted : (after : State) (s : Session) → IsPlaced s → IsPlaced (accepted after s)
placed_accepted after s w = omega (arith, (accepted_is after s w).cursor)

placed_after : (old new : Session) (c : Command) (r : Reply) → IsPlaced old → Transition old c r new → IsPlaced new
placed_after old new c (Refused fault) w st = subst IsPlaced (sym st.1) w
placed_after old new (Do request) (Changed counts) w st = subst IsPlaced (sym st.2) (placed_accepted st.0 old w)
placed_after old new (Do request) Done w st = absurd st
placed_after old new Undo (Changed counts) w st = subst IsPlaced (sym st.1) (omega (arith, w))
placed_after old new Undo Done w st = absurd st
placed_after old new Redo (Changed counts) w st = subst IsPlaced (sym st.1) (omega (arith, st.0))
placed_after old new Redo Done w st = absurd st
placed_after old new (Mark name) (Changed counts) w st = absurd st
placed_after old new (Mark name) Done w st = subst IsPlaced (sym st) w
placed_after old new (Rollback name) (Changed counts) w st = subst IsPlaced (sym st.3) (omega (arith, st.2, w))
placed_after old new (Rollback name) Done w st = absurd st
placed_after old new Commit (Changed counts) w st = absurd st
placed_after old new Commit Done w st = subst IsPlaced (sym st) (omega arith)

-- ---- a mark stays at its state

-- wherever the name is, there is the state
abbrev IsAt : List ℕ → State → Session → Type 0
IsAt name there s = (place : ℕ) → place_of name s.states ≡ Some place → state_at s place ≡ there

at_accepted : (name : List ℕ) (there after : State) (s : Session) → IsPlaced s → IsAt name there s → IsAt name there (accepted after s)
at_accepted name there after s w h = by_depth (IsAt name there) after s (λ _. at_grown) (λ _. at_forgetting)
  where
    k : ℕ
    k = s.states.cursor

    g : Session
    g = grown after s

    n : length g.states.items ≡ k + 1
    n = length_pushed s.states.items k after w

    at_grown : IsAt name there g
    at_grown place e =
        let is = upto_kept _ k place (sym (get_upto s.states.marks k name) ∙ e) in
        stands s.base s.states.items k place s.base after is.1 w ∙ h place is.0

    at_forgetting : IsAt name there (forgetting g)
    at_forgetting place e =
        let was = behind_was 1 place _ (sym (get_behind g.states.marks 1 name) ∙ e) in
        let is = upto_kept _ k (place + 1) (sym (get_upto s.states.marks k name) ∙ was) in
        forgetting_at g place (omega (arith, n, is.1)) ∙ ap (state_at g) (sym (add-one place)) ∙ at_grown (place + 1) was

-- a name that is put at the cursor is at the state now
at_marked : (name : List ℕ) (s : Session) → IsAt name (now s) (with_mark name s)
at_marked name s place e = ap (state_at s) (one_place place s.states.cursor (sym e ∙ place_marked name s.states.marks s.states.cursor))

is_other : (name other : List ℕ) → ¬ (other ≡ name) → same name other ≡ false
is_other name other n =
    elim (same name other) as (λ b. same name other ≡ b → b ≡ false) [
      | true ↦ λ e. absurd (n (sym (one_name name other e)))
      | false ↦ λ _. refl
    ] refl

-- another that is put leaves it
at_other : (name other : List ℕ) (there : State) (s : Session) → ¬ (other ≡ name) → IsAt name there s → IsAt name there (with_mark other s)
at_other name other there s n h place e = h place (sym (place_other other name s.states.marks s.states.cursor (is_other name other n)) ∙ e)

at_nowhere : {A : Type 0} (name : List ℕ) (place : ℕ) (o : Option ℕ) → o ≡ None → o ≡ Some place → A
at_nowhere name place o e f = cc

at_after : (name : List ℕ) (there : State) (old new : Session) (c : Command) (r : Reply) → LeavesMark name (c, r) → IsPlaced old → IsAt name there old → Transition old c r new → IsAt name there new
at_after name there old new c (Refused fault) l w h st = subst (IsAt name there) (sym st.1) h
at_after name there old new (Do request) (Changed counts) l w h st = subst (IsAt name there) (sym st.2) (at_accepted name there st.0 old w h)
at_after name there old new (Do request) Done l w h st = absurd st
at_after name there old new Undo (Changed counts) l w h st = subst (IsAt name there) (sym st.1) h
at_after name there old new Undo Done l w h st = absurd st
at_after name there old new Redo (Changed counts) l w h st = subst (IsAt name there) (sym st.1) h
at_after name there old new Redo Done l w h st = absurd st
at_after name there old new (Mark other) (Changed counts) l w h st = absurd st
at_after name there old new (Mark other) Done l w h st = subst (IsAt name there) (sym st) (at_other name other there old l h)
at_after name there old new (Rollback other) (Changed counts) l w h st = subst (IsAt name there) (sym st.3) h
at_after name there old new (Rollback other) Done l w h st = absurd st
at_after name there old new Commit (Changed counts) l w h st = absurd st
at_after name there old new Commit Done l w h st =
    subst (IsAt name there) (sym st) (λ place e. at_nowhere name place _ (place_nowhere name) e)

at_end : (name : List ℕ) (there : State) (events : List (Command × Reply)) (old new : Session) → AllByRecursion (LeavesMark name) events → IsPlaced old → IsAt name there old → Run old events new → IsAt name there new
at_end name there [] old new l w h run = subst (IsAt name there) (sym run) h
at_end name there (event ∷ events) old new l w h run =
    at_end name there events run.0 new l.1 (placed_after old run.0 event.0 event.1 w run.1)
    (at_after name there old run.0 event.0 event.1 l.0 w h run.1) run.2

pub rollback_gives_back_its_mark : RollbackGivesBackItsMark
rollback_gives_back_its_mark old marked mid new name events c w mark leave run back =
    let h = at_end name (now old) events marked mid leave (subst IsPlaced (sym mark) w) (subst (IsAt name (now old)) (sym mark) (at_marked name old)) run in
    let gives : now new ≡ now old = ap now back.3 ∙ h back.0 back.1 in
    (gives, back.4 ∙ ap (counts_between (now mid)) gives)

-- ---- a mark stays behind requests

-- the name is at the place, which isn't past the cursor, and nothing is forgotten
record Keeps (name : List ℕ) (k : ℕ) (s : Session) : Type 0 where
  depth : s.depth ≡ None
  place : place_of name s.states ≡ Some k
  upto : k ≤ s.states.cursor

keeps_grown : (name : List ℕ) (k : ℕ) (after : State) (s : Session) → Keeps name k s → Keeps name k (grown after s)
keeps_grown name k after s h = record {
  depth = h.depth;
  place = place_kept name s.states.marks k s.states.cursor h.place h.upto;
  upto = omega (arith, h.upto);
}

not_long : (depth : Option ℕ) (s : Session) → depth ≡ None → is_too_long depth s.states ≡ false
not_long depth s e = ap (λ d. is_too_long d s.states) e

keeps_accepted : (name : List ℕ) (k : ℕ) (after : State) (s : Session) → Keeps name k s → Keeps name k (accepted after s)
keeps_accepted name k after s h =
    subst (λ b. Keeps name k (cond b (forgetting (grown after s)) (grown after s))) (sym (not_long s.depth (grown after s) h.depth)) (keeps_grown name k after s h)

keeps_after : (name : List ℕ) (k : ℕ) (old new : Session) (c : Command) (r : Reply) → IsRequest (c, r) → Keeps name k old → Transition old c r new → Keeps name k new
keeps_after name k old new c (Refused fault) q h st = subst (Keeps name k) (sym st.1) h
keeps_after name k old new (Do request) (Changed counts) q h st = subst (Keeps name k) (sym st.2) (keeps_accepted name k st.0 old h)
keeps_after name k old new (Do request) Done q h st = absurd st
keeps_after name k old new Undo (Changed counts) q h st = absurd q
keeps_after name k old new Undo Done q h st = absurd q
keeps_after name k old new Redo (Changed counts) q h st = absurd q
keeps_after name k old new Redo Done q h st = absurd q
keeps_after name k old new (Mark other) (Changed counts) q h st = absurd q
keeps_after name k old new (Mark other) Done q h st = absurd q
keeps_after name k old new (Rollback other) (Changed counts) q h st = absurd q
keeps_after name k old new (Rollback other) Done q h st = absurd q
keeps_after name k old new Commit (Changed counts) q h st = absurd q
keeps_after name k old new Commit Done q h st = absurd q

keeps_end : (name : List ℕ) (k : ℕ) (events : List (Command × Reply)) (old new : Session) → AllByRecursion IsRequest events → Keeps name k old → Run old events new → Keeps name k new
keeps_end name k [] old new q h run = subst (Keeps name k) (sym run) h
keeps_end name k (event ∷ events) old new q h run =
    keeps_end name k events run.0 new q.1 (keeps_after name k old run.0 event.0 event.1 q.0 h run.1) run.2

-- so it is found, and not ahead
no_other_fault : (name : List ℕ) (k : ℕ) (s : Session) (fault : KeeperFault) → Keeps name k s → MayRefuse s (Rollback name) fault → fault ≡ no_memory
no_other_fault name k s NoSuchMark h m = at_nowhere name k _ m h.place
no_other_fault name k s MarkAhead h m =
    let e = one_place m.0 k (sym m.1 ∙ h.place) in absurd (omega (arith, e, m.2, h.upto))
no_other_fault name k s (NoMemory _) h m = refl
no_other_fault name k s _ h m = absurd m

pub rollback_is_taken : RollbackIsTaken
rollback_is_taken old marked mid new name events fault free mark requests run refused =
    let begun : Keeps name old.states.cursor marked =
    subst (Keeps name old.states.cursor) (sym mark) (record {
      depth = free;
      place = place_marked name old.states.marks old.states.cursor;
      upto = omega arith;
    }) in
    no_other_fault name old.states.cursor mid fault (keeps_end name old.states.cursor events marked mid requests begun run) refused.0
