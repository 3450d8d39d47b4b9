-- The base stays between commits, and a commit makes it the state.
use Rattle.std.proofs.Common.{◌≡◌, cond, List, [], ◌∷◌, refl, ap, ◌∙◌, None}
use Rattle.std.specs.Cmp.Lexicographic.{slice_cmp}
use Rattle.std.specs.FinMap.{get-empty}
use Rattle.std.specs.List.{AllByRecursion}
use Rattle.std.specs.Ordering.{nat_cmp}
use Rattle.rdf_session.specs.Commits.{IsNoCommit, CommitKeepsTheState, BaseIsTheFirst, BaseIsTheLastCommitted}
use Rattle.rdf_dataset.specs.State.{State}
use Rattle.rdf_session.specs.History.{is_too_long, place_of}
use Rattle.rdf_session.specs.Session.{Session, Command, Reply, Do, Undo, Redo, Mark, Rollback, Commit, Changed, Done, Refused, Transition, accepted, all_states, forgetting, fresh, grown, now}
use Rattle.rdf_session.specs.Standing.{Run}

-- without a depth a session has none from then on, and its base stays
record Stays (old new : Session) : Type 0 where
  depth : new.depth ≡ None
  base : new.base ≡ old.base

stays_as : (old new other : Session) → old.depth ≡ None → new ≡ other → other.depth ≡ old.depth → other.base ≡ old.base → Stays old new
stays_as old new other n e d b = record { depth = ap (λ (x : Session). x.depth) e ∙ d ∙ n; base = ap (λ (x : Session). x.base) e ∙ b }

grows : (after : State) (s : Session) → s.depth ≡ None → accepted after s ≡ grown after s
grows after s n = ap (λ d. cond (is_too_long d (grown after s).states) (forgetting (grown after s)) (grown after s)) n

transition_keeps_base : (old new : Session) (c : Command) (r : Reply) → IsNoCommit (c, r) → old.depth ≡ None → Transition old c r new → Stays old new
transition_keeps_base old new c (Refused fault) q n st = stays_as old new old n st.1 refl refl
transition_keeps_base old new (Do request) (Changed counts) q n st = stays_as old new (grown st.0 old) n (st.2 ∙ grows st.0 old n) refl refl
transition_keeps_base old new (Do request) Done q n st = absurd st
transition_keeps_base old new Undo (Changed counts) q n st = stays_as old new _ n st.1 refl refl
transition_keeps_base old new Undo Done q n st = absurd st
transition_keeps_base old new Redo (Changed counts) q n st = stays_as old new _ n st.1 refl refl
transition_keeps_base old new Redo Done q n st = absurd st
transition_keeps_base old new (Mark name) (Changed counts) q n st = absurd st
transition_keeps_base old new (Mark name) Done q n st = stays_as old new _ n st refl refl
transition_keeps_base old new (Rollback name) (Changed counts) q n st = stays_as old new _ n st.3 refl refl
transition_keeps_base old new (Rollback name) Done q n st = absurd st
transition_keeps_base old new Commit (Changed counts) q n st = absurd q
transition_keeps_base old new Commit Done q n st = absurd q

transition_keeps_depth : (old new : Session) (c : Command) (r : Reply) → old.depth ≡ None → Transition old c r new → new.depth ≡ None
transition_keeps_depth old new c (Refused fault) n st = ap (λ (x : Session). x.depth) st.1 ∙ n
transition_keeps_depth old new Commit Done n st = ap (λ (x : Session). x.depth) st ∙ n
transition_keeps_depth old new (Do request) (Changed counts) n st = (transition_keeps_base old new (Do request) (Changed counts) tt n st).depth
transition_keeps_depth old new (Do request) Done n st = absurd st
transition_keeps_depth old new Undo (Changed counts) n st = (transition_keeps_base old new Undo (Changed counts) tt n st).depth
transition_keeps_depth old new Undo Done n st = absurd st
transition_keeps_depth old new Redo (Changed counts) n st = (transition_keeps_base old new Redo (Changed counts) tt n st).depth
transition_keeps_depth old new Redo Done n st = absurd st
transition_keeps_depth old new (Mark name) (Changed counts) n st = absurd st
transition_keeps_depth old new (Mark name) Done n st = (transition_keeps_base old new (Mark name) Done tt n st).depth
transition_keeps_depth old new (Rollback name) (Changed counts) n st = (transition_keeps_base old new (Rollback name) (Changed counts) tt n st).depth
transition_keeps_depth old new (Rollback name) Done n st = absurd st
transition_keeps_depth old new Commit (Changed counts) n st = absurd st

base_stays : (events : List (Command × Reply)) (old new : Session) → AllByRecursion IsNoCommit events → old.depth ≡ None → Run old events new → new.base ≡ old.base
base_stays [] old new q n run = ap (λ (x : Session). x.base) run
base_stays (event ∷ events) old new q n run =
    let first = transition_keeps_base old run.0 event.0 event.1 q.0 n run.1 in
    base_stays events run.0 new q.1 first.depth run.2 ∙ first.base

depth_stays : (events : List (Command × Reply)) (old new : Session) → old.depth ≡ None → Run old events new → new.depth ≡ None
depth_stays [] old new n run = ap (λ (x : Session). x.depth) run ∙ n
depth_stays (event ∷ events) old new n run = depth_stays events run.0 new (transition_keeps_depth old run.0 event.0 event.1 n run.1) run.2

pub commit_keeps_the_state : CommitKeepsTheState
commit_keeps_the_state old new st = record {
  state = ap now st;
  alone = ap all_states st;
  no_mark = λ name. ap (λ (x : Session). place_of name x.states) st ∙ get-empty (slice_cmp nat_cmp) name;
}

pub base_is_the_first : BaseIsTheFirst
base_is_the_first base_iri start events session n run = base_stays events (fresh base_iri start) session n refl run

pub base_is_the_last_committed : BaseIsTheLastCommitted
base_is_the_last_committed base_iri start before behind at committed session run st n more =
    base_stays behind committed session n (ap (λ (x : Session). x.depth) st ∙ depth_stays before (fresh base_iri start) at refl run) more ∙ ap (λ (x : Session). x.base) st
