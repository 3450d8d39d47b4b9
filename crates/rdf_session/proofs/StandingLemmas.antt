-- The states and the standing requests of a session go on together.
use Rattle.std.proofs.Common.{◌≡◌, ℕ, zero, suc, ◌+◌, ◌-◌, ◌<◌, ◌≤◌, Bool, true, false, cond, List, [], ◌∷◌, ◌++◌, length, take, drop, get_or, Option, refl, sym, ap, ◌∙◌, subst, arith}
use Rattle.std.specs.FinMap as map
use Rattle.std.specs.Prelude.{unwrap_or}
use Rattle.rdf_dataset.specs.State.{State}
use Rattle.rdf_session.proofs.ForgettingLemmas.{length_behind, length_pushed}
use Rattle.rdf_session.specs.Depth.{is_past}
use Rattle.rdf_session.specs.Request.{Request, Makes}
use Rattle.rdf_session.specs.History.{Marks, is_too_long, kept_within, marks_behind, nothing, pushed, moved, marked, marks_upto, place_of, without_first}
use Rattle.rdf_session.specs.Session.{Session, Command, Reply, Do, Undo, Redo, Mark, Rollback, Commit, Changed, Done, Refused, Transition, accepted, forgetting, fresh, grown, now, with_depth}
use Rattle.rdf_session.specs.Standing.{Run, Requests, kept_after, requests_of, Follows, MakesAll}

-- the standing requests belong to the states of the session, which has this depth and base IRI
pub record Agrees (depth : Option ℕ) (iri : Option (List ℕ)) (s : Session) (h : Requests) : Type 0 where
  pub depth_is : s.depth ≡ depth
  pub base_iri : s.base_iri ≡ iri
  pub follows : Follows iri s.base h.items s.states.items
  pub cursor : h.cursor ≡ s.states.cursor
  pub marks : h.marks ≡ s.states.marks
  pub within : s.states.cursor ≤ length s.states.items

follows_push : (iri : Option (List ℕ)) (b : State) (rs : List Request) (ss : List State) (k : ℕ) (d : State) (request : Request) (t : State) → Follows iri b rs ss → k ≤ length ss → Makes iri request (get_or (b ∷ ss) k d) t → Follows iri b (take k rs ++ request ∷ []) (take k ss ++ t ∷ [])
follows_push iri b rs ss zero d request t f h m = (m, tt)
follows_push iri b [] [] (suc k) d request t f h m = absurd (omega (arith, h))
follows_push iri b [] (s ∷ ss) (suc k) d request t f h m = absurd f
follows_push iri b (r ∷ rs) [] (suc k) d request t f h m = absurd f
follows_push iri b (r ∷ rs) (s ∷ ss) (suc k) d request t f h m = (f.0, follows_push iri s rs ss k d request t f.1 (omega (arith, h)) m)

pub standing : (iri : Option (List ℕ)) (b : State) (rs : List Request) (ss : List State) (k : ℕ) (d : State) → Follows iri b rs ss → k ≤ length ss → MakesAll iri (take k rs) b (get_or (b ∷ ss) k d)
standing iri b rs ss zero d f h = refl
standing iri b [] [] (suc k) d f h = absurd (omega (arith, h))
standing iri b [] (s ∷ ss) (suc k) d f h = absurd f
standing iri b (r ∷ rs) [] (suc k) d f h = absurd f
standing iri b (r ∷ rs) (s ∷ ss) (suc k) d f h = (s, f.0, standing iri s rs ss k d f.1 (omega (arith, h)))

-- there are as many
follows_length : (iri : Option (List ℕ)) (b : State) (rs : List Request) (ss : List State) → Follows iri b rs ss → length rs ≡ length ss
follows_length iri b [] [] f = refl
follows_length iri b [] (s ∷ ss) f = absurd f
follows_length iri b (r ∷ rs) [] f = absurd f
follows_length iri b (r ∷ rs) (s ∷ ss) f = ap suc (follows_length iri s rs ss f.1)

-- those behind the first belong to the states behind it
follows_behind : (iri : Option (List ℕ)) (b : State) (rs : List Request) (ss : List State) (d : State) → 0 < length ss → Follows iri b rs ss → Follows iri (get_or (b ∷ ss) 1 d) (drop 1 rs) (drop 1 ss)
follows_behind iri b rs [] d h f = absurd (omega (arith, h))
follows_behind iri b [] (s ∷ ss) d h f = absurd f
follows_behind iri b (r ∷ rs) (s ∷ ss) d h f = f.1

-- a request more, and its state
grown_agrees : (depth : Option ℕ) (iri : Option (List ℕ)) (old : Session) (h : Requests) (request : Request) (after : State) → Agrees depth iri old h → Makes old.base_iri request (now old) after → Agrees depth iri (grown after old) (pushed request h)
grown_agrees depth iri old h request after a makes = record {
  depth_is = a.depth_is;
  base_iri = a.base_iri;
  follows = subst (λ k. Follows iri old.base (take k h.items ++ request ∷ []) (take old.states.cursor old.states.items ++ after ∷ [])) (sym a.cursor) (follows_push iri old.base h.items old.states.items old.states.cursor old.base request after a.follows a.within (subst (λ b. Makes b request (now old) after) a.base_iri makes));
  cursor = ap (λ k. k + 1) a.cursor;
  marks = ap (λ k. marks_upto k h.marks) a.cursor ∙ ap (marks_upto old.states.cursor) a.marks;
  within = let n = length_pushed old.states.items old.states.cursor after a.within in omega (arith, n);
}

-- the first of both goes
forgetting_agrees : (depth : Option ℕ) (iri : Option (List ℕ)) (s : Session) (h : Requests) → Agrees depth iri s h → 0 < length s.states.items → Agrees depth iri (forgetting s) (without_first h)
forgetting_agrees depth iri s h a n = record {
  depth_is = a.depth_is;
  base_iri = a.base_iri;
  follows = follows_behind iri s.base h.items s.states.items s.base n a.follows;
  cursor = ap (λ k. k - 1) a.cursor;
  marks = ap (marks_behind 1) a.marks;
  within = omega (arith, a.within, length_behind s.states.items);
}

-- an accepted request
pub record AcceptsBoth (depth : Option ℕ) (iri : Option (List ℕ)) (old : Session) (h : Requests) (request : Request) (after : State) : Type 0 where
  pub more : Agrees depth iri (grown after old) (pushed request h)
  pub some : 0 < length (grown after old).states.items
  pub alike : is_too_long depth (pushed request h) ≡ is_too_long old.depth (grown after old).states

pub accepts_both : (depth : Option ℕ) (iri : Option (List ℕ)) (old : Session) (h : Requests) (request : Request) (after : State) → Agrees depth iri old h → Makes old.base_iri request (now old) after → AcceptsBoth depth iri old h request after
accepts_both depth iri old h request after a makes =
    let g = grown_agrees depth iri old h request after a makes in
    let n = length_pushed old.states.items old.states.cursor after a.within in
    let m = follows_length iri old.base (pushed request h).items (grown after old).states.items g.follows in
    record { more = g; some = omega (arith, n); alike = λ i. is_past (sym a.depth_is i) (m i) }

accepted_agrees : (depth : Option ℕ) (iri : Option (List ℕ)) (old : Session) (h : Requests) (request : Request) (after : State) → AcceptsBoth depth iri old h request after → Agrees depth iri (accepted after old) (kept_within depth (pushed request h))
accepted_agrees depth iri old h request after b =
    subst (λ t. Agrees depth iri (accepted after old) (cond t (without_first (pushed request h)) (pushed request h))) (sym b.alike)
    (both (is_too_long old.depth (grown after old).states))
  where
    both : (t : Bool) → Agrees depth iri (cond t (forgetting (grown after old)) (grown after old)) (cond t (without_first (pushed request h)) (pushed request h))
    both true = forgetting_agrees depth iri (grown after old) (pushed request h) b.more b.some
    both false = b.more

-- one command
pub transition_agrees : (depth : Option ℕ) (iri : Option (List ℕ)) (old new : Session) (c : Command) (r : Reply) (h : Requests) → Agrees depth iri old h → Transition old c r new → Agrees depth iri new (kept_after depth h (c, r))
transition_agrees depth iri old new c (Refused fault) h a st = subst (λ s. Agrees depth iri s h) (sym st.1) a
transition_agrees depth iri old new (Do request) (Changed counts) h a st =
    subst (λ s. Agrees depth iri s (kept_within depth (pushed request h))) (sym st.2) (accepted_agrees depth iri old h request st.0 (accepts_both depth iri old h request st.0 a st.1))
transition_agrees depth iri old new (Do request) Done h a st = absurd st
transition_agrees depth iri old new Undo (Changed counts) h a st =
    subst (λ s. Agrees depth iri s (moved (h.cursor - 1) h)) (sym st.1)
    (record { depth_is = a.depth_is; base_iri = a.base_iri; follows = a.follows; cursor = ap (λ k. k - 1) a.cursor; marks = a.marks; within = omega (arith, a.within) })
transition_agrees depth iri old new Undo Done h a st = absurd st
transition_agrees depth iri old new Redo (Changed counts) h a st =
    subst (λ s. Agrees depth iri s (moved (h.cursor + 1) h)) (sym st.1)
    (record { depth_is = a.depth_is; base_iri = a.base_iri; follows = a.follows; cursor = ap (λ k. k + 1) a.cursor; marks = a.marks; within = omega (arith, st.0) })
transition_agrees depth iri old new Redo Done h a st = absurd st
transition_agrees depth iri old new (Mark name) (Changed counts) h a st = absurd st
transition_agrees depth iri old new (Mark name) Done h a st =
    subst (λ s. Agrees depth iri s (marked name h)) (sym st)
    (record {
      depth_is = a.depth_is;
      base_iri = a.base_iri;
      follows = a.follows;
      cursor = a.cursor;
      marks = ap (map.insert h.marks name) a.cursor ∙ ap (λ (marks : Marks). map.insert marks name old.states.cursor) a.marks;
      within = a.within;
    })
transition_agrees depth iri old new (Rollback name) (Changed counts) h a st =
    subst (λ s. Agrees depth iri s (moved (unwrap_or (place_of name h) 0) h)) (sym st.3)
    (record {
      depth_is = a.depth_is;
      base_iri = a.base_iri;
      follows = a.follows;
      cursor = ap (λ (marks : Marks). unwrap_or (map.get marks name) 0) a.marks ∙ ap (λ o. unwrap_or o 0) st.1;
      marks = a.marks;
      within = omega (arith, st.2, a.within);
    })
transition_agrees depth iri old new (Rollback name) Done h a st = absurd st
transition_agrees depth iri old new Commit (Changed counts) h a st = absurd st
transition_agrees depth iri old new Commit Done h a st = subst (λ s. Agrees depth iri s nothing) (sym st) (record { depth_is = a.depth_is; base_iri = a.base_iri; follows = tt; cursor = refl; marks = refl; within = omega arith })

pub run_agrees : (depth : Option ℕ) (iri : Option (List ℕ)) (old new : Session) (events : List (Command × Reply)) (h : Requests) → Agrees depth iri old h → Run old events new → Agrees depth iri new (requests_of depth h events)
run_agrees depth iri old new [] h a run = subst (λ s. Agrees depth iri s h) (sym run) a
run_agrees depth iri old new (event ∷ events) h a run = run_agrees depth iri run.0 new events (kept_after depth h event) (transition_agrees depth iri old run.0 event.0 event.1 h a run.1) run.2

pub fresh_agrees : (depth : Option ℕ) (iri : Option (List ℕ)) (s : State) → Agrees depth iri (with_depth depth (fresh iri s)) nothing
fresh_agrees depth iri s = record { depth_is = refl; base_iri = refl; follows = tt; cursor = refl; marks = refl; within = omega arith }
