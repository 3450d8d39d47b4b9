-- The promise of a session that has a history.
use Rattle.std.proofs.Common.{◌≡◌, ℕ, List, [], ◌∷◌, ◌++◌, append_assoc, take, Option, refl, sym, ap, ◌∙◌, subst}
use Rattle.rdf_session.proofs.ForgettingLemmas.{now_accepted}
use Rattle.rdf_session.proofs.GivesBackLemmas.{redo_gives_again, undo_gives_back}
use Rattle.rdf_session.proofs.HeadlineLemmas.{headline, have_entries, made_by, make_exactly, makes_exactly, makes_on, one_end, run_base, stands_now}
use Rattle.rdf_session.proofs.OneReplyLemmas.{never_refused}
use Rattle.rdf_session.proofs.StandingLemmas.{Agrees, fresh_agrees, run_agrees}
use Rattle.rdf_session.specs.Headline.{MakeExactly, Promise, committed, committed_by, still_standing}
use Rattle.rdf_session.specs.History.{nothing}
use Rattle.rdf_session.specs.Inside.ReaderLaws.{ReaderLaws}
use Rattle.rdf_session.specs.Onward.{HasHistory, PromiseGoesOn, PromisedOnward, ReachedHaveHistory, RestoredArePromised, standing_behind}
use Rattle.rdf_session.specs.Request.{Makes}
use Rattle.rdf_session.specs.Session.{Session, Command, Reply, fresh, now, with_depth}
use Rattle.rdf_session.specs.Standing.{Follows, Run, Requests, kept_after, requests_of}

agrees_with : (s : Session) (h : Requests) → HasHistory h s → Agrees s.depth s.base_iri s h
agrees_with s h a = record { depth_is = refl; base_iri = refl; follows = a.each; cursor = a.cursor; marks = a.marks; within = a.placed }

history_of : (depth : Option ℕ) (base : Option (List ℕ)) (s : Session) (h : Requests) → Agrees depth base s h → HasHistory h s
history_of depth base s h a = record {
  each = subst (λ b. Follows b s.base h.items s.states.items) (sym a.base_iri) a.follows;
  cursor = a.cursor;
  marks = a.marks;
  placed = a.within;
}

-- what stands behind a run makes the state
stands_behind : ReaderLaws → (old : Session) (h : Requests) (events : List (Command × Reply)) (session : Session) → HasHistory h old → Run old events session → MakeExactly old.base_iri (standing_behind old.depth h events) old.base (now session)
stands_behind laws old h events session has run =
    let begun = agrees_with old h has in
    let held = requests_of old.depth h events in
    make_exactly laws old.base_iri (standing_behind old.depth h events) old.base (now session)
    (makes_on old.base_iri (committed old.depth h events) (take held.cursor held.items) old.base session.base (now session)
    (run_base old.depth old.base_iri events old session h begun run)
    (stands_now old.depth old.base_iri session held (run_agrees old.depth old.base_iri old session events h begun run)))

pub promised_onward : ReaderLaws → PromisedOnward
promised_onward laws old h events session has run =
    let base = old.base_iri in
    let a = run_agrees old.depth base old session events h (agrees_with old h has) run in
    record {
      exactly = λ request c new st.
          subst (MakeExactly base (request ∷ []) (now session)) (sym (ap now st.2 ∙ now_accepted st.0 session a.within))
          (makes_exactly laws base request (now session) st.0 (subst (λ b. Makes b request (now session) st.0) a.base_iri st.1));
      undone = λ request c d mid later new st quiet un. (undo_gives_back session mid later new request c d a.within st quiet un).0;
      redone = λ request c d e mid later back after new st quiet un calm re.
          ap now (redo_gives_again session mid later back after new request c d e a.within st quiet un calm re).0;
      unchanged = λ command fault new st. st.1;
      rightly = λ request fault new st full operations theirs t leads.
          never_refused laws session request fault t st.0 full
          (subst (λ b. Makes b request (now session) t) (sym a.base_iri) (made_by base request operations (now session) t theirs leads));
      lasting = make_exactly laws base (committed old.depth h events) old.base session.base (run_base old.depth base events old session h (agrees_with old h has) run);
      standing = stands_behind laws old h events session has run;
      same_requests = λ other g others another there iri same run_other stand.
          one_end base (standing_behind old.depth h events) old.base (now another) (now session)
          (subst (λ b. MakeExactly b (standing_behind old.depth h events) old.base (now another)) iri
          (subst (λ s. MakeExactly other.base_iri (standing_behind old.depth h events) s (now another)) same
          (subst (λ requests. MakeExactly other.base_iri requests other.base (now another)) stand (stands_behind laws other g others another there run_other))))
          (stands_behind laws old h events session has run);
      entries = have_entries laws base session.base _ session.states.items a.follows;
      history = history_of old.depth base session (requests_of old.depth h events) a;
    }

pub reached_have_history : ReachedHaveHistory
reached_have_history depth base_iri start before old run =
    let a = run_agrees depth base_iri (with_depth depth (fresh base_iri start)) old before nothing (fresh_agrees depth base_iri start) run in
    (history_of depth base_iri old (requests_of depth nothing before) a, a.depth_is, a.base_iri)

-- ---- one run behind another

abbrev Events : Type 0
Events = List (Command × Reply)

run_on : (xs ys : Events) (s t u : Session) → Run s xs t → Run t ys u → Run s (xs ++ ys) u
run_on [] ys s t u a b = subst (λ x. Run x ys u) a b
run_on (x ∷ xs) ys s t u a b = (a.0, a.1, run_on xs ys a.0 t u a.2 b)

requests_on : (depth : Option ℕ) (xs ys : Events) (h : Requests) → requests_of depth h (xs ++ ys) ≡ requests_of depth (requests_of depth h xs) ys
requests_on depth [] ys h = refl
requests_on depth (x ∷ xs) ys h = requests_on depth xs ys (kept_after depth h x)

committed_on : (depth : Option ℕ) (xs ys : Events) (h : Requests) → committed depth h (xs ++ ys) ≡ committed depth h xs ++ committed depth (requests_of depth h xs) ys
committed_on depth [] ys h = refl
committed_on depth (x ∷ xs) ys h =
    ap (λ rest. committed_by depth h x ++ rest) (committed_on depth xs ys (kept_after depth h x))
    ∙ sym (append_assoc (committed_by depth h x) (committed depth (kept_after depth h x) xs) (committed depth (requests_of depth (kept_after depth h x) xs) ys))

standing_on : (depth : Option ℕ) (xs ys : Events) → still_standing depth (xs ++ ys) ≡ committed depth nothing xs ++ standing_behind depth (requests_of depth nothing xs) ys
standing_on depth xs ys =
    let held = requests_of depth nothing xs in
    let last = requests_of depth held ys in
    (λ i. committed_on depth xs ys nothing i ++ take (requests_on depth xs ys nothing i).cursor (requests_on depth xs ys nothing i).items)
    ∙ append_assoc (committed depth nothing xs) (committed depth held ys) (take last.cursor last.items)

pub promise_goes_on : ReaderLaws → PromiseGoesOn
promise_goes_on laws depth base_iri start before events old session run more =
    let reached = reached_have_history depth base_iri start before old run in
    let begun = with_depth depth (fresh base_iri start) in (
      promised_onward laws old (requests_of depth nothing before) events session reached.0 more,
      headline laws depth base_iri start (before ++ events) session (run_on before events begun old session run more),
      standing_on depth before events,
    )

pub restored_are_promised : ReaderLaws → RestoredArePromised
restored_are_promised laws depth base_iri text restored session events answer run =
    subst (λ s. Promise depth base_iri s events session) (sym (ap now answer.3))
    (headline laws depth base_iri answer.0 events session (subst (λ s. Run (with_depth depth s) events session) answer.3 run))
