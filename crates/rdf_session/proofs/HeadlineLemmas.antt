-- The promise of the whole.
use Rattle.std.proofs.Common.{◌≡◌, ℕ, Bool, true, false, cond, List, [], ◌∷◌, ◌++◌, take, Option, Result, Ok, Err, refl, sym, ap, ◌∙◌, subst}
use Rattle.rdf_dataset.specs.State.{State, net_between}
use Rattle.rdf_session.proofs.ForgettingLemmas.{now_accepted}
use Rattle.rdf_session.proofs.GivesBackLemmas.{redo_gives_again, undo_gives_back}
use Rattle.rdf_session.proofs.InsertionLemmas.{load_inserts}
use Rattle.rdf_session.proofs.NetLemmas.{applied_is, turned_is}
use Rattle.rdf_session.proofs.OneReplyLemmas.{never_refused, one_document}
use Rattle.rdf_session.specs.Inside.ReaderLaws.{ReaderLaws}
use Rattle.rdf_session.proofs.StandingLemmas.{AcceptsBoth, Agrees, accepts_both, fresh_agrees, run_agrees, standing, transition_agrees}
use Rattle.rdf_session.specs.Headline.{HasOperations, HaveOperations, MakeExactly, committed_by, committed, standing_since, still_standing, HaveEntries, Headline}
use Rattle.rdf_session.specs.History.{is_too_long, nothing, pushed}
use Rattle.rdf_session.specs.LoadLaws.{insertion}
use Rattle.rdf_session.specs.Request.{Request, Load, Update, Makes}
use Rattle.rdf_session.specs.Session.{Session, Command, Reply, Do, Undo, Redo, Mark, Rollback, Commit, Changed, Done, Refused, Transition, accepted, forgetting, fresh, grown, nets_between, now, with_depth}
use Rattle.rdf_session.specs.Standing.{Run, Requests, Follows, MakesAll, kept_after, requests_of}
use Rattle.sparql_eval.specs.Operations.{go_on, step, steps}
use Rattle.sparql_eval.specs.declared.fault.ApplyFault.{ApplyFault}
use Rattle.sparql_trees.specs.declared.operation.Operation.{Operation}
use Rattle.sparql_trees.specs.declared.operation.Request.{Request as UpdateRequest}

abbrev Base : Type 0
Base = Option (List ℕ)

abbrev Ending : Type 0
Ending = Result State ApplyFault

abbrev Operations : Type 0
Operations = List Operation

-- ---- operations, one list after another

go_on_twice : (ending : Ending) (f g h : State → Ending) → ((u : State) → f u ≡ go_on (g u) h) → go_on ending f ≡ go_on (go_on ending g) h
go_on_twice (Ok u) f g h e = e u
go_on_twice (Err fault) f g h e = refl

steps_both : (xs ys : Operations) (s : State) → steps s (xs ++ ys) ≡ go_on (steps s xs) (λ u. steps u ys)
steps_both [] ys s = refl
steps_both (x ∷ xs) ys s =
    go_on_twice (step s x) (λ u. steps u (xs ++ ys)) (λ u. steps u xs) (λ u. steps u ys) (λ u. steps_both xs ys u)

steps_on : (xs ys : Operations) (s t : State) → steps s xs ≡ Ok t → steps s (xs ++ ys) ≡ steps t ys
steps_on xs ys s t h = steps_both xs ys s ∙ ap (λ (ending : Ending). go_on ending (λ u. steps u ys)) h

one_step : (ending : Ending) (t : State) → go_on ending (λ u. Ok u) ≡ Ok t → ending ≡ Ok t
one_step (Ok u) t h = h
one_step (Err fault) t h = h

-- ---- what a request makes is what its operations lead to

pub operations_of : (base : Base) (request : Request) (s t : State) → Makes base request s t → (xs : Operations) × HasOperations base request xs × (steps s xs ≡ Ok t)
operations_of base (Load format text) s t m =
    let l = (load_inserts base format text s t).0 m in
    (insertion l.0 ∷ [], (l.0, l.1, refl), ap (λ (ending : Ending). go_on ending (λ u. Ok u)) l.2)
operations_of base (Update text) s t m = (m.0.operations, (m.0, m.1, refl), m.2)

pub made_by : (base : Base) (request : Request) (xs : Operations) (s t : State) → HasOperations base request xs → steps s xs ≡ Ok t → Makes base request s t
made_by base (Load format text) xs s t h e =
    (load_inserts base format text s t).1 (h.0, h.1, one_step (step s (insertion h.0)) t (ap (steps s) (sym h.2) ∙ e))
made_by base (Update text) xs s t h e = (h.0, h.1, ap (steps s) (sym h.2) ∙ e)

all_operations_of : (base : Base) (requests : List Request) (s t : State) → MakesAll base requests s t → (xs : Operations) × HaveOperations base requests xs × (steps s xs ≡ Ok t)
all_operations_of base [] s t m = ([], refl, ap Ok (sym m))
all_operations_of base (request ∷ requests) s t m =
    let first = operations_of base request s m.0 m.1 in
    let rest = all_operations_of base requests m.0 t m.2 in
    (first.0 ++ rest.0, (first.0, rest.0, first.1, rest.1, refl), steps_on first.0 rest.0 s m.0 first.2 ∙ rest.2)

module _ (laws : ReaderLaws) where
  one_list : (base : Base) (request : Request) (xs ys : Operations) → HasOperations base request xs → HasOperations base request ys → xs ≡ ys
  one_list base (Load format text) xs ys a b = a.2 ∙ ap (λ quads. insertion quads ∷ []) (one_document laws format base text a.0 b.0 a.1 b.1) ∙ sym b.2
  one_list base (Update text) xs ys a b = a.2 ∙ ap (λ (x : UpdateRequest). x.operations) (laws.request base text a.0 b.0 a.1 b.1) ∙ sym b.2

  one_list_of_all : (base : Base) (requests : List Request) (xs ys : Operations) → HaveOperations base requests xs → HaveOperations base requests ys → xs ≡ ys
  one_list_of_all base [] xs ys a b = a ∙ sym b
  one_list_of_all base (request ∷ requests) xs ys a b =
      let first = one_list base request a.0 b.0 a.2 b.2 in
      let rest = one_list_of_all base requests a.1 b.1 a.3 b.3 in
      a.4 ∙ (λ i. first i ++ rest i) ∙ sym b.4

  pub make_exactly : (base : Base) (requests : List Request) (s t : State) → MakesAll base requests s t → MakeExactly base requests s t
  make_exactly base requests s t m =
      let all = all_operations_of base requests s t m in
      record { operations = all.0; theirs = all.1; no_others = λ others h. one_list_of_all base requests others all.0 h all.1; lead = all.2 }

  pub makes_exactly : (base : Base) (request : Request) (s t : State) → Makes base request s t → MakeExactly base (request ∷ []) s t
  makes_exactly base request s t m = make_exactly base (request ∷ []) s t (t, m, refl)

  pub have_entries : (base : Base) (s : State) (requests : List Request) (states : List State) → Follows base s requests states → HaveEntries base requests (nets_between s states) s states
  have_entries base s [] [] f = tt
  have_entries base s [] (t ∷ states) f = absurd f
  have_entries base s (request ∷ requests) [] f = absurd f
  have_entries base s (request ∷ requests) (t ∷ states) f = (
    record {
      made = makes_exactly base request s t f.0;
      net = refl;
      onward = applied_is s t (net_between s t) refl;
      back = turned_is s t (net_between s t) refl;
    },
    have_entries base t requests states f.1,
  )

-- ---- the requests that still stand

pub makes_on : (base : Base) (requests more : List Request) (s t u : State) → MakesAll base requests s t → MakesAll base more t u → MakesAll base (requests ++ more) s u
makes_on base [] more s t u a b = subst (λ x. MakesAll base more x u) a b
makes_on base (request ∷ requests) more s t u a b = (a.0, a.1, makes_on base requests more a.0 t u a.2 b)

pub stands_now : (depth : Option ℕ) (base : Base) (s : Session) (h : Requests) → Agrees depth base s h → MakesAll base (take h.cursor h.items) s.base (now s)
stands_now depth base s h a =
    subst (λ k. MakesAll base (take k h.items) s.base (now s)) (sym a.cursor) (standing base s.base h.items s.states.items s.states.cursor s.base a.follows a.within)

-- the base moves over a request that is forgotten
base_accepted : (depth : Option ℕ) (base : Base) (old : Session) (h : Requests) (request : Request) (after : State) → Agrees depth base old h → Makes old.base_iri request (now old) after → MakesAll base (cond (is_too_long depth (pushed request h)) (take 1 (pushed request h).items) []) old.base (accepted after old).base
base_accepted depth base old h request after a makes =
    subst (λ t. MakesAll base (cond t (take 1 (pushed request h).items) []) old.base (accepted after old).base) (sym b.alike)
    (by (is_too_long old.depth (grown after old).states))
  where
    b : AcceptsBoth depth base old h request after
    b = accepts_both depth base old h request after a makes

    by : (t : Bool) → MakesAll base (cond t (take 1 (pushed request h).items) []) old.base (cond t (forgetting (grown after old)) (grown after old)).base
    by true = standing base old.base (pushed request h).items (grown after old).states.items 1 old.base b.more.follows b.some
    by false = refl

-- and over the requests that a command commits
base_after : (depth : Option ℕ) (base : Base) (old new : Session) (c : Command) (r : Reply) (h : Requests) → Agrees depth base old h → Transition old c r new → MakesAll base (committed_by depth h (c, r)) old.base new.base
base_after depth base old new c (Refused fault) h a st = ap (λ (x : Session). x.base) st.1
base_after depth base old new (Do request) (Changed counts) h a st =
    subst (λ (x : Session). MakesAll base (committed_by depth h (Do request, Changed counts)) old.base x.base) (sym st.2)
    (base_accepted depth base old h request st.0 a st.1)
base_after depth base old new (Do request) Done h a st = absurd st
base_after depth base old new Undo (Changed counts) h a st = ap (λ (x : Session). x.base) st.1
base_after depth base old new Undo Done h a st = absurd st
base_after depth base old new Redo (Changed counts) h a st = ap (λ (x : Session). x.base) st.1
base_after depth base old new Redo Done h a st = absurd st
base_after depth base old new (Mark name) (Changed counts) h a st = absurd st
base_after depth base old new (Mark name) Done h a st = ap (λ (x : Session). x.base) st
base_after depth base old new (Rollback name) (Changed counts) h a st = ap (λ (x : Session). x.base) st.3
base_after depth base old new (Rollback name) Done h a st = absurd st
base_after depth base old new Commit (Changed counts) h a st = absurd st
base_after depth base old new Commit Done h a st =
    subst (MakesAll base (take h.cursor h.items) old.base) (sym (ap (λ (x : Session). x.base) st)) (stands_now depth base old h a)

pub run_base : (depth : Option ℕ) (base : Base) (events : List (Command × Reply)) (old new : Session) (h : Requests) → Agrees depth base old h → Run old events new → MakesAll base (committed depth h events) old.base new.base
run_base depth base [] old new h a run = ap (λ (x : Session). x.base) run
run_base depth base (event ∷ events) old new h a run =
    let mid : Session = run.0 in
    makes_on base (committed_by depth h event) (committed depth (kept_after depth h event) events) old.base mid.base new.base (base_after depth base old mid event.0 event.1 h a run.1)
    (run_base depth base events mid new (kept_after depth h event) (transition_agrees depth base old mid event.0 event.1 h a run.1) run.2)

-- ---- the same requests make the same state

same_end : (ending : Ending) (t u : State) → ending ≡ Ok t → ending ≡ Ok u → t ≡ u
same_end ending t u e f = cc

pub one_end : (base : Base) (requests : List Request) (s t u : State) → MakeExactly base requests s t → MakeExactly base requests s u → t ≡ u
one_end base requests s t u a b = same_end (steps s a.operations) t u a.lead (ap (steps s) (b.no_others a.operations a.theirs) ∙ b.lead)

-- ---- all of it

abbrev begin : Option ℕ → Base → State → Session
begin depth base start = with_depth depth (fresh base start)

-- after a run the base is what the committed requests make, and the state what those that still stand do
run_lasts : ReaderLaws → (depth : Option ℕ) (base : Base) (start : State) (events : List (Command × Reply)) (session : Session) → Run (begin depth base start) events session → MakeExactly base (committed depth nothing events) start session.base
run_lasts laws depth base start events session run =
    make_exactly laws base (committed depth nothing events) start session.base (run_base depth base events (begin depth base start) session nothing (fresh_agrees depth base start) run)

run_stands : ReaderLaws → (depth : Option ℕ) (base : Base) (start : State) (events : List (Command × Reply)) (session : Session) → Run (begin depth base start) events session → MakeExactly base (still_standing depth events) start (now session)
run_stands laws depth base start events session run =
    let begun = fresh_agrees depth base start in
    make_exactly laws base (still_standing depth events) start (now session)
    (makes_on base (committed depth nothing events) (standing_since depth events) start session.base (now session)
    (run_base depth base events (begin depth base start) session nothing begun run)
    (stands_now depth base session (requests_of depth nothing events) (run_agrees depth base (begin depth base start) session events nothing begun run)))

pub headline : ReaderLaws → Headline
headline laws depth base start events session run =
    let a = run_agrees depth base (begin depth base start) session events nothing (fresh_agrees depth base start) run in
    record {
      exactly = λ request c new st.
          subst (MakeExactly base (request ∷ []) (now session)) (sym (ap now st.2 ∙ now_accepted st.0 session a.within))
          (makes_exactly laws base request (now session) st.0 (subst (λ b. Makes b request (now session) st.0) a.base_iri st.1));
      undone = λ request c d mid later new st quiet un. (undo_gives_back session mid later new request c d a.within st quiet un).0;
      redone = λ request c d e mid later back after new st quiet un calm re.
          ap now (redo_gives_again session mid later back after new request c d e a.within st quiet un calm re).0;
      unchanged = λ command fault new st. st.1;
      rightly = λ request fault new st full operations theirs t leads.
          never_refused laws session request fault t st.0 full
          (subst (λ b. Makes b request (now session) t) (sym a.base_iri) (made_by base request operations (now session) t theirs leads));
      lasting = run_lasts laws depth base start events session run;
      standing = run_stands laws depth base start events session run;
      same_requests = λ other others another run_other same.
          one_end base (still_standing depth events) start (now another) (now session)
          (subst (λ requests. MakeExactly base requests start (now another)) same (run_stands laws other base start others another run_other))
          (run_stands laws depth base start events session run);
      entries = have_entries laws base session.base _ session.states.items a.follows;
    }
