-- A script's answers are the steps of a session.
use Rattle.std.proofs.Common.{◌≡◌, inl, inr, ℕ, Bool, true, false, List, [], ◌∷◌, ◌++◌, refl, sym, ap, ◌∙◌, subst, None}
use mathlib.Core.Bool.{true≢false}
use Rattle.rdf_session.specs.Between.{IsQuiet, Quietly}
use Rattle.rdf_session.specs.GivesBack.{UndoGivesBack, RedoGivesAgain}
use Rattle.rdf_session.specs.Headline.{Headline}
use Rattle.rdf_session.specs.Request.{Request}
use Rattle.rdf_session.specs.Session.{Session, Command, Reply, Do, Undo, Redo, Mark, Rollback, Commit, Changed, Done, Refused, Transition, fresh, now, with_depth}
use Rattle.rdf_session.specs.Standing.{Run}
use Rattle.rdf_session.specs.declared.fault.Counts.{Counts}
use Rattle.rdf_keeper.specs.Script.Answers.{Answers, is_refused, reply_line}
use Rattle.rdf_keeper.specs.Script.Commands.{Asked, act, ask, bad, commands, show, unended}
use Rattle.rdf_keeper.specs.Script.Lines.{raw_lines, upto_last_end}
use Rattle.rdf_keeper.specs.Script.Promised.{Tells, AreTold, AnswersAreTransitions, ScriptsArePromised, IsQuietAnswer, AnswersQuietly, UndoneInAScript, RedoneInAScript}
use Rattle.rdf_keeper.specs.declared.script.status.Status.{Status}
use Rattle.rdf_keeper.specs.declared.script.status.Status.TheVariants.{Accepted, ReadFailed}

abbrev Events : Type 0
Events = List (Command × Reply)

-- ---- one answer

-- an answer before others, where its text is told
tell : (status : Status) (asked : Asked) (more : List Asked) (whole text : List ℕ) (texts : List (List ℕ)) (refused : Bool) (old mid new : Session) → Answers asked old whole refused mid
    → ((reply : Reply) → whole ≡ reply_line reply → Tells status reply text texts) → (others : Events) → AreTold status more texts others → Run mid others new
    → (events : Events) × AreTold status (asked ∷ more) (text ∷ texts) events × Run old events new
tell status (act command) more whole text texts refused old mid new a tells others told run =
    ((command, a.0) ∷ others, (a.0, others, refl, tells a.0 a.2, told), (mid, a.1, run))
tell status (ask query) more whole text texts refused old mid new a tells others told run = (others, told, subst (λ s. Run s others new) a.0 run)
tell status (show topic) more whole text texts refused old mid new a tells others told run = (others, told, subst (λ s. Run s others new) a.0 run)
tell status bad more whole text texts refused old mid new a tells others told run = (others, told, subst (λ s. Run s others new) a.0 run)
tell status unended more whole text texts refused old mid new a tells others told run = (others, told, subst (λ s. Run s others new) a.0 run)

-- what answers there are decides what is told of them
same_answers : (status : Status) (asked : List Asked) (answers others : List (List ℕ)) (old new : Session) → answers ≡ others
    → (events : Events) × AreTold status asked others events × Run old events new → (events : Events) × AreTold status asked answers events × Run old events new
same_answers status asked answers others old new e h = subst (λ texts. (events : Events) × AreTold status asked texts events × Run old events new) (sym e) h

none_told : (status : Status) (asked : List Asked) → AreTold status asked [] []
none_told status [] = refl
none_told status (a ∷ asked) = refl

pub answers_are_transitions : AnswersAreTransitions
answers_are_transitions stop last refused [] old answers new status run = same_answers status [] answers [] old new run.0 ([], refl, run.1)
answers_are_transitions stop last refused (c ∷ cs) old answers new status (inl taken) =
    same_answers status (c ∷ cs) answers [] old new taken.0 ([], refl, taken.1)
answers_are_transitions stop last refused (c ∷ cs) old answers new status (inr (text, is, mid, may, inl broken)) =
    same_answers status (c ∷ cs) answers (broken.0 ∷ []) old new broken.4
    (tell status c cs text broken.0 [] is old mid new may
    (λ reply e. inr (broken.1, sym e ∙ broken.2, refl, broken.6)) [] (none_told status cs) broken.5)
answers_are_transitions stop last refused (c ∷ cs) old answers new status (inr (text, is, mid, may, inr (inl stopped))) =
    same_answers status (c ∷ cs) answers (text ∷ []) old new stopped.1
    (tell status c cs text text [] is old mid new may (λ reply e. inl e) [] (none_told status cs) stopped.2)
answers_are_transitions stop last refused (c ∷ cs) old answers new status (inr (text, is, mid, may, inr (inr on))) =
    let rest = answers_are_transitions stop last _ cs mid on.1 new status on.3 in
    same_answers status (c ∷ cs) answers (text ∷ on.1) old new on.2
    (tell status c cs text text on.1 is old mid new may (λ reply e. inl e) rest.0 rest.1 rest.2)

-- ---- over bytes

pub scripts_are_promised : Headline → ScriptsArePromised
scripts_are_promised headline depth base_iri start stop before after answers session status over =
    let read = over.read ++ over.last in
    let begun : Session = with_depth depth (fresh base_iri start) in
    elim over.ends [
      | inl ended ↦
          let run = answers_are_transitions stop Accepted false (commands true None (raw_lines read)) begun answers session status ended.1 in
          (read, over.consumed, record { asked = commands true None (raw_lines read); theirs = inl refl; events = run.0; told = run.1; promise = headline depth base_iri start run.0 session run.2 })
      | inr front ↦
          let run = answers_are_transitions stop ReadFailed false (commands false None (raw_lines (upto_last_end read))) begun answers session status front in
          (read, over.consumed, record { asked = commands false None (raw_lines (upto_last_end read)); theirs = inr refl; events = run.0; told = run.1; promise = headline depth base_iri start run.0 session run.2 })
    ]

-- ---- what comes between

-- a refusal is quiet
refused_is_quiet : (command : Command) (reply : Reply) → true ≡ is_refused reply → IsQuiet (command, reply)
refused_is_quiet command (Refused fault) e = tt
refused_is_quiet command (Changed counts) e = absurd (true≢false e)
refused_is_quiet command Done e = absurd (true≢false e)

mark_is_quiet : (name : List ℕ) (reply : Reply) → IsQuiet (Mark name, reply)
mark_is_quiet name (Refused fault) = tt
mark_is_quiet name (Changed counts) = tt
mark_is_quiet name Done = tt

quiet_reply : (command : Command) (refused : Bool) (reply : Reply) → IsQuietAnswer (act command) refused → refused ≡ is_refused reply → IsQuiet (command, reply)
quiet_reply command true reply q e = refused_is_quiet command reply e
quiet_reply (Mark name) false reply q e = mark_is_quiet name reply
quiet_reply (Do request) false reply q e = absurd q
quiet_reply Undo false reply q e = absurd q
quiet_reply Redo false reply q e = absurd q
quiet_reply (Rollback name) false reply q e = absurd q
quiet_reply Commit false reply q e = absurd q

before_quiet : (s t u : Session) → t ≡ s → Quietly t u → Quietly s u
before_quiet s t u e q = subst (λ x. Quietly x u) e q

quiet_answers : (between : List Asked) (old new : Session) → AnswersQuietly between old new → Quietly old new
quiet_answers [] old new e = ([], tt, e)
quiet_answers (act command ∷ more) old new a =
    let rest = quiet_answers more a.2 new a.5 in
    let step = a.4 in
    ((command, step.0) ∷ rest.0, (quiet_reply command a.1 step.0 a.3 step.3, rest.1), (a.2, step.1, rest.2))
quiet_answers (ask query ∷ more) old new a = before_quiet old a.2 new a.4.0 (quiet_answers more a.2 new a.5)
quiet_answers (show topic ∷ more) old new a = before_quiet old a.2 new a.4.0 (quiet_answers more a.2 new a.5)
quiet_answers (bad ∷ more) old new a = before_quiet old a.2 new a.4.0 (quiet_answers more a.2 new a.5)
quiet_answers (unended ∷ more) old new a = before_quiet old a.2 new a.4.0 (quiet_answers more a.2 new a.5)

-- an answer that is no refusal tells of counts
request_done : (old new : Session) (request : Request) (reply : Reply) → Transition old (Do request) reply new → false ≡ is_refused reply → (c : Counts) × Transition old (Do request) (Changed c) new
request_done old new request (Changed c) st e = (c, st)
request_done old new request Done st e = absurd st
request_done old new request (Refused fault) st e = absurd (true≢false (sym e))

undo_done : (old new : Session) (reply : Reply) → Transition old Undo reply new → false ≡ is_refused reply → (c : Counts) × Transition old Undo (Changed c) new
undo_done old new (Changed c) st e = (c, st)
undo_done old new Done st e = absurd st
undo_done old new (Refused fault) st e = absurd (true≢false (sym e))

redo_done : (old new : Session) (reply : Reply) → Transition old Redo reply new → false ≡ is_refused reply → (c : Counts) × Transition old Redo (Changed c) new
redo_done old new (Changed c) st e = (c, st)
redo_done old new Done st e = absurd st
redo_done old new (Refused fault) st e = absurd (true≢false (sym e))

pub undone_in_a_script : UndoGivesBack → UndoneInAScript
undone_in_a_script law old mid later new request between text other placed a quiet b =
    let did = request_done old mid request a.0 a.1 a.3 in
    let undid = undo_done later new b.0 b.1 b.3 in
    (law old mid later new request did.0 undid.0 placed did.1 (quiet_answers between mid later quiet) undid.1).0

pub redone_in_a_script : RedoGivesAgain → RedoneInAScript
redone_in_a_script law old mid later back after new request between behind text other another placed a quiet b calm d =
    let did = request_done old mid request a.0 a.1 a.3 in
    let undid = undo_done later back b.0 b.1 b.3 in
    let redid = redo_done after new d.0 d.1 d.3 in
    ap now (law old mid later back after new request did.0 undid.0 redid.0 placed did.1 (quiet_answers between mid later quiet) undid.1 (quiet_answers behind back after calm) redid.1).0
