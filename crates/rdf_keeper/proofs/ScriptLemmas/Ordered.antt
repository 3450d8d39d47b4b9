-- Sessions over a device: logs that grow by their calls.
use Rattle.std.proofs.Common.{◌≡◌, ◌≢◌, ◌≤◌, ◌<◌, ℕ, ◌+◌, Bool, true, false, cond, ◌||◌, List, [], ◌∷◌, ◌++◌, length, None, refl, sym, ap, ◌∙◌, subst, append-nil, append_assoc, arith, inl, inr}
use Rattle.std.proofs.lemmas.List.Folds.{concat-append}
use Rattle.std.specs.List.{concat}
use Rattle.std.specs.Prelude.{Ok, Err}
use Rattle.rdf_session.specs.Session.{Session}
use Rattle.rdf_streams.specs.Devices.{Event, Gave, IsOrderly, ReadFault, given, has_end, has_failed, is_end, read_calls, taken}
use Rattle.rdf_streams.specs.Streams.{AreTaken, Wrote}
use Rattle.rdf_keeper.specs.Inside.WriteFaults.{is_write_fault}
use Rattle.rdf_keeper.specs.Script.Answers.{Answers}
use Rattle.rdf_keeper.specs.Script.Commands.{Asked, commands}
use Rattle.rdf_keeper.specs.Script.Lines.{raw_lines, upto_last_end}
use Rattle.rdf_keeper.specs.Script.Orders.{AreAnswered, EndsAs, Ran, commands_read, status_behind}
use Rattle.rdf_keeper.specs.Script.Pieces.{EndsWithin, Fed, GoesOn, nothing_pending, unfed, whole_commands}
use Rattle.rdf_keeper.specs.Script.Runs.{Answered, Course, Serves, final, so_far, to_end}
use Rattle.rdf_keeper.specs.Script.Statuses.{no_memory}
use Rattle.rdf_keeper.specs.declared.script.status.Status.{Status}
use Rattle.rdf_keeper.specs.declared.script.status.Status.TheVariants.{Accepted, Refused, ReadFailed, WriteFailed, NoMemory}
use Rattle.rdf_streams.proofs.DeviceLemmas.Logs.{calls-append, end-append, failed-append, given-append, or_false, some_given, taken-append}
use Rattle.rdf_streams.proofs.DeviceLemmas.Orderly.{orderly-append, orderly_for, orderly_one, wrote_fits}
use Rattle.rdf_streams.proofs.DeviceLemmas.Written.{writes_go_on, wrote_calls, wrote_end, wrote_given, wrote_taken, wrote_to_fault}
use Rattle.rdf_keeper.proofs.ScriptLemmas.Feeds.{ends_further, goes_further, goes_nowhere}
use Rattle.rdf_keeper.proofs.ScriptLemmas.Runs.{serves_done, serves_ended, serves_on}

-- more answers may come
answered_for : (stop : Bool) (start : Session) (answers more : List (List ℕ)) (before : List Event) → AreAnswered stop start answers before → AreAnswered stop start (answers ++ more) before
answered_for stop start answers more before (first, others, mid, refused, parts, wrote, served) =
    (first, others ++ more, mid, refused, ap (λ t. t ++ more) parts ∙ append_assoc first others more, wrote, served)

orderly_on : (stop : Bool) (start : Session) (answers more : List (List ℕ)) (log : List Event) → IsOrderly 4096 (AreAnswered stop start answers) log → IsOrderly 4096 (AreAnswered stop start (answers ++ more)) log
orderly_on stop start answers more log o = orderly_for 4096 (AreAnswered stop start answers) (AreAnswered stop start (answers ++ more)) (answered_for stop start answers more) [] log o

-- ---- between two read calls: all commands that were wholly read are answered, and the session goes on

pub record Ready (stop : Bool) (start : Session) (calls : ℕ) (log : List Event) (answers : List (List ℕ)) (t : Session) (feed : Fed) : Type 0 where
  pub orderly : IsOrderly 4096 (AreAnswered stop start answers) log
  pub goes_on : has_failed log ≡ false
  pub no_end : has_end log ≡ false
  pub counted : read_calls log ≡ calls
  pub written : taken log ≡ concat answers
  pub on : GoesOn (unfed stop) (given log) start answers t feed

pub ready_first : (stop : Bool) (start : Session) (feed : Fed) → feed ≡ unfed stop → Ready stop start 0 [] [] start feed
ready_first stop start feed is =
    record { orderly = tt; goes_on = refl; no_end = refl; counted = refl; written = refl; on = subst (GoesOn (unfed stop) [] start [] start) (sym is) (goes_nowhere (unfed stop) start refl) }

pub before_end : (log : List Event) → has_end log ≡ false → commands_read log ≡ whole_commands nothing_pending (given log)
before_end log h = ap (λ v. cond v (commands true None (raw_lines (given log))) (commands false None (raw_lines (upto_last_end (given log))))) h

pub behind_end : (log : List Event) → has_end log ≡ true → commands_read log ≡ commands true None (raw_lines (given log))
behind_end log h = ap (λ v. cond v (commands true None (raw_lines (given log))) (commands false None (raw_lines (upto_last_end (given log))))) h

-- what is served, by whether the end was read
served_open : (stop : Bool) (log : List Event) (s t : Session) (answers : List (List ℕ)) (status : Status) → has_end log ≡ false
    → Serves (to_end Answers stop ReadFailed) false (whole_commands nothing_pending (given log)) s answers t status → Serves (to_end Answers stop (status_behind log)) false (commands_read log) s answers t status
served_open stop log s t answers status h served =
    subst (λ v. Serves (to_end Answers stop (cond v Accepted ReadFailed)) false (cond v (commands true None (raw_lines (given log))) (commands false None (raw_lines (upto_last_end (given log))))) s answers t status) (sym h) served

served_whole : (stop : Bool) (log : List Event) (s t : Session) (answers : List (List ℕ)) (status : Status) → has_end log ≡ true
    → Serves (to_end Answers stop Accepted) false (commands true None (raw_lines (given log))) s answers t status → Serves (to_end Answers stop (status_behind log)) false (commands_read log) s answers t status
served_whole stop log s t answers status h served =
    subst (λ v. Serves (to_end Answers stop (cond v Accepted ReadFailed)) false (cond v (commands true None (raw_lines (given log))) (commands false None (raw_lines (upto_last_end (given log))))) s answers t status) (sym h) served

-- no command makes a read fault
pub no_read_fault : {O : Type 0} (c : Course O) (o : O) → ((r : Bool) → o ≡ c.behind r → ⊥) → (o ≡ c.ended no_memory → ⊥) → (o ≡ c.ended WriteFailed → ⊥) → (o ≡ c.ended Refused → ⊥)
    → (refused : Bool) (cs : List Asked) (s t : Session) (answers : List (List ℕ)) → Serves c refused cs s answers t o → ⊥
no_read_fault c o done memory write stop refused [] s t answers p = elim (p.2) [ inl e ↦ done refused e | inr e ↦ memory e ]
no_read_fault c o done memory write stop refused (asked ∷ cs) s t answers p =
    elim p [
      | inl n ↦ memory n.2
      | inr q ↦ elim (q.4) [
        | inl b ↦ write b.6
        | inr (inl h) ↦ stop h.3
        | inr (inr m) ↦ no_read_fault c o done memory write stop (refused || q.1) cs q.2 t m.1 m.3
      ]
    ]

not_within : (stop refused : Bool) (cs : List Asked) (s t : Session) (answers : List (List ℕ)) → Answered stop refused cs s answers t (Err ReadFailed) → ⊥
not_within stop refused cs s t answers p = no_read_fault (so_far stop) (Err ReadFailed) (λ r e. cc) (λ e. cc) (λ e. cc) (λ e. cc) refused cs s t answers p

not_to_end : (stop refused : Bool) (cs : List Asked) (s t : Session) (answers : List (List ℕ)) → Serves (to_end Answers stop Accepted) refused cs s answers t ReadFailed → ⊥
not_to_end stop refused cs s t answers p = no_read_fault (to_end Answers stop Accepted) ReadFailed accepted (λ e. cc) (λ e. cc) (λ e. cc) refused cs s t answers p
  where
    accepted : (r : Bool) → ReadFailed ≡ final Accepted r → ⊥
    accepted true e = cc
    accepted false e = cc

-- how the log ends where writing ended the session
ends_as : (calls : ℕ) (log more : List Event) (text : List ℕ) (status : Status) → ¬ (status ≡ ReadFailed) → has_failed log ≡ false → Wrote (is_write_fault status) text more → EndsAs calls (log ++ more) status
ends_as calls log more text status real g w = by status real w
  where
    all_went : AreTaken text more → has_failed (log ++ more) ≡ false
    all_went w = failed-append log more ∙ or_false (has_failed log) (has_failed more) g (writes_go_on more w.0)

    by : (status : Status) → ¬ (status ≡ ReadFailed) → Wrote (is_write_fault status) text more → EndsAs calls (log ++ more) status
    by ReadFailed = λ real w. absurd (real refl)
    by WriteFailed = λ real w. wrote_to_fault log more text w
    by Accepted = λ real w. all_went w
    by Refused = λ real w. all_went w
    by (NoMemory _) = λ real w. all_went w

module _ (stop : Bool) (start : Session) (calls n : ℕ) (log : List Event) (answers : List (List ℕ)) (t : Session) (feed : Fed) (r : Ready stop start n log answers t feed) where
  may_read : AreAnswered stop start answers log
  may_read = (answers, [], t, feed.refused, sym (append-nil answers), r.written, subst (λ cs. Answered stop false cs start answers t (Ok feed.refused)) (sym (before_end log r.no_end)) r.on.answered)

  -- ---- a read call that gave bytes, and what was written then

  module _ (bytes : List ℕ) (some : bytes ≢ []) (few : length bytes ≤ 4096) (more : List Event) (ys : List (List ℕ)) (failed : Bool) (w : Wrote failed (concat ys) more) where
    abbrev now : List Event
    now = (log ++ Gave bytes ∷ []) ++ more

    now_given : given now ≡ given log ++ bytes
    now_given =
        given-append (log ++ Gave bytes ∷ []) more ∙ ap (λ z. given (log ++ Gave bytes ∷ []) ++ z) (wrote_given failed (concat ys) more w) ∙ append-nil (given (log ++ Gave bytes ∷ []))
        ∙ given-append log (Gave bytes ∷ []) ∙ ap (λ z. given log ++ z) (append-nil bytes)

    now_taken : taken now ≡ concat (answers ++ ys)
    now_taken =
        taken-append (log ++ Gave bytes ∷ []) more ∙ ap (λ z. z ++ taken more) (taken-append log (Gave bytes ∷ []) ∙ append-nil (taken log) ∙ r.written)
        ∙ ap (λ z. concat answers ++ z) (wrote_taken failed (concat ys) more w) ∙ sym (concat-append answers ys)

    now_end : has_end now ≡ false
    now_end =
        end-append (log ++ Gave bytes ∷ []) more
        ∙ or_false (has_end (log ++ Gave bytes ∷ [])) (has_end more) (end-append log (Gave bytes ∷ []) ∙ or_false (has_end log) (has_end (Gave bytes ∷ [])) r.no_end (or_false (is_end (Gave bytes)) false (some_given bytes some) refl)) (wrote_end failed (concat ys) more w)

    read_goes_on : has_failed (log ++ Gave bytes ∷ []) ≡ false
    read_goes_on = failed-append log (Gave bytes ∷ []) ∙ or_false (has_failed log) false r.goes_on refl

    now_calls : read_calls now ≡ n + 1
    now_calls =
        let all = calls-append (log ++ Gave bytes ∷ []) more in
        let one = calls-append log (Gave bytes ∷ []) in
        let none = wrote_calls failed (concat ys) more w in
        let before = r.counted in
        omega (arith, all, one, none, before)

    now_orderly : IsOrderly 4096 (AreAnswered stop start (answers ++ ys)) now
    now_orderly =
        orderly-append 4096 (AreAnswered stop start (answers ++ ys)) [] (log ++ Gave bytes ∷ []) more
        (orderly_on stop start answers ys (log ++ Gave bytes ∷ []) (orderly_one 4096 (AreAnswered stop start answers) log (Gave bytes) r.orderly (record { goes_on = r.goes_on; may_be = (r.no_end, may_read, few) })))
        (wrote_fits 4096 (AreAnswered stop start (answers ++ ys)) (log ++ Gave bytes ∷ []) more failed (concat ys) read_goes_on w)

  pub answered_on : (bytes : List ℕ) → bytes ≢ [] → length bytes ≤ 4096 → (more : List Event) (ys : List (List ℕ)) → Wrote false (concat ys) more → (u : Session) (next : Fed) → GoesOn feed bytes t ys u next
      → Ready stop start (n + 1) ((log ++ Gave bytes ∷ []) ++ more) (answers ++ ys) u next
  answered_on bytes some few more ys w u next on = record {
    orderly = now_orderly bytes some few more ys false w;
    goes_on = failed-append (log ++ Gave bytes ∷ []) more ∙ or_false (has_failed (log ++ Gave bytes ∷ [])) (has_failed more) (read_goes_on bytes some few more ys false w) (writes_go_on more w.0);
    no_end = now_end bytes some few more ys false w;
    counted = now_calls bytes some few more ys false w;
    written = now_taken bytes some few more ys false w;
    on = subst (λ z. GoesOn (unfed stop) z start (answers ++ ys) u next) (sym (now_given bytes some few more ys false w)) (goes_further (unfed stop) feed next (given log) bytes start t u answers ys r.on on);
  }

  pub ran_into : n < calls → (bytes : List ℕ) → bytes ≢ [] → length bytes ≤ 4096 → (more : List Event) (ys : List (List ℕ)) (status : Status) → Wrote (is_write_fault status) (concat ys) more → (u : Session) → EndsWithin feed bytes t ys u status
      → Ran calls stop ((log ++ Gave bytes ∷ []) ++ more) start (answers ++ ys) u status
  ran_into below bytes some few more ys status w u within =
      let failed = is_write_fault status in
      let all = ends_further (unfed stop) feed (given log) bytes start t u answers ys status r.on within in
      let counted = now_calls bytes some few more ys failed w in
      record {
        orderly = now_orderly bytes some few more ys failed w;
        written = now_taken bytes some few more ys failed w;
        served =
            served_open stop (now bytes some few more ys failed w) start u (answers ++ ys) status (now_end bytes some few more ys failed w)
            (subst (λ cs. Serves (to_end Answers stop ReadFailed) false cs start (answers ++ ys) u status) (append-nil (whole_commands nothing_pending (given (now bytes some few more ys failed w))))
            (serves_ended stop (final ReadFailed) (λ st. st) false (whole_commands nothing_pending (given (now bytes some few more ys failed w))) [] start u (answers ++ ys) status
            (subst (λ z. EndsWithin (unfed stop) z start (answers ++ ys) u status) (sym (now_given bytes some few more ys failed w)) all)));
        ends =
            ends_as calls (log ++ Gave bytes ∷ []) more (concat ys) status (λ e. not_within feed.stop feed.refused (whole_commands feed.pending bytes) t u ys (subst (λ st. EndsWithin feed bytes t ys u st) e within))
            (read_goes_on bytes some few more ys failed w) w;
        few_calls = omega (arith, counted, below);
      }

  -- ---- the end

  pub ran_to_end : n < calls → (more : List Event) (ys : List (List ℕ)) (status : Status) → Wrote (is_write_fault status) (concat ys) more → (u : Session)
      → Serves (to_end Answers feed.stop Accepted) feed.refused (commands true feed.pending.body (raw_lines feed.pending.line)) t ys u status
      → Ran calls stop ((log ++ Gave [] ∷ []) ++ more) start (answers ++ ys) u status
  ran_to_end below more ys status w u run =
      let failed = is_write_fault status in
      let read = log ++ Gave [] ∷ [] in
      let goes_on : has_failed read ≡ false = failed-append log (Gave [] ∷ []) ∙ or_false (has_failed log) false r.goes_on refl in
      let same : given (read ++ more) ≡ given log = given-append read more ∙ ap (λ z. given read ++ z) (wrote_given failed (concat ys) more w) ∙ append-nil (given read) ∙ given-append log (Gave [] ∷ []) ∙ append-nil (given log) in
      let ended : has_end (read ++ more) ≡ true = end-append read more ∙ ap (λ v. v || has_end more) (end-append log (Gave [] ∷ []) ∙ ap (λ v. v || true) r.no_end) in
      let whole = whole_commands nothing_pending (given log) in
      let left = commands true feed.pending.body (raw_lines feed.pending.line) in
      let all : commands true None (raw_lines (given (read ++ more))) ≡ whole ++ left =
      ap (λ z. commands true None (raw_lines z)) (same ∙ sym (append-nil (given log))) ∙ r.on.leaves.behind true [] ∙ ap (λ l. whole ++ commands true feed.pending.body (raw_lines l)) (append-nil feed.pending.line) in
      let count = calls-append read more in
      let one = calls-append log (Gave [] ∷ []) in
      let none = wrote_calls failed (concat ys) more w in
      let before = r.counted in
      record {
        orderly =
            orderly-append 4096 (AreAnswered stop start (answers ++ ys)) [] read more
            (orderly_on stop start answers ys read (orderly_one 4096 (AreAnswered stop start answers) log (Gave []) r.orderly (record { goes_on = r.goes_on; may_be = (r.no_end, may_read, omega arith) })))
            (wrote_fits 4096 (AreAnswered stop start (answers ++ ys)) read more failed (concat ys) goes_on w);
        written =
            taken-append read more ∙ ap (λ z. z ++ taken more) (taken-append log (Gave [] ∷ []) ∙ append-nil (taken log) ∙ r.written)
            ∙ ap (λ z. concat answers ++ z) (wrote_taken failed (concat ys) more w) ∙ sym (concat-append answers ys);
        served =
            served_whole stop (read ++ more) start u (answers ++ ys) status ended
            (subst (λ cs. Serves (to_end Answers stop Accepted) false cs start (answers ++ ys) u status) (sym all)
            (serves_on stop (final Accepted) (λ st. st) false feed.refused whole left start t u answers ys status r.on.answered
            (subst (λ v. Serves (to_end Answers v Accepted) feed.refused left t ys u status) r.on.same run)));
        ends = ends_as calls read more (concat ys) status (λ e. not_to_end feed.stop feed.refused left t u ys (subst (λ st. Serves (to_end Answers feed.stop Accepted) feed.refused left t ys u st) e run)) goes_on w;
        few_calls = omega (arith, count, one, none, before, below);
      }

  -- ---- faults of reading

  served_so_far : (now : List Event) → given now ≡ given log → has_end now ≡ false → Serves (to_end Answers stop (status_behind now)) false (commands_read now) start answers t ReadFailed
  served_so_far now same no_end =
      served_open stop now start t answers ReadFailed no_end
      (subst (λ z. Serves (to_end Answers stop ReadFailed) false (whole_commands nothing_pending z) start answers t ReadFailed) (sym same)
      (serves_done stop (final ReadFailed) (λ st. st) false feed.refused (whole_commands nothing_pending (given log)) start t answers r.on.answered))

  pub ran_to_fault : n < calls → Ran calls stop (log ++ ReadFault ∷ []) start answers t ReadFailed
  ran_to_fault below =
      let count = calls-append log (ReadFault ∷ []) in
      let before = r.counted in
      record {
        orderly = orderly_one 4096 (AreAnswered stop start answers) log ReadFault r.orderly (record { goes_on = r.goes_on; may_be = (r.no_end, may_read) });
        written = taken-append log (ReadFault ∷ []) ∙ append-nil (taken log) ∙ r.written;
        served = served_so_far (log ++ ReadFault ∷ []) (given-append log (ReadFault ∷ []) ∙ append-nil (given log)) (end-append log (ReadFault ∷ []) ∙ or_false (has_end log) false r.no_end refl);
        ends = inl (log, refl);
        few_calls = omega (arith, count, before, below);
      }

  pub ran_out : n ≡ calls → Ran calls stop log start answers t ReadFailed
  ran_out all =
      let before = r.counted in
      record {
        orderly = r.orderly;
        written = r.written;
        served = served_so_far log refl r.no_end;
        ends = inr (r.goes_on, r.no_end, r.counted ∙ all);
        few_calls = omega (arith, before, all);
      }
