-- Each call of a session, wherever it stands in its log.
use Rattle.std.proofs.Common.{◌≡◌, ◌⊎◌, ◌≤◌, ℕ, Bool, true, false, cond, ◌||◌, List, [], ◌∷◌, ◌++◌, length, None, refl, sym, ap, ◌∙◌, subst, append-nil, append_assoc, arith, inl, inr}
use Rattle.std.specs.List.{concat}
use Rattle.std.specs.Prelude.{Ok}
use Rattle.rdf_session.specs.Session.{Session}
use Rattle.rdf_streams.specs.Devices.{Event, Gave, IsOrderly, MayCome, ReadFault, Took, WriteFault, given, has_end, read_calls, taken}
use Rattle.rdf_keeper.specs.Script.Commands.{Asked, commands}
use Rattle.rdf_keeper.specs.Script.Lines.{raw_lines, upto_last_end}
use Rattle.rdf_keeper.specs.Script.OrderLaws.{FailedReadsComeBehindAnswers, NothingComesBehindAFailure, NothingIsReadBehindARefusal, NothingIsReadBehindTheEnd, ReadsComeBehindAnswers, WritesAreAnswers}
use Rattle.rdf_keeper.specs.Script.Orders.{AreAnswered, commands_read, status_behind}
use Rattle.rdf_keeper.specs.Script.Runs.{Answered, Course, Serves, so_far, to_end}
use Rattle.rdf_streams.proofs.DeviceLemmas.Logs.{end-append, given-append, taken-append}
use Rattle.rdf_streams.proofs.DeviceLemmas.Orderly.{failures_in_order, no_end_in, none_behind_end, nothing_given, orderly_at}

pub reads_in_order : ReadsComeBehindAnswers
reads_in_order stop start answers before bytes after o = (let m = (orderly_at 4096 (AreAnswered stop start answers) [] before (Gave bytes) after o).0.may_be in (m.1, m.2))

pub failed_reads_in_order : FailedReadsComeBehindAnswers
failed_reads_in_order stop start answers before after o = (orderly_at 4096 (AreAnswered stop start answers) [] before ReadFault after o).0.may_be.1

pub ends_in_order : NothingIsReadBehindTheEnd
ends_in_order stop start answers before after o = none_behind_end 4096 (AreAnswered stop start answers) before after o

pub failures_come_last : NothingComesBehindAFailure
failures_come_last stop start answers before e after o h = failures_in_order 4096 (AreAnswered stop start answers) before e after o h

-- ---- where the first refusal ends a session

none_refused : (refused q : Bool) (cs : List Asked) (s t : Session) (answers : List (List ℕ)) → Answered true refused cs s answers t (Ok q) → q ≡ refused
none_refused refused q [] s t answers a = elim (a.2) [ inl e ↦ cc | inr e ↦ cc ]
none_refused refused q (c ∷ cs) s t answers a = elim a [
  | inl n ↦ (let e = n.2 in cc)
  | inr p ↦ elim (p.4) [
    | inl b ↦ (let e = b.6 in cc)
    | inr (inl h) ↦ (let e = h.3 in cc)
    | inr (inr m) ↦ none_refused (refused || p.1) q cs p.2 t m.1 m.3 ∙ kept refused p.1 m.0
  ]
]
  where
    kept : (refused r : Bool) → r ≡ false → (refused || r) ≡ refused
    kept true r e = refl
    kept false r e = e

pub refusals_in_order : NothingIsReadBehindARefusal
refusals_in_order start answers before (first, others, mid, refused, parts, wrote, served) =
    (first, mid, wrote, subst (λ q. Answered true false (commands_read before) start first mid (Ok q)) (none_refused false refused (commands_read before) start mid first served) served)

-- ---- writes

-- no more answers than commands
few_answers : {O : Type 0} (c : Course O) (refused : Bool) (cs : List Asked) (s t : Session) (answers : List (List ℕ)) (o : O) → Serves c refused cs s answers t o → length answers ≤ length cs
few_answers c refused [] s t answers o a = let e = ap length a.0 in omega (arith, e)
few_answers c refused (asked ∷ cs) s t answers o a = elim a [
  | inl n ↦ (let e = ap length n.0 in omega (arith, e))
  | inr p ↦ elim (p.4) [
    | inl b ↦ (let e = ap length b.4 in omega (arith, e))
    | inr (inl h) ↦ (let e = ap length h.1 in omega (arith, e))
    | inr (inr m) ↦
        let e = ap length m.2 in
        let few = few_answers c (refused || p.1) cs p.2 t m.1 o m.3 in
        omega (arith, e, few)
  ]
]

-- the first read call behind others
abbrev FirstRead : List Event → Type 0
FirstRead log = (before : List Event) × (e : Event) × (after : List Event) × (log ≡ before ++ e ∷ after) × (read_calls before ≡ 0) × ((e ≡ ReadFault) ⊎ ((bytes : List ℕ) × (e ≡ Gave bytes)))

first_read : (log : List Event) → (read_calls log ≡ 0) ⊎ FirstRead log
first_read [] = inl refl
first_read (Gave bytes ∷ log) = inr ([], Gave bytes, log, refl, refl, inr (bytes, refl))
first_read (ReadFault ∷ log) = inr ([], ReadFault, log, refl, refl, inl refl)
first_read (Took bytes ∷ log) = elim (first_read log) [ inl none ↦ inl none | inr r ↦ inr (Took bytes ∷ r.0, r.1, r.2, ap (λ l. Took bytes ∷ l) r.3, r.4, r.5) ]
first_read (WriteFault ∷ log) = elim (first_read log) [ inl none ↦ inl none | inr r ↦ inr (WriteFault ∷ r.0, r.1, r.2, ap (λ l. WriteFault ∷ l) r.3, r.4, r.5) ]

or_right : (a b : Bool) → b ≡ false → (a || b) ≡ a
or_right true b h = refl
or_right false b h = h

-- write calls make no command
same_commands : (before log : List Event) → read_calls log ≡ 0 → commands_read (before ++ log) ≡ commands_read before
same_commands before log none =
    ap (λ v. cond v (commands true None (raw_lines (given (before ++ log)))) (commands false None (raw_lines (upto_last_end (given (before ++ log)))))) (end-append before log ∙ or_right (has_end before) (has_end log) (no_end_in log none))
    ∙ ap (λ t. cond (has_end before) (commands true None (raw_lines t)) (commands false None (raw_lines (upto_last_end t)))) (given-append before log ∙ ap (λ t. given before ++ t) (nothing_given log none) ∙ append-nil (given before))

module _ (stop : Bool) (start : Session) (answers : List (List ℕ)) where
  abbrev AsFar : List Event → List ℕ → Type 0
  AsFar before bytes = (first others : List (List ℕ)) × (rest : List ℕ) × (answers ≡ first ++ others) × (length first ≤ length (commands_read before)) × (concat first ≡ (taken before ++ bytes) ++ rest)

  written_then : (before : List Event) (bytes : List ℕ) (log : List Event) → taken (before ++ Took bytes ∷ log) ≡ (taken before ++ bytes) ++ taken log
  written_then before bytes log = taken-append before (Took bytes ∷ log) ∙ sym (append_assoc (taken before) bytes (taken log))

  at_read : (before : List Event) (bytes : List ℕ) (log : List Event) → read_calls log ≡ 0 → AreAnswered stop start answers (before ++ Took bytes ∷ log) → AsFar before bytes
  at_read before bytes log none (first, others, mid, refused, parts, wrote, served) = (
    first,
    others,
    taken log,
    parts,
    subst (λ cs. length first ≤ length cs) (same_commands before (Took bytes ∷ log) none) (few_answers (so_far stop) false (commands_read (before ++ Took bytes ∷ log)) start mid first (Ok refused) served),
    sym wrote ∙ written_then before bytes log,
  )

  may_read : (before : List Event) (e : Event) → ((e ≡ ReadFault) ⊎ ((bytes : List ℕ) × (e ≡ Gave bytes))) → MayCome 4096 (AreAnswered stop start answers) before e → AreAnswered stop start answers before
  may_read before e is m = elim is [
    | inl f ↦ (let n : MayCome 4096 (AreAnswered stop start answers) before ReadFault = subst (MayCome 4096 (AreAnswered stop start answers) before) f m in n.may_be.1)
    | inr (bytes, g) ↦ (let n : MayCome 4096 (AreAnswered stop start answers) before (Gave bytes) = subst (MayCome 4096 (AreAnswered stop start answers) before) g m in n.may_be.1)
  ]

pub writes_in_order : WritesAreAnswers
writes_in_order calls stop start new answers status before bytes after r = elim (first_read after) [
  | inl none ↦ (
    answers,
    [],
    taken after,
    sym (append-nil answers),
    subst (λ cs. length answers ≤ length cs) (same_commands before (Took bytes ∷ after) none)
        (few_answers (to_end _ stop (status_behind (before ++ Took bytes ∷ after))) false (commands_read (before ++ Took bytes ∷ after)) start new answers status r.served),
    sym r.written ∙ written_then stop start answers before bytes after,
  )
  | inr (log, e, others, is, none, read) ↦
      let whole : before ++ Took bytes ∷ after ≡ (before ++ Took bytes ∷ log) ++ e ∷ others =
      ap (λ l. before ++ Took bytes ∷ l) is ∙ sym (append_assoc before (Took bytes ∷ log) (e ∷ others)) in
      at_read stop start answers before bytes log none
      (may_read stop start answers (before ++ Took bytes ∷ log) e read (orderly_at 4096 (AreAnswered stop start answers) [] (before ++ Took bytes ∷ log) e others (subst (IsOrderly 4096 (AreAnswered stop start answers)) whole r.orderly)).0)
]
