-- What a session over a device says of the bytes of a reader.
use Rattle.std.proofs.Common.{◌≡◌, ◌⊎◌, ◌≤◌, ℕ, Bool, true, false, cond, List, [], ◌∷◌, ◌++◌, length, None, refl, sym, ap, ◌∙◌, subst, append-nil, arith, inl, inr}
use Rattle.std.specs.Prelude.{Ok, Option}
use Rattle.std.specs.Io.KnownBytes.{Consumes, IsAtEnd}
use Rattle.rdf_session.specs.Session.{Session}
use Rattle.rdf_streams.specs.Devices.{Event, Gave, IsOrderly, MayCome, ReadFault, Took, WriteFault, Leads, given, has_end, read_calls}
use Rattle.rdf_keeper.specs.Script.Answers.{Answers}
use Rattle.rdf_keeper.specs.Script.Commands.{commands}
use Rattle.rdf_keeper.specs.Script.Lines.{raw_lines, upto_last_end}
use Rattle.rdf_keeper.specs.Script.Orders.{AreAnswered, Ran}
use Rattle.rdf_keeper.specs.Script.Runs.{Answered, RunsOver, Serves, to_end}
use Rattle.rdf_keeper.specs.declared.script.status.Status.{Status}
use Rattle.rdf_keeper.specs.declared.script.status.Status.TheVariants.{Accepted, ReadFailed}
use Rattle.rdf_streams.specs.declared.streams.device.Lent.{Lent}
use Rattle.rdf_streams.proofs.DeviceLemmas.Logs.{given-append, true_or_false}
use Rattle.rdf_streams.proofs.DeviceLemmas.Orderly.{ended_at, none_behind_end, nothing_given, orderly_at}
use Rattle.rdf_streams.proofs.DeviceLemmas.Pairs.{LentStep, lent_end}
use Rattle.rdf_keeper.proofs.ScriptLemmas.Ordered.{before_end}

pub reader_at_end : {R W : Type 0} (remaining : R → Option (List ℕ)) (contents : W → Option (List ℕ)) (calls : ℕ) (stop : Bool) (s : Lent R W) (log : List Event) (old : Session) (answers : List (List ℕ)) (new : Session) (status : Status) (t : Lent R W)
    → Leads (LentStep remaining contents) s log t → Ran calls stop log old answers new status → has_end log ≡ true → IsAtEnd (remaining t.reader.now)
reader_at_end remaining contents calls stop s log old answers new status t l r h =
    let at = ended_at log h in
    lent_end remaining contents s at.0 at.1 t (subst (λ m. Leads (LentStep remaining contents) s m t) at.2 l)
    (none_behind_end 4096 (AreAnswered stop old answers) at.0 at.1 (subst (IsOrderly 4096 (AreAnswered stop old answers)) at.2 r.orderly))

-- ---- the last read call

-- a read call with these bytes
abbrev IsReadOf : Event → List ℕ → Type 0
IsReadOf e bytes = (e ≡ Gave bytes) ⊎ ((e ≡ ReadFault) × (bytes ≡ []))

abbrev LastRead : List Event → Type 0
LastRead log = (before : List Event) × (e : Event) × (after : List Event) × (bytes : List ℕ) × (log ≡ before ++ e ∷ after) × (read_calls after ≡ 0) × IsReadOf e bytes

last_read : (log : List Event) → (read_calls log ≡ 0) ⊎ LastRead log
last_read [] = inl refl
last_read (Gave bytes ∷ log) = elim (last_read log) [
  | inl none ↦ inr ([], Gave bytes, log, bytes, refl, none, inl refl)
  | inr r ↦ inr (Gave bytes ∷ r.0, r.1, r.2, r.3, ap (λ l. Gave bytes ∷ l) r.4, r.5, r.6)
]
last_read (ReadFault ∷ log) = elim (last_read log) [
  | inl none ↦ inr ([], ReadFault, log, [], refl, none, inr (refl, refl))
  | inr r ↦ inr (ReadFault ∷ r.0, r.1, r.2, r.3, ap (λ l. ReadFault ∷ l) r.4, r.5, r.6)
]
last_read (Took bytes ∷ log) = elim (last_read log) [
  | inl none ↦ inl none
  | inr r ↦ inr (Took bytes ∷ r.0, r.1, r.2, r.3, ap (λ l. Took bytes ∷ l) r.4, r.5, r.6)
]
last_read (WriteFault ∷ log) = elim (last_read log) [
  | inl none ↦ inl none
  | inr r ↦ inr (WriteFault ∷ r.0, r.1, r.2, r.3, ap (λ l. WriteFault ∷ l) r.4, r.5, r.6)
]

given_of : (e : Event) (bytes : List ℕ) → IsReadOf e bytes → given (e ∷ []) ≡ bytes
given_of e bytes is = elim is [ inl g ↦ ap (λ v. given (v ∷ [])) g ∙ append-nil bytes | inr f ↦ ap (λ v. given (v ∷ [])) f.0 ∙ sym f.1 ]

module _ (calls : ℕ) (stop : Bool) (log : List Event) (old new : Session) (answers : List (List ℕ)) (status : Status) (r : Ran calls stop log old answers new status) where
  read_came : (before : List Event) (e : Event) (bytes : List ℕ) → IsReadOf e bytes → MayCome 4096 (AreAnswered stop old answers) before e → (length bytes ≤ 4096) × (has_end before ≡ false) × AreAnswered stop old answers before
  read_came before e bytes is m = elim is [
    | inl g ↦ (let n : MayCome 4096 (AreAnswered stop old answers) before (Gave bytes) = subst (MayCome 4096 (AreAnswered stop old answers) before) g m in (n.may_be.2, n.may_be.0, n.may_be.1))
    | inr f ↦ (let n : MayCome 4096 (AreAnswered stop old answers) before ReadFault = subst (MayCome 4096 (AreAnswered stop old answers) before) f.0 m in (subst (λ b. length b ≤ 4096) (sym f.1) (omega arith), n.may_be.0, n.may_be.1))
  ]

  -- by the bytes that all read calls but the last gave, and those that this gave
  abbrev Ends : Option (List ℕ) → List ℕ → Type 0
  Ends after read =
      (IsAtEnd after × Serves (to_end Answers stop Accepted) false (commands true None (raw_lines read)) old answers new status)
      ⊎ Serves (to_end Answers stop ReadFailed) false (commands false None (raw_lines (upto_last_end read))) old answers new status

  ends_over : (after : Option (List ℕ)) → (has_end log ≡ true → IsAtEnd after) → Ends after (given log)
  ends_over after end = elim (true_or_false (has_end log)) [
    | inl h ↦ inl (end h, subst (λ v. Serves (to_end Answers stop (cond v Accepted ReadFailed)) false (cond v (commands true None (raw_lines (given log))) (commands false None (raw_lines (upto_last_end (given log))))) old answers new status) h r.served)
    | inr h ↦ inr (subst (λ v. Serves (to_end Answers stop (cond v Accepted ReadFailed)) false (cond v (commands true None (raw_lines (given log))) (commands false None (raw_lines (upto_last_end (given log))))) old answers new status) h r.served)
  ]

pub runs_over : (calls : ℕ) (stop : Bool) (log : List Event) (old new : Session) (answers : List (List ℕ)) (status : Status) (before after : Option (List ℕ)) → Ran calls stop log old answers new status → Consumes before after (given log)
    → (has_end log ≡ true → IsAtEnd after) → RunsOver stop before after old answers new status
runs_over calls stop log old new answers status before after r consumed end = elim (last_read log) [
  | inl none ↦
      let nothing = nothing_given log none in
      record {
        read = [];
        last = [];
        consumed = subst (Consumes before after) nothing consumed;
        one_piece = omega arith;
        at_once = ([], answers, old, false, refl, (refl, refl, inl refl));
        ends = subst (Ends calls stop log old new answers status r after) nothing (ends_over calls stop log old new answers status r after end);
      }
  | inr (xs, e, ys, bytes, is, none, read) ↦
      let came = read_came calls stop log old new answers status r xs e bytes read (orderly_at 4096 (AreAnswered stop old answers) [] xs e ys (subst (IsOrderly 4096 (AreAnswered stop old answers)) is r.orderly)).0 in
      let may = came.2 in
      let parts : given log ≡ given xs ++ bytes =
      ap given is ∙ given-append xs (e ∷ ys) ∙ ap (λ t. given xs ++ t) (given-append (e ∷ []) ys ∙ ap (λ t. given (e ∷ []) ++ t) (nothing_given ys none) ∙ append-nil (given (e ∷ [])) ∙ given_of e bytes read) in
      record {
        read = given xs;
        last = bytes;
        consumed = subst (Consumes before after) parts consumed;
        one_piece = came.0;
        at_once = (may.0, may.1, may.2, may.3, may.4, subst (λ cs. Answered stop false cs old may.0 may.2 (Ok may.3)) (before_end xs came.1) may.6);
        ends = subst (Ends calls stop log old new answers status r after) parts (ends_over calls stop log old new answers status r after end);
      }
]
