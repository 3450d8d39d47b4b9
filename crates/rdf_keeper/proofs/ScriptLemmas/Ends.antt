-- The status of a session tells how it ended.
use Rattle.std.proofs.Common.{◌≡◌, ◌∙◌, ap, refl, sym, subst, ℕ, Bool, true, false, cond, ◌||◌, List, [], ◌∷◌, ◌++◌, inl, inr, true≢false}
use Rattle.rdf_session.specs.Session.{Session}
use Rattle.rdf_streams.specs.Devices.{EndsWith, Event, ReadFault, Took, WriteFault, has_end, has_failed, is_failure}
use Rattle.rdf_keeper.specs.Script.Answers.{Answers}
use Rattle.rdf_keeper.specs.Script.Commands.{Asked}
use Rattle.rdf_keeper.specs.Script.EndLaws.{fault_of, AcceptedToTheEnd, FaultsAreTold, ReadFaultsCame, RefusedWithoutFaults, WriteFaultsCame}
use Rattle.rdf_keeper.specs.Script.Orders.{AreAnswered, EndsAs, Ran, commands_read, status_behind}
use Rattle.rdf_keeper.specs.Script.Runs.{Serves, final, to_end}
use Rattle.rdf_keeper.specs.declared.script.status.Status.{Status}
use Rattle.rdf_keeper.specs.declared.script.status.Status.TheVariants.{Accepted, NoMemory, ReadFailed, Refused, WriteFailed}
use Rattle.rdf_streams.proofs.DeviceLemmas.Logs.{failed-append}
use Rattle.rdf_streams.proofs.DeviceLemmas.Orderly.{failures_in_order}
use Rattle.rdf_keeper.proofs.ScriptLemmas.Ordered.{no_read_fault}

-- ---- the last call

not_nil : (xs : List Event) (e : Event) → xs ++ e ∷ [] ≡ [] → ⊥
not_nil [] e h = cc h
not_nil (x ∷ xs) e h = cc h

tails : (x y : Event) (xs ys : List Event) → x ∷ xs ≡ y ∷ ys → xs ≡ ys
tails x y xs ys h = cc h

heads : (x y : Event) (xs ys : List Event) → x ∷ xs ≡ y ∷ ys → x ≡ y
heads x y xs ys h = cc h

one_last : (xs ys : List Event) (e f : Event) → xs ++ e ∷ [] ≡ ys ++ f ∷ [] → e ≡ f
one_last [] [] e f h = heads e f [] [] h
one_last [] (y ∷ ys) e f h = absurd (not_nil ys f (sym (tails e y [] (ys ++ f ∷ []) h)))
one_last (x ∷ xs) [] e f h = absurd (not_nil xs e (tails x f (xs ++ e ∷ []) [] h))
one_last (x ∷ xs) (y ∷ ys) e f h = one_last xs ys e f (tails x y (xs ++ e ∷ []) (ys ++ f ∷ []) h)

or_last : (a b : Bool) → b ≡ true → (a || b) ≡ true
or_last true b h = refl
or_last false b h = h

has_one : (before : List Event) (e : Event) (after : List Event) → is_failure e ≡ true → has_failed (before ++ e ∷ after) ≡ true
has_one before e after h = failed-append before (e ∷ after) ∙ or_last (has_failed before) (has_failed (e ∷ after)) (ap (λ (b : Bool). b || has_failed after) h)

-- ---- faults

last_told : (before : List Event) (e f : Event) → EndsWith (before ++ e ∷ []) f → e ≡ f
last_told before e f h = one_last before h.0 e f h.1

fault_is : (calls : ℕ) (before : List Event) (e : Event) (status : Status) → is_failure e ≡ true → EndsAs calls (before ++ e ∷ []) status → status ≡ fault_of e
fault_is calls before e ReadFailed h (inl at) = sym (ap fault_of (last_told before e ReadFault at))
fault_is calls before e ReadFailed h (inr none) = absurd (true≢false (sym (has_one before e [] h) ∙ none.0))
fault_is calls before e WriteFailed h (inl at) = sym (ap fault_of (last_told before e WriteFault at))
fault_is calls before e WriteFailed h (inr at) = sym (ap fault_of (last_told before e (Took []) at))
fault_is calls before e Accepted h none = absurd (true≢false (sym (has_one before e [] h) ∙ none))
fault_is calls before e Refused h none = absurd (true≢false (sym (has_one before e [] h) ∙ none))
fault_is calls before e (NoMemory refused) h none = absurd (true≢false (sym (has_one before e [] h) ∙ none))

pub faults_are_told : FaultsAreTold
faults_are_told calls stop old new answers status before e after ran h =
    let last : after ≡ [] = failures_in_order 4096 (AreAnswered stop old answers) before e after ran.orderly h in
    (last, fault_is calls before e status h (subst (λ (z : List Event). EndsAs calls (before ++ e ∷ z) status) last ran.ends))

pub write_faults_came : WriteFaultsCame
write_faults_came calls stop log old new answers ran = elim (ran.ends) [ inl at ↦ (WriteFault, at, refl, refl) | inr at ↦ (Took [], at, refl, refl) ]

pub read_faults_came : ReadFaultsCame
read_faults_came calls stop log old new answers ran = ran.ends

-- ---- the end

not_accepted : (stop refused : Bool) (cs : List Asked) (s t : Session) (answers : List (List ℕ)) → Serves (to_end Answers stop ReadFailed) refused cs s answers t Accepted → ⊥
not_accepted stop refused cs s t answers p = no_read_fault (to_end Answers stop ReadFailed) Accepted behind (λ e. cc e) (λ e. cc e) (λ e. cc e) refused cs s t answers p
  where
    behind : (r : Bool) → Accepted ≡ final ReadFailed r → ⊥
    behind true e = cc e
    behind false e = cc e

to_the_end : (stop : Bool) (log : List Event) (cs : List Asked) (s t : Session) (answers : List (List ℕ)) → Serves (to_end Answers stop (status_behind log)) false cs s answers t Accepted → has_end log ≡ true
to_the_end stop log cs s t answers p = by (has_end log) refl
  where
    by : (b : Bool) → has_end log ≡ b → has_end log ≡ true
    by true e = e
    by false e = absurd (not_accepted stop false cs s t answers (subst (λ (v : Bool). Serves (to_end Answers stop (cond v Accepted ReadFailed)) false cs s answers t Accepted) e p))

pub accepted_to_the_end : AcceptedToTheEnd
accepted_to_the_end calls stop log old new answers ran = (to_the_end stop log (commands_read log) old new answers ran.served, ran.ends)

pub refused_without_faults : RefusedWithoutFaults
refused_without_faults calls stop log old new answers ran = ran.ends
