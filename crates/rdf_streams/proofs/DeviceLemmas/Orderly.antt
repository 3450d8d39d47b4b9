-- Logs whose calls come in order.
use Rattle.std.proofs.Common.{◌≡◌, ◌⊎◌, ℕ, ◌+◌, Bool, true, false, ◌||◌, List, [], ◌∷◌, ◌++◌, refl, sym, ap, ◌∙◌, subst, append-nil, append_assoc, arith, inl, inr}
use Rattle.rdf_streams.specs.Devices.{Event, Gave, IsOrderly, IsOrderlyBehind, MayBe, MayCome, ReadFault, Took, WriteFault, given, has_end, has_failed, is_failure, read_calls}
use Rattle.rdf_streams.specs.Streams.{AreWrites, Wrote}
use Rattle.rdf_streams.proofs.DeviceLemmas.Logs.{end-append, failed-append, or_false, true_false}
use Rattle.rdf_streams.proofs.DeviceLemmas.Written.{writes_go_on}

-- a call that may come for one reason may come for another that holds wherever that does
module _ (piece : ℕ) (May Might : List Event → Type 0) (weaker : (before : List Event) → May before → Might before) where
  may_be_for : (before : List Event) (e : Event) → MayBe piece May before e → MayBe piece Might before e
  may_be_for before (Gave bytes) m = (m.0, weaker before m.1, m.2)
  may_be_for before ReadFault m = (m.0, weaker before m.1)
  may_be_for before (Took bytes) m = tt
  may_be_for before WriteFault m = tt

  pub orderly_for : (before log : List Event) → IsOrderlyBehind piece May before log → IsOrderlyBehind piece Might before log
  orderly_for before [] o = tt
  orderly_for before (e ∷ log) o = (record { goes_on = o.0.goes_on; may_be = may_be_for before e o.0.may_be }, orderly_for (before ++ e ∷ []) log o.1)

module _ (piece : ℕ) (May : List Event → Type 0) where
  pub orderly-append : (before xs ys : List Event) → IsOrderlyBehind piece May before xs → IsOrderlyBehind piece May (before ++ xs) ys → IsOrderlyBehind piece May before (xs ++ ys)
  orderly-append before [] ys p q = subst (λ b. IsOrderlyBehind piece May b ys) (append-nil before) q
  orderly-append before (x ∷ xs) ys p q =
      (p.0, orderly-append (before ++ x ∷ []) xs ys p.1 (subst (λ b. IsOrderlyBehind piece May b ys) (sym (append_assoc before (x ∷ []) xs)) q))

  pub orderly_one : (log : List Event) (e : Event) → IsOrderly piece May log → MayCome piece May log e → IsOrderly piece May (log ++ e ∷ [])
  orderly_one log e p m = orderly-append [] log (e ∷ []) p (m, tt)

  took_goes_on : (log : List Event) (b : ℕ) (bytes : List ℕ) → has_failed log ≡ false → has_failed (log ++ Took (b ∷ bytes) ∷ []) ≡ false
  took_goes_on log b bytes g = failed-append log (Took (b ∷ bytes) ∷ []) ∙ or_false (has_failed log) false g refl

  -- write calls that took something come in order
  writes_fit : (log more : List Event) → has_failed log ≡ false → AreWrites more → IsOrderlyBehind piece May log more
  writes_fit log [] g w = tt
  writes_fit log (Gave bytes ∷ more) g w = absurd w
  writes_fit log (ReadFault ∷ more) g w = absurd w
  writes_fit log (Took [] ∷ more) g w = absurd w
  writes_fit log (Took (b ∷ bytes) ∷ more) g w =
      (record { goes_on = g; may_be = tt }, writes_fit (log ++ Took (b ∷ bytes) ∷ []) more (took_goes_on log b bytes g) w)
  writes_fit log (WriteFault ∷ more) g w = absurd w

  -- and behind them one that failed, or took nothing
  pub wrote_fits : (log more : List Event) (failed : Bool) (text : List ℕ) → has_failed log ≡ false → Wrote failed text more → IsOrderlyBehind piece May log more
  wrote_fits log more false text g w = writes_fit log more g w.0
  wrote_fits log more true text g (done, last, is, how, (w, e)) =
      subst (λ m. IsOrderlyBehind piece May log m) (sym is)
      (orderly-append log done (last ∷ []) (writes_fit log done g w)
      (come (failed-append log done ∙ or_false (has_failed log) (has_failed done) g (writes_go_on done w)) last how, tt))
    where
      come : has_failed (log ++ done) ≡ false → (last : Event) → ((last ≡ WriteFault) ⊎ (last ≡ Took [])) → MayCome piece May (log ++ done) last
      come g last how = elim how [
        | inl a ↦ subst (λ v. MayCome piece May (log ++ done) v) (sym a) (record { goes_on = g; may_be = tt })
        | inr b ↦ subst (λ v. MayCome piece May (log ++ done) v) (sym b) (record { goes_on = g; may_be = tt })
      ]

  -- ---- each call, wherever it stands in a log

  pub orderly_at : (before xs : List Event) (e : Event) (ys : List Event) → IsOrderlyBehind piece May before (xs ++ e ∷ ys)
      → MayCome piece May (before ++ xs) e × IsOrderlyBehind piece May ((before ++ xs) ++ e ∷ []) ys
  orderly_at before [] e ys p = subst (λ b. MayCome piece May b e × IsOrderlyBehind piece May (b ++ e ∷ []) ys) (sym (append-nil before)) p
  orderly_at before (x ∷ xs) e ys p =
      subst (λ b. MayCome piece May b e × IsOrderlyBehind piece May (b ++ e ∷ []) ys) (append_assoc before (x ∷ []) xs) (orderly_at (before ++ x ∷ []) xs e ys p.1)

  or_end : (a b : Bool) → a ≡ true → (a || b) ≡ true
  or_end true b h = refl
  or_end false b h = cc

  -- no read call comes behind the end
  none_behind : (before log : List Event) → has_end before ≡ true → IsOrderlyBehind piece May before log → read_calls log ≡ 0
  none_behind before [] h o = refl
  none_behind before (Gave bytes ∷ log) h o = absurd (true_false (sym h ∙ o.0.may_be.0))
  none_behind before (ReadFault ∷ log) h o = absurd (true_false (sym h ∙ o.0.may_be.0))
  none_behind before (Took bytes ∷ log) h o = none_behind (before ++ Took bytes ∷ []) log (end-append before (Took bytes ∷ []) ∙ or_end (has_end before) false h) o.1
  none_behind before (WriteFault ∷ log) h o = none_behind (before ++ WriteFault ∷ []) log (end-append before (WriteFault ∷ []) ∙ or_end (has_end before) false h) o.1

  or_last : (a b : Bool) → b ≡ true → (a || (b || false)) ≡ true
  or_last true b h = refl
  or_last false b h = ap (λ v. v || false) h

  pub none_behind_end : (before after : List Event) → IsOrderly piece May (before ++ Gave [] ∷ after) → read_calls after ≡ 0
  none_behind_end before after o =
      none_behind (before ++ Gave [] ∷ []) after (end-append before (Gave [] ∷ []) ∙ or_last (has_end before) true refl) (orderly_at [] before (Gave []) after o).1

  pub failures_in_order : (before : List Event) (e : Event) (after : List Event) → IsOrderly piece May (before ++ e ∷ after) → is_failure e ≡ true → after ≡ []
  failures_in_order before e [] o h = refl
  failures_in_order before e (y ∷ ys) o h =
      absurd (true_false (sym (or_last (has_failed before) (is_failure e) h) ∙ sym (failed-append before (e ∷ [])) ∙ (orderly_at [] before e (y ∷ ys) o).1.0.goes_on))

-- where the end was read
pub ended_at : (log : List Event) → has_end log ≡ true → (before after : List Event) × (log ≡ before ++ Gave [] ∷ after)
ended_at [] h = absurd (true_false (sym h))
ended_at (Gave [] ∷ log) h = ([], log, refl)
ended_at (Gave (b ∷ bytes) ∷ log) h = let r = ended_at log h in (Gave (b ∷ bytes) ∷ r.0, r.1, ap (λ l. Gave (b ∷ bytes) ∷ l) r.2)
ended_at (ReadFault ∷ log) h = let r = ended_at log h in (ReadFault ∷ r.0, r.1, ap (λ l. ReadFault ∷ l) r.2)
ended_at (Took bytes ∷ log) h = let r = ended_at log h in (Took bytes ∷ r.0, r.1, ap (λ l. Took bytes ∷ l) r.2)
ended_at (WriteFault ∷ log) h = let r = ended_at log h in (WriteFault ∷ r.0, r.1, ap (λ l. WriteFault ∷ l) r.2)

no_call : (n : ℕ) → n + 1 ≡ 0 → ⊥
no_call n e = omega (arith, e)

pub nothing_given : (log : List Event) → read_calls log ≡ 0 → given log ≡ []
nothing_given [] none = refl
nothing_given (Gave bytes ∷ log) none = absurd (no_call (read_calls log) none)
nothing_given (ReadFault ∷ log) none = absurd (no_call (read_calls log) none)
nothing_given (Took bytes ∷ log) none = nothing_given log none
nothing_given (WriteFault ∷ log) none = nothing_given log none

pub no_end_in : (log : List Event) → read_calls log ≡ 0 → has_end log ≡ false
no_end_in [] none = refl
no_end_in (Gave bytes ∷ log) none = absurd (no_call (read_calls log) none)
no_end_in (ReadFault ∷ log) none = absurd (no_call (read_calls log) none)
no_end_in (Took bytes ∷ log) none = no_end_in log none
no_end_in (WriteFault ∷ log) none = no_end_in log none
