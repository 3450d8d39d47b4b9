-- What write calls leave.
use Rattle.std.proofs.Common.{◌≡◌, ◌≢◌, ◌⊎◌, ℕ, ◌+◌, Bool, true, false, List, [], ◌∷◌, ◌++◌, refl, sym, ap, ◌∙◌, subst, append-nil, append_assoc, inl, inr}
use Rattle.std.proofs.lemmas.List.Folds.{concat-append}
use Rattle.std.specs.List.{concat}
use Rattle.std.specs.Prelude.{Result, Ok, Err, is_err}
use Rattle.rdf_streams.specs.Devices.{EndsWith, Event, Gave, ReadFault, Took, WriteFault, given, taken, has_end, has_failed, read_calls}
use Rattle.rdf_streams.specs.Streams.{AreWrites, Writes, WritesOn, Wrote}
use Rattle.rdf_streams.specs.declared.streams.writing.WriteFault.{WriteFault as Refusal}
use Rattle.rdf_streams.proofs.DeviceLemmas.Logs.{Leads-append, Leads-one, calls-append, end-append, given-append, or_false, taken-append}

pub writes-append : (xs ys : List Event) → AreWrites xs → AreWrites ys → AreWrites (xs ++ ys)
writes-append [] ys p q = q
writes-append (Gave bs ∷ xs) ys p q = absurd p
writes-append (ReadFault ∷ xs) ys p q = absurd p
writes-append (Took [] ∷ xs) ys p q = absurd p
writes-append (Took (b ∷ bs) ∷ xs) ys p q = writes-append xs ys p q
writes-append (WriteFault ∷ xs) ys p q = absurd p

pub writes_given : (log : List Event) → AreWrites log → given log ≡ []
writes_given [] w = refl
writes_given (Gave bs ∷ log) w = absurd w
writes_given (ReadFault ∷ log) w = absurd w
writes_given (Took [] ∷ log) w = absurd w
writes_given (Took (b ∷ bs) ∷ log) w = writes_given log w
writes_given (WriteFault ∷ log) w = absurd w

pub writes_calls : (log : List Event) → AreWrites log → read_calls log ≡ 0
writes_calls [] w = refl
writes_calls (Gave bs ∷ log) w = absurd w
writes_calls (ReadFault ∷ log) w = absurd w
writes_calls (Took [] ∷ log) w = absurd w
writes_calls (Took (b ∷ bs) ∷ log) w = writes_calls log w
writes_calls (WriteFault ∷ log) w = absurd w

pub writes_end : (log : List Event) → AreWrites log → has_end log ≡ false
writes_end [] w = refl
writes_end (Gave bs ∷ log) w = absurd w
writes_end (ReadFault ∷ log) w = absurd w
writes_end (Took [] ∷ log) w = absurd w
writes_end (Took (b ∷ bs) ∷ log) w = writes_end log w
writes_end (WriteFault ∷ log) w = absurd w

pub writes_go_on : (log : List Event) → AreWrites log → has_failed log ≡ false
writes_go_on [] w = refl
writes_go_on (Gave bs ∷ log) w = absurd w
writes_go_on (ReadFault ∷ log) w = absurd w
writes_go_on (Took [] ∷ log) w = absurd w
writes_go_on (Took (b ∷ bs) ∷ log) w = writes_go_on log w
writes_go_on (WriteFault ∷ log) w = absurd w

-- ---- such calls, and then perhaps one that failed

failed_last : {A : Type 0} (f : List Event → A) (a : A) → f (WriteFault ∷ []) ≡ a → f (Took [] ∷ []) ≡ a → (last : Event) → ((last ≡ WriteFault) ⊎ (last ≡ Took [])) → f (last ∷ []) ≡ a
failed_last f a p q last how = elim how [ inl e ↦ ap (λ v. f (v ∷ [])) e ∙ p | inr e ↦ ap (λ v. f (v ∷ [])) e ∙ q ]

pub wrote_taken : (failed : Bool) (text : List ℕ) (log : List Event) → Wrote failed text log → taken log ≡ text
wrote_taken false text log w = w.1
wrote_taken true text log (done, last, is, how, (w, e)) =
    ap taken is ∙ taken-append done (last ∷ []) ∙ ap (λ t. taken done ++ t) (failed_last taken [] refl refl last how) ∙ append-nil (taken done) ∙ e

pub wrote_given : (failed : Bool) (text : List ℕ) (log : List Event) → Wrote failed text log → given log ≡ []
wrote_given false text log w = writes_given log w.0
wrote_given true text log (done, last, is, how, (w, e)) =
    ap given is ∙ given-append done (last ∷ []) ∙ ap (λ t. given done ++ t) (failed_last given [] refl refl last how) ∙ append-nil (given done) ∙ writes_given done w

pub wrote_calls : (failed : Bool) (text : List ℕ) (log : List Event) → Wrote failed text log → read_calls log ≡ 0
wrote_calls false text log w = writes_calls log w.0
wrote_calls true text log (done, last, is, how, (w, e)) =
    ap read_calls is ∙ calls-append done (last ∷ []) ∙ ap (λ n. read_calls done + n) (failed_last read_calls 0 refl refl last how) ∙ ap (λ n. n + 0) (writes_calls done w)

pub wrote_end : (failed : Bool) (text : List ℕ) (log : List Event) → Wrote failed text log → has_end log ≡ false
wrote_end false text log w = writes_end log w.0
wrote_end true text log (done, last, is, how, (w, e)) =
    ap has_end is ∙ end-append done (last ∷ []) ∙ or_false (has_end done) (has_end (last ∷ [])) (writes_end done w) (failed_last has_end false refl refl last how)

pub wrote_to_fault : (log more : List Event) (text : List ℕ) → Wrote true text more → EndsWith (log ++ more) WriteFault ⊎ EndsWith (log ++ more) (Took [])
wrote_to_fault log more text (done, last, is, how, (w, e)) =
    let whole : log ++ more ≡ (log ++ done) ++ last ∷ [] = ap (λ m. log ++ m) is ∙ sym (append_assoc log done (last ∷ [])) in
    elim how [
      | inl a ↦ inl (log ++ done, whole ∙ ap (λ l. (log ++ done) ++ l ∷ []) a)
      | inr b ↦ inr (log ++ done, whole ∙ ap (λ l. (log ++ done) ++ l ∷ []) b)
    ]

-- ---- a text

module _ {D : Type 0} (step : D → Event → D → Type 0) where
  pub writes_nothing : (d : D) → Writes step d false [] d
  writes_nothing d = ([], refl, (tt, refl))

  pub writes_on : (a b c : D) (failed : Bool) (xs ys : List ℕ) → Writes step a false xs b → Writes step b failed ys c → Writes step a failed (xs ++ ys) c
  writes_on a b c false xs ys (log, l, (w, e)) (more, m, (v, f)) =
      (log ++ more, Leads-append step a log b more c l m, (writes-append log more w v, taken-append log more ∙ ap (λ t. t ++ taken more) e ∙ ap (λ t. xs ++ t) f))
  writes_on a b c true xs ys (log, l, (w, e)) (more, m, (done, last, is, how, (v, f))) = (
    log ++ more,
    Leads-append step a log b more c l m,
    (
      log ++ done,
      last,
      ap (λ t. log ++ t) is ∙ sym (append_assoc log done (last ∷ [])),
      how,
      (writes-append log done w v, taken-append log done ∙ ap (λ t. t ++ taken done) e ∙ ap (λ t. xs ++ t) f),
    ),
  )

  -- one more call
  pub took_on : (a b c : D) (xs bs : List ℕ) → Writes step a false xs b → bs ≢ [] → step b (Took bs) c → Writes step a false (xs ++ bs) c
  took_on a b c xs [] w some s = absurd (some refl)
  took_on a b c xs (x ∷ bs) w some s = writes_on a b c false xs (x ∷ bs) w (Took (x ∷ bs) ∷ [], (c, s, refl), (tt, append-nil (x ∷ bs)))

  pub failed_on : (a b c : D) (xs : List ℕ) (last : Event) → Writes step a false xs b → step b last c → ((last ≡ WriteFault) ⊎ (last ≡ Took [])) → Writes step a true xs c
  failed_on a b c xs last (log, l, (w, e)) s how = (log ++ last ∷ [], Leads-one step a log b last c l s, (log, last, refl, how, (w, e)))

  -- ---- answers

  pub answers_on : (a b c : D) (failed : Bool) (xs ys : List (List ℕ)) → Writes step a false (concat xs) b → Writes step b failed (concat ys) c → Writes step a failed (concat (xs ++ ys)) c
  answers_on a b c failed xs ys w v = subst (λ t. Writes step a failed t c) (sym (concat-append xs ys)) (writes_on a b c failed (concat xs) (concat ys) w v)

  pub one_answer : (a b : D) (failed : Bool) (text : List ℕ) → Writes step a failed text b → Writes step a failed (concat (text ∷ [])) b
  one_answer a b failed text w = subst (λ t. Writes step a failed t b) (sym (append-nil text)) w

  pub untouched : (a b : D) → b ≡ a → Writes step a false [] b
  untouched a b e = subst (λ d. Writes step a false [] d) (sym e) (writes_nothing a)

  -- ---- how it went

  pub wrote_ok : (a b : D) (text : List ℕ) (r : Result (Unit {0}) Refusal) → is_err r ≡ false → WritesOn step a text r b → Writes step a false text b
  wrote_ok a b text (Ok u) e w = w
  wrote_ok a b text (Err f) e w = cc

  pub wrote_err : (a b : D) (text : List ℕ) (r : Result (Unit {0}) Refusal) → is_err r ≡ true → WritesOn step a text r b → (front more : List ℕ) × (text ≡ front ++ more) × (more ≢ []) × Writes step a true front b
  wrote_err a b text (Ok u) e w = cc
  wrote_err a b text (Err f) e w = w

  not_empty : (xs ys : List ℕ) → xs ≢ [] → xs ++ ys ≢ []
  not_empty [] ys h e = h refl
  not_empty (x ∷ xs) ys h e = cc

  -- a fault in the first of two texts
  pub first_fails : (a b : D) (xs ys : List ℕ) (e : Refusal) → WritesOn step a xs (Err e) b → WritesOn step a (xs ++ ys) (Err e) b
  first_fails a b xs ys e w = (w.0, w.1 ++ ys, ap (λ t. t ++ ys) w.2 ∙ append_assoc w.0 w.1 ys, not_empty w.1 ys w.3, w.4)

  -- the second of two texts
  pub then_writes : (a b c : D) (xs ys : List ℕ) (r : Result (Unit {0}) Refusal) → Writes step a false xs b → WritesOn step b ys r c → WritesOn step a (xs ++ ys) r c
  then_writes a b c xs ys (Ok u) w v = writes_on a b c false xs ys w v
  then_writes a b c xs ys (Err e) w v =
      (xs ++ v.0, v.1, ap (λ t. xs ++ t) v.2 ∙ sym (append_assoc xs v.0 v.1), v.3, writes_on a b c true xs v.0 w v.4)
