-- The steps of a session over its commands.
use Rattle.std.proofs.Common.{◌≡◌, ◌≢◌, inl, inr, ℕ, Bool, true, false, ◌&&◌, ◌||◌, List, [], ◌∷◌, ◌++◌, refl, sym, ap, subst, append-nil}
use Rattle.std.specs.Prelude.{Result, Ok, Err}
use Rattle.rdf_session.specs.Session.{Session}
use Rattle.rdf_keeper.specs.Script.Commands.{Asked}
use Rattle.rdf_keeper.specs.Script.Answers.{Answers}
use Rattle.rdf_keeper.specs.Script.Runs.{Answered, Course, Serves, final, so_far}
use Rattle.rdf_keeper.specs.Inside.WriteFaults.{is_write_fault}
use Rattle.rdf_keeper.specs.declared.script.status.Status.{Status}
use Rattle.rdf_keeper.specs.declared.script.status.Status.TheVariants.{Accepted, Refused, WriteFailed}
use Rattle.rdf_keeper.specs.Script.Statuses.{no_memory}

-- ---- one command

module _ (stop refused : Bool) (c : Asked) (s mid : Session) (text : List ℕ) (r : Bool) (a : Answers c s text r mid) where
  pub breaks_off : (front more : List ℕ) → text ≡ front ++ more → more ≢ [] → Answered stop refused (c ∷ []) s (front ∷ []) mid (Err WriteFailed)
  breaks_off front more p n = inr (text, r, mid, a, inl (front, more, p, n, refl, refl, refl))

  pub stops : (stop && r) ≡ true → Answered stop refused (c ∷ []) s (text ∷ []) mid (Err Refused)
  stops h = inr (text, r, mid, a, inr (inl (h, refl, refl, refl)))

  pub goes_on : (r' : Bool) → (stop && r) ≡ false → r' ≡ (refused || r) → Answered stop refused (c ∷ []) s (text ∷ []) mid (Ok r')
  goes_on r' h e = inr (text, r, mid, a, inr (inr (h, [], refl, (refl, refl, inl (ap (λ v. Ok v) e)))))

-- ---- some commands, and more of them

not_taken : {O : Type 0} (c : Course O) (refused : Bool) (cs : List Asked) (s : Session) → Serves c refused cs s [] s (c.ended no_memory)
not_taken c refused [] s = (refl, refl, inr refl)
not_taken c refused (asked ∷ cs) s = inl (refl, refl, refl)

pub no_room : (stop refused : Bool) (cs : List Asked) (s : Session) → Answered stop refused cs s [] s (Err no_memory)
no_room stop refused cs s = not_taken (so_far stop) refused cs s

err_same : (x y : Status) → ◌≡◌ {A = Result Bool Status} (Err x) (Err y) → x ≡ y
err_same x y e = cc

module _ {O : Type 0} (stop : Bool) (next : Bool → O) (ended : Status → O) where
  abbrev course : Course O
  course = record { May = Answers; stop = stop; behind = next; ended = ended }

  -- where the session goes on
  pub serves_on : (refused q : Bool) (cs more : List Asked) (s t u : Session) (xs ys : List (List ℕ)) (o : O) → Answered stop refused cs s xs t (Ok q) → Serves course q more t ys u o → Serves course refused (cs ++ more) s (xs ++ ys) u o
  serves_on refused q [] more s t u xs ys o a b =
      elim (a.2) [
        | inl e ↦ first_none xs ys s t u o q refused more a.0 a.1 (ok_same q refused e) b
        | inr e ↦ cc
      ]
    where
      ok_same : (x y : Bool) → ◌≡◌ {A = Result Bool Status} (Ok x) (Ok y) → x ≡ y
      ok_same x y e = cc

      first_none : (xs ys : List (List ℕ)) (s t u : Session) (o : O) (q refused : Bool) (more : List Asked) → xs ≡ [] → t ≡ s → q ≡ refused → Serves course q more t ys u o → Serves course refused more s (xs ++ ys) u o
      first_none xs ys s t u o q refused more e f g b =
          subst (λ zs. Serves course refused more s (zs ++ ys) u o) (sym e)
          (subst (λ v. Serves course refused more v ys u o) f (subst (λ v. Serves course v more t ys u o) g b))
  serves_on refused q (c ∷ cs) more s t u xs ys o a b =
      elim a [
        | inl p ↦ absurd_ok q (p.2)
        | inr p ↦ elim (p.4) [
          | inl x ↦ absurd_ok q (x.6)
          | inr (inl x) ↦ absurd_ok q (x.3)
          | inr (inr x) ↦
              inr (p.0, p.1, p.2, p.3, inr (inr (x.0, x.1 ++ ys, ap (λ zs. zs ++ ys) x.2, serves_on (refused || p.1) q cs more p.2 t u x.1 ys o x.3 b)))
        ]
      ]
    where
      absurd_ok : (q : Bool) {st : Status} {A : Type 0} → ◌≡◌ {A = Result Bool Status} (Ok q) (Err st) → A
      absurd_ok q e = cc

  -- where that is all
  pub serves_done : (refused q : Bool) (cs : List Asked) (s t : Session) (xs : List (List ℕ)) → Answered stop refused cs s xs t (Ok q) → Serves course refused cs s xs t (next q)
  serves_done refused q cs s t xs a =
      subst (λ ds. Serves course refused ds s xs t (next q)) (append-nil cs)
      (subst (λ ys. Serves course refused (cs ++ []) s ys t (next q)) (append-nil xs) (serves_on refused q cs [] s t t xs [] (next q) a (refl, refl, inl refl)))

  -- where it ended
  pub serves_ended : (refused : Bool) (cs more : List Asked) (s t : Session) (xs : List (List ℕ)) (st : Status) → Answered stop refused cs s xs t (Err st) → Serves course refused (cs ++ more) s xs t (ended st)
  serves_ended refused [] more s t xs st a =
      elim (a.2) [
        | inl e ↦ cc
        | inr e ↦ none_taken (err_same st no_memory e)
      ]
    where
      none_taken : st ≡ no_memory → Serves course refused more s xs t (ended st)
      none_taken e =
          subst (λ v. Serves course refused more s xs t (ended v)) (sym e)
          (subst (λ zs. Serves course refused more s zs t (ended no_memory)) (sym a.0)
          (subst (λ v. Serves course refused more s [] v (ended no_memory)) (sym a.1) (not_taken course refused more s)))
  serves_ended refused (c ∷ cs) more s t xs st a =
      elim a [
        | inl p ↦ inl (p.0, p.1, ap ended (err_same st no_memory p.2))
        | inr p ↦ elim (p.4) [
          | inl x ↦ inr (p.0, p.1, p.2, p.3, inl (x.0, x.1, x.2, x.3, x.4, x.5, ap ended (err_same st WriteFailed x.6)))
          | inr (inl x) ↦ inr (p.0, p.1, p.2, p.3, inr (inl (x.0, x.1, x.2, ap ended (err_same st Refused x.3))))
          | inr (inr x) ↦ inr (p.0, p.1, p.2, p.3, inr (inr (x.0, x.1, x.2, serves_ended (refused || p.1) cs more p.2 t x.1 st x.3)))
        ]
      ]

-- ---- how the last command leaves it

pub no_write_fault : (refused : Bool) → is_write_fault (final Accepted refused) ≡ false
no_write_fault true = refl
no_write_fault false = refl
