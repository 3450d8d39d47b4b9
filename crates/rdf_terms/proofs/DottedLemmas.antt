-- Units with dots between them: the longest run is read.
use Rattle.std.proofs.Common.{◌≡◌, ◌≢◌, ◌<◌, ◌≤◌, ℕ, zero, suc, Bool, false, eqb, ◌==◌, List, [], ◌∷◌, ◌++◌, length, map, option_map, Option, Some, None, refl, sym, ap, ◌∙◌, inl, inr, append_assoc, length-append, arith}
use Rattle.std.specs.List.{AllByRecursion}
use Rattle.std.proofs.lemmas.Bool.{cases_Bool, eqb-true, eq-eqb, ne_eqb, true≢false}
use Rattle.rdf_terms.specs.Dotted.{IsOne, IsDotted, ReadsUnits, skip_dots, dotted, dotted_at}
use Rattle.rdf_terms.specs.Skips.{skip, one_of}
use Rattle.rdf_terms.proofs.OptionLemmas.{some_is, none_is, guard_some, cases_Option}
use Rattle.rdf_terms.proofs.SkipLemmas.{AllPass, skip_no_longer}

-- A reader of one unit gives just what the form has, and no unit begins with a dot.
pub record IsUnit (Form : List ℕ → Type 0) (one : List ℕ → Option (List ℕ)) : Type 0 where
  pub sound : (cs rest : List ℕ) → one cs ≡ Some rest → (unit : List ℕ) × (cs ≡ unit ++ rest) × Form unit
  pub complete : (unit rest : List ℕ) → Form unit → one (unit ++ rest) ≡ Some rest
  pub begins : (unit : List ℕ) → Form unit → (b : ℕ) × (bs : List ℕ) × (unit ≡ b ∷ bs) × (b ≢ 46)

-- behind a unit less is left
abbrev pub Shortens : (List ℕ → Option (List ℕ)) → Type 0
Shortens one = (cs rest : List ℕ) → one cs ≡ Some rest → length rest < length cs

pub unit_shortens : {Form : List ℕ → Type 0} (one : List ℕ → Option (List ℕ)) → IsUnit Form one → Shortens one
unit_shortens one is cs rest e =
    let s = is.sound cs rest e in
    let b = is.begins s.0 s.2 in
    omega (arith, ap length s.1, length-append s.0 rest, ap length b.2)

-- ---- dots

dots_front : (cs : List ℕ) → (dots : List ℕ) × (cs ≡ dots ++ skip_dots cs) × AllByRecursion (λ c. c ≡ 46) dots
unfolding skip
dots_front [] = ([], refl, tt)
dots_front (c ∷ cs) =
    elim (cases_Bool (eqb c 46)) [
      | inl is ↦ let h = dots_front cs in rw is (c ∷ h.0, ap (λ (t : List ℕ). c ∷ t) h.1, (eqb-true c 46 is, h.2))
      | inr not ↦ rw not ([], refl, tt)
    ]

over_dots : (dots cs : List ℕ) → AllByRecursion (λ c. c ≡ 46) dots → skip_dots (dots ++ cs) ≡ skip_dots cs
unfolding skip
over_dots [] cs h = refl
over_dots (d ∷ dots) cs h = rw (eq-eqb d 46 h.0) (over_dots dots cs h.1)

no_dots : (b : ℕ) (bs : List ℕ) → b ≢ 46 → skip_dots (b ∷ bs) ≡ b ∷ bs
unfolding skip
no_dots b bs ne = rw (ne_eqb b 46 ne) refl

-- ---- the run

-- the same behind dots
behind_dots : (one : List ℕ → Option (List ℕ)) → Shortens one → (cs rest : List ℕ) → one (skip_dots cs) ≡ Some rest → length rest < length cs
behind_dots one less cs rest e = let short = less (skip_dots cs) rest e in omega (arith, short, skip_no_longer (λ c. c == 46) cs)

enough : (one : List ℕ → Option (List ℕ)) → Shortens one → (n m : ℕ) (cs : List ℕ) → length cs ≤ n → length cs ≤ m → dotted one n cs ≡ dotted one m cs
unfolding dotted
enough one less zero zero cs p q = refl
enough one less zero (suc m) cs p q =
    elim (cases_Option (one (skip_dots cs))) [
      | inl none ↦ rw (none, dotted) refl
      | inr some ↦ absurd (omega (arith, behind_dots one less cs some.0 some.1, p))
    ]
enough one less (suc n) zero cs p q =
    elim (cases_Option (one (skip_dots cs))) [
      | inl none ↦ rw (none, dotted) refl
      | inr some ↦ absurd (omega (arith, behind_dots one less cs some.0 some.1, q))
    ]
enough one less (suc n) (suc m) cs p q =
    elim (cases_Option (one (skip_dots cs))) [
      | inl none ↦ rw (none, dotted) refl
      | inr some ↦
          let short = behind_dots one less cs some.0 some.1 in
          rw (some.1, dotted) (enough one less n m some.0 (omega (arith, short, p)) (omega (arith, short, q)))
    ]

pub dotted_step : (one : List ℕ → Option (List ℕ)) → Shortens one → (cs rest : List ℕ) → one (skip_dots cs) ≡ Some rest → dotted_at one cs ≡ dotted_at one rest
unfolding dotted_at dotted
dotted_step one less [] rest e = absurd (omega (arith, behind_dots one less [] rest e))
dotted_step one less (d ∷ ds) rest e =
    let short = behind_dots one less (d ∷ ds) rest e in
    rw e (enough one less (length ds) (length rest) rest (omega (arith, short)) (omega arith))

pub dotted_stop : (one : List ℕ → Option (List ℕ)) (cs : List ℕ) → one (skip_dots cs) ≡ None → dotted_at one cs ≡ cs
unfolding dotted_at dotted
dotted_stop one [] e = refl
dotted_stop one (d ∷ ds) e = rw e refl

-- ---- what a call answers behind dots

module _ (answers : List ℕ → Option (List ℕ) → Type 0) (one : List ℕ → Option (List ℕ)) (is : ReadsUnits answers one) (cs at : List ℕ) (here : at ≡ skip_dots cs) where
  answer_is : (answer : Option (List ℕ)) → answers at answer → one (skip_dots cs) ≡ answer
  answer_is answer h = ap one (sym here) ∙ sym (is.answered at answer h)

  pub unit_read : (rest : List ℕ) → answers at (Some rest) → dotted_at one rest ≡ dotted_at one cs
  unit_read rest h = sym (dotted_step one is.shorter cs rest (answer_is (Some rest) h))

  pub unit_less : (rest : List ℕ) → answers at (Some rest) → length rest < length cs
  unit_less rest h = behind_dots one is.shorter cs rest (answer_is (Some rest) h)

  pub no_unit_read : answers at None → cs ≡ dotted_at one cs
  no_unit_read h = sym (dotted_stop one cs (answer_is None h))

-- ---- two readers, the second of which goes on

-- A reader that goes on behind a unit, over what the run goes over, finds the same end.
pub further : (one two : List ℕ → Option (List ℕ)) (on : List ℕ → List ℕ) → Shortens one → Shortens two
    → ((cs : List ℕ) → two cs ≡ option_map on (one cs)) → ((cs : List ℕ) → dotted_at one (on cs) ≡ dotted_at one cs)
    → (cs : List ℕ) → dotted_at two cs ≡ dotted_at one cs
further one two on less short same over cs = by (suc (length cs)) cs (omega arith)
  where
    by : (n : ℕ) (ds : List ℕ) → length ds < n → dotted_at two ds ≡ dotted_at one ds
    by zero ds lt = absurd (omega (arith, lt))
    by (suc n) ds lt =
        elim (cases_Option (one (skip_dots ds))) [
          | inl none ↦ dotted_stop two ds (same (skip_dots ds) ∙ ap (option_map on) none) ∙ sym (dotted_stop one ds none)
          | inr some ↦
              let goes : two (skip_dots ds) ≡ Some (on some.0) = same (skip_dots ds) ∙ ap (option_map on) some.1 in
              let shorter = behind_dots two short ds (on some.0) goes in
              dotted_step two short ds (on some.0) goes ∙ by n (on some.0) (omega (arith, shorter, lt)) ∙ over some.0 ∙ sym (dotted_step one less ds some.0 some.1)
        ]

-- ---- what is read is the longest run

front_by : {Form : List ℕ → Type 0} (one : List ℕ → Option (List ℕ)) → IsUnit Form one → (n : ℕ) (cs : List ℕ) → (slice : List ℕ) × (units : List (List ℕ)) × (cs ≡ slice ++ dotted one n cs) × IsDotted Form slice units
unfolding dotted
front_by one is zero cs = ([], [], refl, refl)
front_by one is (suc n) cs =
    elim (cases_Option (one (skip_dots cs))) [
      | inl none ↦ rw (none, dotted) ([], [], refl, refl)
      | inr some ↦
          let s = is.sound (skip_dots cs) some.0 some.1 in
          let d = dots_front cs in
          let more = front_by one is n some.0 in
          rw (some.1, dotted) (
            d.0 ++ (s.0 ++ more.0),
            s.0 ∷ more.1,
            d.1 ∙ ap (λ (t : List ℕ). d.0 ++ t) (s.1 ∙ ap (λ (t : List ℕ). s.0 ++ t) more.2 ∙ sym (append_assoc s.0 more.0 (dotted one n some.0)))
                ∙ sym (append_assoc d.0 (s.0 ++ more.0) (dotted one n some.0)),
            (d.0, more.0, refl, d.2, s.2, more.3),
          )
    ]

pub dotted_front : {Form : List ℕ → Type 0} (one : List ℕ → Option (List ℕ)) → IsUnit Form one → (cs : List ℕ) → (slice : List ℕ) × (units : List (List ℕ)) × (cs ≡ slice ++ dotted_at one cs) × IsDotted Form slice units
unfolding dotted_at
dotted_front one is cs = front_by one is (length cs) cs

pub dotted_over : {Form : List ℕ → Type 0} (one : List ℕ → Option (List ℕ)) → IsUnit Form one → (units : List (List ℕ)) (slice rest : List ℕ) → IsDotted Form slice units → dotted_at one (slice ++ rest) ≡ dotted_at one rest
dotted_over one is [] slice rest h = ap (λ (t : List ℕ). dotted_at one (t ++ rest)) h
dotted_over one is (unit ∷ units) slice rest h =
    let dots = h.0 in
    let others = h.1 in
    let b = is.begins unit h.4 in
    let whole : slice ++ rest ≡ dots ++ (unit ++ (others ++ rest)) =
    ap (λ (t : List ℕ). t ++ rest) h.2 ∙ append_assoc dots (unit ++ others) rest ∙ ap (λ (t : List ℕ). dots ++ t) (append_assoc unit others rest) in
    let stops : skip_dots (unit ++ (others ++ rest)) ≡ unit ++ (others ++ rest) =
    ap (λ (t : List ℕ). skip_dots (t ++ (others ++ rest))) b.2 ∙ no_dots b.0 (b.1 ++ (others ++ rest)) b.3 ∙ ap (λ (t : List ℕ). t ++ (others ++ rest)) (sym b.2) in
    let read : one (skip_dots (slice ++ rest)) ≡ Some (others ++ rest) =
    ap (λ (t : List ℕ). one (skip_dots t)) whole ∙ ap one (over_dots dots (unit ++ (others ++ rest)) h.3 ∙ stops) ∙ is.complete unit (others ++ rest) h.4 in
    dotted_step one (unit_shortens one is) (slice ++ rest) (others ++ rest) read ∙ dotted_over one is units others rest h.5

pub dotted_no_longer : {Form : List ℕ → Type 0} (one : List ℕ → Option (List ℕ)) → IsUnit Form one → (cs : List ℕ) → length (dotted_at one cs) ≤ length cs
dotted_no_longer one is cs = let f = dotted_front one is cs in omega (arith, ap length f.2, length-append f.0 (dotted_at one cs))

-- ---- units of one character

pub one_sound : (class : ℕ → Bool) (cs rest : List ℕ) → one_of class cs ≡ Some rest → (unit : List ℕ) × (cs ≡ unit ++ rest) × IsOne class unit
unfolding one_of
one_sound class [] rest e = none_is rest e
one_sound class (c ∷ cs) rest e =
    let g = guard_some (class c) (Some cs) rest e in
    (c ∷ [], ap (λ (t : List ℕ). c ∷ t) (some_is cs rest g.1), (c, refl, g.0))

one_complete : (class : ℕ → Bool) (unit rest : List ℕ) → IsOne class unit → one_of class (unit ++ rest) ≡ Some rest
unfolding one_of
one_complete class unit rest h = rw (h.1, h.2) refl

-- characters of a class that has no dot
pub one_unit : (class : ℕ → Bool) → class 46 ≡ false → IsUnit (IsOne class) (one_of class)
one_unit class no_dot = record {
  sound = one_sound class;
  complete = one_complete class;
  begins = λ unit h. (h.0, [], h.1, λ same. true≢false (sym h.2 ∙ ap class same ∙ no_dot));
}

pub ones_dotted : (class : ℕ → Bool) (cs : List ℕ) → AllPass class cs → IsDotted (IsOne class) cs (map (λ c. c ∷ []) cs)
ones_dotted class [] h = refl
ones_dotted class (c ∷ cs) h = ([], cs, refl, tt, (c, refl, h.0), ones_dotted class cs h.1)
