-- Symbols: what is read is one, and each is read, or a longer token.
use Rattle.std.proofs.Common.{◌≡◌, ℕ, true, false, eqb, ◌||◌, List, [], ◌∷◌, ◌++◌, length, Some, None, refl, sym, ap, subst, inl, inr, arith}
use Rattle.std.specs.Char.{is_ascii_digit}
use Rattle.std.proofs.lemmas.Bool.{cases_Bool, eqb-true, or_cases}
use Rattle.rdf_tokens.specs.declared.token.Kind.TheVariants as kind
use Rattle.rdf_tokens.specs.Characters.{is_sign}
use Rattle.rdf_tokens.specs.Forms.{IsOneOf, symbols}
use Rattle.rdf_terms.specs.Reading.{expect}
use Rattle.rdf_tokens.specs.Inside.TokenReading.{or_just, number_at, symbol_at, number_or_symbol_at}
use Rattle.rdf_terms.proofs.CallerLemmas.{cases_Option, some_is, none_is, guard_some, expect_sound}
use Rattle.rdf_tokens.proofs.TokenClaims.{Beats}
use Rattle.rdf_tokens.proofs.TokenNumbers.{number_less, number_none}

-- ---- what is read

abbrev Found : List ℕ → List ℕ → Type 0
Found cs rest = (slice : List ℕ) × (cs ≡ slice ++ rest) × IsOneOf symbols slice

single : (c : ℕ) → (((((((((((((eqb c 123 || eqb c 125) || eqb c 40) || eqb c 41) || eqb c 91) || eqb c 93) || eqb c 46) || eqb c 59) || eqb c 44) || eqb c 61) || eqb c 43) || eqb c 45) || eqb c 42) || eqb c 47) ≡ true → IsOneOf symbols (c ∷ [])
single c h =
    elim (or_cases ((((((((((((eqb c 123 || eqb c 125) || eqb c 40) || eqb c 41) || eqb c 91) || eqb c 93) || eqb c 46) || eqb c 59) || eqb c 44) || eqb c 61) || eqb c 43) || eqb c 45) || eqb c 42) (eqb c 47) h) [
      | inr e ↦ subst (λ (x : ℕ). IsOneOf symbols (x ∷ [])) (sym (eqb-true c 47 e)) (inr (inr (inr (inr (inr (inr (inr (inr (inr (inr (inr (inr (inr (inr (inr (inr (inr (inr (inr (inr (inr (inr (inl refl)))))))))))))))))))))))
      | inl more14 ↦ elim (or_cases (((((((((((eqb c 123 || eqb c 125) || eqb c 40) || eqb c 41) || eqb c 91) || eqb c 93) || eqb c 46) || eqb c 59) || eqb c 44) || eqb c 61) || eqb c 43) || eqb c 45) (eqb c 42) more14) [
        | inr e ↦ subst (λ (x : ℕ). IsOneOf symbols (x ∷ [])) (sym (eqb-true c 42 e)) (inr (inr (inr (inr (inr (inr (inr (inr (inr (inr (inr (inr (inr (inr (inr (inr (inr (inr (inr (inr (inr (inl refl))))))))))))))))))))))
        | inl more13 ↦ elim (or_cases ((((((((((eqb c 123 || eqb c 125) || eqb c 40) || eqb c 41) || eqb c 91) || eqb c 93) || eqb c 46) || eqb c 59) || eqb c 44) || eqb c 61) || eqb c 43) (eqb c 45) more13) [
          | inr e ↦ subst (λ (x : ℕ). IsOneOf symbols (x ∷ [])) (sym (eqb-true c 45 e)) (inr (inr (inr (inr (inr (inr (inr (inr (inr (inr (inr (inr (inr (inr (inr (inr (inr (inr (inr (inr (inl refl)))))))))))))))))))))
          | inl more12 ↦ elim (or_cases (((((((((eqb c 123 || eqb c 125) || eqb c 40) || eqb c 41) || eqb c 91) || eqb c 93) || eqb c 46) || eqb c 59) || eqb c 44) || eqb c 61) (eqb c 43) more12) [
            | inr e ↦ subst (λ (x : ℕ). IsOneOf symbols (x ∷ [])) (sym (eqb-true c 43 e)) (inr (inr (inr (inr (inr (inr (inr (inr (inr (inr (inr (inr (inr (inr (inr (inr (inr (inr (inr (inl refl))))))))))))))))))))
            | inl more11 ↦ elim (or_cases ((((((((eqb c 123 || eqb c 125) || eqb c 40) || eqb c 41) || eqb c 91) || eqb c 93) || eqb c 46) || eqb c 59) || eqb c 44) (eqb c 61) more11) [
              | inr e ↦ subst (λ (x : ℕ). IsOneOf symbols (x ∷ [])) (sym (eqb-true c 61 e)) (inr (inr (inr (inr (inr (inr (inr (inr (inr (inr (inl refl)))))))))))
              | inl more10 ↦ elim (or_cases (((((((eqb c 123 || eqb c 125) || eqb c 40) || eqb c 41) || eqb c 91) || eqb c 93) || eqb c 46) || eqb c 59) (eqb c 44) more10) [
                | inr e ↦ subst (λ (x : ℕ). IsOneOf symbols (x ∷ [])) (sym (eqb-true c 44 e)) (inr (inr (inr (inr (inr (inr (inr (inr (inl refl)))))))))
                | inl more9 ↦ elim (or_cases ((((((eqb c 123 || eqb c 125) || eqb c 40) || eqb c 41) || eqb c 91) || eqb c 93) || eqb c 46) (eqb c 59) more9) [
                  | inr e ↦ subst (λ (x : ℕ). IsOneOf symbols (x ∷ [])) (sym (eqb-true c 59 e)) (inr (inr (inr (inr (inr (inr (inr (inl refl))))))))
                  | inl more8 ↦ elim (or_cases (((((eqb c 123 || eqb c 125) || eqb c 40) || eqb c 41) || eqb c 91) || eqb c 93) (eqb c 46) more8) [
                    | inr e ↦ subst (λ (x : ℕ). IsOneOf symbols (x ∷ [])) (sym (eqb-true c 46 e)) (inr (inr (inr (inr (inr (inr (inl refl)))))))
                    | inl more7 ↦ elim (or_cases ((((eqb c 123 || eqb c 125) || eqb c 40) || eqb c 41) || eqb c 91) (eqb c 93) more7) [
                      | inr e ↦ subst (λ (x : ℕ). IsOneOf symbols (x ∷ [])) (sym (eqb-true c 93 e)) (inr (inr (inr (inr (inr (inl refl))))))
                      | inl more6 ↦ elim (or_cases (((eqb c 123 || eqb c 125) || eqb c 40) || eqb c 41) (eqb c 91) more6) [
                        | inr e ↦ subst (λ (x : ℕ). IsOneOf symbols (x ∷ [])) (sym (eqb-true c 91 e)) (inr (inr (inr (inr (inl refl)))))
                        | inl more5 ↦ elim (or_cases ((eqb c 123 || eqb c 125) || eqb c 40) (eqb c 41) more5) [
                          | inr e ↦ subst (λ (x : ℕ). IsOneOf symbols (x ∷ [])) (sym (eqb-true c 41 e)) (inr (inr (inr (inl refl))))
                          | inl more4 ↦ elim (or_cases (eqb c 123 || eqb c 125) (eqb c 40) more4) [
                            | inr e ↦ subst (λ (x : ℕ). IsOneOf symbols (x ∷ [])) (sym (eqb-true c 40 e)) (inr (inr (inl refl)))
                            | inl more3 ↦ elim (or_cases (eqb c 123) (eqb c 125) more3) [
                              | inr e ↦ subst (λ (x : ℕ). IsOneOf symbols (x ∷ [])) (sym (eqb-true c 125 e)) (inr (inl refl))
                              | inl more2 ↦ subst (λ (x : ℕ). IsOneOf symbols (x ∷ [])) (sym (eqb-true c 123 more2)) (inl refl)
                            ]
                          ]
                        ]
                      ]
                    ]
                  ]
                ]
              ]
            ]
          ]
        ]
      ]
    ]

doubled : (c : ℕ) → ((eqb c 94 || eqb c 38) || eqb c 124) ≡ true → IsOneOf symbols (c ∷ c ∷ [])
doubled c h =
    elim (or_cases (eqb c 94 || eqb c 38) (eqb c 124) h) [
      | inr e ↦ subst (λ (x : ℕ). IsOneOf symbols (x ∷ x ∷ [])) (sym (eqb-true c 124 e)) (inr (inr (inr (inr (inr (inr (inr (inr (inr (inr (inr (inr (inr (inr (inr (inr (inr (inl refl))))))))))))))))))
      | inl more3 ↦ elim (or_cases (eqb c 94) (eqb c 38) more3) [
        | inr e ↦ subst (λ (x : ℕ). IsOneOf symbols (x ∷ x ∷ [])) (sym (eqb-true c 38 e)) (inr (inr (inr (inr (inr (inr (inr (inr (inr (inr (inr (inr (inr (inr (inr (inr (inl refl)))))))))))))))))
        | inl more2 ↦ subst (λ (x : ℕ). IsOneOf symbols (x ∷ x ∷ [])) (sym (eqb-true c 94 more2)) (inr (inr (inr (inr (inr (inr (inr (inr (inr (inl refl))))))))))
      ]
    ]

with_equals : (c : ℕ) → ((eqb c 33 || eqb c 60) || eqb c 62) ≡ true → IsOneOf symbols (c ∷ []) × IsOneOf symbols (c ∷ 61 ∷ [])
with_equals c h =
    elim (or_cases (eqb c 33 || eqb c 60) (eqb c 62) h) [
      | inr e ↦ subst (λ (x : ℕ). IsOneOf symbols (x ∷ []) × IsOneOf symbols (x ∷ 61 ∷ [])) (sym (eqb-true c 62 e)) (inr (inr (inr (inr (inr (inr (inr (inr (inr (inr (inr (inr (inr (inl refl))))))))))))), inr (inr (inr (inr (inr (inr (inr (inr (inr (inr (inr (inr (inr (inr (inr (inl refl))))))))))))))))
      | inl more3 ↦ elim (or_cases (eqb c 33) (eqb c 60) more3) [
        | inr e ↦ subst (λ (x : ℕ). IsOneOf symbols (x ∷ []) × IsOneOf symbols (x ∷ 61 ∷ [])) (sym (eqb-true c 60 e)) (inr (inr (inr (inr (inr (inr (inr (inr (inr (inr (inr (inr (inl refl)))))))))))), inr (inr (inr (inr (inr (inr (inr (inr (inr (inr (inr (inr (inr (inr (inl refl)))))))))))))))
        | inl more2 ↦ subst (λ (x : ℕ). IsOneOf symbols (x ∷ []) × IsOneOf symbols (x ∷ 61 ∷ [])) (sym (eqb-true c 33 more2)) (inr (inr (inr (inr (inr (inr (inr (inr (inr (inr (inr (inr (inr (inr (inr (inr (inr (inr (inl refl)))))))))))))))))), inr (inr (inr (inr (inr (inr (inr (inr (inr (inr (inr (inl refl))))))))))))
      ]
    ]

equals_found : (c : ℕ) (cs : List ℕ) → ((eqb c 33 || eqb c 60) || eqb c 62) ≡ true → Found (c ∷ cs) (or_just (expect 61 cs) cs)
equals_found c cs h =
    let w = with_equals c h in
    elim (cases_Option (expect 61 cs)) [
      | inl none ↦ rw none (c ∷ [], refl, w.0)
      | inr some ↦ rw some.1 (c ∷ 61 ∷ [], ap (λ (t : List ℕ). c ∷ t) (expect_sound 61 cs some.0 some.1), w.1)
    ]

pub symbol_sound : (cs rest : List ℕ) → symbol_at cs ≡ Some rest → Found cs rest
unfolding symbol_at
symbol_sound [] rest e = none_is rest e
symbol_sound (c ∷ cs) rest e =
    elim (cases_Bool ((eqb c 94 || eqb c 38) || eqb c 124)) [
      | inl two ↦
          let s : expect c cs ≡ Some rest = rw two at e in
          (c ∷ c ∷ [], ap (λ (t : List ℕ). c ∷ t) (expect_sound c cs rest s), doubled c two)
      | inr not_two ↦
          elim (cases_Bool ((eqb c 33 || eqb c 60) || eqb c 62)) [
            | inl equals ↦ subst (Found (c ∷ cs)) (some_is (or_just (expect 61 cs) cs) rest (rw (not_two, equals) at e)) (equals_found c cs equals)
            | inr not_equals ↦
                let g = guard_some (((((((((((((eqb c 123 || eqb c 125) || eqb c 40) || eqb c 41) || eqb c 91) || eqb c 93) || eqb c 46) || eqb c 59) || eqb c 44) || eqb c 61) || eqb c 43) || eqb c 45) || eqb c 42) || eqb c 47) (Some cs) rest (rw (not_two, not_equals) at e) in
                (c ∷ [], ap (λ (t : List ℕ). c ∷ t) (some_is cs rest g.1), single c g.0)
          ]
    ]

-- ---- each symbol is read, or a longer token

abbrev Claimed : List ℕ → Type 0
Claimed slice = (rest : List ℕ) → Beats kind.Symbol rest (number_or_symbol_at (slice ++ rest))

-- a symbol that is read whatever follows
one : (c : ℕ) → is_ascii_digit c ≡ false → ((rest : List ℕ) → symbol_at (c ∷ rest) ≡ Some rest) → Claimed (c ∷ [])
unfolding number_or_symbol_at
one c d read rest =
    elim (cases_Option (number_at (c ∷ rest))) [
      | inl none ↦ rw (none, read rest) (inl refl)
      | inr some ↦ rw some.1 (inr (number_less c rest some.0 d some.1))
    ]

-- a symbol that `=` may make longer
or_equals : (c : ℕ) → is_ascii_digit c ≡ false → is_sign c ≡ false → ((rest : List ℕ) → expect 46 (c ∷ rest) ≡ None)
    → ((rest : List ℕ) → symbol_at (c ∷ rest) ≡ Some (or_just (expect 61 rest) rest)) → Claimed (c ∷ [])
unfolding number_or_symbol_at
or_equals c d s dot read rest =
    elim (cases_Option (expect 61 rest)) [
      | inl none ↦ rw (number_none c rest d s (dot rest), read rest, none) (inl refl)
      | inr some ↦ rw (number_none c rest d s (dot rest), read rest, some.1) (inr (omega (arith, ap length (expect_sound 61 rest some.0 some.1))))
    ]

-- a symbol of two
two : (c b : ℕ) → is_ascii_digit c ≡ false → is_sign c ≡ false → ((rest : List ℕ) → expect 46 (c ∷ rest) ≡ None)
    → ((rest : List ℕ) → symbol_at (c ∷ b ∷ rest) ≡ Some rest) → Claimed (c ∷ b ∷ [])
unfolding number_or_symbol_at
two c b d s dot read rest = rw (number_none c (b ∷ rest) d s (dot (b ∷ rest)), read rest) (inl refl)

abbrev AllClaimed : List (List ℕ) → Type 0
AllClaimed [] = Unit {0}
AllClaimed (s ∷ others) = Claimed s × AllClaimed others

all_claimed : AllClaimed symbols
unfolding symbol_at expect
all_claimed = (
  one 123 refl (λ _. refl),
  (
    one 125 refl (λ _. refl),
    (
      one 40 refl (λ _. refl),
      (
        one 41 refl (λ _. refl),
        (
          one 91 refl (λ _. refl),
          (
            one 93 refl (λ _. refl),
            (
              one 46 refl (λ _. refl),
              (
                one 59 refl (λ _. refl),
                (
                  one 44 refl (λ _. refl),
                  (
                    two 94 94 refl refl (λ _. refl) (λ _. refl),
                    (
                      one 61 refl (λ _. refl),
                      (
                        two 33 61 refl refl (λ _. refl) (λ _. refl),
                        (
                          or_equals 60 refl refl (λ _. refl) (λ _. refl),
                          (
                            or_equals 62 refl refl (λ _. refl) (λ _. refl),
                            (
                              two 60 61 refl refl (λ _. refl) (λ _. refl),
                              (
                                two 62 61 refl refl (λ _. refl) (λ _. refl),
                                (
                                  two 38 38 refl refl (λ _. refl) (λ _. refl),
                                  (
                                    two 124 124 refl refl (λ _. refl) (λ _. refl),
                                    (
                                      or_equals 33 refl refl (λ _. refl) (λ _. refl),
                                      (
                                        one 43 refl (λ _. refl),
                                        (
                                          one 45 refl (λ _. refl),
                                          (
                                            one 42 refl (λ _. refl),
                                            (
                                              one 47 refl (λ _. refl),
                                              tt,
                                            ),
                                          ),
                                        ),
                                      ),
                                    ),
                                  ),
                                ),
                              ),
                            ),
                          ),
                        ),
                      ),
                    ),
                  ),
                ),
              ),
            ),
          ),
        ),
      ),
    ),
  ),
)

claimed : (ss : List (List ℕ)) → AllClaimed ss → (slice rest : List ℕ) → IsOneOf ss slice → Beats kind.Symbol rest (number_or_symbol_at (slice ++ rest))
claimed [] all slice rest h = absurd h
claimed (s ∷ ss) all slice rest (inl e) = rw e (all.0 rest)
claimed (s ∷ ss) all slice rest (inr h) = claimed ss all.1 slice rest h

pub symbol_claims : (slice rest : List ℕ) → IsOneOf symbols slice → Beats kind.Symbol rest (number_or_symbol_at (slice ++ rest))
symbol_claims slice rest h = claimed symbols all_claimed slice rest h
