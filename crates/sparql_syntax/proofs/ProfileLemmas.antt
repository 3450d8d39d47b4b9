-- The first word that the profile leaves out.
use Rattle.std.proofs.Common.{◌≡◌, ◌<◌, ◌⊎◌, inl, inr, ◌∷◌, [], ℕ, zero, suc, List, Some, take, refl, sym, subst, arith}
use Rattle.std.proofs.lemmas.Bool.{cases_Bool}
use Rattle.std.specs.List.{AllByRecursion, slice_get}
use Rattle.rdf_grammar.proofs.CallerLemmas.{no_other}
use Rattle.rdf_tokens.specs.declared.token.Token.{Token}
use Rattle.rdf_tokens.specs.Tokens.{HasItsForm}
use Rattle.rdf_tokens.proofs.CallerLemmas.{token_stands}
use Rattle.sparql_terminals.proofs.CallerLemmas.{kept_is, left_out_is}
use Rattle.sparql_terminals.specs.Profile.{is_left_out, IsOutside, AreInside, IsFirstOutside}

-- a token before the place is within the profile
before_place : (text : List ℕ) (tokens : List Token) (token : Token) (m n : ℕ) → m < n → AreInside text (take n tokens) → slice_get tokens m ≡ Some token → ¬ (IsOutside text token)
before_place text [] token m n lt h e out = absurd cc
before_place text (t ∷ ts) token m zero lt h e out = absurd (omega (arith, lt))
before_place text (t ∷ ts) token zero (suc n) lt h e out = let same : t ≡ token = cc in h.0 (subst (λ (x : Token). IsOutside text x) (sym same) out)
before_place text (t ∷ ts) token (suc m) (suc n) lt h e out = before_place text ts token m n (omega (arith, lt)) h.1 e out

inside_place : (text : List ℕ) (tokens : List Token) (token : Token) (m : ℕ) → AreInside text tokens → slice_get tokens m ≡ Some token → ¬ (IsOutside text token)
inside_place text [] token m h e out = absurd cc
inside_place text (t ∷ ts) token zero h e out = let same : t ≡ token = cc in h.0 (subst (λ (x : Token). IsOutside text x) (sym same) out)
inside_place text (t ∷ ts) token (suc m) h e out = inside_place text ts token m h.1 e out

pub not_inside : (text : List ℕ) (tokens : List Token) (place : ℕ) → IsFirstOutside text tokens place → ¬ (AreInside text tokens)
not_inside text tokens place h k = inside_place text tokens h.0.0 place k h.0.1 h.0.2

not_before : (text : List ℕ) (tokens : List Token) (m n : ℕ) → IsFirstOutside text tokens m → IsFirstOutside text tokens n → ¬ (m < n)
not_before text tokens m n h k lt = before_place text tokens h.0.0 m n lt k.1 h.0.1 h.0.2

pub one_outside : (text : List ℕ) (tokens : List Token) (m n : ℕ) → IsFirstOutside text tokens m → IsFirstOutside text tokens n → m ≡ n
one_outside text tokens m n h k = no_other m n (not_before text tokens m n h k) (not_before text tokens n m k h)

-- ---- each token is within the profile, or not

outside_or_not : (text : List ℕ) (token : Token) → HasItsForm text token → IsOutside text token ⊎ ¬ (IsOutside text token)
outside_or_not text token h = elim (cases_Bool (is_left_out token.kind h.1)) [
  | inl out ↦ inl (left_out_is text token h.1 (token_stands text token h) out)
  | inr kept ↦ inr (kept_is text token h.1 (token_stands text token h) kept)
]

abbrev OutsideOrNot : List ℕ → List Token → Type 0
OutsideOrNot text tokens = AreInside text tokens ⊎ ((place : ℕ) × IsFirstOutside text tokens place)

pub inside_or_outside : (text : List ℕ) (tokens : List Token) → AllByRecursion (HasItsForm text) tokens → OutsideOrNot text tokens
inside_or_outside text [] h = inl tt
inside_or_outside text (t ∷ ts) h = elim (outside_or_not text t h.0) [
  | inl out ↦ inr (zero, ((t, refl, out), tt))
  | inr kept ↦ elim (inside_or_outside text ts h.1) [
    | inl all ↦ inl (kept, all)
    | inr found ↦ inr (suc found.0, ((found.1.0.0, found.1.0.1, found.1.0.2), (kept, found.1.1)))
  ]
]
