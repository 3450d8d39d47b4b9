-- What a slice of a form demands of the reading: that it takes just this slice with this kind, or more.
use Rattle.std.proofs.Common.{◌≡◌, ◌<◌, ◌⊎◌, ℕ, Bool, List, ◌++◌, length, Option, Some, None, ap, inl, inr}
use Rattle.rdf_tokens.specs.declared.token.Kind.{Kind}
use Rattle.rdf_tokens.specs.Forms.{HasForm}
use Rattle.rdf_terms.specs.Skips.{skip}
use Rattle.rdf_terms.proofs.CallerLemmas.{skip_less}

abbrev pub Beats : Kind → List ℕ → Option (Kind × List ℕ) → Type 0
Beats kind rest None = ⊥
Beats kind rest (Some t) = (t ≡ (kind, rest)) ⊎ (length t.1 < length rest)

pub beats_skip : (kind : Kind) (p : ℕ → Bool) (rest : List ℕ) → Beats kind rest (Some (kind, skip p rest))
beats_skip kind p rest =
    elim (skip_less p rest) [
      | inl same ↦ inl (ap (λ (t : List ℕ). (kind, t)) same)
      | inr less ↦ inr less
    ]

-- The slice that was read has the form.
abbrev pub Sound : Kind → List ℕ → List ℕ → Type 0
Sound kind text rest = (slice : List ℕ) × (text ≡ slice ++ rest) × HasForm kind slice
