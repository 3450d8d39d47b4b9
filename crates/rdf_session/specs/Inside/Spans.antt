-- What is held of the changes since the base: nets that lead from it to a place of the history.
use Rattle.std.specs.Prelude.{ℕ, ◌≤◌, List, [], ◌∷◌, length, slice_index_or, refl}
use Rattle.std.specs.Coded.{Coded, code_by, coded×, coded_ℕ, coded_list}
use Rattle.rdf_dataset.specs.Chains.{Leads}
use Rattle.rdf_dataset.specs.State.{State, Change, change_code}
use Rattle.rdf_session.specs.Inside.Kept.{states_after}

pub record Span : Type 0 where
  pub nets : List Change
  pub place : ℕ

abbrev pub span_code : Coded Span
span_code =
    code_by (List Change × ℕ) (coded× (coded_list change_code) coded_ℕ)
    (λ s. (s.nets, s.place)) (λ p. record { nets = p.0; place = p.1 }) (λ _. refl)

-- from the base to itself
abbrev pub no_span : Span
no_span = record { nets = []; place = 0 }

-- the nets lead from the base to the place, which lies in the list
pub record IsSpan (base : State) (entries : List Change) (span : Span) : Type 0 where
  pub within : span.place ≤ length entries
  pub leads : Leads base span.nets (slice_index_or (base ∷ states_after base entries) span.place base)
