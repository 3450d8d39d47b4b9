-- A condition asked expression by expression.
use Rattle.std.proofs.Common.{◌≡◌, ℕ, ◌+◌, ◌<◌, Bool, true, false, cond, ◌≤◌, ◌&&◌, List, [], ◌∷◌, filter, sym, ap, ◌∙◌, arith, length, drop, get_or, nat_eq}
use Rattle.std.proofs.lemmas.Bool.{eqb-true}
use Rattle.std.proofs.lemmas.List.{drop_all, drop_more}
use Rattle.sparql_trees.specs.declared.expression.Expression.{Expression}
use Rattle.sparql_values.specs.Mapping.{Variables, Mapping, value_of}
use Rattle.sparql_values.specs.Values.{is_satisfied}
use Rattle.sparql_algebra.specs.Results.{is_some_solution}
use Rattle.sparql_algebra.specs.Solutions.{satisfies}
use Rattle.sparql_algebra.proofs.CallerLemmas.{filter_always}

-- the answer of the expression at this place, asked of the values that a row gives
pub asked : (vs : Variables) (F : List Expression) (i : ℕ) (x : Expression) (m values : Mapping) (answer whole : Bool) → i < length F → x ≡ get_or F i x →
    satisfies vs (drop i F) m ≡ whole → values ≡ m → answer ≡ is_satisfied (value_of vs values) x → (answer && satisfies vs (drop (i + 1) F) m) ≡ whole
asked vs F i x m values answer whole lt here h ev e =
    let rest : List Expression = drop (i + 1) F in
    let next : drop i F ≡ x ∷ rest = drop_more F i x lt ∙ ap (λ (y : Expression). y ∷ rest) (sym here) in
    ap (λ b. b && satisfies vs rest m) (e ∙ ap (λ (w : Mapping). is_satisfied (value_of vs w) x) ev)
    ∙ ap (λ (G : List Expression). satisfies vs G m) (sym next) ∙ h

-- no expression leaves each row
pub no_filters : (vs : Variables) (F : List Expression) (rows : List Mapping) (b : Bool) → b ≡ nat_eq (length F) 0 → b ≡ true → rows ≡ filter (satisfies vs F) rows
no_filters vs [] rows b e t = sym (filter_always rows)
no_filters vs (x ∷ F) rows b e t = absurd (omega (arith, eqb-true (length (x ∷ F)) 0 (sym e ∙ t)))

-- ---- rows of which one passes

module _ (q : Mapping → Bool) (rows : List Mapping) (i : ℕ) where
  here : (x : Mapping) → i < length rows → x ≡ get_or rows i x → (b : Bool) → q x ≡ b →
      filter q (drop i rows) ≡ cond b (x ∷ filter q (drop (i + 1) rows)) (filter q (drop (i + 1) rows))
  here x lt is b e =
      ap (filter q) (drop_more rows i x lt ∙ ap (λ (y : Mapping). y ∷ drop (i + 1) rows) (sym is))
      ∙ ap (λ c. cond c (x ∷ filter q (drop (i + 1) rows)) (filter q (drop (i + 1) rows))) e

  pub passes_here : (x : Mapping) → i < length rows → x ≡ get_or rows i x → q x ≡ true →
      is_some_solution (filter q (drop i rows)) ≡ is_some_solution (filter q rows) → true ≡ is_some_solution (filter q rows)
  passes_here x lt is e h = sym (ap is_some_solution (here x lt is true e)) ∙ h

  pub fails_here : (x : Mapping) → i < length rows → x ≡ get_or rows i x → q x ≡ false →
      is_some_solution (filter q (drop i rows)) ≡ is_some_solution (filter q rows) →
      is_some_solution (filter q (drop (i + 1) rows)) ≡ is_some_solution (filter q rows)
  fails_here x lt is e h = sym (ap is_some_solution (here x lt is false e)) ∙ h

  pub none_passes : length rows ≤ i → is_some_solution (filter q (drop i rows)) ≡ is_some_solution (filter q rows) → false ≡ is_some_solution (filter q rows)
  none_passes le h = sym (ap (λ (xs : List Mapping). is_some_solution (filter q xs)) (drop_all i rows le)) ∙ h
