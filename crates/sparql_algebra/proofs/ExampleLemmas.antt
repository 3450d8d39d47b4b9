-- What the conditions of the examples ask of a mapping.
use Rattle.std.proofs.Common.{◌≡◌, ℕ, List, Bool, true, ◌&&◌, Some, codes, is_some, ap, sym, ◌∙◌}
use Rattle.std.specs.Option.{option_map, option_and_then}
use Rattle.rdf_terms.specs.declared.term.Term.{Term}
use Rattle.rdf_terms.specs.declared.term.Term.TheVariants as t
use Rattle.sparql_trees.specs.declared.expression.Comparison.TheVariants.{Equal}
use Rattle.sparql_trees.specs.declared.expression.Expression.TheFolds.{fold-roll-Expression}
use Rattle.sparql_trees.specs.declared.expression.Expression.TheOpen.{Expression-F}
use Rattle.sparql_trees.specs.declared.expression.Expression.TheVariants as e
use Rattle.sparql_values.specs.Mapping.{same_term}
use Rattle.sparql_values.specs.Values.{Value, Bindings, truth, negated, of_truth, boolean_term, compared, value, value_by, is_true, is_satisfied}
use Rattle.sparql_values.proofs.CallerLemmas.{value-Not, value-Bound, value-Variable, value-Term, value-SameTerm}
use Rattle.sparql_algebra.specs.Examples.{text, no_mailbox, is_bob, other_mailbox, same_numbers}

module _ (b : Bindings) where
  abbrev same : Value → Value → Value
  same x y = of_truth (option_and_then (λ u. option_map (same_term u) y) x)

  same_is : (name : List ℕ) (term : Term) → value b (e.SameTerm (e.Variable name) (e.Term term)) ≡ same (b name) (Some term)
  same_is name term = value-SameTerm b (e.Variable name) (e.Term term) ∙ (λ i. same (value-Variable b name i) (value-Term b term i))

  -- the three conditions

  abbrev pub asks_no_mailbox : Bool
  asks_no_mailbox = is_true (truth (of_truth (negated (truth (Some (boolean_term (is_some (b (codes "mbox")))))))))

  pub no_mailbox-is : (is_satisfied b no_mailbox && true) ≡ (asks_no_mailbox && true)
  no_mailbox-is =
      ap (λ (v : Value). is_true (truth v) && true) (value-Not b (e.Bound (codes "mbox")) ∙ ap (λ (v : Value). of_truth (negated (truth v))) (value-Bound b (codes "mbox")))

  abbrev pub asks_bob : Bool
  asks_bob = is_true (truth (same (b (codes "name")) (Some (text (codes "Bob")))))

  pub is_bob-is : (is_satisfied b is_bob && true) ≡ (asks_bob && true)
  is_bob-is = ap (λ (v : Value). is_true (truth v) && true) (same_is (codes "name") (text (codes "Bob")))

  abbrev pub asks_other_mailbox : Bool
  asks_other_mailbox = is_true (truth (of_truth (negated (truth (same (b (codes "mbox")) (Some (t.Iri (codes "mailto:alice"))))))))

  pub other_mailbox-is : (is_satisfied b other_mailbox && true) ≡ (asks_other_mailbox && true)
  other_mailbox-is =
      ap (λ (v : Value). is_true (truth v) && true)
      (value-Not b (e.SameTerm (e.Variable (codes "mbox")) (e.Term (t.Iri (codes "mailto:alice"))))
      ∙ ap (λ (v : Value). of_truth (negated (truth v))) (same_is (codes "mbox") (t.Iri (codes "mailto:alice"))))

  abbrev pub asks_same_numbers : Bool
  asks_same_numbers = is_true (truth (of_truth (option_and_then (λ s. option_and_then (compared Equal s) (b (codes "m"))) (b (codes "n")))))

  pub same_numbers-is : (is_satisfied b same_numbers && true) ≡ (asks_same_numbers && true)
  same_numbers-is =
      ap (λ (v : Value). is_true (truth v) && true)
      (ap (value b) (sym (e.rolls-Compare Equal (e.Variable (codes "n")) (e.Variable (codes "m"))))
      ∙ fold-roll-Expression Value (value_by b) (Expression-F.Compare Equal (e.Variable (codes "n")) (e.Variable (codes "m")))
      ∙ (λ i. of_truth (option_and_then (λ s. option_and_then (compared Equal s) (value-Variable b (codes "m") i)) (value-Variable b (codes "n") i))))
