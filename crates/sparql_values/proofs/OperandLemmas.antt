-- Two values as operands.
use Rattle.std.proofs.Common.{◌≡◌, ◌∙◌, Bool, true, false, ap, sym, refl}
use Rattle.std.proofs.lemmas.Bool.{false_from_ne_true}
use Rattle.rdf_terms.specs.declared.term.Term.{Term}
use Rattle.sparql_values.specs.Mapping.{same_term}
use Rattle.sparql_values.specs.Operands.{IsOf, are_same, operand_of}
use Rattle.sparql_values.specs.Values as spec
use Rattle.sparql_values.specs.Values.{number, boolean, text, opaque, resource, equal, equal_by, operand}
use Rattle.sparql_values.specs.declared.literal.Operand.{Operand}
use Rattle.sparql_values.specs.declared.literal.Operand.TheVariants as o
use Rattle.sparql_values.proofs.TermLemmas.{same_term_is}

-- what is no same term isn't asked whether it is
differ : (same : Bool) (x y : spec.Operand) → (same ≡ true → ⊥) → equal_by false x y ≡ equal_by same x y
differ same x y h = ap (λ b. equal_by b x y) (sym (false_from_ne_true same h))

same_operands : (a b : Operand) (s t : Term) → IsOf a s → IsOf b t → (same_term s t ≡ true → operand_of a ≡ operand_of b)
    → equal_by (are_same a b) (operand_of a) (operand_of b) ≡ equal_by (same_term s t) (operand_of a) (operand_of b)
same_operands (o.Number m) (o.Number n) s t ia ib h = refl
same_operands (o.Boolean b) (o.Boolean c) s t ia ib h = refl
same_operands (o.Text u) (o.Text v) s t ia ib h = refl
same_operands (o.Opaque p) (o.Opaque q) s t ia ib h = λ i. equal_by (same_term (ia i) (ib i)) opaque opaque
same_operands (o.Resource p) (o.Resource q) s t ia ib h = λ i. equal_by (same_term (ia i) (ib i)) resource resource
same_operands a b s t ia ib h = differ (same_term s t) (operand_of a) (operand_of b) (λ e. let k : operand_of a ≡ operand_of b = h e in cc)

pub equal_is : (a b : Operand) (s t : Term) → operand_of a ≡ operand s → operand_of b ≡ operand t → IsOf a s → IsOf b t
    → equal_by (are_same a b) (operand_of a) (operand_of b) ≡ equal s t
equal_is a b s t x y ia ib =
    same_operands a b s t ia ib (λ e. x ∙ ap operand (same_term_is s t e) ∙ sym y) ∙ (λ i. equal_by (same_term s t) (x i) (y i))
