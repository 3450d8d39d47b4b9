-- What the code's values and operands stand for.
use Rattle.std.specs.Prelude.{◌≡◌, Bool, false, Option, Some, None}
use Rattle.rdf_terms.specs.declared.term.Term.{Term}
use Rattle.sparql_values.specs.Mapping.{same_term}
use Rattle.sparql_values.specs.Values as spec
use Rattle.sparql_values.specs.Values.{boolean_term, integer_term}
use Rattle.sparql_values.specs.declared.literal.Operand.{Operand}
use Rattle.sparql_values.specs.declared.literal.Operand.TheVariants as o
use Rattle.sparql_values.specs.declared.value.Value.{Value}
use Rattle.sparql_values.specs.declared.value.Value.TheVariants as v

abbrev pub operand_of : Operand → spec.Operand
operand_of (o.Number n) = spec.number n
operand_of (o.Boolean b) = spec.boolean b
operand_of (o.Text s) = spec.text s.now
operand_of (o.Opaque t) = spec.opaque
operand_of (o.Resource t) = spec.resource

-- an operand that has a term has this one
abbrev pub IsOf : Operand → Term → Type 0
IsOf (o.Opaque t) term = t.now ≡ term
IsOf (o.Resource t) term = t.now ≡ term
IsOf (o.Number n) term = Unit {0}
IsOf (o.Boolean b) term = Unit {0}
IsOf (o.Text s) term = Unit {0}

-- whether two operands of one kind that have terms have the same
abbrev pub are_same : Operand → Operand → Bool
are_same (o.Opaque s) (o.Opaque t) = same_term s.now t.now
are_same (o.Resource s) (o.Resource t) = same_term s.now t.now
are_same _ _ = false

-- the term that a value is
abbrev pub term_of : Value → Term
term_of (v.Held t) = t.now
term_of (v.Made t) = t
term_of (v.Truth b) = boolean_term b
term_of (v.Number n) = integer_term n

-- the term that a value holds, where it is no number or truth value
abbrev pub held : Value → Option Term
held (v.Held t) = Some t.now
held (v.Made t) = Some t
held (v.Truth b) = None
held (v.Number n) = None
