use Rattle.std.proofs.Common.{◌∙◌, arith, sym}
use Rattle.rdf_terms.proofs.IntegerLemmas.{nothing_read, read_form, read_value, stays_small}
use Rattle.rdf_terms.proofs.integer.short_number.Goals as goal

pub loop-digit-init : goal.loop-digit-init
loop-digit-init c = nothing_read c.args.text.now

pub overflow_mul-number : goal.overflow_mul-number
overflow_mul-number c =
    record { fits = omega (arith, stays_small c.args.text.now c.loop-digit.digit-index c.loop-digit.number (omega arith) (omega arith) c.loop-digit.invariant) }

pub overflow_add-number : goal.overflow_add-number
overflow_add-number c =
    record { fits = omega (arith, stays_small c.args.text.now c.loop-digit.digit-index c.loop-digit.number (omega arith) (omega arith) c.loop-digit.invariant) }

pub returns-clause-form : goal.returns-clause-form
returns-clause-form c =
    read_form c.args.text.now c.loop-digit.digit-index c.loop-digit.number (sym c.is_empty.ensures ∙ c.if-is_empty.false) (omega arith) c.loop-digit.invariant

pub returns-clause-value : goal.returns-clause-value
returns-clause-value c =
    read_value c.args.text.now c.loop-digit.digit-index c.loop-digit.number (sym c.is_empty.ensures ∙ c.if-is_empty.false) (omega arith) c.loop-digit.invariant
