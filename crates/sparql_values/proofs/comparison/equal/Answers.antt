use Rattle.std.proofs.Common.{◌∙◌}
use Rattle.sparql_values.specs.Operands.{term_of}
use Rattle.sparql_values.proofs.OperandLemmas.{equal_is}
use Rattle.sparql_values.proofs.comparison.equal.Goals as goal

pub returns : goal.returns
returns c =
    c.equal_by.ensures
    ∙ equal_is c.operand.result c.operand-2.result (term_of c.args.a.now) (term_of c.args.b.now) c.operand.ensures.value c.operand-2.ensures.value
    c.operand.ensures.term c.operand-2.ensures.term
