use Rattle.std.proofs.Common.{rules}
use Rattle.rdf_terms.specs.Integers.{decimal}
use Rattle.rdf_terms.proofs.integer.integer_literal.Goals as goal

pub returns : goal.returns
unfolding decimal
returns c = search rules
