use Rattle.std.proofs.Common.{arith}
use Rattle.rdf_tokens.proofs.ReaderLemmas.{at_the_first}
use Rattle.rdf_tokens.proofs.reader.TokenReader.new.Goals as goal

pub invariant_of-result : goal.invariant_of-result
invariant_of-result c = at_the_first c.args.text.now c.new.result c.utf8.text (omega arith) c.new.ensures
