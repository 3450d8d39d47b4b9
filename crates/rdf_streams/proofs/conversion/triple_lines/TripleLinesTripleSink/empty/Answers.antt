use Rattle.rdf_streams.proofs.ConversionLemmas.TripleLines.{no_triples}
use Rattle.rdf_streams.proofs.conversion.triple_lines.TripleLinesTripleSink.empty.Goals as goal

pub invariant_of-result : goal.invariant_of-result
invariant_of-result c = (no_triples c.new.result c.new.ensures.holds c.new.ensures.text).1

pub returns : goal.returns
returns c = (no_triples c.new.result c.new.ensures.holds c.new.ensures.text).0
