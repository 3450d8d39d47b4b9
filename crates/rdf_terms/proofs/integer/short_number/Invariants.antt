use Rattle.rdf_terms.proofs.IntegerLemmas.{IsReadSoFar}
use Rattle.rdf_terms.proofs.integer.short_number.Given as goal

abbrev pub invariant-loop-digit : goal.invariant-loop-digit
invariant-loop-digit l = IsReadSoFar l.text l.digit-index l.number
