use Rattle.std.proofs.Common.{◌≡◌, length}
use Rattle.rdf_terms.specs.Reading.{iri_body_at}
use Rattle.rdf_terms.proofs.LoopLemmas.{behind}
use Rattle.rdf_terms.proofs.cursor.Cursor.iri_end.Given as goal

abbrev pub invariant-loop-behind : goal.invariant-loop-behind
invariant-loop-behind l = behind (iri_body_at l.rest) ≡ behind (iri_body_at l.initial.rest)

abbrev pub decreases-loop-behind : goal.decreases-loop-behind
decreases-loop-behind l = length l.rest
