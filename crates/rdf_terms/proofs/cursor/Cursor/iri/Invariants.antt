use Rattle.std.proofs.Common.{◌≡◌, length, string_bytes}
use Rattle.rdf_terms.specs.Reading.{iri_body_at}
use Rattle.rdf_terms.proofs.RunLemmas.{with_front}
use Rattle.rdf_terms.proofs.cursor.Cursor.iri.Given as goal

abbrev pub invariant-loop-text : goal.invariant-loop-text
invariant-loop-text l = with_front (string_bytes l.text) (iri_body_at l.rest) ≡ iri_body_at l.initial.rest

abbrev pub decreases-loop-text : goal.decreases-loop-text
decreases-loop-text l = length l.rest
