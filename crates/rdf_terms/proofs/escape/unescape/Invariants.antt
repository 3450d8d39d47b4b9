use Rattle.std.proofs.Common.{length, string_bytes}
use Rattle.std.specs.Str.{chars}
use Rattle.rdf_terms.proofs.UnescapeLemmas.{ReadSoFar}
use Rattle.rdf_terms.proofs.escape.unescape.Given as goal

abbrev pub invariant-loop-rest : goal.invariant-loop-rest
invariant-loop-rest l = ReadSoFar (chars l.fn.text) l.rest (string_bytes l.value)

abbrev pub decreases-loop-rest : goal.decreases-loop-rest
decreases-loop-rest l = length l.rest
