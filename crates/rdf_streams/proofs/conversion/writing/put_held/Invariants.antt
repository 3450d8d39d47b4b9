use Rattle.std.proofs.Common.{length}
use Rattle.rdf_streams.specs.Inside.Parts.{text_of}
use Rattle.rdf_streams.proofs.ConversionLemmas.Pieces.{IsLeft}
use Rattle.rdf_streams.proofs.conversion.writing.put_held.Given as goal

abbrev pub invariant-loop-part : goal.invariant-loop-part
invariant-loop-part g l = IsLeft (g.W.Write.contents l.fn.writer) l.fn.gathered.items (g.W.Write.contents l.writer) l.gathered.items (text_of l.held) l.held.predicates l.subject l.texts l.parts

abbrev pub decreases-loop-part : goal.decreases-loop-part
decreases-loop-part g l = length l.parts
