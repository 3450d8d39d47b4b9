use Rattle.std.proofs.Common.{◌≡◌, ◌+◌, List, ◌++◌}
use Rattle.rdf_streams.specs.Inside.Parts.{AreAllTexts, bytes_of}
use Rattle.rdf_streams.specs.declared.conversion.parts.Part.{Part}
use Rattle.rdf_streams.proofs.conversion.parts.append_texts.Given as goal

abbrev pub invariant-loop-left : goal.invariant-loop-left
invariant-loop-left l = (more : List Part) × (l.parts.items ≡ l.fn.parts.items ++ more) × AreAllTexts more × (bytes_of more + l.left ≡ l.fn.count)

abbrev pub decreases-loop-left : goal.decreases-loop-left
decreases-loop-left l = l.left
