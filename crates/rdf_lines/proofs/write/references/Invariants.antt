use Rattle.std.proofs.Common.{◌≡◌, map, take}
use Rattle.rdf_lines.proofs.write.references.Given as goal

abbrev pub invariant-loop-item : goal.invariant-loop-item
invariant-loop-item g l = map (λ x. x.now) l.all.items ≡ take l.item-index l.items
