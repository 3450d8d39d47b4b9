use Rattle.std.proofs.Common.{◌≡◌, ◌++◌, take}
use Rattle.std.specs.List.{flat_map}
use Rattle.rdf_lines.specs.QuadText.{quad_text}
use Rattle.rdf_lines.proofs.write.append_lines.Given as goal

abbrev pub invariant-loop-quad : goal.invariant-loop-quad
invariant-loop-quad l = l.out.items ≡ l.fn.out.items ++ flat_map quad_text (take l.quad-index l.quads)
