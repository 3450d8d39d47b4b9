use Rattle.std.proofs.Common.{◌≡◌, ◌++◌, drop, map}
use Rattle.std.specs.List.{concat}
use Rattle.rdf_lines.specs.QuadText.{quad_text}
use Rattle.rdf_keeper.proofs.script.show.append_quads.Given as goal

abbrev pub invariant-loop-quad : goal.invariant-loop-quad
invariant-loop-quad l =
    l.out.items ++ concat (map (λ x. l.before ++ quad_text x) (drop l.quad-index l.quads)) ≡ l.fn.out.items ++ concat (map (λ x. l.before ++ quad_text x) l.quads)
