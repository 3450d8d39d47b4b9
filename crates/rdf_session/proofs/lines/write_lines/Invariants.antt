use Rattle.std.proofs.Common.{◌≡◌, ◌++◌, drop, map, List, ℕ}
use Rattle.std.specs.List.{concat}
use Rattle.rdf_lines.specs.QuadText.{quad_text}
use Rattle.rdf_session.proofs.lines.write_lines.Given as goal

abbrev pub invariant-loop-quad : goal.invariant-loop-quad
invariant-loop-quad l = record {
  front : (front : List ℕ) × (l.out.items ≡ l.fn.out.items ++ front);
  lines : l.out.items ++ concat (map quad_text (drop l.quad-index l.quads)) ≡ l.fn.out.items ++ concat (map quad_text l.quads);
}
