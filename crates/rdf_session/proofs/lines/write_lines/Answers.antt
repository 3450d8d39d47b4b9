use Rattle.std.proofs.Common.{◌≡◌, ◌∙◌, ◌++◌, ap, append_assoc, rules}
use Rattle.rdf_lines.specs.QuadText.{quad_text}
use Rattle.rdf_session.proofs.LineLemmas.{line_more, lines_end}
use Rattle.rdf_session.proofs.lines.write_lines.Goals as goal

pub loop-quad-preserved : goal.loop-quad-preserved
loop-quad-preserved c =
    let inv = c.loop-quad.invariant in
    let wrote : c.or_truncate.new.out.items ≡ c.loop-quad.out.items ++ quad_text c.quad-item.result = search rules in
    record {
      front = (inv.front.0 ++ quad_text c.quad-item.result, wrote ∙ ap (λ xs. xs ++ quad_text c.quad-item.result) inv.front.1 ∙ append_assoc c.args.out.now.items inv.front.0 (quad_text c.quad-item.result));
      lines = line_more quad_text c.args.quads.now _ _ _ _ _ c.loop-quad-test.true c.quad-item.is wrote inv.lines;
    }

pub returns : goal.returns
returns c = record { ok = lines_end quad_text c.args.quads.now _ _ _ c.loop-quad-test.false c.loop-quad.invariant.lines; err = tt }
