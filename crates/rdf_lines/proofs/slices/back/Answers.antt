use Rattle.std.proofs.Common.{ap, subst, sym, ◌∙◌, ℕ, List}
use Rattle.rdf_lines.specs.Inside.Slices.{ReadsGraph, ReadsObject}
use Rattle.rdf_lines.specs.Reading.{stops_at}
use Rattle.rdf_lines.proofs.SliceLemmas.{back_slices}
use Rattle.rdf_lines.proofs.slices.back.Goals as goal

pub returns-then-stops : goal.returns-then-stops
returns-then-stops c =
    back_slices c.args.format c.args.at.now c.in_ok-object.rest c.in_ok-graph.rest c.in_ok-object.object c.in_ok-graph.graph
    (subst (λ (t : List ℕ). ReadsObject t c.in_ok-object.object c.in_ok-object.rest) c.skip_white.ensures c.in_ok-object.ensures)
    (subst (λ (t : List ℕ). ReadsGraph c.args.format t c.in_ok-graph.graph c.in_ok-graph.rest) c.skip_white-2.ensures c.in_ok-graph.ensures)
    (sym (ap stops_at c.skip_white-3.ensures) ∙ sym c.stops.ensures ∙ c.if-stops.true)
