use Rattle.std.proofs.Common.{subst, sym, None, ◌∙◌}
use Rattle.rdf_lines.specs.Inside.Slices.{ReadsGraph}
use Rattle.rdf_lines.proofs.SliceLemmas.{no_graph, some_graph}
use Rattle.rdf_lines.proofs.slices.graph.Goals as goal

pub returns-then-begins_graph : goal.returns-then-begins_graph
returns-then-begins_graph c =
    some_graph c.args.format c.args.at.now c.in_ok-place.rest c.in_ok-place.place (sym c.begins_graph.ensures ∙ c.if-begins_graph.true) c.in_ok-place.ensures

pub returns : goal.returns
returns c =
    subst (ReadsGraph c.args.format c.args.at.now None) (sym c.fork.ensures) (no_graph c.args.format c.args.at.now (sym c.begins_graph.ensures ∙ c.if-begins_graph.false))
