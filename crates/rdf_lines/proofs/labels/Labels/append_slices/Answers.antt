use Rattle.std.proofs.Common.{ap, ◌∙◌, ◌++◌, ℕ, List}
use Rattle.rdf_lines.proofs.SliceLemmas.{in_parts, slices_line}
use Rattle.rdf_lines.proofs.labels.Labels.append_slices.Goals as goal

pub returns-clause-text : goal.returns-clause-text
returns-clause-text c s are =
    in_parts c.args.out.now.items _ _ _ _ _ _ _ _ _ _ c.in_ok-append_slice.ensures.text c.in_ok-append_text.ensures.ok c.in_ok-append_slice-2.ensures.text c.in_ok-append_graph_slice.ensures.text c.in_ok-extend_from_slice.ensures.items
    ∙ ap (λ (t : List ℕ). c.args.out.now.items ++ t)
    (slices_line c.args.slices.now s are _ _ _ _ c.in_ok-append_slice.ensures.labels c.in_ok-append_slice-2.ensures.labels c.in_ok-append_graph_slice.ensures.labels)
