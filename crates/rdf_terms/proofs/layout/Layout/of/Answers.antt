use Rattle.std.proofs.Common.{◌≤◌, ◌+◌, length, ◌∙◌, ap, refl, arith, rules}
use Rattle.rdf_terms.specs.Rewriting.{components_of}
use Rattle.rdf_terms.proofs.LayoutLemmas.{parts_within, layout_found}
use Rattle.rdf_terms.proofs.layout.Layout.of.Goals as goal

pub overflow_sub-query_end : goal.overflow_sub-query_end
overflow_sub-query_end c =
    let parts = c.parts.view_is ∙ c.of-parts.ensures ∙ ap components_of c.split_scheme.ensures.rest in
    let within = parts_within c.args.base.now _ c.marked_len.result _ _ c.requires parts c.marked_len.ensures refl refl in
    omega arith

pub overflow_sub-path_end : goal.overflow_sub-path_end
overflow_sub-path_end c =
    let parts = c.parts.view_is ∙ c.of-parts.ensures ∙ ap components_of c.split_scheme.ensures.rest in
    let within = parts_within c.args.base.now _ c.marked_len.result c.marked_len-2.result _ c.requires parts c.marked_len.ensures c.marked_len-2.ensures refl in
    omega arith

pub overflow_sub-result : goal.overflow_sub-result
overflow_sub-result c =
    let parts = c.parts.view_is ∙ c.of-parts.ensures ∙ ap components_of c.split_scheme.ensures.rest in
    let within : length c.parts.inside.path.now + c.marked_len-2.result + c.marked_len.result ≤ length c.args.base.now =
    parts_within c.args.base.now _ c.marked_len.result c.marked_len-2.result _ c.requires parts c.marked_len.ensures c.marked_len-2.ensures refl in
    omega arith

pub returns : goal.returns
returns c =
    let parts = c.parts.view_is ∙ c.of-parts.ensures ∙ ap components_of c.split_scheme.ensures.rest in
    layout_found c.args.base.now _ _ c.marked_len.result c.marked_len-2.result _ c.requires parts c.marked_len.ensures c.marked_len-2.ensures refl (search rules) refl refl refl refl
