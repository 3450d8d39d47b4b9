use Rattle.std.proofs.Common.{◌∙◌, ap, sym, is_some}
use Rattle.std.proofs.lemmas.Option.{same_Some}
use Rattle.rdf_dataset.specs.Insertion.{graph_from, term_from}
use Rattle.rdf_dataset.proofs.InsertionLemmas.{quad_from-made}
use Rattle.rdf_dataset.proofs.insertion.quad_from.Goals as goal

pub unwrap-requires : goal.unwrap-requires
unwrap-requires c =
    let parts = c.into_parts-graph.ensures.value in
    ap is_some
    (quad_from-made c.args.first c.args.quad _ _ _ _ _
    (c.graph_from.ensures ∙ ap (λ r. graph_from c.args.first r.0) parts)
    (c.term_from.ensures ∙ ap (λ r. term_from c.args.first r.1) parts)
    (c.term_from-2.ensures ∙ ap (λ r. term_from c.args.first r.2) parts)
    (c.term_from-3.ensures ∙ ap (λ r. term_from c.args.first r.3) parts)
    c.new-moved.ensures c.into_parts-graph.ensures.sound)

pub returns : goal.returns
returns c =
    let parts = c.into_parts-graph.ensures.value in
    same_Some _ _
    (sym c.unwrap.ensures ∙ quad_from-made c.args.first c.args.quad _ _ _ _ _
    (c.graph_from.ensures ∙ ap (λ r. graph_from c.args.first r.0) parts)
    (c.term_from.ensures ∙ ap (λ r. term_from c.args.first r.1) parts)
    (c.term_from-2.ensures ∙ ap (λ r. term_from c.args.first r.2) parts)
    (c.term_from-3.ensures ∙ ap (λ r. term_from c.args.first r.3) parts)
    c.new-moved.ensures c.into_parts-graph.ensures.sound)
