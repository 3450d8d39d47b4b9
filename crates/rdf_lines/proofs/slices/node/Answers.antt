use Rattle.std.proofs.Common.{refl, sym, ◌∙◌}
use Rattle.rdf_lines.specs.declared.slices.TermSlice.TheVariants.{Label, Whole}
use Rattle.rdf_lines.proofs.SliceLemmas.{iri_node, label_node}
use Rattle.rdf_lines.proofs.slices.node.Goals as goal

pub returns-then-first_is : goal.returns-then-first_is
returns-then-first_is c =
    iri_node c.args.at.now c.in_ok-iri.iri.now c.in_ok-iri.rest (Whole c.in_ok-iri.iri) (sym c.first_is.ensures ∙ c.if-first_is.true) c.in_ok-iri.ensures refl (λ known. refl)

pub returns : goal.returns
returns c =
    label_node c.args.at.now c.in_ok-label.label.now c.in_ok-label.rest (Label c.in_ok-label.label) (sym c.first_is.ensures ∙ c.if-first_is.false) c.in_ok-label.ensures refl (λ known. refl)
