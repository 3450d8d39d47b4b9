use Rattle.std.proofs.Common.{refl, sym, ◌∙◌}
use Rattle.rdf_lines.specs.declared.slices.TermSlice.TheVariants.{Whole}
use Rattle.rdf_lines.proofs.SliceLemmas.{literal_object, node_objects}
use Rattle.rdf_lines.proofs.slices.object.Goals as goal

pub returns-then-first_is : goal.returns-then-first_is
returns-then-first_is c =
    literal_object c.args.at.now c.in_ok-literal.literal.now c.in_ok-literal.rest (Whole c.in_ok-literal.literal) (sym c.first_is.ensures ∙ c.if-first_is.true) c.in_ok-literal.ensures refl (λ known. refl)

pub returns : goal.returns
returns c = node_objects c.args.at.now c.node.result (sym c.first_is.ensures ∙ c.if-first_is.false) c.node.ensures
