use Rattle.rdf_terms.proofs.TagLemmas.{is_literal-tagged}
use Rattle.rdf_terms.proofs.literal.with_tag.Goals as goal

pub invariant_of-result : goal.invariant_of-result
invariant_of-result c =
    rw c.in_ok-new.ensures (is_literal-tagged c.args.lexical c.args.datatype c.args.tag.now c.in_ok-lowered.field-0
    (rw (← c.drop.view_is) c.drop.invariant) (rw (← c.drop-2.view_is) c.drop-2.invariant)
    c.requires.language c.requires.is_one c.in_ok-lowered.ensures)
