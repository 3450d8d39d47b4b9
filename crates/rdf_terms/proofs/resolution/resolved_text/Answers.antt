use Rattle.rdf_terms.proofs.ResolutionLemmas.{text_made}
use Rattle.rdf_terms.proofs.resolution.resolved_text.Goals as goal

pub returns : goal.returns
returns c =
    text_made c.args.base.now c.args.reference.now _ _ _ _ _ _ _ _ c.push_to.new.out.items c.split_scheme.ensures.scheme c.split_scheme.ensures.rest c.of-base.ensures c.of-reference.ensures c.with_path-target.ensures
    c.new-text.ensures.items c.in_ok-extend_from_slice.ensures.items c.in_ok-push.ensures.items c.in_ok-push_to.ensures
