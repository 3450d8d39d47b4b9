use Rattle.std.proofs.Common.{◌∙◌}
use Rattle.rdf_terms.proofs.CutLemmas.{drop_before, take_before, front_within}
use Rattle.rdf_terms.proofs.reference.split_authority.Goals as goal

pub split_at-requires : goal.split_at-requires
split_at-requires c = front_within 47 c.args.rest.now c.cut.result.0.now c.cut.ensures.before

pub returns-clause-authority : goal.returns-clause-authority
returns-clause-authority c = c.split_at.ensures.front ∙ take_before 47 c.args.rest.now c.cut.result.0.now c.cut.ensures.before

pub returns-clause-path : goal.returns-clause-path
returns-clause-path c = c.split_at.ensures.back ∙ drop_before 47 c.args.rest.now c.cut.result.0.now c.cut.ensures.before
