use Rattle.std.proofs.Common.{ap, ◌∙◌}
use Rattle.std.proofs.lemmas.List.{take_rest}
use Rattle.rdf_terms.specs.Cuts.{before}
use Rattle.rdf_terms.proofs.CutLemmas.{first_within}
use Rattle.rdf_terms.proofs.dots.first_len.Goals as goal

pub returns-clause-within : goal.returns-clause-within
returns-clause-within c =
    first_within 47 c.args.input.now c.cut.result.0.now c.requires (c.cut.ensures.before ∙ ap (before 47) (take_rest c.args.input.now 1))
