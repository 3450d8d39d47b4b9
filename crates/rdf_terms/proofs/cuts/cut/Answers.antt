use Rattle.std.proofs.Common.{sym, ◌∙◌}
use Rattle.rdf_terms.proofs.CutLemmas.{some_place, none_place, take_rest_of}
use Rattle.rdf_terms.proofs.cuts.cut.Goals as goal

pub returns-in-Some-clause-before : goal.returns-in-Some-clause-before
returns-in-Some-clause-before c = (some_place c.args.mark c.args.text.now c.in-Some.place (sym c.in-Some.is ∙ c.first_place.ensures.first)).0

pub returns-in-Some-clause-after : goal.returns-in-Some-clause-after
returns-in-Some-clause-after c =
    take_rest_of c.args.text.now c.in-Some.place ∙ (some_place c.args.mark c.args.text.now c.in-Some.place (sym c.in-Some.is ∙ c.first_place.ensures.first)).1

pub returns-in-None-clause-before : goal.returns-in-None-clause-before
returns-in-None-clause-before c = (none_place c.args.mark c.args.text.now (sym c.in-None.is ∙ c.first_place.ensures.first)).0

pub returns-in-None-clause-after : goal.returns-in-None-clause-after
returns-in-None-clause-after c = (none_place c.args.mark c.args.text.now (sym c.in-None.is ∙ c.first_place.ensures.first)).1
