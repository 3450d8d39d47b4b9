use Rattle.std.proofs.Common.{sym, ap, ◌∙◌, subst}
use Rattle.rdf_dataset.specs.Loading.{IsNetOfData}
use Rattle.rdf_dataset.specs.State.{net_between}
use Rattle.dataset_model.proofs.measure.load.Goals as goal

pub commit-requires : goal.commit-requires
commit-requires g c =
    let made = subst (IsNetOfData (g.D.Source.contents c.args.dataset.now) c.args.quads.items 0) c.in-Ok-Some.field-0-is c.in-Ok-Some.ensures in
    (_, made.1.0, made.1.1)

pub returns-in-Ok-clause-net : goal.returns-in-Ok-clause-net
returns-in-Ok-clause-net g c =
    let made = subst (IsNetOfData (g.D.Source.contents c.args.dataset.now) c.args.quads.items 0) c.in-Ok-Some.field-0-is c.in-Ok-Some.ensures in
    made.1.1 ∙ ap (net_between _) (sym (c.in-Ok.ensures _ made.1.1))

pub returns-in-Ok-clause-ends : goal.returns-in-Ok-clause-ends
returns-in-Ok-clause-ends g c =
    let made = subst (IsNetOfData (g.D.Source.contents c.args.dataset.now) c.args.quads.items 0) c.in-Ok-Some.field-0-is c.in-Ok-Some.ensures in
    (_, c.sources_are_sound.ensures, made.1.1 ∙ ap (net_between _) (sym (c.in-Ok.ensures _ made.1.1)))
