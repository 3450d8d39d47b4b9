use Rattle.std.proofs.Common.{◌++◌, List, ap, sym, ◌∙◌}
use Rattle.std.proofs.lemmas.Result.{IfOk-weaker}
use Rattle.sparql_algebra.specs.Algebra.{element}
use Rattle.sparql_algebra.specs.Solutions.{or_alone}
use Rattle.sparql_values.specs.Mapping.{Mapping}
use Rattle.sparql_solve.proofs.PartnerLemmas.{joined_beside, optional_beside, quads_of, removed_beside}
use Rattle.sparql_solve.proofs.partners.append_beside.Goals as goal

pub returns-then-is_removed : goal.returns-then-is_removed
returns-then-is_removed c =
    IfOk-weaker c.append_left.result _ _
    (λ x e. e ∙ ap (λ (ms : List Mapping). c.args.out.now.items ++ ms)
    (removed_beside c.args.scope.now.variables.now c.args.look_up.now c.args.places.now (quads_of c.args.bins.now.all.items) c.args.row (element c.args.member.now)
    (sym c.is_removed.ensures ∙ c.if-is_removed.true)))
    c.append_left.ensures

pub returns-then-is_joined : goal.returns-then-is_joined
returns-then-is_joined c =
    IfOk-weaker c.append_moved.result _ _
    (λ x e. e ∙ ap (λ (ms : List Mapping). c.args.out.now.items ++ ms)
    (c.partners-quads.ensures.same
    ∙ joined_beside c.args.scope.now.variables.now c.args.look_up.now c.args.places.now (quads_of c.args.bins.now.all.items) c.args.row (element c.args.member.now)
    (sym c.is_joined.ensures ∙ c.if-is_joined.true)))
    c.append_moved.ensures

pub returns : goal.returns
returns c =
    IfOk-weaker c.append_optional.result _ _
    (λ x e. e ∙ ap (λ (ms : List Mapping). c.args.out.now.items ++ ms)
    (ap (or_alone c.args.row) c.partners-quads.ensures.same
    ∙ optional_beside c.args.scope.now.variables.now c.args.look_up.now c.args.places.now (quads_of c.args.bins.now.all.items) c.args.row (element c.args.member.now)
    (sym c.is_removed.ensures ∙ c.if-is_removed.false) (sym c.is_joined.ensures ∙ c.if-is_joined.false) c.requires.free))
    c.append_optional.ensures
