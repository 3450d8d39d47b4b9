use Rattle.std.proofs.Common.{Bool, List, [], ◌∷◌, ◌++◌, ap, ◌∙◌, refl}
use Rattle.std.proofs.lemmas.Result.{IfOk-weaker}
use Rattle.sparql_algebra.specs.Algebra.{element}
use Rattle.sparql_values.specs.Mapping.{Mapping}
use Rattle.sparql_solve.specs.Under.{masked, own_columns}
use Rattle.sparql_solve.proofs.StepLemmas.{begins_front, front_block, served_made}
use Rattle.sparql_solve.proofs.sides.first_looked_up.Goals as goal

pub returns-then-not-is_shared-clause-begins : goal.returns-then-not-is_shared-clause-begins
returns-then-not-is_shared-clause-begins g c =
    IfOk-weaker c.looked_up_alone.result _ _
    (λ out h. begins_front c.args.evaluation.now.scope.variables.now (g.S.Source.contents c.args.evaluation.now.source.now) c.args.graph.now c.args.under.now (element c.args.member.now)
    c.args.rest.now.items (c.in-Some.row ∷ []) c.pop_front.new.self.items out.items c.in-Some.ensures.items h)
    c.looked_up_alone.ensures

pub returns-clause-begins : goal.returns-clause-begins
returns-clause-begins g c =
    let row = c.in-Some.row in
    let behind = c.in_ok-behind.behind.items in
    let block = c.deref.result.now in
    let is_block = c.deref.ensures.value ∙ c.in_ok-append.ensures.items
    ∙ ap (λ (xs : List Mapping). xs ++ behind) (c.in_ok-push.ensures.items ∙ ap (λ (xs : List Mapping). xs ++ row ∷ []) c.new-served.ensures.items) in
    IfOk-weaker c.rows_one_by_one.result _ _
    (λ out e. begins_front c.args.evaluation.now.scope.variables.now (g.S.Source.contents c.args.evaluation.now.source.now) c.args.graph.now c.args.under.now (element c.args.member.now)
    c.args.rest.now.items block c.served_rows.new.rest.items out.items
    (front_block c.args.rest.now.items c.pop_front.new.self.items behind c.served_rows.new.rest.items block row c.in-Some.ensures.items
    c.in_ok-behind.ensures.taken is_block)
    (served_made c.args.evaluation.now.scope.variables.now (g.S.Source.contents c.args.evaluation.now.source.now) c.args.graph.now c.args.under.now (element c.args.member.now)
    c.args.look_up.now (own_columns c.args.evaluation.now.scope.variables.now c.args.look_up.now) c.in_ok-key.key row behind block c.in_ok-found.found.items
    c.deref-2.result.now out.items refl
    (c.in_ok-key.ensures ∙ ap (λ (flags : List Bool). masked flags row) c.in_ok-own.ensures)
    (c.is_shared.ensures c.if-not-is_shared.false) c.requires.gives c.requires.counts is_block c.in_ok-behind.ensures.served c.in_ok-found.ensures
    c.deref-2.ensures.value e))
    c.rows_one_by_one.ensures
