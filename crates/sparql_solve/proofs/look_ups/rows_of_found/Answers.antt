use Rattle.std.proofs.Common.{◌≡◌, Some, None}
use Rattle.std.proofs.lemmas.Result.{IfOk-weaker}
use Rattle.sparql_solve.proofs.OnceLemmas.{found_gives, found_had}
use Rattle.sparql_solve.proofs.look_ups.rows_of_found.Goals as goal

none_some : {X : Type 0} {x : X} → None ≡ Some x → ⊥
none_some e = cc

pub unreachable-requires : goal.unreachable-requires
unreachable-requires g c = none_some (c.in_default.ensures.all c.requires.places c.requires.alone)

pub copies_grown-requires : goal.copies_grown-requires
copies_grown-requires g c =
    found_had c.args.evaluation.now.scope.variables.now (g.S.Source.contents c.args.evaluation.now.source.now) c.args.look_up.now c.in-Some.places.now
    c.in_ok-unbound.unbound c.in_ok-nothing.nothing c.args.quads.items c.requires c.in-Some.ensures.alone c.in_ok-unbound.ensures c.in_ok-nothing.ensures

pub returns : goal.returns
returns g c =
    IfOk-weaker c.cut_rows.result _ _
    (λ out e. found_gives c.args.evaluation.now.scope.variables.now (g.S.Source.contents c.args.evaluation.now.source.now) c.args.look_up.now c.in-Some.places.now
    c.in_ok-unbound.unbound c.in_ok-nothing.nothing c.args.quads.items c.requires c.in-Some.ensures.alone c.in_ok-unbound.ensures c.in_ok-nothing.ensures
    c.len-columns.result c.in_ok-rows.rows.items out.items c.in_ok-rows.ensures e c.len-columns.ensures)
    c.cut_rows.ensures
