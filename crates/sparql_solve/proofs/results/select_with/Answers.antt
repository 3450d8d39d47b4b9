use Rattle.std.proofs.Common.{refl}
use Rattle.sparql_solve.proofs.ResultLemmas.{selected}
use Rattle.sparql_solve.proofs.results.select_with.Goals as goal

pub returns : goal.returns
returns g c =
    selected c.args.query.now (g.S.Source.contents c.args.source.now) c.in_ok-found.found.variables c.in_ok-found.found.variables c.as_slice.result.now
    c.in_ok-found.found.rows.items c.in_ok-found.found.rows.items c.in_ok-fewer.fewer.items c.in_ok-ordered.field-0.items c.in_ok-columns.columns.items
    c.as_slice-2.result.now c.in_ok-found.ensures refl c.as_slice.ensures c.in_ok-columns.ensures c.as_slice-2.ensures.value
    refl c.in_ok-fewer.ensures c.in_ok-ordered.ensures.sorted c.in_ok-ordered.ensures.counted
