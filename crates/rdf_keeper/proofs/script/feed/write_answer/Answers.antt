use Rattle.std.proofs.lemmas.Result.{err_from_is_err_and}
use Rattle.rdf_streams.proofs.DeviceLemmas.Written.{first_fails, then_writes}
use Rattle.rdf_keeper.proofs.script.feed.write_answer.Goals as goal

pub returns-in_err-write_on : goal.returns-in_err-write_on
returns-in_err-write_on g c =
    let p = err_from_is_err_and c.from_residual.result c.from_residual.ensures.1 in
    rw p.1 (first_fails g.D.Device.step _ _ _ _ p.0 (rw c.as_slice.ensures.value at c.in_err-write_on.ensures))

pub returns : goal.returns
returns g c =
    let first = rw c.as_slice.ensures.value at c.in_ok-write_on.ensures in
    rw (← c.as_slice-2.ensures.value) (then_writes g.D.Device.step _ _ _ _ _ c.write_on-2.result first c.write_on-2.ensures)
