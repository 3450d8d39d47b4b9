use Rattle.std.proofs.lemmas.Result.{err_from_is_err_and}
use Rattle.sparql_eval.proofs.UnreadLemmas.{tells_later, tells_sooner}
use Rattle.sparql_eval.proofs.net.net_behind.Goals as goal

pub returns-in_err-apply_each-clause-refused : goal.returns-in_err-apply_each-clause-refused
returns-in_err-apply_each-clause-refused g c =
    let p = err_from_is_err_and c.from_residual.result c.from_residual.ensures.1 in
    rw (p.1, p.2) (tells_sooner c.args.staged.now.now c.args.read.now c.args.last.now c.in_err-apply_each.field-0.0 c.in_err-apply_each.ensures.refused)

pub returns-in_err-net_of_last-clause-refused : goal.returns-in_err-net_of_last-clause-refused
returns-in_err-net_of_last-clause-refused g c =
    let p = err_from_is_err_and c.from_residual-in_err-net_of_last.result c.from_residual-in_err-net_of_last.ensures.1 in
    rw (p.1, p.2)
    (tells_later c.args.staged.now.now c.apply_each.new.staged.now c.args.read.now c.args.last.now c.in_err-net_of_last.field-0.0
    c.in_ok-apply_each.ensures.leads c.in_err-net_of_last.ensures.refused)
