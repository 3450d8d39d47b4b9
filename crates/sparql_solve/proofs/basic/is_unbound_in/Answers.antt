use Rattle.std.proofs.Common.{ap, not, ◌∙◌}
use Rattle.sparql_solve.proofs.OwnLemmas.{unbound_of}
use Rattle.sparql_solve.proofs.basic.is_unbound_in.Goals as goal

pub returns : goal.returns
returns c =
    ap not c.is_bound_in_any.ensures
    ∙ unbound_of c.args.variables.now c.args.look_up.now c.args.row.now c.len.result c.as_slice.result.now c.len.ensures c.as_slice.ensures
