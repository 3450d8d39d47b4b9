use Rattle.std.proofs.Common.{sym, ◌∙◌}
use Rattle.sparql_solve.proofs.SharedLemmas.{agreeing_none}
use Rattle.sparql_solve.proofs.sides.compatible_rows.Goals as goal

pub returns-then-is_unbound : goal.returns-then-is_unbound
returns-then-is_unbound c = sym (agreeing_none c.args.under.now c.args.rows.items (sym c.is_unbound.ensures ∙ c.if-is_unbound.true))
