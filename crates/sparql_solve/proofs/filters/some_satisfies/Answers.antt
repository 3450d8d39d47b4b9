use Rattle.std.proofs.Common.{sym, ◌∙◌}
use Rattle.sparql_algebra.specs.Solutions.{satisfies}
use Rattle.sparql_solve.proofs.FilterLemmas.{passes_here, fails_here, none_passes}
use Rattle.sparql_solve.proofs.filters.some_satisfies.Goals as goal

pub returns-then-branch : goal.returns-then-branch
returns-then-branch c =
    passes_here (satisfies c.args.scope.now.variables.now c.args.filters.now) c.args.rows.now c.loop-row.row-index c.row-item.result c.loop-row-test.true c.row-item.is
    (sym c.in_ok-satisfies.ensures ∙ c.if-branch.true) c.loop-row.invariant

pub loop-row-preserved : goal.loop-row-preserved
loop-row-preserved c =
    fails_here (satisfies c.args.scope.now.variables.now c.args.filters.now) c.args.rows.now c.loop-row.row-index c.row-item.result c.loop-row-test.true c.row-item.is
    (sym c.in_ok-satisfies.ensures ∙ c.if-branch.false) c.loop-row.invariant

pub returns : goal.returns
returns c = none_passes (satisfies c.args.scope.now.variables.now c.args.filters.now) c.args.rows.now c.loop-row.row-index c.loop-row-test.false c.loop-row.invariant
