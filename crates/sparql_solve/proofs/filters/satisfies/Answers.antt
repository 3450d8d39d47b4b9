use Rattle.std.proofs.Common.{◌≡◌, true, false, ◌&&◌, ◌+◌, drop, sym, ap, ◌∙◌}
use Rattle.sparql_algebra.specs.Solutions.{satisfies}
use Rattle.sparql_solve.proofs.FilterLemmas.{asked}
use Rattle.sparql_solve.proofs.filters.satisfies.Goals as goal

pub returns-then-not-branch : goal.returns-then-not-branch
returns-then-not-branch c =
    let vs = c.args.scope.now.variables.now in
    let rest = satisfies vs (drop (c.loop-filter.filter-index + 1) c.args.filters.now) c.args.row.now in
    let fails : c.in_ok-is_satisfied.field-0 ≡ false = cc in
    ap (λ b. b && rest) (sym fails)
    ∙ asked vs c.args.filters.now c.loop-filter.filter-index c.filter-item.result c.args.row.now c.columns.result.now c.in_ok-is_satisfied.field-0
    (satisfies vs c.args.filters.now c.args.row.now) c.loop-filter-test.true c.filter-item.is c.loop-filter.invariant c.columns.ensures
    c.in_ok-is_satisfied.ensures

pub loop-filter-preserved : goal.loop-filter-preserved
loop-filter-preserved c =
    let vs = c.args.scope.now.variables.now in
    let rest = satisfies vs (drop (c.loop-filter.filter-index + 1) c.args.filters.now) c.args.row.now in
    let holds : c.in_ok-is_satisfied.field-0 ≡ true = cc in
    ap (λ b. b && rest) (sym holds)
    ∙ asked vs c.args.filters.now c.loop-filter.filter-index c.filter-item.result c.args.row.now c.columns.result.now c.in_ok-is_satisfied.field-0
    (satisfies vs c.args.filters.now c.args.row.now) c.loop-filter-test.true c.filter-item.is c.loop-filter.invariant c.columns.ensures
    c.in_ok-is_satisfied.ensures
