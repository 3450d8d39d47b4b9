use Rattle.std.proofs.Common.{arith, length, sym}
use Rattle.std.proofs.lemmas.Grind.{get_or_default_zero}
use Rattle.std.proofs.lemmas.Result.{IfOk-weaker}
use Rattle.sparql_solve.proofs.FlagLemmas.{masked_cut, masked_first, masked_further}
use Rattle.sparql_solve.proofs.mappings.Mapping.masked.Goals as goal

pub returns-in_default : goal.returns-in_default
returns-in_default c =
    IfOk-weaker c.cut.result _ _
    (λ out h. masked_cut c.args.flags.now c.args.self.now c.in_ok-copy.field-0 out c.len.result h c.in_ok-copy.ensures c.len.ensures c.in_default.ensures.all)
    c.cut.ensures

pub loop-column-init : goal.loop-column-init
loop-column-init c =
    masked_first c.in-Some.columns.now (length c.args.flags.now) c.min.result c.args.self.now c.in_ok-out.out
    (omega (arith, c.min.ensures, c.len-2.ensures, c.len-3.ensures)) c.in_ok-out.ensures

pub loop-column-preserved : goal.loop-column-preserved
loop-column-preserved c =
    masked_further c.in-Some.columns.now c.loop-column.column-index (length c.args.flags.now) _ c.args.self.now c.loop-column.out c.put_copy.new.self
    c.loop-column-test.true (sym (get_or_default_zero _ _ _ c.loop-column-test.true)) c.loop-column.invariant c.in_ok-put_copy.ensures
