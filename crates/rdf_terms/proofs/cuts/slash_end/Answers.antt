use Rattle.std.proofs.Common.{◌-◌, arith}
use Rattle.rdf_terms.proofs.CutLemmas.{end_back, end_found}
use Rattle.rdf_terms.proofs.cuts.slash_end.Goals as goal

pub loop-end-preserved : goal.loop-end-preserved
loop-end-preserved c =
    (omega arith, end_back c.args.text.now (c.loop-end.end - 1) c.loop-end.end (omega arith) c.loop-end.invariant.0 c.if-text-end-ne47.true c.loop-end.invariant.1)

pub returns-else-text-end-ne47-clause-front : goal.returns-else-text-end-ne47-clause-front
returns-else-text-end-ne47-clause-front c =
    end_found c.args.text.now (c.loop-end.end - 1) c.loop-end.end (omega arith) c.loop-end.invariant.0 c.if-text-end-ne47.false c.loop-end.invariant.1
