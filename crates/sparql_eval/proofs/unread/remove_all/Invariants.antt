use Rattle.std.proofs.Common.{◌≡◌, drop}
use Rattle.sparql_eval.specs.Operations.{without_all}
use Rattle.sparql_eval.proofs.unread.remove_all.Given as goal

abbrev pub invariant-loop-quad : goal.invariant-loop-quad
invariant-loop-quad g l = record {
  beneath : l.less.under ≡ l.fn.unread.under;
  left : without_all l.less.now (drop l.quad-index l.quads) ≡ without_all l.fn.unread.now l.quads;
}
