use Rattle.std.proofs.Common.{◌≡◌, drop}
use Rattle.sparql_eval.specs.Operations.{without_all}
use Rattle.sparql_eval.proofs.quads.remove_all.Given as goal

abbrev pub invariant-loop-quad : goal.invariant-loop-quad
invariant-loop-quad g l = record {
  beneath : l.view.under ≡ l.fn.view.under;
  left : without_all l.view.now (drop l.quad-index l.quads) ≡ without_all l.fn.view.now l.quads;
}
