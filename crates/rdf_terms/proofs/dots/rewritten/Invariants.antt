use Rattle.std.proofs.Common.{◌≤◌, ◌++◌, length}
use Rattle.rdf_terms.specs.Rewriting.{written}
use Rattle.rdf_terms.proofs.DotLemmas.{DoneSoFar}
use Rattle.rdf_terms.proofs.dots.rewritten.Given as goal

abbrev pub invariant-loop-input : goal.invariant-loop-input
invariant-loop-input l = record {
  so_far : DoneSoFar (l.front ++ l.path) l.input (written l.front l.output);
  kept : l.output.kept ≤ length l.front;
}

abbrev pub decreases-loop-input : goal.decreases-loop-input
decreases-loop-input l = length l.input
