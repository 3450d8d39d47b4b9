use Rattle.std.proofs.Common.{◌≡◌, ◌+◌, ◌≤◌, length}
use Rattle.rdf_tokens.specs.Lines.{line_ends}
use Rattle.rdf_tokens.proofs.line.line_at.Given as goal

abbrev pub invariant-loop-rest : goal.invariant-loop-rest
invariant-loop-rest l = record {
  count : l.line + line_ends l.rest ≡ 1 + line_ends l.initial.rest;
  small : l.line + length l.rest ≤ 1 + length l.initial.rest;
}

abbrev pub decreases-loop-rest : goal.decreases-loop-rest
decreases-loop-rest l = length l.rest
