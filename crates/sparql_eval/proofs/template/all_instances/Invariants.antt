use Rattle.std.proofs.Common.{◌≡◌, ◌+◌, ◌*◌, ◌≤◌, ◌++◌, length, drop}
use Rattle.rdf_dataset.specs.State.{last_number}
use Rattle.sparql_eval.specs.Templates.{all_instances}
use Rattle.sparql_eval.proofs.template.all_instances.Given as goal

abbrev pub invariant-loop-row : goal.invariant-loop-row
invariant-loop-row l = record {
  room : l.next + length (drop l.row-index l.row-items) * l.blanks ≤ last_number;
  left : l.out.items ++ all_instances l.found.variables l.home l.blanks l.quads l.next (drop l.row-index l.row-items)
      ≡ all_instances l.found.variables l.home l.blanks l.quads l.first l.found.rows.items;
}
