use Rattle.std.proofs.Common.{◌≡◌, map, IsTrue}
use Rattle.std.specs.List.{list_all}
use Rattle.std.specs.Vec.Iter.{into_iter_items}
use Rattle.sparql_grammar.specs.Proper.{holds, proper_part}
use Rattle.sparql_syntax.specs.Meaning as spec
use Rattle.sparql_syntax.proofs.drafts.add_all.Given as goal

abbrev pub invariant-loop-part : goal.invariant-loop-part
invariant-loop-part l = record {
  steps : (goal.iterator-loop-part).can_next l.part-iterator;
  ends : (goal.iterator-loop-part).is_finite l.part-iterator;
  rest : spec.drafts_behind l.fn.drafts l.fn.parts.items l.fn.scope.prologue ≡ spec.drafts_behind l.drafts (into_iter_items l.part-iterator) l.scope.prologue;
  proper : IsTrue (list_all holds (map proper_part (into_iter_items l.part-iterator)));
}
