use Rattle.sparql_values.proofs.ColumnsLemmas.{at_Fork, sets_left, sets_right}
use Rattle.sparql_values.proofs.columns.Columns.+set_in_parts.Goals as goal
use Rattle.sparql_values.proofs.columns.Columns.+set_in_parts.Goals.{then-column-many, else-column-many}

pub returns-after-column-many : goal.returns-after-column-many
returns-after-column-many t c =
    let at = at_Fork c.self.view_is c.self.invariant c.in-Fork.is in
    elim c.if-column-many.branch [
      | then-column-many w ↦ rw (w.self-inside-is, w.result-is) (sets_left _ at w.if-column-many.true (rw w.deref_mut.ensures.value at w.set_in_parts.ensures)).is
      | else-column-many w ↦
          rw (w.self-inside-is, w.result-is) (sets_right _ at w.if-column-many.false (rw w.deref_mut-else-column-many.ensures.value at w.set_in_parts-else-column-many.ensures)).is
    ]

pub invariant_of-self-in-Fork : goal.invariant_of-self-in-Fork
invariant_of-self-in-Fork t c =
    let at = at_Fork c.self.view_is c.self.invariant c.in-Fork.is in
    elim c.if-column-many.branch [
      | then-column-many w ↦ rw w.self-inside-is (sets_left _ at w.if-column-many.true (rw w.deref_mut.ensures.value at w.set_in_parts.ensures)).fork
      | else-column-many w ↦
          rw w.self-inside-is (sets_right _ at w.if-column-many.false (rw w.deref_mut-else-column-many.ensures.value at w.set_in_parts-else-column-many.ensures)).fork
    ]
