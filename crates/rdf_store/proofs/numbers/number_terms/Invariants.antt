use Rattle.std.proofs.Common.{take}
use Rattle.rdf_store.specs.Inside.Numbers.{IsGrown, AreIds}
use Rattle.rdf_store.proofs.numbers.number_terms.Given as goal

abbrev pub invariant-loop-term : goal.invariant-loop-term
invariant-loop-term l = record {
  numbers : AreIds l.table l.numbers.items (take l.term-index l.terms);
  grown : IsGrown l.fn.table l.table;
}
