use Rattle.std.proofs.Common.{take}
use Rattle.rdf_store.specs.Inside.Numbers.{IsGrown, AreKeys}
use Rattle.rdf_store.proofs.numbers.number_quads.Given as goal

abbrev pub invariant-loop-quad : goal.invariant-loop-quad
invariant-loop-quad l = record {
  numbers : AreKeys l.table l.keys.items (take l.quad-index l.quads);
  grown : IsGrown l.fn.table l.table;
}
