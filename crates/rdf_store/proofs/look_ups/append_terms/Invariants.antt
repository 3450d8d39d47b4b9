use Rattle.std.proofs.Common.{◌≡◌, ◌++◌, map}
use Rattle.std.specs.Map.Iter.{deref}
use Rattle.rdf_store.specs.Inside.Numbers.{term_at}
use Rattle.rdf_store.proofs.look_ups.append_terms.Given as goal

abbrev pub invariant-loop-number : goal.invariant-loop-number
invariant-loop-number l = l.out.items ≡ l.fn.out.items ++ map (term_at l.table) (map deref l.yielded)
