use Rattle.std.proofs.Common.{ap, ◌∙◌}
use Rattle.rdf_store.specs.Inside.Numbers.{shown}
use Rattle.rdf_store.proofs.StoreLemmas.{kept_nothing, shown_nothing}
use Rattle.rdf_store.proofs.store.Store.new.Goals as goal

pub invariant_of-result : goal.invariant_of-result
invariant_of-result c = rw c.new-2.ensures (kept_nothing _)

pub returns : goal.returns
returns c = ap (shown c.new.result) c.new-2.ensures ∙ shown_nothing _
