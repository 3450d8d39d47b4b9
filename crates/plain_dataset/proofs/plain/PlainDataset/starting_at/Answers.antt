use Rattle.std.specs.FinSet as set
use Rattle.std.proofs.Common.{ap}
use Rattle.rdf_dataset.proofs.CallerLemmas.{sound_empty}
use Rattle.plain_dataset.proofs.plain.PlainDataset.starting_at.Goals as goal

pub invariant_of-result : goal.invariant_of-result
invariant_of-result c = sound_empty _ _ _ (ap set.from_list c.new.ensures) (ap set.from_list c.new-2.ensures) c.requires
