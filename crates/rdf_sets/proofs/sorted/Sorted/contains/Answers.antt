use Rattle.std.proofs.Common.{◌∙◌}
use Rattle.rdf_sets.proofs.SortedLemmas.{searched_has}
use Rattle.rdf_sets.proofs.sorted.Sorted.contains.Goals as goal

pub returns : goal.returns
returns g c = c.is_ok.ensures.value ∙ searched_has g.met.T.Item.in_order g.met.T.Item.apart c.args.self.now c.args.item.now c.search.result c.search.ensures.found c.search.ensures.absent
