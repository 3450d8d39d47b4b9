use Rattle.std.proofs.Common.{◌≡◌, map, take}
use Rattle.rdf_store.specs.Inside.Ranks.{parts_ranked, terms_in}
use Rattle.rdf_store.proofs.ranks.Ranks.quads.Given as goal

abbrev pub invariant-loop-ranked : goal.invariant-loop-ranked
invariant-loop-ranked l = l.quads.items ≡ map (parts_ranked (terms_in l.self.terms.items)) (take l.ranked-index l.all)
