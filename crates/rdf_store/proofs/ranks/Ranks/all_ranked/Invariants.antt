use Rattle.std.proofs.Common.{◌≡◌, map}
use Rattle.std.specs.Prelude.{All}
use Rattle.rdf_store.specs.Inside.Numbers.{parts_of}
use Rattle.rdf_store.specs.Inside.Ranks.{HasRanks, parts_ranked, terms_in}
use Rattle.rdf_store.proofs.ranks.Ranks.all_ranked.Given as goal

abbrev pub invariant-loop-key : goal.invariant-loop-key
invariant-loop-key l = record {
  has : All (HasRanks (terms_in l.self.terms.items)) l.all.items;
  are : map (parts_ranked (terms_in l.self.terms.items)) l.all.items ≡ map (parts_of l.table) l.yielded;
}
