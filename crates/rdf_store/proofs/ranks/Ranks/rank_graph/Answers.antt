use Rattle.std.proofs.Common.{◌≡◌, ◌+◌, arith}
use Rattle.rdf_store.proofs.RankLemmas.{graph_stands_is}
use Rattle.rdf_store.proofs.ranks.Ranks.rank_graph.Goals as goal

pub returns-clause-is : goal.returns-clause-is
returns-clause-is c =
    let e : c.args.number ≡ c.in-Some.name + 1 = omega (arith, c.in-Some.ensures.0, c.in-Some.ensures.1) in
    graph_stands_is c.args.table.now c.args.self.now.terms.items c.in_ok-place.place c.args.number c.in-Some.name e c.requires.numbered c.in_ok-place.ensures
