use Rattle.sparql_solve.proofs.FewLemmas.{asked_held}
use Rattle.sparql_solve.proofs.matching.few_quads_of.Goals as goal

pub returns-clause-held : goal.returns-clause-held
returns-clause-held g c =
    asked_held (g.S.Source.contents c.args.source.now) c.args.graph.now c.args.places.now c.args.row.now _ _ _ c.in_ok-are_all.are_all
    c.new-quads.result.items c.some_matches.new.out.items c.held-subject.ensures c.held-predicate.ensures c.held-object.ensures c.new-quads.ensures.items
    c.in_ok-are_all.ensures.found
