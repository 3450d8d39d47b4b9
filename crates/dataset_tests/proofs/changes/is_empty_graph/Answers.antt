use Rattle.std.proofs.Common.{◌≡◌, length, arith}
use Rattle.std.proofs.lemmas.Grind.{common_steps}
use Rattle.std.proofs.lemmas.List.{nil_from_length}
use Rattle.rdf_dataset.specs.Laws.{none_listed}
use Rattle.dataset_tests.proofs.changes.is_empty_graph.Goals as goal

pub returns-in-Ok : goal.returns-in-Ok
returns-in-Ok g c t =
    let none : length c.matches.new.out.items ≡ 0 = grind (arith, common_steps, t) in
    none_listed (g.D.Source.contents c.args.source.now) _ _ _ c.new-found.ensures.items (nil_from_length _ none) c.in-Ok.ensures.found
