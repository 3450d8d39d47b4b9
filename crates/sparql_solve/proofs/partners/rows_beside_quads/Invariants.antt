use Rattle.std.proofs.Common.{◌≡◌, ◌++◌, true}
use Rattle.std.specs.List.{flat_map, list_all}
use Rattle.std.specs.Vec.Iter.{into_iter_items}
use Rattle.sparql_values.specs.Mapping.{Mapping}
use Rattle.sparql_algebra.specs.Algebra.{element}
use Rattle.sparql_solve.specs.Partners.{asks_end, beside}
use Rattle.sparql_solve.specs.Under.{kept}
use Rattle.sparql_solve.proofs.partners.rows_beside_quads.Given as goal

abbrev pub invariant-loop-row : goal.invariant-loop-row
invariant-loop-row l =
    let vs = l.scope.variables.now in
    let made = λ (x : Mapping). kept vs (element l.member) x (beside vs l.look_up l.places l.quads (element l.member) x) in
    record {
      asks : list_all (asks_end l.is_subject l.places) (into_iter_items l.row-iterator) ≡ true;
      made : l.out.items ++ flat_map made (into_iter_items l.row-iterator) ≡ flat_map made l.fn.rows.items;
    }
