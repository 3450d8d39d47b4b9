use Rattle.std.proofs.Common.{◌≡◌, ap}
use Rattle.std.specs.Prelude.{None, Some}
use Rattle.rdf_orders.specs.Quads.{quad_of}
use Rattle.rdf_store.specs.Inside.Numbers.{parts_of}
use Rattle.rdf_store.proofs.NumberLemmas.{made}
use Rattle.rdf_store.proofs.numbers.quad_from.Goals as goal

pub unreachable-requires : goal.unreachable-requires
unreachable-requires c =
    let e : None ≡ Some (parts_of c.args.table.now c.args.key.now) =
    made c.args.table.now (quad_of c.args.key.now) _ _ _ _ _ c.requires c.in_ok-graph.ensures c.in_ok-subject.ensures
    (ap (λ r. r.0) c.in_ok-predicate.ensures) (ap (λ r. r.1) c.in_ok-predicate.ensures) c.in-None.ensures in
    cc

pub returns : goal.returns
returns c =
    let e : Some c.in-Some.quad ≡ Some (parts_of c.args.table.now c.args.key.now) =
    made c.args.table.now (quad_of c.args.key.now) _ _ _ _ _ c.requires c.in_ok-graph.ensures c.in_ok-subject.ensures
    (ap (λ r. r.0) c.in_ok-predicate.ensures) (ap (λ r. r.1) c.in_ok-predicate.ensures) c.in-Some.ensures in
    cc
