use Rattle.std.proofs.Common.{◌≡◌, ◌+◌, ◌-◌, arith, length, subst}
use Rattle.std.specs.Prelude.{Some, slice_get}
use Rattle.rdf_orders.specs.Quads.{quad_of}
use Rattle.rdf_store.proofs.NameLemmas.{last_name}
use Rattle.rdf_store.proofs.quad_list.add_name.Goals as goal

pub returns-then-is_last : goal.returns-then-is_last
returns-then-is_last c =
    let e : (quad_of c.args.key.now).graph ≡ c.in-Some.name + 1 = omega (arith, c.in-Some.ensures) in
    let h : slice_get c.args.names.now.items (length c.args.names.now.items - 1) ≡ Some c.in-Some.name =
    subst (λ names. slice_get names (length names - 1) ≡ Some c.in-Some.name) c.deref.ensures.value (c.is_last.ensures c.if-is_last.true) in
    last_name c.args.names.now.items (quad_of c.args.key.now).graph c.in-Some.name (length c.args.names.now.items - 1) e h
