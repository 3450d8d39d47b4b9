use Rattle.std.proofs.Common.{◌≡◌, ◌++◌, ℕ, List, arith, subst, sym, take}
use Rattle.std.specs.Prelude.{All}
use Rattle.rdf_orders.specs.Quads.{quad_of}
use Rattle.rdf_store.specs.Inside.Numbers.{HasTerms}
use Rattle.rdf_store.proofs.RunLemmas.{front_held, further_parted}
use Rattle.rdf_store.proofs.look_ups.append_front.Goals as goal

pub append_all-requires : goal.append_all-requires
append_all-requires c =
    front_held (λ key. HasTerms c.args.table.now (quad_of key)) c.args.run.now.left (take c.first_keys-front.result.many c.first_keys-front.new.keys) c.first_keys-front.new.run.left
    c.first_keys-front.ensures.parted c.requires

pub append_all-requires-2 : goal.append_all-requires-2
append_all-requires-2 c =
    let parted : c.args.run.now.left ≡ c.more_keys.new.keys.items ++ c.more_keys.new.run.left =
    further_parted c.args.run.now.left c.first_keys-front.new.keys c.in_ok-keys.keys.items c.more_keys.new.keys.items c.first_keys-front.new.run.left c.more_keys.new.run.left
    c.first_keys-front.result.many c.first_keys-front.ensures.parted (omega (arith, c.first_keys-front.array_long, c.first_keys-front.ensures.stopped c.if-front.false, c.if-most-le-FEW.false))
    c.in_ok-keys.ensures.items c.in_ok-is_all.ensures.parted in
    subst (λ (ks : List (List ℕ)). All (λ key. HasTerms c.args.table.now (quad_of key)) ks) (sym c.deref.ensures.value)
    (front_held (λ key. HasTerms c.args.table.now (quad_of key)) c.args.run.now.left c.more_keys.new.keys.items c.more_keys.new.run.left parted c.requires)
