use Rattle.std.proofs.Common.{◌≡◌, List, ◌++◌, sym, ap, ◌∙◌, arith, append-nil}
use Rattle.std.proofs.lemmas.List.{take_all}
use Rattle.std.specs.List.{list_all}
use Rattle.std.specs.Vec.Iter.{drain_items}
use Rattle.rdf_terms.specs.Quad.{QuadParts}
use Rattle.sparql_solve.specs.Matching.{has_held, matches_of}
use Rattle.sparql_solve.proofs.OnceLemmas.{held_first, held_rest, grown_by, grown_by_none}
use Rattle.sparql_solve.proofs.grown.append_grown.Goals as goal

pub loop-quad-init : goal.loop-quad-init
loop-quad-init c =
    let is : drain_items c.into_iter-quad-iterator.result ≡ c.args.quads.now.items =
    ap drain_items c.into_iter-quad-iterator.ensures.into_iter_gives ∙ c.drain-quad-items.ensures.rest
    ∙ take_all _ c.args.quads.now.items (omega (arith, c.args.quads.now.ok.0)) in
    record {
      made = ap (λ (qs : List QuadParts). c.args.out.now.items ++ matches_of qs c.args.places.now c.args.row.now) is;
      held = ap (list_all (has_held c.args.places.now c.args.row.now)) is ∙ c.requires.held;
    }

pub grown_copy-requires-clause-held : goal.grown_copy-requires-clause-held
grown_copy-requires-clause-held c =
    held_first c.args.places.now c.args.row.now c.in-Some.quad (drain_items c.next.new.self) (drain_items c.loop-quad.quad-iterator)
    c.in-Some.ensures.steps.0 c.loop-quad.invariant.held

pub loop-quad-preserved-in-Continue-branch-3 : goal.loop-quad-preserved-in-Continue-branch-3
loop-quad-preserved-in-Continue-branch-3 c =
    let m = c.args.row.now in
    let p = c.args.places.now in
    let rest = drain_items c.next.new.self in
    let items = drain_items c.loop-quad.quad-iterator in
    record {
      made = grown_by p m c.in-Some.quad rest items c.in-Some.ensures.steps.0 c.loop-quad.out.items (c.args.out.now.items ++ matches_of c.args.quads.now.items p m)
          c.loop-quad.invariant.made c.in-Some-2.found c.push.new.self.items (c.in_ok-found.ensures ∙ c.in-Some-2.is) c.in_ok-push.ensures.items;
      held = held_rest p m c.in-Some.quad rest items c.in-Some.ensures.steps.0 c.loop-quad.invariant.held;
    }

pub loop-quad-preserved : goal.loop-quad-preserved
loop-quad-preserved c =
    let m = c.args.row.now in
    let p = c.args.places.now in
    let rest = drain_items c.next.new.self in
    let items = drain_items c.loop-quad.quad-iterator in
    record {
      made = grown_by_none p m c.in-Some.quad rest items c.in-Some.ensures.steps.0 c.loop-quad.out.items
          (c.args.out.now.items ++ matches_of c.args.quads.now.items p m) c.loop-quad.invariant.made (c.in_ok-found.ensures ∙ c.in_default.is);
      held = held_rest p m c.in-Some.quad rest items c.in-Some.ensures.steps.0 c.loop-quad.invariant.held;
    }

pub returns : goal.returns
returns c =
    sym (append-nil c.loop-quad.out.items)
    ∙ ap (λ (qs : List QuadParts). c.loop-quad.out.items ++ matches_of qs c.args.places.now c.args.row.now) (sym c.in-None.ensures.steps.0)
    ∙ c.loop-quad.invariant.made
