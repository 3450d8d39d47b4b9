use Rattle.std.proofs.Common.{subst, arith, length, [], ◌∷◌, ◌++◌, Option, Some, refl}
use Rattle.rdf_lines.specs.Fed.{Takes}
use Rattle.rdf_session.proofs.CallerLemmas.{all_fed, nothing_so_far, one_more, one_parts}
use Rattle.rdf_terms.specs.declared.quad.Quad.{Quad}
use Rattle.rdf_streams.proofs.CheckLemmas.{one_counted, still_fits}
use Rattle.rdf_streams.proofs.ConversionLemmas.Gathered.{at_fault, goes_on}
use Rattle.rdf_streams.proofs.checking.counted.count_piece.Goals as goal

pub loop-next-init : goal.loop-next-init
loop-next-init c = ([], [], refl, nothing_so_far c.args.document, omega arith, omega arith)

pub returns-in-Err : goal.returns-in-Err
returns-in-Err c =
    let inv = c.loop-next.invariant in
    (inv.1, at_fault c.what_is_fed_comes_first.ensures c.args.document c.loop-next.reader c.args.piece.now inv.0 c.loop-next.rest.now inv.1 inv.2 inv.3 c.in-Err.fault _ c.fault_of.ensures c.in-Err.ensures)

pub loop-next-preserved : goal.loop-next-preserved
loop-next-preserved c =
    let inv = c.loop-next.invariant in
    let old = c.args.document in
    let q = c.in-Some.quad in
    let took = subst (λ (a : Option Quad). Takes c.loop-next.reader c.loop-next.rest.now a c.in-Ok.after.now c.in-Ok.next) c.in-Some.is c.in-Ok.ensures in (
      inv.0 ++ took.front,
      inv.1 ++ q ∷ [],
      one_parts old c.loop-next.reader c.args.piece.now inv.0 c.loop-next.rest.now inv.1 inv.2 inv.3 (Some q) c.in-Ok.after.now c.in-Ok.next took,
      one_more old c.loop-next.reader c.args.piece.now inv.0 c.loop-next.rest.now inv.1 inv.2 inv.3 q c.in-Ok.after.now c.in-Ok.next took,
      one_counted inv.1 q c.args.count c.loop-next.counted inv.4,
      still_fits inv.1 q (length c.args.piece.now) (length c.loop-next.rest.now) (length c.in-Ok.after.now) inv.5 took.left,
    )

pub returns-in-None : goal.returns-in-None
returns-in-None c =
    let inv = c.loop-next.invariant in
    let took = subst (λ (a : Option Quad). Takes c.loop-next.reader c.loop-next.rest.now a c.in-Ok.after.now c.in-Ok.next) c.in-None.is c.in-Ok.ensures in (
      inv.1,
      goes_on c.args.document c.args.piece.now inv.1 c.in-Ok.next (all_fed c.args.document c.loop-next.reader c.args.piece.now inv.0 c.loop-next.rest.now inv.1 inv.2 inv.3 c.in-Ok.after.now c.in-Ok.next took),
      inv.4,
      (let fit = inv.5 in omega (arith, fit)),
    )
