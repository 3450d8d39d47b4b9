use Rattle.std.proofs.Common.{◌∙◌, ap, sym, subst, [], ◌∷◌, ◌++◌, append-nil, append_assoc, List, Option, Some, refl}
use Rattle.rdf_lines.specs.Fed.{Takes}
use Rattle.rdf_terms.specs.Quad.{QuadParts}
use Rattle.rdf_session.proofs.FedLemmas.{all_fed, at_fault, nothing_so_far, one_more, one_parts}
use Rattle.rdf_session.proofs.fed_start.take_in.Goals as goal

pub loop-next-init : goal.loop-next-init
loop-next-init c = ([], [], refl, nothing_so_far c.args.lines, sym (append-nil c.args.quads.now))

pub returns-in-Err : goal.returns-in-Err
returns-in-Err c =
    let inv = c.loop-next.invariant in
    at_fault c.args.lines c.loop-next.reader c.args.piece.now inv.0 c.loop-next.rest.now inv.1 inv.2 inv.3 c.in-Err.fault _ c.line_refusal.ensures c.in-Err.ensures

pub loop-next-preserved : goal.loop-next-preserved
loop-next-preserved c =
    let inv = c.loop-next.invariant in
    let old = c.args.lines in
    let q = c.in-Some.quad in
    let took = subst (λ (a : Option QuadParts). Takes c.loop-next.reader c.loop-next.rest.now a c.in-Ok.after.now c.in-Ok.next) c.in-Some.is c.in-Ok.ensures in (
      inv.0 ++ took.front,
      inv.1 ++ q ∷ [],
      one_parts old c.loop-next.reader c.args.piece.now inv.0 c.loop-next.rest.now inv.1 inv.2 inv.3 (Some q) c.in-Ok.after.now c.in-Ok.next took,
      one_more old c.loop-next.reader c.args.piece.now inv.0 c.loop-next.rest.now inv.1 inv.2 inv.3 q c.in-Ok.after.now c.in-Ok.next took,
      c.in-Ok-push.ensures ∙ ap (λ (l : List QuadParts). l ++ q ∷ []) inv.4 ∙ append_assoc c.args.quads.now inv.1 (q ∷ []),
    )

pub returns-in-None : goal.returns-in-None
returns-in-None c =
    let inv = c.loop-next.invariant in
    let took = subst (λ (a : Option QuadParts). Takes c.loop-next.reader c.loop-next.rest.now a c.in-Ok.after.now c.in-Ok.next) c.in-None.is c.in-Ok.ensures in (
      inv.1,
      all_fed c.args.lines c.loop-next.reader c.args.piece.now inv.0 c.loop-next.rest.now inv.1 inv.2 inv.3 c.in-Ok.after.now c.in-Ok.next took,
      inv.4,
    )
