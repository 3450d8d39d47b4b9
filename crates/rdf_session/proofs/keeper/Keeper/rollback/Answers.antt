use Rattle.std.proofs.Common.{◌≤◌, sym, ap, ◌∙◌, subst, arith}
use Rattle.rdf_dataset.specs.State.{State, net_between}
use Rattle.rdf_session.proofs.KeptLemmas.{rollback_ends, rollback_transition, kept}
use Rattle.rdf_session.proofs.SpanLemmas.{span_at}
use Rattle.rdf_session.specs.Session.{Session, Transition, Rollback, Changed}
use Rattle.rdf_session.proofs.keeper.Keeper.rollback.Goals as goal

pub revert-requires : goal.revert-requires
revert-requires c =
    let net = c.in_ok-net.ensures _ c.self.invariant.0.nets (c.next_blank-counter.ensures.value ∙ ap (λ (x : State). x.next) c.self.invariant.0.current) ∙ ap (net_between _) (sym c.self.invariant.0.current) in
    let below : c.in-Some.place ≤ c.self.inside.cursor = omega arith in
    record { ends = rollback_ends _ _ _ _ _ c.self.inside.marks c.self.invariant.0 _ c.self.view_is _ c.in-Some.place below net }

pub invariant_of-self-2 : goal.invariant_of-self-2
invariant_of-self-2 c =
    let net = c.in_ok-net.ensures _ c.self.invariant.0.nets (c.next_blank-counter.ensures.value ∙ ap (λ (x : State). x.next) c.self.invariant.0.current) ∙ ap (net_between _) (sym c.self.invariant.0.current) in
    let below : c.in-Some.place ≤ c.self.inside.cursor = omega arith in
    let there = (rollback_transition _ _ _ _ _ c.self.inside.marks c.self.invariant.0 _ c.self.view_is c.args.name.now c.revert.new.self c.back_counts_of-counts.result _ c.in-Some.place below (sym c.in-Some.ensures) net c.in_ok-revert.ensures.ok c.back_counts_of-counts.ensures.added c.back_counts_of-counts.ensures.removed).0 in
    (kept _ _ _ _ _ there, c.self.invariant.1, span_at _ _ _ _ _ _ there c.self.invariant.2)

pub returns : goal.returns
returns c =
    let net = c.in_ok-net.ensures _ c.self.invariant.0.nets (c.next_blank-counter.ensures.value ∙ ap (λ (x : State). x.next) c.self.invariant.0.current) ∙ ap (net_between _) (sym c.self.invariant.0.current) in
    let below : c.in-Some.place ≤ c.self.inside.cursor = omega arith in
    subst (λ (x : Session). Transition c.args.self.now (Rollback c.args.name.now) (Changed c.back_counts_of-counts.result) x) (sym c.gather.ensures)
    (rollback_transition _ _ _ _ _ c.self.inside.marks c.self.invariant.0 _ c.self.view_is c.args.name.now c.revert.new.self c.back_counts_of-counts.result _ c.in-Some.place below (sym c.in-Some.ensures) net c.in_ok-revert.ensures.ok c.back_counts_of-counts.ensures.added c.back_counts_of-counts.ensures.removed).1
