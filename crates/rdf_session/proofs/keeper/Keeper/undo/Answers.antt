use Rattle.std.proofs.Common.{◌≢◌, ℕ, ◌<◌, sym, subst, arith}
use Rattle.std.proofs.lemmas.Result.{err_from_is_err_and}
use Rattle.rdf_session.proofs.KeptLemmas.{undo_ends, undo_transition, undo_refused, kept}
use Rattle.rdf_session.proofs.SpanLemmas.{span_at}
use Rattle.rdf_session.specs.Session.{Session, Transition, Undo, Changed}
use Rattle.rdf_session.proofs.keeper.Keeper.undo.Goals as goal

above_zero : (k : ℕ) → k ≢ 0 → 0 < k
above_zero k h = omega (arith, h)

pub revert-requires : goal.revert-requires
revert-requires c = record { ends = undo_ends _ _ _ _ _ c.self.inside.marks c.self.invariant.0 _ c.self.view_is _ (above_zero _ c.if-self-eq0.false) c.index-entry.ensures }

pub returns-in_err-revert : goal.returns-in_err-revert
returns-in_err-revert c =
    let p = err_from_is_err_and c.from_residual.result c.from_residual.ensures.1 in
    rw (p.1, p.2)
    (undo_refused _ _ _ _ _ c.self.inside.marks c.self.invariant.0 _ c.self.view_is c.revert.new.self _ (above_zero _ c.if-self-eq0.false) c.index-entry.ensures c.in_err-revert.ensures.free c.in_err-revert.ensures.err)

pub invariant_of-self-2 : goal.invariant_of-self-2
invariant_of-self-2 c =
    let there = (undo_transition _ _ _ _ _ c.self.inside.marks c.self.invariant.0 _ c.self.view_is c.revert.new.self c.back_counts_of-counts.result _ (above_zero _ c.if-self-eq0.false) c.index-entry.ensures c.in_ok-revert.ensures.ok c.back_counts_of-counts.ensures.added c.back_counts_of-counts.ensures.removed).0 in
    (kept _ _ _ _ _ there, c.self.invariant.1, span_at _ _ _ _ _ _ there c.self.invariant.2)

pub returns : goal.returns
returns c =
    subst (λ (x : Session). Transition c.args.self.now Undo (Changed c.back_counts_of-counts.result) x) (sym c.gather.ensures)
    (undo_transition _ _ _ _ _ c.self.inside.marks c.self.invariant.0 _ c.self.view_is c.revert.new.self c.back_counts_of-counts.result _ (above_zero _ c.if-self-eq0.false) c.index-entry.ensures c.in_ok-revert.ensures.ok c.back_counts_of-counts.ensures.added c.back_counts_of-counts.ensures.removed).1
