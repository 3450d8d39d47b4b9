use Rattle.std.proofs.Common.{◌≡◌, ◌≢◌, ℕ, ◌<◌, ◌≤◌, refl, sym, ◌∙◌, subst, arith, length}
use Rattle.std.proofs.lemmas.Result.{err_from_is_err_and}
use Rattle.rdf_session.specs.Session.{Session, Transition, Redo, Changed}
use Rattle.rdf_session.proofs.SpanLemmas.{span_at}
use Rattle.rdf_session.proofs.KeptLemmas.{redo_begins, redo_transition, redo_refused, kept, length-states_after}
use Rattle.rdf_session.proofs.keeper.Keeper.redo.Goals as goal

below : (k n m l : ℕ) → k ≤ l → n ≡ m → m ≡ l → k ≢ n → k < l
below k n m l h e f d = omega (arith, h, e, f, d)

pub returns-then-self-len : goal.returns-then-self-len
returns-then-self-len c =
    (subst (λ (o : Session). o.states.cursor ≡ length o.states.items) c.self.view_is (c.if-self-len.true ∙ c.len.ensures ∙ c.self.inside.entries.ok.0 ∙ sym (length-states_after _ c.self.inside.entries.items)), refl)

pub commit-requires : goal.commit-requires
commit-requires c =
    record { begins = redo_begins _ _ _ _ _ c.self.inside.marks c.self.invariant.0 _ c.self.view_is _ (below _ _ _ _ c.self.invariant.0.within c.len.ensures c.self.inside.entries.ok.0 c.if-self-len.false) c.index-entry.ensures }

pub returns-in_err-commit : goal.returns-in_err-commit
returns-in_err-commit c =
    let p = err_from_is_err_and c.from_residual.result c.from_residual.ensures.1 in
    rw (p.1, p.2)
    (redo_refused _ _ _ _ _ c.self.inside.marks c.self.invariant.0 _ c.self.view_is c.commit.new.self _ (below _ _ _ _ c.self.invariant.0.within c.len.ensures c.self.inside.entries.ok.0 c.if-self-len.false) c.index-entry.ensures c.in_err-commit.ensures.free c.in_err-commit.ensures.err)

pub invariant_of-self-2 : goal.invariant_of-self-2
invariant_of-self-2 c =
    let there = (redo_transition _ _ _ _ _ c.self.inside.marks c.self.invariant.0 _ c.self.view_is c.commit.new.self c.counts_of-counts.result _ (below _ _ _ _ c.self.invariant.0.within c.len.ensures c.self.inside.entries.ok.0 c.if-self-len.false) c.index-entry.ensures c.in_ok-commit.ensures.ok c.counts_of-counts.ensures.added c.counts_of-counts.ensures.removed).0 in
    (kept _ _ _ _ _ there, c.self.invariant.1, span_at _ _ _ _ _ _ there c.self.invariant.2)

pub returns : goal.returns
returns c =
    subst (λ (x : Session). Transition c.args.self.now Redo (Changed c.counts_of-counts.result) x) (sym c.gather.ensures)
    (redo_transition _ _ _ _ _ c.self.inside.marks c.self.invariant.0 _ c.self.view_is c.commit.new.self c.counts_of-counts.result _ (below _ _ _ _ c.self.invariant.0.within c.len.ensures c.self.inside.entries.ok.0 c.if-self-len.false) c.index-entry.ensures c.in_ok-commit.ensures.ok c.counts_of-counts.ensures.added c.counts_of-counts.ensures.removed).1
