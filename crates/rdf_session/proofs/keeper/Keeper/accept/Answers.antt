use Rattle.std.proofs.Common.{◌≡◌, ◌+◌, ◌-◌, ◌∙◌, ◌∷◌, [], ◌++◌, List, cond, drop, take, ap, length, refl}
use Rattle.rdf_dataset.specs.State.{Change, State}
use Rattle.rdf_session.proofs.KeptLemmas.{accepted_any, begins_here, left_bounded, length-extended, span_left}
use Rattle.rdf_session.specs.Depth.{is_past}
use Rattle.rdf_session.specs.History.{marks_behind}
use Rattle.rdf_session.proofs.SpanLemmas.{left_held}
use Rattle.rdf_session.specs.Inside.Spans.{no_span}
use Rattle.rdf_session.proofs.keeper.Keeper.accept.Goals as goal

pub commit-requires : goal.commit-requires
commit-requires c = record { begins = begins_here _ _ _ _ _ c.self.inside.marks c.self.invariant.0 _ c.self.view_is _ c.requires }

pub invariant_of-self-2 : goal.invariant_of-self-2
invariant_of-self-2 c =
    let k = c.self.inside.cursor in
    let depth = c.self.inside.depth in
    let more = take k c.self.inside.entries.items ++ c.args.net ∷ [] in
    let n : c.push_back_reserved.new.self.items ≡ more =
    c.push_back_reserved.ensures.items ∙ ap (λ (xs : List Change). xs ++ c.args.net ∷ []) (c.truncate.ensures.items ∙ ap (take k) c.in_ok-reserve.ensures.items) in
    let j : c.len-self-inside.result ≡ k + 1 =
    c.len-self-inside.ensures ∙ c.push_back_reserved.new.self.ok.0 ∙ ap length n ∙ length-extended c.self.inside.entries.items k c.args.net c.self.invariant.0.within in
    let pn = c.forget_oldest.ensures.entries ∙ (λ i. cond (is_past depth (j i)) (drop 1 (n i)) (n i)) in
    let pj = c.forget_oldest.ensures.cursor ∙ (λ i. cond (is_past depth (j i)) (j i - 1) (j i)) in
    let pm = c.forget_oldest.ensures.marks ∙ (λ i. cond (is_past depth (j i)) (marks_behind 1 (c.keep_through.ensures i)) (c.keep_through.ensures i)) in
    let ps : c.forget_oldest.new.span ≡ cond (is_past depth (k + 1)) no_span c.leave.new.self =
    c.forget_oldest.ensures.span ∙ ap (λ m. cond (is_past depth m) no_span c.leave.new.self) j in
    let b = begins_here _ _ _ _ _ c.self.inside.marks c.self.invariant.0 _ c.self.view_is c.args.net c.requires in
    let held =
    left_held _ c.self.inside.entries.items _ k c.before-2.result c.self.inside.span c.leave.new.self c.in_ok-reserve.ensures.items c.leave.ensures.span c.self.invariant.0.nets
    (c.before-2.ensures ∙ ap (λ (x : Change). x.before) b.2 ∙ ap (λ (x : State). x.next) c.self.invariant.0.current) c.self.invariant.2 in (
      (accepted_any _ _ _ _ _ c.self.inside.marks c.self.invariant.0 _ c.self.view_is c.commit.new.self c.counts_of-counts.result _ _ _ _ (is_past depth (k + 1)) c.requires c.in_ok-commit.ensures.ok refl pn pj pm c.counts_of-counts.ensures.added c.counts_of-counts.ensures.removed).0,
      left_bounded _ _ _ _ _ c.self.inside.marks c.self.invariant.0 _ c.self.view_is _ _ (is_past depth (k + 1)) c.self.invariant.1 refl pn,
      span_left _ _ _ _ _ c.self.inside.marks c.self.invariant.0 _ c.self.view_is c.commit.new.self c.args.net _ _ (is_past depth (k + 1)) c.leave.new.self _ c.requires c.in_ok-commit.ensures.ok refl pn pj held c.leave.ensures.place ps,
    )

pub returns-clause-ok : goal.returns-clause-ok
returns-clause-ok c =
    let k = c.self.inside.cursor in
    let depth = c.self.inside.depth in
    let more = take k c.self.inside.entries.items ++ c.args.net ∷ [] in
    let n : c.push_back_reserved.new.self.items ≡ more =
    c.push_back_reserved.ensures.items ∙ ap (λ (xs : List Change). xs ++ c.args.net ∷ []) (c.truncate.ensures.items ∙ ap (take k) c.in_ok-reserve.ensures.items) in
    let j : c.len-self-inside.result ≡ k + 1 =
    c.len-self-inside.ensures ∙ c.push_back_reserved.new.self.ok.0 ∙ ap length n ∙ length-extended c.self.inside.entries.items k c.args.net c.self.invariant.0.within in
    let pn = c.forget_oldest.ensures.entries ∙ (λ i. cond (is_past depth (j i)) (drop 1 (n i)) (n i)) in
    let pj = c.forget_oldest.ensures.cursor ∙ (λ i. cond (is_past depth (j i)) (j i - 1) (j i)) in
    let pm = c.forget_oldest.ensures.marks ∙ (λ i. cond (is_past depth (j i)) (marks_behind 1 (c.keep_through.ensures i)) (c.keep_through.ensures i)) in
    λ after is.
    let seen = (accepted_any _ _ _ _ _ c.self.inside.marks c.self.invariant.0 _ c.self.view_is c.commit.new.self c.counts_of-counts.result _ _ _ _ (is_past depth (k + 1)) c.requires c.in_ok-commit.ensures.ok refl pn pj pm c.counts_of-counts.ensures.added c.counts_of-counts.ensures.removed).1 after is in
    (c.gather.ensures ∙ seen.0, seen.1)
