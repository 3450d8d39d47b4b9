use Rattle.std.proofs.Common.{◌∙◌, arith}
use Rattle.std.proofs.lemmas.Result.{IfOk-weaker}
use Rattle.rdf_session.proofs.ChainLemmas.{composed_in_back, composed_in_front, composed_over}
use Rattle.rdf_session.proofs.between.composed.Goals as goal

pub returns-then-to-seam : goal.returns-then-to-seam
returns-then-to-seam c =
    IfOk-weaker c.of_chain.result _ _
    (λ net whole. composed_in_front _ _ _ c.as_slices.ensures.items c.args.from c.args.to c.args.counter net c.requires.order (omega arith) whole) c.of_chain.ensures

pub returns-then-from-seam : goal.returns-then-from-seam
returns-then-from-seam c =
    IfOk-weaker c.of_chain-then-from-seam.result _ _
    (λ net whole. composed_in_back _ _ _ c.as_slices.ensures.items c.args.from c.args.to c.args.counter net (omega arith) c.requires.order c.requires.within whole)
    c.of_chain-then-from-seam.ensures

pub returns : goal.returns
returns c =
    IfOk-weaker c.joined.result _ _
    (λ both join.
    composed_over _ _ _ c.as_slices.ensures.items c.args.from c.args.to c.args.counter c.in_ok-earlier.earlier c.in_ok-later.later both c.index-back-0.result
    (omega arith) (omega arith) c.requires.within c.index-back-0.is (λ s t l e. c.in_ok-earlier.ensures s t l (c.before-2.ensures ∙ e)) c.in_ok-later.ensures join)
    c.joined.ensures
