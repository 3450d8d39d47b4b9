use Rattle.std.proofs.Common.{◌≡◌, ◌+◌, ◌≤◌, ◌∙◌, ap, refl, subst}
use Rattle.std.proofs.lemmas.Result.{IfOk-weaker}
use Rattle.rdf_dataset.specs.State.{State, last_number, net_between}
use Rattle.rdf_session.specs.Request.{Load, Makes, blank_limit, loaded}
use Rattle.rdf_session.specs.Session.{now}
use Rattle.rdf_session.proofs.AnswerLemmas.{accept_transition}
use Rattle.rdf_session.proofs.KeptLemmas.{now_is}
use Rattle.rdf_session.proofs.keeper.Keeper.insert.Goals as goal

pub accept-requires : goal.accept-requires
accept-requires c =
    let n = now_is _ _ _ _ _ c.self.inside.marks c.self.invariant.0 _ c.self.view_is in
    let qs = c.args.quads.items in
    let st = c.in_ok-net.ensures in
    (loaded c.self.inside.dataset qs, st.1.0, st.1.1 ∙ ap (λ s. net_between s (loaded c.self.inside.dataset qs)) n)

pub returns : goal.returns
returns c = λ format text is.
    let n = now_is _ _ _ _ _ c.self.inside.marks c.self.invariant.0 _ c.self.view_is in
    let qs = c.args.quads.items in
    let st = c.in_ok-net.ensures in
    let after = loaded (now c.args.self.now) qs in
    let net : c.in_ok-net.net ≡ net_between (now c.args.self.now) after = st.1.1 ∙ ap (λ s. net_between s (loaded s qs)) n in
    let makes : Makes c.args.self.now.base_iri (Load format text) (now c.args.self.now) after = (qs, is, subst (λ (s : State). s.next + blank_limit qs ≤ last_number) n st.0, refl) in
    accept_transition _ _ (Load format text) after c.accept.result makes
    (IfOk-weaker c.accept.result _ _ (λ x h. h after net) c.accept.ensures.ok) c.accept.ensures.refused c.accept.ensures.err
