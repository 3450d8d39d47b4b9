use Rattle.std.proofs.Common.{◌≡◌, Ok, Err, ◌∙◌, ap, subst}
use Rattle.std.proofs.lemmas.Result.{IfOk-weaker, err_from_is_err_and}
use Rattle.rdf_dataset.specs.State.{State, net_between}
use Rattle.sparql_eval.specs.Operations.{steps}
use Rattle.sparql_syntax.specs.Update.{IsUpdate}
use Rattle.rdf_session.specs.Inside.Staging.{StagesSteps, TellsSyntaxFault}
use Rattle.rdf_session.specs.Request.{Update, Makes}
use Rattle.rdf_session.specs.Session.{Session, now}
use Rattle.rdf_session.proofs.AnswerLemmas.{accept_transition, stopped, unread}
use Rattle.rdf_session.proofs.KeptLemmas.{now_is}
use Rattle.rdf_session.proofs.keeper.Keeper.update.Goals as goal

pub accept-requires : goal.accept-requires
accept-requires c =
    let n = now_is _ _ _ _ _ c.self.inside.marks c.self.invariant.0 _ c.self.view_is in
    let st = c.in_ok-net.ensures in
    (st.0, st.2, st.3 ∙ ap (λ s. net_between s st.0) n)

pub returns : goal.returns
returns c =
    let n = now_is _ _ _ _ _ c.self.inside.marks c.self.invariant.0 _ c.self.view_is in
    let request = c.in_ok-request.request in
    let st = c.in_ok-net.ensures in
    let net : c.in_ok-net.net ≡ net_between (now c.args.self.now) st.0 = st.3 ∙ ap (λ s. net_between s st.0) n in
    let makes : Makes c.args.self.now.base_iri (Update c.args.text.now) (now c.args.self.now) st.0 = (
      request,
      subst (λ b. IsUpdate b c.args.text.now request) (c.as_ref.ensures.value ∙ ap (λ (o : Session). o.base_iri) c.self.view_is) c.in_ok-request.ensures,
      subst (λ (s : State). steps s request.operations ≡ Ok st.0) n st.1,
    ) in
    accept_transition _ _ (Update c.args.text.now) st.0 c.accept.result makes
    (IfOk-weaker c.accept.result _ _ (λ x h. h st.0 net) c.accept.ensures.ok) c.accept.ensures.refused c.accept.ensures.err

pub returns-in_err-request : goal.returns-in_err-request
returns-in_err-request c =
    let p = err_from_is_err_and c.from_residual-in_err-request.result c.from_residual-in_err-request.ensures.1 in
    let f = c.in_err-request.field-0.0 in
    let told = subst (λ b. TellsSyntaxFault b c.args.text.now f) (c.as_ref.ensures.value ∙ ap (λ (o : Session). o.base_iri) c.self.view_is) c.in_err-request.ensures in
    rw (p.1, p.2) (unread c.args.self.now c.args.text.now f told)

pub returns-in_err-net : goal.returns-in_err-net
returns-in_err-net c =
    let n = now_is _ _ _ _ _ c.self.inside.marks c.self.invariant.0 _ c.self.view_is in
    let request = c.in_ok-request.request in
    let is = subst (λ b. IsUpdate b c.args.text.now request) (c.as_ref.ensures.value ∙ ap (λ (o : Session). o.base_iri) c.self.view_is) c.in_ok-request.ensures in
    let p = err_from_is_err_and c.from_residual-in_err-net.result c.from_residual-in_err-net.ensures.1 in
    let f = c.in_err-net.field-0.0 in
    let told = subst (λ (s : State). StagesSteps s request.operations (Err f)) n c.in_err-net.ensures in
    rw (p.1, p.2) (stopped c.args.self.now c.args.text.now request f is told)
