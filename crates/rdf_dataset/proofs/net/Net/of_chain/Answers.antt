use Rattle.std.proofs.Common.{◌∙◌, sym, subst, arith}
use Rattle.std.proofs.lemmas.List.{nil_from_length, take_all}
use Rattle.rdf_dataset.specs.Chains.{Leads}
use Rattle.rdf_dataset.proofs.ChainLemmas.{leads_alone, leads_more, leads_nowhere, leads_on, one_leads, two_led}
use Rattle.rdf_dataset.proofs.net.Net.of_chain.Goals as goal

pub loop-net-preserved : goal.loop-net-preserved
loop-net-preserved c s t l =
    let m = leads_more s t c.args.nets.now c.loop-net.net-index c.net-item.result c.loop-net-test.true c.net-item.is l in
    subst (λ xs. Leads s xs t) (sym c.in_ok-push.ensures.items)
    (c.in_ok-run.ensures s t (leads_on s m.0 t _ _ (c.loop-net.invariant s m.0 m.1) (one_leads m.0 t _ (c.in_ok-copy.ensures ∙ m.2))))

pub loop-earlier-preserved : goal.loop-earlier-preserved
loop-earlier-preserved c s t l = two_led s t _ _ _ _ _ c.in-Some-pop.ensures.items c.in_ok-whole.ensures (c.loop-earlier.invariant s t l)

pub returns-in_default : goal.returns-in_default
returns-in_default c s t l is =
    let all = take_all c.loop-net.net-index c.args.nets.now (omega arith) in
    leads_nowhere s t c.loop-net.runs.items _ c.args.counter (nil_from_length c.loop-net.runs.items (sym c.loop-net.runs.ok.0 ∙ c.in_default.ensures.cases.0))
    (c.loop-net.invariant s t (subst (λ xs. Leads s xs t) (sym all) l)) is c.empty.ensures

pub loop-earlier-init : goal.loop-earlier-init
loop-earlier-init c s t l =
    let all = take_all c.loop-net.net-index c.args.nets.now (omega arith) in
    subst (λ xs. Leads s xs t) c.in-Some.ensures.items (c.loop-net.invariant s t (subst (λ xs. Leads s xs t) (sym all) l))

pub returns : goal.returns
returns c s t l is = leads_alone s t c.loop-earlier.runs.items _ (nil_from_length c.loop-earlier.runs.items (sym c.loop-earlier.runs.ok.0 ∙ c.in_default-pop.ensures.cases.0)) (c.loop-earlier.invariant s t l)
