use Rattle.std.proofs.Common.{◌++◌, ◌∷◌, [], sym, subst}
use Rattle.std.proofs.lemmas.Result.{IfOk-weaker}
use Rattle.rdf_dataset.specs.Chains.{Leads}
use Rattle.rdf_dataset.proofs.ChainLemmas.{two_led, behind_led}
use Rattle.rdf_dataset.proofs.chain.behind_smaller.Goals as goal

pub returns-in_default : goal.returns-in_default
returns-in_default c s t l = subst (λ xs. Leads s (xs ++ c.args.net ∷ []) t) (sym c.in_default.ensures.none) l

pub loop-earlier-init : goal.loop-earlier-init
loop-earlier-init c s t l = subst (λ xs. Leads s xs t) c.in-Some.ensures.some l

pub loop-earlier-preserved : goal.loop-earlier-preserved
loop-earlier-preserved c s t l = two_led s t _ _ _ _ _ c.in-Some-pop_up_to.ensures.some c.in_ok-smaller.ensures (c.loop-earlier.invariant s t l)

pub returns : goal.returns
returns c = IfOk-weaker c.joined-2.result _ _ (λ both joins s t l. behind_led s t _ _ _ _ _ both c.loop-earlier.invariant c.in_default-pop_up_to.ensures.none joins l) c.joined-2.ensures
