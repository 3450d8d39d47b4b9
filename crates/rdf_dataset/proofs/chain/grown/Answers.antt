use Rattle.std.proofs.Common.{◌++◌, ◌∷◌, [], sym, subst}
use Rattle.rdf_dataset.specs.Chains.{Leads}
use Rattle.rdf_dataset.proofs.ChainLemmas.{two_led}
use Rattle.rdf_dataset.proofs.chain.grown.Goals as goal

pub loop-earlier-preserved : goal.loop-earlier-preserved
loop-earlier-preserved c s t l = two_led s t _ _ _ _ _ c.in-Some.ensures.some c.in_ok-run-2.ensures (c.loop-earlier.invariant s t l)

pub returns : goal.returns
returns c s t l = subst (λ xs. Leads s (xs ++ c.loop-earlier.run ∷ []) t) (sym c.in_default.ensures.none) (c.loop-earlier.invariant s t l)
