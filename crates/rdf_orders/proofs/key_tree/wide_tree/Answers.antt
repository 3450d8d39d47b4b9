use Rattle.std.proofs.Common.{ℕ, List, rules}
use Rattle.std.specs.Prelude.{Ok}
use Rattle.std.specs.BTreeSet.{IsFromIterResult}
use Rattle.std.proofs.lemmas.Iterator.{YieldsList-from_slice, YieldsList-from_map}
use Rattle.std.proofs.lemmas.Iterator.Consumers.{YieldsList-at, YieldsList-from_rest, YieldsList-from_chain, YieldsList-from_copied}
use Rattle.std.proofs.lemmas.Iterator.Adapters.{fact_from_collect}
use Rattle.rdf_orders.specs.Quads.{key_cmp, key_in, quad_of}
use Rattle.rdf_orders.proofs.key_tree.wide_tree.Goals as goal

pub returns : goal.returns
returns c =
    let old = YieldsList-at c.chain.ensures.first (YieldsList-from_rest {shows = λ (k : List ℕ). k} _ c.iter-2.ensures) in
    let listed = YieldsList-from_copied (YieldsList-at c.copied-quads.ensures.source (YieldsList-from_slice _ c.iter.ensures.rest)) in
    let both = YieldsList-from_chain old (YieldsList-at c.chain.ensures.second listed) c.chain.ensures.first_done c.chain.ensures.second_done in
    fact_from_collect {E = ℕ} (IsFromIterResult key_cmp) (Ok c.in_ok-collect.field-0) c.in_ok-collect.ensures.ran
    (YieldsList-from_map _ (λ x. key_in c.args.order (quad_of x)) (YieldsList-at c.map.ensures.source both) c.map.ensures.closure (λ x r q k. search rules))
