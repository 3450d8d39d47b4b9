use Rattle.std.proofs.Common.{ℕ, List, map-id, subst, rules}
use Rattle.std.specs.Prelude.{Ok}
use Rattle.std.specs.BTreeSet.{IsFromIterResult}
use Rattle.std.specs.Map.Iter.{deref}
use Rattle.std.proofs.lemmas.Iterator.{YieldsList-from_map}
use Rattle.std.proofs.lemmas.Iterator.Consumers.{YieldsList-at, YieldsList-from_rest}
use Rattle.std.proofs.lemmas.Iterator.Adapters.{fact_from_collect}
use Rattle.rdf_orders.specs.Quads.{key_cmp}
use Rattle.rdf_orders.proofs.key_tree.widened.Goals as goal

pub returns : goal.returns
returns c =
    subst (λ ks. IsFromIterResult key_cmp ks c.in_ok-collect.field-0) (map-id c.args.tree.now.keys)
    (fact_from_collect {E = ℕ} (IsFromIterResult key_cmp) (Ok c.in_ok-collect.field-0) c.in_ok-collect.ensures.ran
    (YieldsList-from_map _ (λ (x : List ℕ). x) (YieldsList-at c.map.ensures.source (YieldsList-from_rest {shows = deref {X = List ℕ}} _ c.iter.ensures.rest)) c.map.ensures.closure (λ x r q k. search rules)))
