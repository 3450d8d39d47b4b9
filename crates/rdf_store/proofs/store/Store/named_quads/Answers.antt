use Rattle.std.proofs.Common.{ℕ, List, refl, ◌∙◌}
use Rattle.std.specs.Prelude.{Ok}
use Rattle.std.proofs.lemmas.Iterator.{items_from_collect}
use Rattle.std.proofs.lemmas.Iterator.Consumers.{YieldsList-from_rest}
use Rattle.rdf_store.specs.Stored.{in_named}
use Rattle.rdf_store.proofs.NumberLemmas.{quad_named_from}
use Rattle.rdf_store.proofs.ShownLemmas.{from_appended, from_kept}
use Rattle.rdf_store.proofs.store.Store.named_quads.Goals as goal

pub append_all-requires : goal.append_all-requires
append_all-requires c =
    let given = items_from_collect {E = ℕ} (Ok c.in_ok-keys.keys) c.in_ok-keys.ensures.ran (YieldsList-from_rest {shows = λ (k : List ℕ). k} c.keys_from.result refl) in
    from_kept _ _ _ c.self.invariant c.self.view_is _ c.keys_from.result _ c.keys_from.ensures (c.deref.ensures.value ∙ given)

pub returns-clause-found : goal.returns-clause-found
returns-clause-found c =
    let given = items_from_collect {E = ℕ} (Ok c.in_ok-keys.keys) c.in_ok-keys.ensures.ran (YieldsList-from_rest {shows = λ (k : List ℕ). k} c.keys_from.result refl) in
    from_appended _ _ _ c.self.invariant c.self.view_is c.terms_are_held_once.ensures.once 1 in_named (quad_named_from _) c.keys_from.result _ _ _ c.keys_from.ensures (c.deref.ensures.value ∙ given) c.in_ok-append_all.ensures.ok
