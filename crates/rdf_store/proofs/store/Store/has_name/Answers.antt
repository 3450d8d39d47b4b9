use Rattle.std.proofs.Common.{◌∙◌, ap, sym}
use Rattle.std.specs.FinSet as set
use Rattle.rdf_store.specs.Stored.{Stored}
use Rattle.rdf_store.proofs.StoreLemmas.{has_shown, name_lacks}
use Rattle.rdf_store.proofs.store.Store.has_name.Goals as goal

pub returns-in-Some : goal.returns-in-Some
returns-in-Some c =
    c.has_name.ensures ∙ has_shown _ _ c.self.invariant c.terms_are_held_once.ensures.once _ _ c.in-Some.ensures.found
    ∙ ap (λ (v : Stored). set.contains v.names c.args.name.now) c.self.view_is

pub returns-in-None : goal.returns-in-None
returns-in-None c =
    sym (name_lacks _ _ c.self.invariant _ c.in-None.ensures.absent)
    ∙ ap (λ (v : Stored). set.contains v.names c.args.name.now) c.self.view_is
