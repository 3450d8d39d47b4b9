use Rattle.std.proofs.Common.{◌∙◌, ap, sym}
use Rattle.std.specs.FinSet as set
use Rattle.rdf_store.specs.Stored.{Stored}
use Rattle.rdf_store.proofs.StoreLemmas.{contains_shown, quad_lacks}
use Rattle.rdf_store.proofs.store.Store.contains.Goals as goal

pub returns-in-Some : goal.returns-in-Some
returns-in-Some c =
    c.contains.ensures ∙ contains_shown _ _ c.self.invariant c.terms_are_held_once.ensures.once _ _ c.in-Some.ensures.found
    ∙ ap (λ (v : Stored). set.contains v.quads c.args.quad.now) c.self.view_is

pub returns-in-None : goal.returns-in-None
returns-in-None c =
    sym (quad_lacks _ _ c.self.invariant _ c.in-None.ensures.absent)
    ∙ ap (λ (v : Stored). set.contains v.quads c.args.quad.now) c.self.view_is
