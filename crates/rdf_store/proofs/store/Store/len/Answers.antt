use Rattle.std.proofs.Common.{◌∙◌}
use Rattle.rdf_store.proofs.ShownLemmas.{counted}
use Rattle.rdf_store.proofs.store.Store.len.Goals as goal

pub returns : goal.returns
returns c = c.len.ensures.len ∙ counted _ _ _ c.self.invariant c.self.view_is c.terms_are_held_once.ensures.once _ c.keys.ensures
