use Rattle.std.proofs.Common.{◌∙◌, ap}
use Rattle.rdf_session.specs.Session.{Session}
use Rattle.rdf_session.specs.Session.{nets_between}
use Rattle.rdf_session.proofs.KeptLemmas.{entries_are}
use Rattle.rdf_session.proofs.keeper.Keeper.entries.Goals as goal

pub returns : goal.returns
returns c = entries_are _ _ c.self.invariant.0.nets ∙ ap (λ (s : Session). nets_between s.base s.states.items) c.self.view_is
