use Rattle.std.proofs.Common.{◌≡◌, ◌∙◌, ap, arith, length, sym}
use Rattle.rdf_dataset.specs.State.{State}
use Rattle.rdf_session.proofs.KeptLemmas.{length-states_after}
use Rattle.rdf_session.specs.History.{History}
use Rattle.rdf_session.specs.Session.{Session}
use Rattle.rdf_session.proofs.keeper.Keeper.with_depth.Goals as goal

pub invariant_of-self : goal.invariant_of-self
invariant_of-self c =
    let none : length c.self.inside.entries.items ≡ 0 =
    sym (length-states_after _ c.self.inside.entries.items) ∙ ap (λ (s : Session). length s.states.items) c.self.view_is
    ∙ ap (λ (h : History State). length h.items) c.requires.without_history in
    (c.self.invariant.0, ((c.requires.from_one, c.requires.upto_greatest), omega (arith, none, c.requires.from_one)), c.self.invariant.2)
