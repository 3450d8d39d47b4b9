use Rattle.rdf_session.proofs.KeptLemmas.{all_sound, whole}
use Rattle.rdf_session.proofs.keeper.Keeper.next_blank.Goals as goal

pub returns-clause-sound : goal.returns-clause-sound
returns-clause-sound c = all_sound _ _ _ _ _ c.self.inside.marks c.self.invariant.0 _ c.self.view_is

pub returns-clause-whole : goal.returns-clause-whole
returns-clause-whole c = whole _ _ _ _ _ c.self.inside.marks c.self.invariant.0 _ c.self.view_is c.self.invariant.1
