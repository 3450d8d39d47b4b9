use Rattle.rdf_store.proofs.NameLemmas.{gathered_kept, gathered_shown, gathered_sound}
use Rattle.rdf_store.proofs.quad_list.QuadList.into_store.Goals as goal

pub invariant_of-result : goal.invariant_of-result
invariant_of-result c = gathered_kept c.self.inside.table c.self.inside.keys.items c.args.self c.in_ok-sets.sets c.self.invariant c.self.view_is c.in_ok-sets.ensures

pub returns-clause-store : goal.returns-clause-store
returns-clause-store c = gathered_shown c.self.inside.table c.self.inside.keys.items c.args.self c.in_ok-sets.sets c.self.invariant c.self.view_is c.in_ok-sets.ensures

pub returns-clause-sound : goal.returns-clause-sound
returns-clause-sound c = gathered_sound c.self.inside.table c.self.inside.keys.items c.args.self c.in_ok-sets.sets c.self.invariant c.self.view_is c.in_ok-sets.ensures
