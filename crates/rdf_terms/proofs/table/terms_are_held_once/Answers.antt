use Rattle.std.proofs.Common.{subst}
use Rattle.rdf_terms.specs.Table.{AreHeldOnce}
use Rattle.rdf_terms.proofs.TableLemmas.{held_once}
use Rattle.rdf_terms.proofs.table.terms_are_held_once.Goals as goal

pub returns-clause-once : goal.returns-clause-once
returns-clause-once c = subst AreHeldOnce c.table.view_is (held_once c.table.inside.set.keys c.len.ensures.unique)
