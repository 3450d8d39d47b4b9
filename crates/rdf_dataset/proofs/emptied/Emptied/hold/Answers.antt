use Rattle.std.proofs.Common.{sym, subst, None}
use Rattle.std.specs.FinSet as set
use Rattle.rdf_terms.specs.Lists.{ListsOnce}
use Rattle.rdf_dataset.specs.State.{matches}
use Rattle.rdf_dataset.specs.Inside.Emptied.{AreHeld}
use Rattle.rdf_dataset.proofs.EmptiedLemmas.{default_held}
use Rattle.rdf_dataset.proofs.emptied.Emptied.hold.Goals as goal

pub graph_gained-requires : goal.graph_gained-requires
graph_gained-requires c = (
  c.requires.0,
  subst (λ p. AreHeld p c.requires.0.quads) (sym c.take.ensures.value) c.requires.1.in_each_graph,
  subst (λ x. ListsOnce (set.retain c.requires.0.quads (matches x None None None)) c.args.quads.now) c.in-Named.is c.requires.2,
)

pub returns-in-Default : goal.returns-in-Default
returns-in-Default c s l a = default_held s c.args.self.now c.part_of.result c.args.graph.now c.args.quads.now c.in-Default.is c.part_of.ensures l a
