use Rattle.std.proofs.Common.{◌∙◌, sym}
use Rattle.rdf_dataset.proofs.EmptiedLemmas.{parts_with_default, parts_with_named}
use Rattle.rdf_dataset.proofs.emptied.Emptied.insert.Goals as goal

pub returns-in-Default : goal.returns-in-Default
returns-in-Default c s a = parts_with_default c.args.self.now s c.args.quad.now _ _ (sym c.graph.ensures.value ∙ c.in-Default.is) c.take.ensures.value c.gained.ensures a

pub returns-in-Named : goal.returns-in-Named
returns-in-Named c s a = parts_with_named c.args.self.now s c.args.quad.now c.in-Named.name _ _ _ _ _ _ (sym c.graph.ensures.value ∙ c.in-Named.is) c.take-in-Named.ensures.value c.take-in-Named-2.ensures.value c.take-in-Named-3.ensures.value c.gained-in-Named.ensures c.name_gained.ensures c.gained_apart.ensures a
