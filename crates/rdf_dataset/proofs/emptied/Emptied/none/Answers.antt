use Rattle.std.proofs.Common.{sym, subst, Some}
use Rattle.rdf_store.specs.Stored.{Stored}
use Rattle.rdf_dataset.specs.Inside.Emptied.{AreHeld}
use Rattle.rdf_dataset.proofs.EmptiedLemmas.{none_held}
use Rattle.rdf_dataset.proofs.emptied.Emptied.none.Goals as goal

pub returns : goal.returns
returns c s = record {
  in_default_graph = tt;
  in_named_graphs = tt;
  of_graphs = tt;
  in_each_graph = subst (λ (z : Stored). AreHeld (Some z) s.quads) (sym c.new.ensures) (none_held s.quads);
}
