use Rattle.std.proofs.Common.{drop}
use Rattle.std.specs.Prelude.{option_copied}
use Rattle.rdf_dataset.proofs.LoadingLemmas.{IsNaming, Sound}
use Rattle.rdf_dataset.proofs.loading.new_names.Given as goal

abbrev pub invariant-loop-quad : goal.invariant-loop-quad
invariant-loop-quad g l = record {
  naming : IsNaming (g.D.Source.contents l.under).names l.quads l.names.added l.names.removed (option_copied l.before) (drop l.quad-index l.quads);
  sound : Sound (drop l.quad-index l.quads) → Sound l.quads;
}
