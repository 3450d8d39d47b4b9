use Rattle.std.proofs.Common.{sym, subst, None}
use Rattle.std.specs.FinSet as set
use Rattle.rdf_terms.specs.Lists.{ListsOnce}
use Rattle.rdf_dataset.specs.State.{applied, matches}
use Rattle.rdf_dataset.specs.Staging.{Staging}
use Rattle.rdf_dataset.proofs.staged.Staged.hold.Goals as goal

pub hold-requires : goal.hold-requires
hold-requires g c = (
  applied c.self.inside.edits (g.D.Source.contents c.self.inside.under.now),
  c.self.invariant.2,
  subst (λ (s : Staging). ListsOnce (set.retain s.now.quads (matches c.args.graph.now None None None)) c.args.quads.now) (sym c.self.view_is) c.requires,
)

pub invariant_of-self : goal.invariant_of-self
invariant_of-self g c = (
  c.self.invariant.0,
  c.self.invariant.1,
  c.hold.ensures (applied c.self.inside.edits (g.D.Source.contents c.self.inside.under.now))
      (subst (λ (s : Staging). ListsOnce (set.retain s.now.quads (matches c.args.graph.now None None None)) c.args.quads.now) (sym c.self.view_is) c.requires) c.self.invariant.2,
)
