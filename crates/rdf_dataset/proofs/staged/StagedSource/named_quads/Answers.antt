use Rattle.std.proofs.Common.{◌≡◌, subst}
use Rattle.std.specs.Prelude.{OnOk}
use Rattle.std.specs.FinSet as set
use Rattle.rdf_terms.specs.Lists.{AppendsOnce}
use Rattle.rdf_store.specs.Stored.{Stored}
use Rattle.rdf_dataset.specs.State.{applied, in_named}
use Rattle.rdf_dataset.specs.Staging.{Staging}
use Rattle.rdf_dataset.proofs.ClearingLemmas.{if_some}
use Rattle.rdf_dataset.proofs.EmptiedLemmas.{named_part}
use Rattle.rdf_dataset.proofs.staged.StagedSource.named_quads.Goals as goal

pub returns-in-Some-clause-found : goal.returns-in-Some-clause-found
returns-in-Some-clause-found g c =
    let t = applied c.self.inside.edits (g.D.Source.contents c.self.inside.under.now) in
    let here = if_some (λ (p : Stored). p.quads ≡ set.retain t.quads in_named) c.self.inside.emptied.named c.in-Some.part c.in-Some.is c.self.invariant.2.in_named_graphs in
    subst (λ (s : Staging). OnOk c.named_quads.result (AppendsOnce (set.retain s.now.quads in_named) c.args.out.now.items c.named_quads.new.out.items)) c.self.view_is
    (subst (λ z. OnOk c.named_quads.result (AppendsOnce z c.args.out.now.items c.named_quads.new.out.items)) (named_part t.quads c.in-Some.part.quads here) c.named_quads.ensures.found)
