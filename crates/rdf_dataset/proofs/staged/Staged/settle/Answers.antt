use Rattle.std.proofs.Common.{sym, subst, None}
use Rattle.std.specs.FinSet as set
use Rattle.rdf_terms.specs.Lists.{ListsOnce}
use Rattle.rdf_dataset.specs.State.{AppendsSome, applied, matches}
use Rattle.rdf_dataset.proofs.StoredLemmas.{all_listed}
use Rattle.rdf_dataset.proofs.staged.Staged.settle.Goals as goal

pub hold-requires : goal.hold-requires
hold-requires g c =
    let u = g.D.Source.contents c.self.inside.under.now in
    let t = applied c.self.inside.edits (g.D.Source.contents c.self.inside.under.now) in
    let beneath = set.retain u.quads (matches c.in-Some.graph None None None) in
    let all = subst (λ b. AppendsSome beneath b c.new-found.result.items c.some_matches.new.out.items) c.if-not-branch.false c.in_ok-some_matches.ensures.found in
    subst (ListsOnce (set.retain t.quads (matches c.in-Some.graph None None None))) (sym c.as_slice.ensures.value)
    (c.in_ok-amend_quads.ensures.ok u t c.self.invariant.0 (all_listed beneath _ _ c.new-found.ensures.items all))
