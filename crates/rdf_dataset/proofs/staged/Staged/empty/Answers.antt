use Rattle.std.proofs.Common.{◌∙◌, ap}
use Rattle.rdf_dataset.specs.Staging.{staged}
use Rattle.rdf_dataset.specs.Inside.Emptied.{less}
use Rattle.rdf_dataset.proofs.ClearingLemmas.{found_gone}
use Rattle.rdf_dataset.proofs.staged.Staged.empty.Goals as goal

pub returns-clause-ok : goal.returns-clause-ok
returns-clause-ok g c =
    let s = c.args.self.now in
    c.in_ok-remove_each.ensures.ok ∙ ap (λ quads. staged s (less s.now quads)) c.as_slice.ensures.value
    ∙ ap (staged s) (found_gone s.now c.args.graph.now c.new-found.result.items c.matches.new.out.items c.new-found.ensures.items c.in_ok-looked.ensures.found)
