use Rattle.std.proofs.Common.{◌∙◌, ap}
use Rattle.std.proofs.lemmas.Result.{on_ok_weaker}
use Rattle.rdf_dataset.specs.Staging.{staged}
use Rattle.rdf_dataset.specs.Inside.Emptied.{less}
use Rattle.rdf_dataset.proofs.ClearingLemmas.{since_gone}
use Rattle.rdf_dataset.proofs.StoredLemmas.{lists_gained}
use Rattle.rdf_dataset.proofs.staged.Staged.empty_named.Goals as goal

pub returns-clause-ok : goal.returns-clause-ok
returns-clause-ok g c =
    let s = c.args.self.now in
    on_ok_weaker c.remove_each.result
    (λ e. e ∙ ap (λ quads. staged s (less s.now quads)) c.as_slice.ensures.value
    ∙ ap (staged s) (since_gone s.now _ (lists_gained _ _ _ c.in_ok-named_quads.ensures.found c.new-found.ensures.items)))
    c.remove_each.ensures.ok
