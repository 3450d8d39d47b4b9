use Rattle.std.proofs.Common.{◌∙◌, ap}
use Rattle.rdf_dataset.specs.State.{without_names}
use Rattle.rdf_dataset.specs.Staging.{Staging, staged}
use Rattle.rdf_dataset.proofs.ClearingLemmas.{named_gone_once, names_after_named}
use Rattle.rdf_dataset.proofs.staged.Staged.drop_named.Goals as goal

pub drop_names-requires : goal.drop_names-requires
drop_names-requires g c = named_gone_once c.args.self.now.now _ (ap (λ (s : Staging). s.now) c.in_ok-clear_named.ensures.ok)

pub returns-clause-ok : goal.returns-clause-ok
returns-clause-ok g c =
    c.self.view_is ∙ c.in_ok-drop_names.ensures.ok ∙ ap (λ (s : Staging). staged s (without_names s.now)) c.in_ok-clear_named.ensures.ok
    ∙ ap (staged c.args.self.now) (names_after_named c.args.self.now.now)
