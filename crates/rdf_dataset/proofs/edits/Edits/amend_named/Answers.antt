use Rattle.std.proofs.Common.{◌∙◌}
use Rattle.std.proofs.lemmas.Result.{on_ok_weaker}
use Rattle.rdf_dataset.proofs.QuadEditLemmas.{net_quads}
use Rattle.rdf_dataset.proofs.edits.Edits.amend_named.Goals as goal

pub returns-clause-ok : goal.returns-clause-ok
returns-clause-ok c =
    on_ok_weaker c.amend_named.result (λ a s t e l.
    a s.quads t.quads (net_quads s t c.self.inside.quads.added.quads c.self.inside.quads.removed _ _ c.self.inside.before c.self.inside.after (c.self.view_is ∙ e)) l) c.amend_named.ensures.ok
