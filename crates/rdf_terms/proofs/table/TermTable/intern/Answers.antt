use Rattle.std.proofs.Common.{◌∙◌, ap}
use Rattle.rdf_terms.specs.Table.{with_term}
use Rattle.rdf_terms.proofs.TableLemmas.{inserted}
use Rattle.rdf_terms.proofs.table.TermTable.intern.Goals as goal

pub returns-clause-kept : goal.returns-clause-kept
returns-clause-kept c =
    c.in_ok-place.ensures.keys ∙ inserted c.self.inside.set.keys c.args.term
    ∙ ap (λ terms. with_term terms c.args.term) c.self.view_is
