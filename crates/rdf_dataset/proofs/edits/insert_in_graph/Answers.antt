use Rattle.std.proofs.Common.{◌∙◌, sym, refl}
use Rattle.rdf_terms.specs.OrderLaws.{term_cmp_total, term_cmp-IsAntisymmetric}
use Rattle.rdf_sets.proofs.CallerLemmas.{insert_known, insert_new}
use Rattle.rdf_dataset.proofs.QuadEditLemmas.{on_ok_both, on_err_both}
use Rattle.rdf_dataset.proofs.edits.insert_in_graph.Goals as goal

pub returns-then-named-clause-ok : goal.returns-then-named-clause-ok
returns-then-named-clause-ok c = (
  (λ s t d h. insert_known term_cmp_total term_cmp-IsAntisymmetric s t c.args.names.now.added c.args.names.now.removed d c.args.name c.remove.new.self (sym c.if-named.true ∙ h) c.remove.ensures.items),
  c.in_ok-new.ensures.ok,
)

pub returns-then-named-clause-new : goal.returns-then-named-clause-new
returns-then-named-clause-new c = c.in_ok-new.ensures.new

pub returns-clause-ok : goal.returns-clause-ok
returns-clause-ok c =
    on_ok_both c.insert_with_name.result (λ n q. (
      (λ s t d h. insert_new term_cmp_total term_cmp-IsAntisymmetric s t c.args.names.now.added c.args.names.now.removed d c.args.name c.insert_with_name.new.names (sym c.if-named.false ∙ h) n),
      q,
    )) c.insert_with_name.ensures.names c.insert_with_name.ensures.ok

pub returns-clause-new : goal.returns-clause-new
returns-clause-new c = c.insert_with_name.ensures.new

pub returns-clause-err : goal.returns-clause-err
returns-clause-err c = on_err_both c.insert_with_name.result (λ n q. (n, refl, q)) c.insert_with_name.ensures.err_names c.insert_with_name.ensures.err_quads
