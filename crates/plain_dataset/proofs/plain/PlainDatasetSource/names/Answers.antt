use Rattle.std.proofs.Common.{◌∙◌, ap, subst, ◌++◌}
use Rattle.std.proofs.lemmas.Result.{on_ok_weaker}
use Rattle.rdf_dataset.specs.State.{State}
use Rattle.rdf_terms.specs.Lists.{ListsOnce}
use Rattle.rdf_terms.specs.OrderLaws.{term_cmp_total, term_cmp-IsAntisymmetric}
use Rattle.rdf_sets.proofs.CallerLemmas.{lists_once}
use Rattle.plain_dataset.proofs.plain.PlainDatasetSource.names.Goals as goal

pub returns-clause-ok : goal.returns-clause-ok
returns-clause-ok c =
    let l = lists_once term_cmp_total term_cmp-IsAntisymmetric c.self.inside.names c.as_slice.ensures.sorted in
    on_ok_weaker c.append_copies.result (λ e. record {
      found = c.self.inside.names;
      appended = e ∙ ap (λ xs. c.args.out.now.items ++ xs) c.as_slice.ensures.items;
      each_once = subst (λ (s : State). ListsOnce s.names c.self.inside.names) c.self.view_is l;
    }) c.append_copies.ensures.ok
