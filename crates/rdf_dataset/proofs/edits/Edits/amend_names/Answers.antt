use Rattle.std.proofs.Common.{◌∙◌, sym, ap, subst, not, rules, ◌++◌}
use Rattle.std.proofs.lemmas.Fn.{filter_same}
use Rattle.std.proofs.lemmas.Result.{on_ok_weaker}
use Rattle.std.specs.FinSet as set
use Rattle.rdf_terms.specs.Order.{term_cmp}
use Rattle.rdf_terms.specs.OrderLaws.{term_cmp_total, term_cmp-IsAntisymmetric}
use Rattle.rdf_terms.specs.Lists.{ListsOnce}
use Rattle.rdf_sets.proofs.CallerLemmas.{staged_once}
use Rattle.rdf_dataset.proofs.QuadEditLemmas.{net_names}
use Rattle.rdf_dataset.proofs.edits.Edits.amend_names.Goals as goal

pub returns : goal.returns
returns c = record {
  ok = on_ok_weaker c.append_copies.result (λ a s t e l.
      let d = net_names s t _ _ c.self.inside.names.added c.self.inside.names.removed c.self.inside.before c.self.inside.after (c.self.view_is ∙ e) in
      let kept = filter_same _ (λ x. not (set.contains (set.from_list {R = term_cmp} c.self.inside.names.removed) x)) _ (λ x b f k. search rules) _ _ c.retain.ensures.filtered in
      let m = staged_once term_cmp_total term_cmp-IsAntisymmetric s.names t.names c.self.inside.names.added c.self.inside.names.removed c.args.found.now.items d c.append_copies.ensures.sorted l in
      subst (ListsOnce t.names) (sym (a ∙ ap (λ xs. xs ++ c.self.inside.names.added) kept)) m) c.append_copies.ensures.ok;
}
