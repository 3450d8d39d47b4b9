use Rattle.std.proofs.Common.{◌≤◌, sym, subst, not, rules, length}
use Rattle.std.proofs.lemmas.Fn.{filter_same}
use Rattle.std.proofs.lemmas.Result.{on_ok_weaker, IfOk-weaker}
use Rattle.std.specs.FinSet as set
use Rattle.rdf_terms.specs.Order.{quad_cmp}
use Rattle.rdf_dataset.specs.State.{in_named}
use Rattle.rdf_sets.proofs.CallerLemmas.{filter_short}
use Rattle.rdf_dataset.proofs.QuadEditLemmas.{amended, few_more}
use Rattle.rdf_dataset.proofs.quad_edits.QuadEdits.amend_named.Goals as goal

pub returns-clause-ok : goal.returns-clause-ok
returns-clause-ok c =
    let kept = filter_same _ (λ x. not (set.contains (set.from_list {R = quad_cmp} c.args.self.now.removed) x)) _ (λ x b f k. search rules) _ _ c.retain.ensures.filtered in
    on_ok_weaker c.named_quads.result (λ f s t d l. amended s t c.args.self.now.added.quads c.args.self.now.removed in_named c.args.found.now.items _ _ d l kept f) c.named_quads.ensures.found

pub returns-clause-looked : goal.returns-clause-looked
returns-clause-looked c =
    let kept = filter_same _ (λ x. not (set.contains (set.from_list {R = quad_cmp} c.args.self.now.removed) x)) _ (λ x b f k. search rules) _ _ c.retain.ensures.filtered in
    let fewer = filter_short (λ x. not (set.contains (set.from_list {R = quad_cmp} c.args.self.now.removed) x)) c.args.found.now.items in
    IfOk-weaker c.named_quads.result _ _ (λ looked e. few_more _ _ _ looked (subst (λ xs. length xs ≤ length c.args.found.now.items) (sym kept) fewer) e) c.named_quads.ensures.looked
