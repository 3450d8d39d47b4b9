use Rattle.std.proofs.Common.{arith, Bor, ◌∙◌, ap, refl, sym, subst, List, ◌++◌, map, IsSorted, IsPermutation}
use Rattle.std.proofs.lemmas.Grind.{common_steps}
use Rattle.std.specs.List.{flat_map}
use Rattle.std.specs.declared.cmp.Ordering.{Ordering}
use Rattle.std.proofs.lemmas.List.{take_all}
use Rattle.std.proofs.lemmas.List.Folds.{flat_map-map}
use Rattle.std.proofs.lemmas.List.Sorted.{IsPermutation-map}
use Rattle.rdf_terms.specs.Order.{term_cmp}
use Rattle.rdf_terms.specs.OrderLaws.{term_order_is}
use Rattle.rdf_terms.specs.declared.term.Term.{Term}
use Rattle.rdf_terms.proofs.CallerLemmas.{kept_on}
use Rattle.rdf_lines.specs.StateText.{name_line}
use Rattle.rdf_lines.proofs.SortLemmas.{IsSorted-map}
use Rattle.rdf_lines.proofs.state_text.write.append_names.Goals as goal

pub returns-clause-ok : goal.returns-clause-ok
returns-clause-ok c =
    let now = λ (t : Bor Term). t.now in
    let refs = c.sort.new.self.items in (
      map now refs,
      subst (λ (l : List Term). IsPermutation l (map now refs)) c.in_ok-sorted.ensures (IsPermutation-map now c.in_ok-sorted.sorted.items refs c.sort.ensures.permutation),
      IsSorted-map now term_cmp refs (subst (λ (cmp : Term → Term → Ordering). IsSorted (λ x y. cmp x.now y.now) refs) term_order_is c.in_ok-sort.ensures.sorted),
      c.loop-name.invariant
          ∙ ap (λ (l : List (Bor Term)). c.args.out.now.items ++ flat_map (λ t. name_line t.now) l) (take_all c.loop-name.name-index c.deref-name-items.result.now c.loop-name-test.false ∙ c.deref-name-items.ensures.value)
          ∙ ap (λ l. c.args.out.now.items ++ l) (sym (flat_map-map name_line now refs)),
    )

pub loop-name-preserved : goal.loop-name-preserved
loop-name-preserved c = grind (arith, common_steps)

pub returns-clause-kept : goal.returns-clause-kept
returns-clause-kept c = grind (arith, common_steps)

pub returns-in_err-sort-clause-kept : goal.returns-in_err-sort-clause-kept
returns-in_err-sort-clause-kept c = grind (arith, common_steps)

pub returns-in_err-sorted-clause-kept : goal.returns-in_err-sorted-clause-kept
returns-in_err-sorted-clause-kept c = grind (arith, common_steps)

pub returns-in_err-append_name-clause-kept : goal.returns-in_err-append_name-clause-kept
returns-in_err-append_name-clause-kept c = kept_on _ _ _ _ c.loop-name.invariant c.append_name.ensures.kept
