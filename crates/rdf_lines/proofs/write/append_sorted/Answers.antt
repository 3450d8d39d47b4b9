use Rattle.std.proofs.Common.{arith, Bor, ◌∙◌, ap, refl, sym, subst, List, ◌++◌, map, IsSorted, IsPermutation}
use Rattle.std.proofs.lemmas.Grind.{common_steps}
use Rattle.std.specs.List.{flat_map}
use Rattle.std.specs.declared.cmp.Ordering.{Ordering}
use Rattle.std.proofs.lemmas.List.{take_all}
use Rattle.std.proofs.lemmas.List.Folds.{flat_map-map}
use Rattle.std.proofs.lemmas.List.Sorted.{IsPermutation-map}
use Rattle.rdf_terms.specs.Order.{quad_cmp}
use Rattle.rdf_terms.specs.OrderLaws.{quad_order_is}
use Rattle.rdf_terms.specs.declared.quad.Quad.{Quad}
use Rattle.rdf_lines.specs.QuadText.{quad_text}
use Rattle.rdf_lines.proofs.SortLemmas.{IsSorted-map}
use Rattle.rdf_lines.proofs.write.append_sorted.Goals as goal

pub returns-clause-ok : goal.returns-clause-ok
returns-clause-ok c =
    let now = λ (q : Bor Quad). q.now in
    let refs = c.sort.new.self.items in (
      flat_map quad_text (map now refs),
      (
        map now refs,
        subst (λ (l : List Quad). IsPermutation l (map now refs)) c.in_ok-sorted.ensures (IsPermutation-map now c.in_ok-sorted.sorted.items refs c.sort.ensures.permutation),
        IsSorted-map now quad_cmp refs (subst (λ (cmp : Quad → Quad → Ordering). IsSorted (λ x y. cmp x.now y.now) refs) quad_order_is c.in_ok-sort.ensures.sorted),
        refl,
      ),
      c.loop-quad.invariant
          ∙ ap (λ (l : List (Bor Quad)). c.args.out.now.items ++ flat_map (λ q. quad_text q.now) l) (take_all c.loop-quad.quad-index c.deref-quad-items.result.now c.loop-quad-test.false ∙ c.deref-quad-items.ensures.value)
          ∙ ap (λ l. c.args.out.now.items ++ l) (sym (flat_map-map quad_text now refs)),
    )

pub loop-quad-preserved : goal.loop-quad-preserved
loop-quad-preserved c = grind (arith, common_steps)

pub returns-clause-kept : goal.returns-clause-kept
returns-clause-kept c = grind (arith, common_steps)

pub returns-in_err-sort-clause-kept : goal.returns-in_err-sort-clause-kept
returns-in_err-sort-clause-kept c = grind (arith, common_steps)

pub returns-in_err-sorted-clause-kept : goal.returns-in_err-sorted-clause-kept
returns-in_err-sorted-clause-kept c = grind (arith, common_steps)

pub returns-in_err-write_quad-clause-kept : goal.returns-in_err-write_quad-clause-kept
returns-in_err-write_quad-clause-kept c = grind (arith, common_steps)
