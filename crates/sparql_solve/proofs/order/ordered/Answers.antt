use Rattle.std.proofs.Common.{rules, ◌≡◌}
use Rattle.std.specs.List.{dedup}
use Rattle.std.specs.Ordering.{eq_by_cmp}
use Rattle.std.proofs.lemmas.Fn.{dedup_same}
use Rattle.sparql_algebra.specs.Order.{mapping_cmp}
use Rattle.sparql_solve.proofs.DistinctLemmas.{kept_sorted, ordered_all, ordered_distinct}
use Rattle.sparql_solve.proofs.order.ordered.Goals as goal

pub returns-then-distinct : goal.returns-then-distinct
returns-then-distinct c =
    let once : c.dedup_by.new.self.items ≡ dedup (eq_by_cmp mapping_cmp) c.sort_rows.new.rows.items =
    dedup_same _ (eq_by_cmp mapping_cmp) _ (λ x y b f' x' y' k. search rules) _ _ c.dedup_by.ensures.filtered in
    record {
      sorted = kept_sorted c.sort_rows.new.rows.items c.dedup_by.new.self.items c.in_ok-sort_rows.ensures.sorted once;
      counted = ordered_distinct c.args.rows.items c.sort_rows.new.rows.items c.dedup_by.new.self.items c.args.distinct c.if-distinct.true
          c.in_ok-sort_rows.ensures.permutation c.in_ok-sort_rows.ensures.sorted once;
    }

pub returns : goal.returns
returns c = record {
  sorted = c.in_ok-sort_rows.ensures.sorted;
  counted = ordered_all c.args.rows.items c.sort_rows.new.rows.items c.args.distinct c.in_ok-sort_rows.ensures.permutation c.if-distinct.false;
}
