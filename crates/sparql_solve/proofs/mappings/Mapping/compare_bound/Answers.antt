use Rattle.std.proofs.Common.{◌≡◌, length, rules, sym, ◌∙◌, subst}
use Rattle.std.specs.Option.{option_cmp}
use Rattle.std.specs.Ordering.{nat_cmp}
use Rattle.rdf_terms.specs.Order.{term_cmp}
use Rattle.sparql_values.specs.Mapping.{value_at}
use Rattle.sparql_values.specs.NextBound.{IsFirstFrom}
use Rattle.sparql_solve.proofs.BoundLemmas.{cmp_apart, cmp_first_more, cmp_here, cmp_lengths, cmp_second_more, eq_from, ne_apart, same_next}
use Rattle.sparql_solve.proofs.mappings.Mapping.compare_bound.Goals as goal

pub returns-in_default-next_bound : goal.returns-in_default-next_bound
returns-in_default-next_bound c =
    sym (cmp_first_more c.args.self.now c.args.other.now c.loop-column.from c.in-Some.column c.loop-column.invariant c.in-Some.ensures.next
    c.in_default-next_bound.ensures.next c.in-Some.ensures.within)

pub returns-then-column-next : goal.returns-then-column-next
returns-then-column-next c =
    c.cmp.ensures
    ∙ sym (cmp_apart c.args.self.now c.args.other.now c.loop-column.from c.in-Some.column c.in-Some-next_bound.next c.loop-column.invariant
    c.in-Some.ensures.next c.in-Some-next_bound.ensures.next c.in-Some.ensures.within c.in-Some-next_bound.ensures.within c.if-column-next.true)

pub returns-then-is_ne : goal.returns-then-is_ne
returns-then-is_ne c =
    let here : IsFirstFrom c.args.other.now c.loop-column.from c.in-Some.column =
    subst (IsFirstFrom c.args.other.now c.loop-column.from) (sym c.if-column-next.false) c.in-Some-next_bound.ensures.next in
    let values : c.cmp-by_value.result ≡ option_cmp term_cmp (value_at c.args.self.now c.in-Some.column) (value_at c.args.other.now c.in-Some.column) = search rules in
    cmp_here c.args.self.now c.args.other.now c.loop-column.from c.in-Some.column c.cmp-by_value.result c.loop-column.invariant c.in-Some.ensures.next here
    c.in-Some.ensures.within (rw c.if-column-next.false c.in-Some-next_bound.ensures.within) values
    (ne_apart c.cmp-by_value.result c.is_ne.result c.is_ne.ensures c.if-is_ne.true)

pub loop-column-preserved : goal.loop-column-preserved
loop-column-preserved c =
    let here : IsFirstFrom c.args.other.now c.loop-column.from c.in-Some.column =
    subst (IsFirstFrom c.args.other.now c.loop-column.from) (sym c.if-column-next.false) c.in-Some-next_bound.ensures.next in
    let values : c.cmp-by_value.result ≡ option_cmp term_cmp (value_at c.args.self.now c.in-Some.column) (value_at c.args.other.now c.in-Some.column) = search rules in
    same_next c.args.self.now c.args.other.now c.loop-column.from c.in-Some.column c.loop-column.invariant c.in-Some.ensures.next here
    (sym values ∙ eq_from c.cmp-by_value.result c.is_ne.result c.is_ne.ensures c.if-is_ne.false)

pub returns-in-Some-next_bound-2 : goal.returns-in-Some-next_bound-2
returns-in-Some-next_bound-2 c =
    sym (cmp_second_more c.args.self.now c.args.other.now c.loop-column.from c.in-Some-next_bound-2.field-0 c.loop-column.invariant c.in_default.ensures.next
    c.in-Some-next_bound-2.ensures.next c.in-Some-next_bound-2.ensures.within)

pub returns-in-None : goal.returns-in-None
returns-in-None c =
    let lengths : c.cmp-in-None.result ≡ nat_cmp (length c.args.self.now) (length c.args.other.now) = search rules in
    lengths
    ∙ sym (cmp_lengths c.args.self.now c.args.other.now c.loop-column.from c.loop-column.invariant c.in_default.ensures.next c.in-None.ensures.next)
