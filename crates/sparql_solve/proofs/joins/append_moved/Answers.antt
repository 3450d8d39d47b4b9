use Rattle.std.proofs.Common.{rules, ◌≡◌, filter, length, sym, ◌∙◌}
use Rattle.sparql_algebra.specs.Solutions.{satisfies}
use Rattle.sparql_solve.specs.Parts.{merges_in}
use Rattle.sparql_solve.proofs.PartLemmas.{none_merged, some_merged}
use Rattle.sparql_solve.proofs.joins.append_moved.Goals as goal

pub returns-then-len-before : goal.returns-then-len-before
returns-then-len-before c =
    let after_is : c.append_kept.new.out.len ≡ length c.append_kept.new.out.items = search rules in
    let out_is : c.args.out.now.len ≡ length c.args.out.now.items = search rules in
    some_merged c.args.row c.args.out.now.items (filter (satisfies c.args.scope.now.variables.now c.args.filters.now) (merges_in c.args.parts.now c.args.row))
    c.append_kept.new.out.items c.in_ok-append_kept.ensures
    (λ e. c.if-len-before.true (c.len.ensures ∙ after_is ∙ e ∙ sym out_is ∙ sym c.len-before.ensures))

pub returns : goal.returns
returns c =
    let after_is : c.append_kept.new.out.len ≡ length c.append_kept.new.out.items = search rules in
    let out_is : c.args.out.now.len ≡ length c.args.out.now.items = search rules in
    none_merged c.args.row c.args.out.now.items (filter (satisfies c.args.scope.now.variables.now c.args.filters.now) (merges_in c.args.parts.now c.args.row))
    c.append_kept.new.out.items c.in_ok-append_kept.ensures c.push.new.self.items
    (sym after_is ∙ sym c.len.ensures ∙ c.if-len-before.false ∙ c.len-before.ensures ∙ out_is) c.in_ok-push.ensures.items
