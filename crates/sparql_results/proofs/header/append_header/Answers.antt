use Rattle.std.proofs.Common.{arith, ◌≡◌, ◌∙◌, refl, sym, ◌++◌, append-nil, length, take, codes}
use Rattle.std.specs.List.{join_by}
use Rattle.std.proofs.lemmas.List.{nil_from_length}
use Rattle.sparql_results.specs.ResultsText.{column_text}
use Rattle.sparql_results.proofs.ItemLemmas.{all_joined, next_joined, none_joined}
use Rattle.sparql_results.proofs.KeptLemmas.{in_two, kept_before, kept_in_loop, kept_same, kept_through}
use Rattle.sparql_results.proofs.header.append_header.Goals.{in_default, in-len1-up+in_ok-append_column+else-loop-name-test}
use Rattle.sparql_results.proofs.header.append_header.Goals as goal

pub loop-name-init : goal.loop-name-init
loop-name-init c = sym (append-nil _)

pub loop-name-preserved : goal.loop-name-preserved
loop-name-preserved c =
    next_joined column_text (codes "\t") _ _ c.loop-name.name-index c.name-item.result _ _ _ c.loop-name-test.true c.name-item.is c.loop-name.invariant
    c.in_ok-push.ensures.items c.in_ok-append_column-2.ensures.ok

pub returns-in_err-push-clause-kept : goal.returns-in_err-push-clause-kept
returns-in_err-push-clause-kept c =
    kept_through _ _ _ c.append_column.ensures.kept (kept_before _ _ _ (c.in_err-push.ensures.items ∙ c.loop-name.invariant))

pub returns-in_err-append_column-2-clause-kept : goal.returns-in_err-append_column-2-clause-kept
returns-in_err-append_column-2-clause-kept c =
    kept_in_loop _ _ _ _ _ _ _ c.append_column.ensures.kept c.loop-name.invariant c.in_ok-push.ensures.items c.append_column-in-loop-name.ensures.kept

pub returns-in_err-push-2-clause-kept : goal.returns-in_err-push-2-clause-kept
returns-in_err-push-2-clause-kept c =
    let kept : take (length c.args.out.now.items) c.if-columns-lt1.out.items ≡ c.args.out.now.items =
    elim c.if-columns-lt1.branch [
      | in_default w ↦ rw w.out-is (kept_same c.args.out.now.items _ refl)
      | in-len1-up+in_ok-append_column+else-loop-name-test w ↦ rw w.out-is (kept_through _ _ _ w.append_column.ensures.kept (kept_before _ _ _ w.loop-name.invariant))
    ] in
    kept_through _ _ _ kept (kept_same _ _ c.in_err-push-2.ensures.items)

pub returns-clause-ok : goal.returns-clause-ok
returns-clause-ok c =
    let joined = join_by column_text (codes "\t") c.args.columns.now in
    let written : c.if-columns-lt1.out.items ≡ c.args.out.now.items ++ joined =
    elim c.if-columns-lt1.branch [
      | in_default w ↦ rw w.out-is (none_joined column_text (codes "\t") c.args.out.now.items c.args.columns.now (nil_from_length c.args.columns.now (omega arith)))
      | in-len1-up+in_ok-append_column+else-loop-name-test w ↦
          rw w.out-is
          (all_joined column_text (codes "\t") c.args.out.now.items c.args.columns.now w.first-item.result w.loop-name.name-index w.append_column.new.out.items w.loop-name.out.items
          w.in-len1-up.len_at_least w.first-item.is w.in_ok-append_column.ensures.ok w.loop-name-test.false w.loop-name.invariant)
    ] in
    in_two c.args.out.now.items joined (codes "\n") c.if-columns-lt1.out.items c.push-2.new.self.items written c.in_ok-push-2.ensures.items

pub returns-clause-kept : goal.returns-clause-kept
returns-clause-kept c =
    let kept : take (length c.args.out.now.items) c.if-columns-lt1.out.items ≡ c.args.out.now.items =
    elim c.if-columns-lt1.branch [
      | in_default w ↦ rw w.out-is (kept_same c.args.out.now.items _ refl)
      | in-len1-up+in_ok-append_column+else-loop-name-test w ↦ rw w.out-is (kept_through _ _ _ w.append_column.ensures.kept (kept_before _ _ _ w.loop-name.invariant))
    ] in
    kept_through _ _ _ kept (kept_before _ _ _ c.in_ok-push-2.ensures.items)
