use Rattle.std.proofs.Common.{arith, ◌≡◌, ◌∙◌, refl, sym, ◌++◌, append-nil, length, take, codes}
use Rattle.std.specs.List.{join_by}
use Rattle.std.proofs.lemmas.List.{nil_from_length}
use Rattle.sparql_results.specs.ResultsText.{field_text}
use Rattle.sparql_results.proofs.ItemLemmas.{all_joined, next_joined, none_joined}
use Rattle.sparql_results.proofs.KeptLemmas.{in_two, kept_before, kept_in_loop, kept_same, kept_through}
use Rattle.sparql_results.proofs.row.append_row.Goals.{in_default, in-len1-up+in_ok-append_field+else-loop-value-test}
use Rattle.sparql_results.proofs.row.append_row.Goals as goal

pub loop-value-init : goal.loop-value-init
loop-value-init c = sym (append-nil _)

pub loop-value-preserved : goal.loop-value-preserved
loop-value-preserved c =
    next_joined field_text (codes "\t") _ _ c.loop-value.value-index c.value-item.result _ _ _ c.loop-value-test.true c.value-item.is c.loop-value.invariant
    c.in_ok-push.ensures.items c.in_ok-append_field-2.ensures.ok

pub returns-in_err-push-clause-kept : goal.returns-in_err-push-clause-kept
returns-in_err-push-clause-kept c =
    kept_through _ _ _ c.append_field.ensures.kept (kept_before _ _ _ (c.in_err-push.ensures.items ∙ c.loop-value.invariant))

pub returns-in_err-append_field-2-clause-kept : goal.returns-in_err-append_field-2-clause-kept
returns-in_err-append_field-2-clause-kept c =
    kept_in_loop _ _ _ _ _ _ _ c.append_field.ensures.kept c.loop-value.invariant c.in_ok-push.ensures.items c.append_field-in-loop-value.ensures.kept

pub returns-in_err-push-2-clause-kept : goal.returns-in_err-push-2-clause-kept
returns-in_err-push-2-clause-kept c =
    let kept : take (length c.args.out.now.items) c.if-values-lt1.out.items ≡ c.args.out.now.items =
    elim c.if-values-lt1.branch [
      | in_default w ↦ rw w.out-is (kept_same c.args.out.now.items _ refl)
      | in-len1-up+in_ok-append_field+else-loop-value-test w ↦ rw w.out-is (kept_through _ _ _ w.append_field.ensures.kept (kept_before _ _ _ w.loop-value.invariant))
    ] in
    kept_through _ _ _ kept (kept_same _ _ c.in_err-push-2.ensures.items)

pub returns-clause-ok : goal.returns-clause-ok
returns-clause-ok c =
    let joined = join_by field_text (codes "\t") c.args.values.now in
    let written : c.if-values-lt1.out.items ≡ c.args.out.now.items ++ joined =
    elim c.if-values-lt1.branch [
      | in_default w ↦ rw w.out-is (none_joined field_text (codes "\t") c.args.out.now.items c.args.values.now (nil_from_length c.args.values.now (omega arith)))
      | in-len1-up+in_ok-append_field+else-loop-value-test w ↦
          rw w.out-is
          (all_joined field_text (codes "\t") c.args.out.now.items c.args.values.now w.first-item.result w.loop-value.value-index w.append_field.new.out.items w.loop-value.out.items
          w.in-len1-up.len_at_least w.first-item.is w.in_ok-append_field.ensures.ok w.loop-value-test.false w.loop-value.invariant)
    ] in
    in_two c.args.out.now.items joined (codes "\n") c.if-values-lt1.out.items c.push-2.new.self.items written c.in_ok-push-2.ensures.items

pub returns-clause-kept : goal.returns-clause-kept
returns-clause-kept c =
    let kept : take (length c.args.out.now.items) c.if-values-lt1.out.items ≡ c.args.out.now.items =
    elim c.if-values-lt1.branch [
      | in_default w ↦ rw w.out-is (kept_same c.args.out.now.items _ refl)
      | in-len1-up+in_ok-append_field+else-loop-value-test w ↦ rw w.out-is (kept_through _ _ _ w.append_field.ensures.kept (kept_before _ _ _ w.loop-value.invariant))
    ] in
    kept_through _ _ _ kept (kept_before _ _ _ c.in_ok-push-2.ensures.items)
