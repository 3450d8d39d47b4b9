use Rattle.std.proofs.Common.{arith, ◌≡◌, ◌∙◌, ◌==◌, refl, sym, ◌++◌, append-nil, length, take, codes, Option}
use Rattle.std.specs.List.{join_by}
use Rattle.std.proofs.lemmas.List.{nil_from_length}
use Rattle.rdf_terms.specs.declared.term.Term.{Term}
use Rattle.sparql_results.specs.CsvText.{csv_field, plain_text}
use Rattle.sparql_results.proofs.ItemLemmas.{all_joined, next_joined, none_joined}
use Rattle.sparql_results.proofs.KeptLemmas.{in_two, kept_before, kept_in_loop, kept_same, kept_through}
use Rattle.sparql_results.proofs.csv.append_csv_row.Goals.{in_default, in-len1-up+in_ok-append_csv_value+else-loop-value-test}
use Rattle.sparql_results.proofs.csv.append_csv_row.Goals as goal

pub loop-value-init : goal.loop-value-init
loop-value-init c = sym (append-nil _)

pub loop-value-preserved : goal.loop-value-preserved
loop-value-preserved c =
    next_joined (λ (value : Option Term). csv_field (length c.args.values.now == 1) (plain_text value)) (codes ",") _ _ c.loop-value.value-index
    c.value-item.result _ _ _ c.loop-value-test.true c.value-item.is c.loop-value.invariant c.in_ok-push.ensures.items
    c.in_ok-append_csv_value-2.ensures.ok

pub returns-in_err-push-clause-kept : goal.returns-in_err-push-clause-kept
returns-in_err-push-clause-kept c =
    kept_through _ _ _ c.append_csv_value.ensures.kept (kept_before _ _ _ (c.in_err-push.ensures.items ∙ c.loop-value.invariant))

pub returns-in_err-append_csv_value-2-clause-kept : goal.returns-in_err-append_csv_value-2-clause-kept
returns-in_err-append_csv_value-2-clause-kept c =
    kept_in_loop _ _ _ _ _ _ _ c.append_csv_value.ensures.kept c.loop-value.invariant c.in_ok-push.ensures.items c.append_csv_value-in-loop-value.ensures.kept

pub returns-in_err-extend_from_slice-clause-kept : goal.returns-in_err-extend_from_slice-clause-kept
returns-in_err-extend_from_slice-clause-kept c =
    let kept : take (length c.args.out.now.items) c.if-values-lt1.out.items ≡ c.args.out.now.items =
    elim c.if-values-lt1.branch [
      | in_default w ↦ rw w.out-is (kept_same c.args.out.now.items _ refl)
      | in-len1-up+in_ok-append_csv_value+else-loop-value-test w ↦
          rw w.out-is (kept_through _ _ _ w.append_csv_value.ensures.kept (kept_before _ _ _ w.loop-value.invariant))
    ] in
    kept_through _ _ _ kept (kept_same _ _ c.in_err-extend_from_slice.ensures.items)

pub returns-clause-ok : goal.returns-clause-ok
returns-clause-ok c =
    let text = λ (value : Option Term). csv_field (length c.args.values.now == 1) (plain_text value) in
    let written : c.if-values-lt1.out.items ≡ c.args.out.now.items ++ join_by text (codes ",") c.args.values.now =
    elim c.if-values-lt1.branch [
      | in_default w ↦ rw w.out-is (none_joined text (codes ",") c.args.out.now.items c.args.values.now (nil_from_length c.args.values.now (omega arith)))
      | in-len1-up+in_ok-append_csv_value+else-loop-value-test w ↦
          rw w.out-is
          (all_joined text (codes ",") c.args.out.now.items c.args.values.now w.first-item.result w.loop-value.value-index w.append_csv_value.new.out.items
          w.loop-value.out.items w.in-len1-up.len_at_least w.first-item.is w.in_ok-append_csv_value.ensures.ok w.loop-value-test.false
          w.loop-value.invariant)
    ] in
    in_two c.args.out.now.items (join_by text (codes ",") c.args.values.now) (codes "\r\n") c.if-values-lt1.out.items
    c.extend_from_slice.new.self.items written c.in_ok-extend_from_slice.ensures.items

pub returns-clause-kept : goal.returns-clause-kept
returns-clause-kept c =
    let kept : take (length c.args.out.now.items) c.if-values-lt1.out.items ≡ c.args.out.now.items =
    elim c.if-values-lt1.branch [
      | in_default w ↦ rw w.out-is (kept_same c.args.out.now.items _ refl)
      | in-len1-up+in_ok-append_csv_value+else-loop-value-test w ↦
          rw w.out-is (kept_through _ _ _ w.append_csv_value.ensures.kept (kept_before _ _ _ w.loop-value.invariant))
    ] in
    kept_through _ _ _ kept (kept_before _ _ _ c.in_ok-extend_from_slice.ensures.items)
