use Rattle.std.proofs.Common.{arith, ◌≡◌, ◌∙◌, ◌==◌, refl, sym, ◌++◌, append-nil, length, take, codes, ap, List, ℕ}
use Rattle.std.specs.List.{join_by}
use Rattle.std.proofs.lemmas.List.{nil_from_length}
use Rattle.sparql_results.specs.CsvText.{csv_field}
use Rattle.sparql_results.proofs.ItemLemmas.{all_joined, next_joined, none_joined}
use Rattle.sparql_results.proofs.KeptLemmas.{in_two, kept_before, kept_in_loop, kept_same, kept_through}
use Rattle.sparql_results.proofs.csv.append_csv_header.Goals.{in_default, in-len1-up+in_ok-append_csv_field+else-loop-name-test}
use Rattle.sparql_results.proofs.csv.append_csv_header.Goals as goal

pub loop-name-init : goal.loop-name-init
loop-name-init c = sym (append-nil _)

pub loop-name-preserved : goal.loop-name-preserved
loop-name-preserved c =
    next_joined (λ (name : List ℕ). csv_field (length c.args.columns.now == 1) name) (codes ",") _ _ c.loop-name.name-index
    c.name-item.result _ _ _ c.loop-name-test.true c.name-item.is c.loop-name.invariant c.in_ok-push.ensures.items
    (c.in_ok-append_csv_field-2.ensures.ok
    ∙ ap (λ (t : List ℕ). c.push.new.self.items ++ csv_field (length c.args.columns.now == 1) t) (c.as_bytes-in-loop-name.ensures.value ∙ c.as_str-in-loop-name.ensures.value))

pub returns-in_err-push-clause-kept : goal.returns-in_err-push-clause-kept
returns-in_err-push-clause-kept c =
    kept_through _ _ _ c.append_csv_field.ensures.kept (kept_before _ _ _ (c.in_err-push.ensures.items ∙ c.loop-name.invariant))

pub returns-in_err-append_csv_field-2-clause-kept : goal.returns-in_err-append_csv_field-2-clause-kept
returns-in_err-append_csv_field-2-clause-kept c =
    kept_in_loop _ _ _ _ _ _ _ c.append_csv_field.ensures.kept c.loop-name.invariant c.in_ok-push.ensures.items c.append_csv_field-in-loop-name.ensures.kept

pub returns-in_err-extend_from_slice-clause-kept : goal.returns-in_err-extend_from_slice-clause-kept
returns-in_err-extend_from_slice-clause-kept c =
    let kept : take (length c.args.out.now.items) c.if-columns-lt1.out.items ≡ c.args.out.now.items =
    elim c.if-columns-lt1.branch [
      | in_default w ↦ rw w.out-is (kept_same c.args.out.now.items _ refl)
      | in-len1-up+in_ok-append_csv_field+else-loop-name-test w ↦
          rw w.out-is (kept_through _ _ _ w.append_csv_field.ensures.kept (kept_before _ _ _ w.loop-name.invariant))
    ] in
    kept_through _ _ _ kept (kept_same _ _ c.in_err-extend_from_slice.ensures.items)

pub returns-clause-ok : goal.returns-clause-ok
returns-clause-ok c =
    let text = λ (name : List ℕ). csv_field (length c.args.columns.now == 1) name in
    let written : c.if-columns-lt1.out.items ≡ c.args.out.now.items ++ join_by text (codes ",") c.args.columns.now =
    elim c.if-columns-lt1.branch [
      | in_default w ↦ rw w.out-is (none_joined text (codes ",") c.args.out.now.items c.args.columns.now (nil_from_length c.args.columns.now (omega arith)))
      | in-len1-up+in_ok-append_csv_field+else-loop-name-test w ↦
          rw w.out-is
          (all_joined text (codes ",") c.args.out.now.items c.args.columns.now w.first-item.result w.loop-name.name-index w.append_csv_field.new.out.items
          w.loop-name.out.items w.in-len1-up.len_at_least w.first-item.is
          (w.in_ok-append_csv_field.ensures.ok ∙ ap (λ (t : List ℕ). c.args.out.now.items ++ text t) (w.as_bytes.ensures.value ∙ w.as_str.ensures.value)) w.loop-name-test.false
          w.loop-name.invariant)
    ] in
    in_two c.args.out.now.items (join_by text (codes ",") c.args.columns.now) (codes "\r\n") c.if-columns-lt1.out.items
    c.extend_from_slice.new.self.items written c.in_ok-extend_from_slice.ensures.items

pub returns-clause-kept : goal.returns-clause-kept
returns-clause-kept c =
    let kept : take (length c.args.out.now.items) c.if-columns-lt1.out.items ≡ c.args.out.now.items =
    elim c.if-columns-lt1.branch [
      | in_default w ↦ rw w.out-is (kept_same c.args.out.now.items _ refl)
      | in-len1-up+in_ok-append_csv_field+else-loop-name-test w ↦
          rw w.out-is (kept_through _ _ _ w.append_csv_field.ensures.kept (kept_before _ _ _ w.loop-name.invariant))
    ] in
    kept_through _ _ _ kept (kept_before _ _ _ c.in_ok-extend_from_slice.ensures.items)
