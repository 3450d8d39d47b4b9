use Rattle.std.proofs.Common.{rules, arith, ◌≡◌, ◌∙◌, ◌++◌, ◌∷◌, [], ap, codes, ℕ, List, if◌then◌else◌, Option, Some, append_assoc}
use Rattle.std.specs.List.{flat_map, join_by, zip}
use Rattle.std.specs.Slice.Iter.{iter_rest}
use Rattle.std.specs.Iterator.Adapters.{zip_first, zip_second}
use Rattle.std.proofs.lemmas.Grind.{common_steps}
use Rattle.std.proofs.lemmas.Slice.Zip.{Zip-more, either_empty_from_Zip}
use Rattle.rdf_terms.specs.declared.term.Term.{Term}
use Rattle.sparql_results.specs.JsonText.{bound, json_member}
use Rattle.sparql_results.proofs.KeptLemmas.{in_three, kept_before, kept_before_two, kept_over_two, kept_same}
use Rattle.sparql_results.proofs.SolutionLemmas.{all_written, bound_written, none_written}
use Rattle.sparql_results.proofs.json.append_json_solution.Goals as goal

pub loop-name-init : goal.loop-name-init
loop-name-init c =
    let names : iter_rest (zip_first c.into_iter-name-iterator.result) ≡ c.args.columns.now = first_of (search rules, grind (arith, common_steps)) in
    let values : iter_rest (zip_second c.into_iter-name-iterator.result) ≡ c.args.values.now = first_of (search rules, grind (arith, common_steps)) in
    none_written c.push.new.self.items _ _
    (ap (λ (ns : List (List ℕ)). join_by json_member (codes ",") (flat_map bound (zip ns (iter_rest (zip_second c.into_iter-name-iterator.result))))) names
    ∙ ap (λ (vs : List (Option Term)). join_by json_member (codes ",") (flat_map bound (zip c.args.columns.now vs))) values)

pub loop-name-preserved : goal.loop-name-preserved
loop-name-preserved c =
    let names : iter_rest (zip_first c.loop-name.name-iterator) ≡ c.in-Some.name.now ∷ iter_rest (zip_first c.next.new.self) =
    first_of (search rules, search (rules, Zip-more), grind (arith, common_steps)) in
    let values : iter_rest (zip_second c.loop-name.name-iterator) ≡ c.in-Some.value.now ∷ iter_rest (zip_second c.next.new.self) =
    first_of (search rules, search (rules, Zip-more), grind (arith, common_steps)) in
    let is_some : c.in-Some.value.now ≡ Some c.in-Some-value.term = first_of (search rules, grind (arith, common_steps)) in
    bound_written c.push.new.self.items _ c.loop-name.out.items c.append_json_member.new.out.items c.loop-name.is_first
    (iter_rest (zip_first c.loop-name.name-iterator)) (iter_rest (zip_first c.next.new.self)) (iter_rest (zip_second c.loop-name.name-iterator))
    (iter_rest (zip_second c.next.new.self)) c.in-Some.name.now c.in-Some.value.now c.in-Some-value.term c.loop-name.invariant names values is_some
    (c.in_ok-append_json_member.ensures.ok
    ∙ append_assoc c.loop-name.out.items (if c.loop-name.is_first then [] else codes ",") (json_member (c.in-Some.name.now, c.in-Some-value.term)))

pub returns-in_err-push-clause-kept : goal.returns-in_err-push-clause-kept
returns-in_err-push-clause-kept c = kept_same _ _ c.in_err-push.ensures.items

pub returns-in_err-push-2-clause-kept : goal.returns-in_err-push-2-clause-kept
returns-in_err-push-2-clause-kept c =
    kept_before_two _ _ _ _ _ c.in_ok-push.ensures.items (c.in_err-push-2.ensures.items ∙ c.loop-name.invariant.so_far)

pub returns-clause-kept : goal.returns-clause-kept
returns-clause-kept c =
    kept_over_two _ _ _ _ _ _ c.in_ok-push.ensures.items c.loop-name.invariant.so_far (kept_before _ _ _ c.in_ok-push-2.ensures.items)

pub returns-in_err-append_json_member-clause-kept : goal.returns-in_err-append_json_member-clause-kept
returns-in_err-append_json_member-clause-kept c =
    kept_over_two _ _ _ _ _ _ c.in_ok-push.ensures.items c.loop-name.invariant.so_far c.append_json_member.ensures.kept

pub returns-clause-ok : goal.returns-clause-ok
returns-clause-ok c =
    let members = join_by json_member (codes ",") (flat_map bound (zip c.args.columns.now c.args.values.now)) in
    let written : c.loop-name.out.items ≡ c.push.new.self.items ++ members =
    all_written c.push.new.self.items members c.loop-name.out.items c.loop-name.is_first (iter_rest (zip_first c.loop-name.name-iterator))
    (iter_rest (zip_second c.loop-name.name-iterator)) c.loop-name.invariant
    (either_empty_from_Zip c.loop-name.name-iterator c.next.new.self c.next.result c.in-None.is c.next.ensures.steps) in
    in_three c.args.out.now.items (codes "{") members (codes "}") c.push.new.self.items c.loop-name.out.items c.push-2.new.self.items
    c.in_ok-push.ensures.items written c.in_ok-push-2.ensures.items
