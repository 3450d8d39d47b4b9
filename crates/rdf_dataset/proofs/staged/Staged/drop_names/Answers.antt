use Rattle.std.proofs.Common.{◌≡◌, ◌∙◌, ap, arith, rules, length}
use Rattle.std.specs.Vec.Iter.{into_iter_items, into_iter_len}
use Rattle.rdf_dataset.specs.Staging.{Staging}
use Rattle.rdf_dataset.specs.State.{without_names}
use Rattle.rdf_dataset.proofs.ClearingLemmas.{going_ends, going_goes_on, names_gone, no_named_quads, same_staging, still_only}
use Rattle.rdf_dataset.proofs.InsertionLemmas.{none_left}
use Rattle.rdf_dataset.proofs.staged.Staged.drop_names.Goals as goal

pub loop-name-init : goal.loop-name-init
loop-name-init g c =
    let all : into_iter_items c.into_iter-name-iterator.result ≡ c.names.new.out.items = search rules in
    let count : into_iter_len c.into_iter-name-iterator.result ≡ length (into_iter_items c.into_iter-name-iterator.result) = search rules in
    record {
      steps = tt;
      ends = tt;
      beneath = search rules;
      only = c.requires;
      left = names_gone c.args.self.now.now c.new-named.result.items c.names.new.out.items _ c.requires c.new-named.ensures.items c.in_ok-names.ensures.ok all;
      count = count;
    }

pub drop_name-requires : goal.drop_name-requires
drop_name-requires g c = record { empty = no_named_quads c.loop-name.self.now _ c.loop-name.invariant.only }

pub loop-name-preserved : goal.loop-name-preserved
loop-name-preserved g c =
    let next = c.in-Some.ensures.steps in
    record {
      steps = tt;
      ends = tt;
      beneath = ap (λ (s : Staging). s.under) c.in_ok-drop_name.ensures.ok ∙ c.loop-name.invariant.beneath;
      only = still_only c.loop-name.self.now _ (ap (λ (s : Staging). s.now.quads) c.in_ok-drop_name.ensures.ok) c.loop-name.invariant.only;
      left = going_goes_on _ _ _ _ _ _ next.0 c.in_ok-drop_name.ensures.ok c.loop-name.invariant.left;
      count = omega (arith, ap length next.0, next.1, c.loop-name.invariant.count);
    }

pub returns-clause-ok : goal.returns-clause-ok
returns-clause-ok g c =
    same_staging c.args.self.now c.loop-name.self (without_names c.args.self.now.now) c.loop-name.invariant.beneath
    (going_ends _ _ _ (none_left _ _ c.loop-name.invariant.count c.in-None.ensures.steps.0) c.loop-name.invariant.left)
