use Rattle.std.proofs.Common.{◌≡◌, ap, arith, rules, length}
use Rattle.std.proofs.lemmas.Grind.{common_steps}
use Rattle.std.specs.Vec.Iter.{into_iter_items, into_iter_len}
use Rattle.rdf_dataset.proofs.InsertionLemmas.{none_left}
use Rattle.rdf_dataset.proofs.SourceLemmas.{gathering_begins, gathering_ends, gathering_goes_on}
use Rattle.rdf_dataset.proofs.source.Source.named_quads.Goals as goal

pub loop-name-init : goal.loop-name-init
loop-name-init g c =
    let all : into_iter_items c.into_iter-name-iterator.result ≡ c.names.new.out.items = search rules in
    let count : into_iter_len c.into_iter-name-iterator.result ≡ length (into_iter_items c.into_iter-name-iterator.result) = search rules in
    record {
      steps = tt;
      ends = tt;
      gathering = gathering_begins _ _ _ _ _ c.new-names.ensures.items c.in_ok-names.ensures.ok all c.new-found.ensures.items;
      few = search rules;
      count = count;
    }

pub loop-name-preserved : goal.loop-name-preserved
loop-name-preserved g c =
    let next = c.in-Some.ensures.steps in
    record {
      steps = tt;
      ends = tt;
      gathering = gathering_goes_on _ _ _ _ _ _ next.0 c.in_ok-more.ensures.found c.loop-name.invariant.gathering;
      few = grind (arith, common_steps);
      count = omega (arith, ap length next.0, next.1, c.loop-name.invariant.count);
    }

pub returns-clause-found : goal.returns-clause-found
returns-clause-found g c =
    gathering_ends _ _ _ _ _ c.next_blank-next.ensures.sound (none_left _ _ c.loop-name.invariant.count c.in-None.ensures.steps.0)
    c.loop-name.invariant.gathering c.in_ok-append.ensures.items

pub returns-clause-looked : goal.returns-clause-looked
returns-clause-looked g c = grind (arith, common_steps)
