use Rattle.std.proofs.Common.{◌≡◌, arith, rules, ap, ◌∙◌, length}
use Rattle.std.specs.Vec.Iter.{into_iter_items, into_iter_len}
use Rattle.rdf_dataset.specs.Staging.{Staging}
use Rattle.rdf_dataset.proofs.CallerLemmas.{none_left}
use Rattle.rdf_terms.specs.declared.quad.GraphName.{GraphName}
use Rattle.sparql_eval.specs.Graphs.{quad_in}
use Rattle.sparql_eval.proofs.QuadLemmas.{adding_begins, adding_ends, adding_goes_on, name_comes, no_name_comes}
use Rattle.sparql_eval.proofs.quads.add_graph.Goals as goal

pub loop-quad-init : goal.loop-quad-init
loop-quad-init g c =
    let all : into_iter_items c.into_iter-quad-iterator.result ≡ c.matches.new.out.items = search rules in
    let count : into_iter_len c.into_iter-quad-iterator.result ≡ length (into_iter_items c.into_iter-quad-iterator.result) = search rules in
    record {
      steps = tt;
      ends = tt;
      beneath = search rules;
      adding = adding_begins c.args.view.now.now c.args.from.now c.args.to.now c.new-found.result.items c.matches.new.out.items _ c.sources_are_sound.ensures c.new-found.ensures.items c.in_ok-matches.ensures.found all;
      count = count;
    }

pub loop-quad-preserved : goal.loop-quad-preserved
loop-quad-preserved g c =
    let next = c.in-Some.ensures.steps in
    record {
      steps = tt;
      ends = tt;
      beneath = ap (λ (s : Staging). s.under) c.in_ok-insert.ensures.ok ∙ c.loop-quad.invariant.beneath;
      adding = adding_goes_on _ _ _ _ _ _ _ _ _ c.loop-quad.invariant.adding next.0
          (c.quad_in.ensures ∙ ap (λ (h : GraphName). quad_in h c.in-Some.quad) c.in_ok-copy.ensures) (ap (λ (s : Staging). s.now) c.in_ok-insert.ensures.ok);
      count = omega (arith, ap length next.0, next.1, c.loop-quad.invariant.count);
    }

pub returns-in_ok-add_name-in-Named-clause-ok : goal.returns-in_ok-add_name-in-Named-clause-ok
returns-in_ok-add_name-in-Named-clause-ok g c =
    let all = adding_ends _ _ _ _ _ c.loop-quad.invariant.adding (none_left _ _ c.loop-quad.invariant.count c.in-None.ensures.steps.0) in
    name_comes _ _ _ _ _ _ all c.in-Named.is c.in_ok-copy-in-Named.ensures (ap (λ (s : Staging). s.now) c.in_ok-add_name-in-Named.ensures.ok)

pub returns-in-Default-clause-ok : goal.returns-in-Default-clause-ok
returns-in-Default-clause-ok g c =
    let all = adding_ends _ _ _ _ _ c.loop-quad.invariant.adding (none_left _ _ c.loop-quad.invariant.count c.in-None.ensures.steps.0) in
    no_name_comes _ _ _ all c.in-Default.is
