use Rattle.std.proofs.Common.{◌∙◌, ap, subst, ◌++◌, arith, length, length-append}
use Rattle.std.specs.Prelude.{filter, option_copied}
use Rattle.std.specs.FinSet as set
use Rattle.rdf_dataset.specs.State.{State, matches}
use Rattle.rdf_terms.specs.Lists.{ListsOnce}
use Rattle.rdf_terms.specs.OrderLaws.{quad_cmp_total, quad_cmp-IsAntisymmetric}
use Rattle.rdf_sets.proofs.CallerLemmas.{lists_matching, filter_short}
use Rattle.plain_dataset.proofs.plain.PlainDatasetSource.matches.Goals as goal

pub returns-clause-found : goal.returns-clause-found
returns-clause-found c =
    let test = matches c.args.graph.now (option_copied c.args.subject) (option_copied c.args.predicate) (option_copied c.args.object) in
    let l = lists_matching quad_cmp_total quad_cmp-IsAntisymmetric test c.self.inside.quads c.as_slice-quads.ensures.sorted in
    record {
      found = filter test c.self.inside.quads;
      appended = c.in_ok-append_matching.ensures.ok ∙ ap (λ xs. c.args.out.now.items ++ filter test xs) c.as_slice-quads.ensures.items;
      each_once = subst (λ (s : State). ListsOnce (set.retain s.quads test) (filter test c.self.inside.quads)) c.self.view_is l;
    }

pub returns-clause-looked : goal.returns-clause-looked
returns-clause-looked c =
    let test = matches c.args.graph.now (option_copied c.args.subject) (option_copied c.args.predicate) (option_copied c.args.object) in
    let short = filter_short test c.as_slice-quads.result.now in
    let e = ap length c.in_ok-append_matching.ensures.ok ∙ length-append c.args.out.now.items (filter test c.as_slice-quads.result.now) in
    omega (arith, short, e)
