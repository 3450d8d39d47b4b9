use Rattle.std.proofs.Common.{rules, ◌≡◌, ◌∙◌, ◌++◌, ◌∷◌, [], ap, filter, map, sym, take, take_all}
use Rattle.std.proofs.lemmas.List.{take_more}
use Rattle.rdf_terms.specs.Quad.{QuadParts}
use Rattle.sparql_values.specs.Mapping.{same_term}
use Rattle.sparql_solve.specs.Bins.{bin_items, binned}
use Rattle.sparql_solve.specs.Partners.{end_term}
use Rattle.sparql_solve.proofs.PartnerLemmas.{quad_put}
use Rattle.sparql_solve.proofs.partners.quad_bins.Goals as goal

pub loop-quad-preserved : goal.loop-quad-preserved
loop-quad-preserved c =
    let x : QuadParts = c.quad-item.result in
    record {
      paired = c.in_ok-put.ensures.paired;
      put = quad_put c.args.is_subject c.args.quads.now c.loop-quad.quad-index x (binned c.loop-quad.terms (map bin_items c.loop-quad.bins.items))
          (binned c.put.new.terms (map bin_items c.put.new.bins.items)) c.end_term.result.now
          (take_more c.args.quads.now c.loop-quad.quad-index x c.loop-quad-test.true ∙ ap (λ (y : QuadParts). take c.loop-quad.quad-index c.args.quads.now ++ y ∷ []) (sym c.quad-item.is))
          c.end_term.ensures c.loop-quad.invariant.put c.in_ok-put.ensures.put;
    }

pub invariant_of-result : goal.invariant_of-result
invariant_of-result c =
    let all : map (λ q. q.now) c.in_ok-all.all.items ≡ c.args.quads.now = search rules in
    record {
      parted = λ t. c.over.ensures t ∙ c.loop-quad.invariant.put t
          ∙ ap (filter (λ q. same_term t (end_term c.args.is_subject q))) (take_all c.loop-quad.quad-index c.args.quads.now c.loop-quad-test.false ∙ sym all);
    }
