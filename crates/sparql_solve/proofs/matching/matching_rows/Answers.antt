use Rattle.std.proofs.Common.{sym, ◌∙◌, arith}
use Rattle.std.proofs.lemmas.Bool.{eqb-true}
use Rattle.sparql_solve.proofs.PatternOrderLemmas.{all_asked, one_looked_up, none_asked}
use Rattle.sparql_solve.proofs.matching.matching_rows.Goals as goal

pub loop-alloc-init : goal.loop-alloc-init
loop-alloc-init g c =
    all_asked (g.S.Source.contents c.args.source.now) c.args.graph.now c.args.patterns.now c.in_ok-rest.rest.items c.args.start.items c.in_ok-rest.ensures

pub loop-alloc-preserved : goal.loop-alloc-preserved
loop-alloc-preserved g c =
    one_looked_up (g.S.Source.contents c.args.source.now) c.args.graph.now c.args.patterns.now c.loop-alloc.rest.items c.remove.new.self.items
    c.next_pattern-next.result c.in-Some.places c.loop-alloc.rows.items c.in_ok-rows.rows.items c.args.start.items
    (c.next_pattern-next.ensures (omega (arith, c.in-Some.ensures.len, c.loop-alloc.rest.ok.0)))
    c.in-Some.ensures.value c.in-Some.ensures.items c.loop-alloc.invariant c.in_ok-rows.ensures

pub returns : goal.returns
returns g c =
    none_asked (g.S.Source.contents c.args.source.now) c.args.graph.now c.args.patterns.now c.loop-alloc.rest.items c.loop-alloc.rows.items c.args.start.items
    (omega (arith, c.loop-alloc.rest.ok.0, eqb-true c.loop-alloc.rest.len 0 (sym c.is_empty.ensures ∙ c.loop-alloc-test.false)))
    c.loop-alloc.invariant
