use Rattle.std.proofs.Common.{arith, sym, ap, ◌∙◌}
use Rattle.std.proofs.lemmas.Result.{err_from_is_err_and}
use Rattle.rdf_grammar.proofs.CallerLemmas.{grown_starts, going_fails, fails_on, fails_first, fails_then, deeper, grown_behind, grown_fails_behind}
use Rattle.sparql_terminals.specs.declared.terminal.Terminal.TheVariants as terminal
use Rattle.sparql_grammar.specs.GroupReading.{begins_pattern, contents, group, group_or_union, group_within, in_filter}
use Rattle.sparql_grammar.specs.Reading.{in_data}
use Rattle.sparql_terminals.specs.Terminals.{same_terminal}
use Rattle.sparql_grammar.proofs.GroupTurns.{pattern_some, turn_reads, pattern_fails, block_fails, filled_starts, filled_on, contents_read}
use Rattle.sparql_grammar.proofs.OperationTurns.{turn_shorter}
use Rattle.sparql_grammar.proofs.group.+group.Goals as goal

-- ---- group

pub group-returns-clause-reads : goal.group-returns-clause-reads
unfolding group
group-returns-clause-reads t c = rw (deeper (λ n. group_within n c.args.parser.now) c.args.depth (omega arith)) c.group_graph_pattern.ensures.reads

-- ---- groups with UNION between them

pub group_or_union-loop-groups-init : goal.group_or_union-loop-groups-init
group_or_union-loop-groups-init t c = record { grown = grown_starts _ _ _ _; shorter = omega arith }

pub group_or_union-returns-in_err-group-2-clause-reads : goal.group_or_union-returns-in_err-group-2-clause-reads
unfolding group_or_union
group_or_union-returns-in_err-group-2-clause-reads t c =
    let seen = sym c.loop-groups-test.ensures.found in
    let p = err_from_is_err_and c.from_residual-in_err-group-2.result c.from_residual-in_err-group-2.ensures.1 in
    rw (p.1, p.2) (fails_then _ _ _ _ _ c.in_ok-group.ensures.reads (fails_first _ _ _
    (grown_fails_behind same_terminal _ terminal.Union _ _ _ c.loop-groups.invariant.grown seen seen c.loop-groups-test.ensures.left c.in_err-group-2.ensures.reads)))

pub group_or_union-loop-groups-preserved : goal.group_or_union-loop-groups-preserved
group_or_union-loop-groups-preserved t c =
    let seen = sym c.loop-groups-test.ensures.found in
    record {
      grown = grown_behind same_terminal _ terminal.Union _ _ _ _ _ c.loop-groups.invariant.grown seen seen c.loop-groups-test.ensures.left c.in_ok-group-2.ensures.reads (omega (arith, c.in_ok-group-2.ensures.shorter)) c.in_ok-push-2.ensures.ok;
      shorter = omega (arith, c.in_ok-group-2.ensures.shorter, c.loop-groups-test.ensures.shorter);
    }

-- ---- what stands between the braces

pub contents-loop-parser-init : goal.contents-loop-parser-init
contents-loop-parser-init t c = record { filled = filled_starts _ _ _ _ _; shorter = omega arith }

pub contents-returns-in_err-put_block-clause-reads : goal.contents-returns-in_err-put_block-clause-reads
unfolding contents
contents-returns-in_err-put_block-clause-reads t c =
    let p = err_from_is_err_and c.from_residual.result c.from_residual.ensures.1 in
    rw (p.1, p.2) (fails_first _ _ _ c.in_err-put_block.ensures.puts)

pub contents-returns-in_err-put_pattern-clause-reads : goal.contents-returns-in_err-put_pattern-clause-reads
unfolding contents
contents-returns-in_err-put_pattern-clause-reads t c =
    let seen = ap begins_pattern (sym c.peek.ensures) ∙ sym c.loop-parser-test.ensures in
    let p = err_from_is_err_and c.from_residual-in_err-put_pattern.result c.from_residual-in_err-put_pattern.ensures.1 in
    rw (p.1, p.2) (fails_then _ _ _ _ _ c.in_ok-put_block.ensures.puts.1 (fails_first _ _ _ (fails_on _ c.in_err-put_pattern.ensures.puts
    (λ none. going_fails c.loop-parser.invariant.filled.going (pattern_some _ seen) seen (pattern_fails in_data in_filter (group_within c.args.depth) _ none)))))

pub contents-returns-in_err-put_block-2-clause-reads : goal.contents-returns-in_err-put_block-2-clause-reads
unfolding contents
contents-returns-in_err-put_block-2-clause-reads t c =
    let seen = ap begins_pattern (sym c.peek.ensures) ∙ sym c.loop-parser-test.ensures in
    let p = err_from_is_err_and c.from_residual-in_err-put_block-2.result c.from_residual-in_err-put_block-2.ensures.1 in
    rw (p.1, p.2) (fails_then _ _ _ _ _ c.in_ok-put_block.ensures.puts.1 (fails_first _ _ _ (fails_on _ c.in_err-put_block-2.ensures.puts
    (λ none. going_fails c.loop-parser.invariant.filled.going (pattern_some _ seen) seen
    (block_fails in_data in_filter (group_within c.args.depth) _ _ _ _ _ c.in_ok-put_pattern.ensures.puts.1 c.eat.ensures.found c.eat.ensures.left none)))))

pub contents-loop-parser-preserved : goal.contents-loop-parser-preserved
contents-loop-parser-preserved t c =
    let seen = ap begins_pattern (sym c.peek.ensures) ∙ sym c.loop-parser-test.ensures in
    let less = turn_shorter c.loop-parser.parser c.put_pattern.new.parser c.eat.new.self c.put_block-in-loop-parser.new.parser c.eat.result c.in_ok-put_pattern.ensures.shorter c.eat.ensures.left c.in_ok-put_block-2.ensures.shorter in
    let read = turn_reads in_data in_filter (group_within c.args.depth) _ _ _ _ _ _ _ c.in_ok-put_pattern.ensures.puts.1 c.eat.ensures.found c.eat.ensures.left c.in_ok-put_block-2.ensures.puts.1 in
    record {
      filled = filled_on in_data in_filter (group_within c.args.depth) _ _ _ _ _ c.loop-parser.invariant.filled seen read less c.in_ok-put_pattern.ensures.puts.2 c.in_ok-put_block-2.ensures.puts.2;
      shorter = omega (arith, less);
    }

pub contents-returns-clause-reads : goal.contents-returns-clause-reads
contents-returns-clause-reads t c =
    let stops = ap begins_pattern (sym c.peek.ensures) ∙ sym c.loop-parser-test.ensures in
    contents_read in_data in_filter (group_within c.args.depth) _ _ _ _ _ _ _ _ c.in_ok-put_block.ensures.puts.1 c.new-body.ensures c.in_ok-put_block.ensures.puts.2 c.loop-parser.invariant.filled stops c.in_ok-into_group.ensures

pub put_pattern-returns-clause-puts : goal.put_pattern-returns-clause-puts
put_pattern-returns-clause-puts t c = (_, c.in_ok-element.ensures.reads, c.in_ok-put.ensures)
