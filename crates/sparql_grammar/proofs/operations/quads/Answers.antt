use Rattle.std.proofs.Common.{arith, sym}
use Rattle.std.proofs.lemmas.Result.{err_from_is_err_and}
use Rattle.rdf_grammar.proofs.CallerLemmas.{grown_starts, grown_on, going_fails, fails_on, fails_first, fails_then, seen_more}
use Rattle.sparql_terminals.specs.declared.terminal.Terminal.TheVariants.{Graph}
use Rattle.sparql_grammar.specs.OperationReading.{quads}
use Rattle.sparql_grammar.specs.Reading.{node, triples_template}
use Rattle.sparql_grammar.proofs.OperationTurns.{turn_shorter, turn_reads, two_pushed, named_fails, default_fails}
use Rattle.sparql_terminals.specs.Terminals.{same_terminal}
use Rattle.sparql_grammar.proofs.operations.quads.Goals as goal

pub loop-blocks-init : goal.loop-blocks-init
loop-blocks-init c = record { grown = grown_starts _ _ _ _; shorter = omega arith }

pub returns-in_err-named_block-clause-reads : goal.returns-in_err-named_block-clause-reads
unfolding quads
returns-in_err-named_block-clause-reads c =
    let seen = sym c.loop-blocks-test.ensures in
    let p = err_from_is_err_and c.from_residual-in_err-named_block.result c.from_residual-in_err-named_block.ensures.1 in
    rw (p.1, p.2) (fails_then _ _ _ _ _ c.in_ok-default_block.ensures.reads (fails_first _ _ _ (fails_on _ c.in_err-named_block.ensures.reads
    (λ none. going_fails c.loop-blocks.invariant.grown.going (seen_more same_terminal Graph _ seen) seen (named_fails (triples_template (node 100)) (triples_template (node 99)) _ none)))))

pub returns-in_err-default_block-2-clause-reads : goal.returns-in_err-default_block-2-clause-reads
unfolding quads
returns-in_err-default_block-2-clause-reads c =
    let seen = sym c.loop-blocks-test.ensures in
    let p = err_from_is_err_and c.from_residual-in_err-default_block-2.result c.from_residual-in_err-default_block-2.ensures.1 in
    rw (p.1, p.2) (fails_then _ _ _ _ _ c.in_ok-default_block.ensures.reads (fails_first _ _ _ (fails_on _ c.in_err-default_block-2.ensures.reads
    (λ none. going_fails c.loop-blocks.invariant.grown.going (seen_more same_terminal Graph _ seen) seen
    (default_fails (triples_template (node 100)) (triples_template (node 99)) _ _ _ _ _ c.in_ok-named_block.ensures.reads c.eat.ensures.found c.eat.ensures.left none)))))

pub loop-blocks-preserved : goal.loop-blocks-preserved
loop-blocks-preserved c =
    let seen = sym c.loop-blocks-test.ensures in
    let less = turn_shorter c.loop-blocks.parser c.named_block.new.parser c.eat.new.self c.default_block-in-loop-blocks.new.parser c.eat.result c.in_ok-named_block.ensures.shorter c.eat.ensures.left c.in_ok-default_block-2.ensures.shorter in
    let read = turn_reads (triples_template (node 100)) (triples_template (node 99)) _ _ _ _ _ _ _ c.in_ok-named_block.ensures.reads c.eat.ensures.found c.eat.ensures.left c.in_ok-default_block-2.ensures.reads in
    record {
      grown = grown_on _ _ _ c.loop-blocks.invariant.grown seen read less (two_pushed _ _ _ _ _ c.in_ok-push-2.ensures.ok c.in_ok-push-3.ensures.ok);
      shorter = omega (arith, less);
    }
