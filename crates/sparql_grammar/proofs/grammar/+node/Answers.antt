use Rattle.std.proofs.Common.{arith, sym}
use Rattle.std.proofs.lemmas.Result.{err_from_is_err_and}
use Rattle.sparql_terminals.specs.declared.terminal.Terminal.TheVariants as terminal
use Rattle.sparql_grammar.specs.Reading.{begins_node, node, objects, optional_property, property, property_list_not_empty, sees_verb}
use Rattle.rdf_grammar.proofs.CallerLemmas.{grown_starts, grown_on, going_fails, fails_on, fails_first, fails_then, deeper, one_reads, none_pushed, one_pushed, grown_behind, grown_fails_behind, maybe_reads, looked, maybe_fails, seen_more}
use Rattle.sparql_grammar.proofs.grammar.+node.Goals as goal
use Rattle.sparql_terminals.specs.Terminals.{same_terminal}

-- ---- node

pub node-returns-clause-reads : goal.node-returns-clause-reads
unfolding node
node-returns-clause-reads t c = rw (deeper (λ n. node n c.args.parser.now) c.args.depth (omega arith)) c.graph_node.ensures.reads

-- ---- objects

pub objects-loop-all-init : goal.objects-loop-all-init
objects-loop-all-init t c = record { grown = grown_starts _ _ _ _; shorter = omega arith }

pub objects-returns-in_err-node-2-clause-reads : goal.objects-returns-in_err-node-2-clause-reads
unfolding objects
objects-returns-in_err-node-2-clause-reads t c =
    let seen = sym c.loop-all-test.ensures.found in
    let p = err_from_is_err_and c.from_residual-in_err-node-2.result c.from_residual-in_err-node-2.ensures.1 in
    rw (p.1, p.2) (fails_then _ _ _ _ _ c.in_ok-node.ensures.reads (fails_first _ _ _ (grown_fails_behind same_terminal _ terminal.Comma _ _ _ c.loop-all.invariant.grown seen seen c.loop-all-test.ensures.left c.in_err-node-2.ensures.reads)))

pub objects-loop-all-preserved : goal.objects-loop-all-preserved
objects-loop-all-preserved t c =
    let seen = sym c.loop-all-test.ensures.found in
    record {
      grown = grown_behind same_terminal _ terminal.Comma _ _ _ _ _ c.loop-all.invariant.grown seen seen c.loop-all-test.ensures.left c.in_ok-node-2.ensures.reads (omega (arith, c.in_ok-node-2.ensures.shorter)) c.in_ok-push-2.ensures.ok;
      shorter = omega (arith, c.in_ok-node-2.ensures.shorter, c.loop-all-test.ensures.shorter);
    }

-- ---- collection

pub collection-loop-items-init : goal.collection-loop-items-init
collection-loop-items-init t c = rw c.new-items.ensures record { grown = grown_starts _ _ _ _; shorter = omega arith }

pub collection-loop-items-preserved : goal.collection-loop-items-preserved
collection-loop-items-preserved t c =
    let seen = looked begins_node c.loop-items.parser c.peek.ensures c.loop-items-test.ensures in
    record {
      grown = grown_on _ _ _ c.loop-items.invariant.grown seen (one_reads (node c.args.depth) _ _ _ c.in_ok-node.ensures.reads) c.in_ok-node.ensures.shorter c.in_ok-push.ensures.ok;
      shorter = omega (arith, c.in_ok-node.ensures.shorter);
    }

-- ---- predicate lists

pub property_list_not_empty-loop-parser-init : goal.property_list_not_empty-loop-parser-init
property_list_not_empty-loop-parser-init t c = record { grown = grown_starts _ _ _ _; shorter = omega arith }

pub property_list_not_empty-returns-in_err-property-2-clause-reads : goal.property_list_not_empty-returns-in_err-property-2-clause-reads
unfolding property_list_not_empty optional_property
property_list_not_empty-returns-in_err-property-2-clause-reads t c =
    let seen = sym c.loop-parser-test.ensures.found in
    let p = err_from_is_err_and c.from_residual-in_err-property-2.result c.from_residual-in_err-property-2.ensures.1 in
    rw (p.1, p.2) (fails_then _ _ _ _ _ c.in_ok-property.ensures.reads (fails_first _ _ _ (fails_on _ c.in_err-property-2.ensures.reads
    (λ none. going_fails c.loop-parser.invariant.grown.going (seen_more same_terminal terminal.Semicolon _ seen) seen (maybe_fails same_terminal terminal.Semicolon sees_verb (property (node c.args.depth)) _ _ seen c.loop-parser-test.ensures.left none)))))

pub property_list_not_empty-loop-parser-preserved-in_ok-push-2 : goal.property_list_not_empty-loop-parser-preserved-in_ok-push-2
unfolding optional_property
property_list_not_empty-loop-parser-preserved-in_ok-push-2 t c =
    let seen = sym c.loop-parser-test.ensures.found in
    let read = maybe_reads same_terminal terminal.Semicolon sees_verb (property (node c.args.depth)) _ _ _ _ seen c.loop-parser-test.ensures.left c.in_ok-property-2.ensures.reads in
    record {
      grown = grown_on _ _ _ c.loop-parser.invariant.grown seen read (omega (arith, c.in_ok-property-2.ensures.shorter, c.loop-parser-test.ensures.shorter)) (one_pushed _ _ _ _ c.in_ok-push-2.ensures.ok c.in-Some.is);
      shorter = omega (arith, c.in_ok-property-2.ensures.shorter, c.loop-parser-test.ensures.shorter);
    }

pub property_list_not_empty-loop-parser-preserved : goal.property_list_not_empty-loop-parser-preserved
unfolding optional_property
property_list_not_empty-loop-parser-preserved t c =
    let seen = sym c.loop-parser-test.ensures.found in
    let read = maybe_reads same_terminal terminal.Semicolon sees_verb (property (node c.args.depth)) _ _ _ _ seen c.loop-parser-test.ensures.left c.in_ok-property-2.ensures.reads in
    record {
      grown = grown_on _ _ _ c.loop-parser.invariant.grown seen read (omega (arith, c.in_ok-property-2.ensures.shorter, c.loop-parser-test.ensures.shorter)) (none_pushed _ _ c.in_default.is);
      shorter = omega (arith, c.in_ok-property-2.ensures.shorter, c.loop-parser-test.ensures.shorter);
    }
