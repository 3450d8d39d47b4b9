use Rattle.std.proofs.Common.{◌≡◌, [], map, drop, IsTrue}
use Rattle.std.specs.List.{list_all}
use Rattle.sparql_grammar.specs.Proper as proper
use Rattle.sparql_grammar.specs.Proper.{holds}
use Rattle.sparql_queries.proofs.QuadLemmas.{blocks_behind}
use Rattle.sparql_queries.proofs.quads.quads_pattern_of.Given as goal

abbrev pub invariant-loop-block : goal.invariant-loop-block
invariant-loop-block l =
    let p = l.initial.scope.prologue in
    record {
      says : blocks_behind p [] l.blocks l.initial.labels ≡ blocks_behind p l.members (drop l.block-index l.blocks) l.labels;
      prologue : l.scope.prologue ≡ p;
      proper : IsTrue (list_all holds (map proper.proper_block (drop l.block-index l.blocks)));
    }
