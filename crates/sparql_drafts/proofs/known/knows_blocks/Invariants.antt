use Rattle.std.proofs.Common.{◌≡◌, map, drop}
use Rattle.std.specs.List.{list_all}
use Rattle.sparql_grammar.specs.Proper.{holds}
use Rattle.sparql_drafts.specs.Known as spec
use Rattle.sparql_drafts.proofs.known.knows_blocks.Given as goal

abbrev pub invariant-loop-block : goal.invariant-loop-block
invariant-loop-block l =
    let f = spec.known_block l.declared.keys in
    list_all holds (map f l.blocks) ≡ list_all holds (map f (drop l.block-index l.blocks))
