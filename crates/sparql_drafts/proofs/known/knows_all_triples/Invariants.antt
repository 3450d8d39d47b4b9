use Rattle.std.proofs.Common.{◌≡◌, map, drop}
use Rattle.std.specs.List.{list_all}
use Rattle.sparql_grammar.specs.Proper.{holds}
use Rattle.sparql_drafts.specs.Known as spec
use Rattle.sparql_drafts.proofs.known.knows_all_triples.Given as goal

abbrev pub invariant-loop-triples : goal.invariant-loop-triples
invariant-loop-triples l =
    let f = spec.known_triples l.declared.keys in
    list_all holds (map f l.all) ≡ list_all holds (map f (drop l.triples-index l.all))
