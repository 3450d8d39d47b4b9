use Rattle.std.proofs.Common.{◌≡◌, map, drop, IsTrue}
use Rattle.std.specs.List.{list_all}
use Rattle.rdf_grammar.specs.Steps.{each}
use Rattle.sparql_grammar.specs.Proper.{holds, proper_triples}
use Rattle.sparql_drafts.specs.Meaning as spec
use Rattle.sparql_drafts.specs.Room.{IsPaired}
use Rattle.sparql_drafts.proofs.scope.Scope.all_triples.Given as goal

abbrev pub invariant-loop-one : goal.invariant-loop-one
invariant-loop-one l = record {
  says : each (λ f. f) (map spec.triples l.all) l.initial.self ≡ each (λ f. f) (map spec.triples (drop l.one-index l.all)) l.self;
  prologue : l.self.prologue ≡ l.fn.self.prologue;
  proper : IsTrue (list_all holds (map proper_triples (drop l.one-index l.all)));
  room : IsPaired l.self;
}
