use Rattle.std.proofs.Common.{◌≡◌, map, drop, IsTrue}
use Rattle.std.specs.List.{list_all}
use Rattle.rdf_grammar.specs.Steps.{each}
use Rattle.sparql_grammar.specs.Proper.{holds, proper_block}
use Rattle.sparql_drafts.specs.Meaning as spec
use Rattle.sparql_drafts.specs.Room.{IsPaired}
use Rattle.sparql_drafts.specs.Drafting.{start}
use Rattle.sparql_drafts.proofs.scope.Scope.data.Given as goal

abbrev pub invariant-loop-block : goal.invariant-loop-block
invariant-loop-block l = record {
  says : each (λ f. f) (map spec.block l.blocks) (start l.fn.self.prologue) ≡ each (λ f. f) (map spec.block (drop l.block-index l.blocks)) l.self;
  prologue : l.self.prologue ≡ l.fn.self.prologue;
  proper : IsTrue (list_all holds (map proper_block (drop l.block-index l.blocks)));
  room : IsPaired l.self;
}
