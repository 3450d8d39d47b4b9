use Rattle.std.proofs.Common.{◌≡◌, ◌∙◌}
use Rattle.sparql_grammar.specs.Proper.{proper_block}
use Rattle.sparql_drafts.specs.Meaning as spec
use Rattle.sparql_drafts.specs.Drafting.{Does}
use Rattle.rdf_grammar.proofs.CallerLemmas.{next_member, next_step}
use Rattle.sparql_drafts.proofs.scope.Scope.data.Goals as goal

pub loop-block-preserved : goal.loop-block-preserved
loop-block-preserved c =
    let i = c.loop-block.block-index in
    let blocks = c.args.blocks.now in
    let same : c.block.new.self.prologue ≡ c.loop-block.self.prologue = c.block.ensures.prologue in
    let proper = next_member proper_block blocks i c.block-item.result c.loop-block-test.true c.block-item.is c.loop-block.invariant.proper in
    record {
      says = c.loop-block.invariant.says
          ∙ next_step (λ (f : Does (Unit {0})). f) spec.block blocks i c.block-item.result c.loop-block.self c.block.new.self c.loop-block-test.true c.block-item.is c.in_ok-block.ensures.gives;
      prologue = same ∙ c.loop-block.invariant.prologue;
      proper = proper.1;
      room = c.in_ok-block.ensures.room;
    }
