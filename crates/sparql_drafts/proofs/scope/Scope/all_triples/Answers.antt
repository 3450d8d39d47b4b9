use Rattle.std.proofs.Common.{◌≡◌, ◌∙◌}
use Rattle.sparql_grammar.specs.Proper.{proper_triples}
use Rattle.sparql_drafts.specs.Meaning as spec
use Rattle.sparql_drafts.specs.Drafting.{Does}
use Rattle.rdf_grammar.proofs.CallerLemmas.{next_member, next_step}
use Rattle.sparql_drafts.proofs.scope.Scope.all_triples.Goals as goal

pub loop-one-preserved : goal.loop-one-preserved
loop-one-preserved c =
    let i = c.loop-one.one-index in
    let all = c.args.all.now in
    let same : c.triples.new.self.prologue ≡ c.loop-one.self.prologue = c.triples.ensures.prologue in
    let proper = next_member proper_triples all i c.one-item.result c.loop-one-test.true c.one-item.is c.loop-one.invariant.proper in
    record {
      says = c.loop-one.invariant.says
          ∙ next_step (λ (f : Does (Unit {0})). f) spec.triples all i c.one-item.result c.loop-one.self c.triples.new.self c.loop-one-test.true c.one-item.is c.in_ok-triples.ensures.gives;
      prologue = same ∙ c.loop-one.invariant.prologue;
      proper = proper.1;
      room = c.in_ok-triples.ensures.room;
    }
