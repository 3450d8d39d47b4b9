use Rattle.std.proofs.Common.{refl, ap, ◌∙◌}
use Rattle.rdf_keeper.proofs.ScriptLemmas.Feeds.{front_goes_on}
use Rattle.rdf_keeper.proofs.ScriptLemmas.Pieces.{open_append}
use Rattle.rdf_keeper.proofs.ScriptLemmas.Runs.{no_room}
use Rattle.rdf_keeper.specs.Script.Lines.{upto_last_end}
use Rattle.rdf_keeper.proofs.script.feed.Feed.take_front.Goals as goal

pub invariant_of-self : goal.invariant_of-self
invariant_of-self c = ap (λ p. upto_last_end p.line) c.in-Ok.ensures.ok ∙ open_append c.self.inside.gathered.line c.args.front.now c.self.invariant c.requires

pub returns-in-Ok : goal.returns-in-Ok
returns-in-Ok c s = front_goes_on _ _ _ _ _ s c.self.invariant c.requires c.in-Ok.ensures.ok c.self.view_is refl

pub returns-in-Err : goal.returns-in-Err
returns-in-Err c s = no_room _ _ _ s
