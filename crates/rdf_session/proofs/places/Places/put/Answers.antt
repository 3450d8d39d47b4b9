use Rattle.std.proofs.Common.{◌∙◌, sym}
use Rattle.rdf_session.proofs.ListedLemmas.{put_again, some_is}
use Rattle.rdf_session.proofs.places.Places.put.Goals as goal

pub returns-then-eq-clause-ok : goal.returns-then-eq-clause-ok
returns-then-eq-clause-ok c =
    put_again c.args.name.now c.args.place c.args.self.now
    (sym c.place_of-before.ensures ∙ some_is c.place_of-before.result c.args.place (sym c.eq.ensures ∙ c.if-eq.true))
