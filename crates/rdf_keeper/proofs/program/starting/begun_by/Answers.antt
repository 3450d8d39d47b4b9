use Rattle.std.proofs.Common.{sym, subst}
use Rattle.rdf_keeper.specs.Inside.Starting.{BeginsReading}
use Rattle.rdf_keeper.specs.declared.program.words.StartFormat.{StartFormat}
use Rattle.rdf_keeper.proofs.StartingLemmas.{begins_over_read}
use Rattle.rdf_keeper.proofs.program.starting.begun_by.Goals as goal

pub returns-in-Some : goal.returns-in-Some
returns-in-Some g c =
    subst (λ (f : StartFormat). BeginsReading f c.args.base (g.R.Read.remaining c.args.reader.now) c.begun_by_lines.result) (sym c.in-Some.ensures) c.begun_by_lines.ensures

pub returns-in-None : goal.returns-in-None
returns-in-None g c =
    begins_over_read c.args.format c.args.base (g.R.Read.remaining c.args.reader.now) c.all_of.result (λ text. text.items) c.over_read.result c.all_of.ensures.whole c.over_read.ensures.read c.over_read.ensures.unread
