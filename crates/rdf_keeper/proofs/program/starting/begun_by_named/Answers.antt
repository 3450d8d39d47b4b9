use Rattle.std.proofs.Common.{rules}
use Rattle.rdf_keeper.proofs.StartingLemmas.{begins_input, begins_named}
use Rattle.rdf_keeper.proofs.program.starting.begun_by_named.Goals as goal

pub returns-then-eq : goal.returns-then-eq
returns-then-eq g c =
    begins_input g.F.Folder.step c.args.format c.args.base c.args.path.now c.args.folder.now c.args.folder.now (g.R.Read.remaining c.args.reader.now) _ c.begun_by.result (search rules) (search rules)

pub returns : goal.returns
returns g c = begins_named g.F.Folder.step c.args.format c.args.base c.args.path.now c.args.folder.now c.begun_by_file.new.folder (g.R.Read.remaining c.args.reader.now) c.begun_by_file.result (search rules) c.begun_by_file.ensures
