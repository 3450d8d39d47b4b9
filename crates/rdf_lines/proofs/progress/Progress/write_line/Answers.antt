use Rattle.rdf_lines.proofs.progress.Progress.write_line.Goals as goal

pub returns-in-Some : goal.returns-in-Some
returns-in-Some c = let said = c.in-Some.ensures in c.copy_line.ensures c.args.format c.args.line.now said.0 said.1 said.2
