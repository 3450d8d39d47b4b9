use Rattle.rdf_keeper.proofs.program.run_all.Goals as goal

pub returns-clause-ran : goal.returns-clause-ran
returns-clause-ran g c =
    let r = c.run.ensures in
    (r.0, g.R.Read.remaining c.run.new.reader, c.run.new.keeper, c.run.result, r.1, r.2, c.outcome_after.ensures.same)
