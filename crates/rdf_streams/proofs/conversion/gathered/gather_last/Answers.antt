use Rattle.rdf_streams.proofs.ConversionLemmas.Gathered.{ends_behind}
use Rattle.rdf_streams.proofs.conversion.gathered.gather_last.Goals as goal

pub returns-in-Err : goal.returns-in-Err
returns-in-Err c = let wrote = c.in-Err.ensures in (wrote.0, wrote.1, ends_behind c.args.document wrote.0 c.in-Err.fault _ c.fault_of.ensures wrote.2)
