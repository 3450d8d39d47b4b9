use Rattle.rdf_streams.proofs.ConversionLemmas.Gathered.{goes_on, stops_behind}
use Rattle.rdf_streams.proofs.conversion.gathered.gather.Goals as goal

pub returns-in-Ok : goal.returns-in-Ok
returns-in-Ok c = let wrote = c.in-Ok.ensures in (wrote.0, wrote.1, goes_on c.args.document c.args.piece.now wrote.0 c.in-Ok.next wrote.2)

pub returns-in-Err : goal.returns-in-Err
returns-in-Err c = let wrote = c.in-Err.ensures in (wrote.0, wrote.1, stops_behind c.args.document c.args.piece.now wrote.0 c.in-Err.fault _ c.fault_of.ensures wrote.2)
