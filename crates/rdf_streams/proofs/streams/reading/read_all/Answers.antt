use Rattle.rdf_streams.proofs.StreamLemmas.{Consumes-chain}
use Rattle.rdf_streams.proofs.streams.reading.read_all.Goals as goal

pub returns-in-Err-extend_from_slice : goal.returns-in-Err-extend_from_slice
returns-in-Err-extend_from_slice g c = (_, Consumes-chain _ _ _ _ _ c.loop.invariant.2 c.in-Ok.ensures.bytes.0)
