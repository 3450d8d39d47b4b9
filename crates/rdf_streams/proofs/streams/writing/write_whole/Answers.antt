use Rattle.std.proofs.Common.{rules}
use Rattle.rdf_streams.proofs.DeviceLemmas.Pairs.{writer_writes_to}
use Rattle.rdf_streams.proofs.streams.writing.write_whole.Goals as goal

pub returns : goal.returns
returns g c =
    let all = writer_writes_to g.W.Write.contents _ _ _ c.write_on-answer.result c.write_on-answer.ensures in
    let name = all.0 in
    let wrote = all.1 in
    search rules
