use Rattle.std.proofs.Common.{rules}
use Rattle.std.specs.List.{concat}
use Rattle.rdf_keeper.specs.Inside.WriteFaults.{is_write_fault}
use Rattle.rdf_streams.proofs.DeviceLemmas.Pairs.{writer_writes}
use Rattle.rdf_keeper.proofs.script.feed.Feed.end.Goals as goal

pub returns : goal.returns
returns g c =
    let e = c.end_on-status.ensures in
    let all = writer_writes g.W.Write.contents _ _ (is_write_fault c.end_on-status.result) (concat e.0) e.1 in
    let name = all.0 in
    let wrote = all.1 in
    (e.0, search rules, e.2)
