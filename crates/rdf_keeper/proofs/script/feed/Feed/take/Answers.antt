use Rattle.std.proofs.Common.{rules}
use Rattle.std.specs.List.{concat}
use Rattle.rdf_keeper.specs.Inside.WriteFaults.{fails_to_write}
use Rattle.rdf_streams.proofs.DeviceLemmas.Pairs.{writer_writes}
use Rattle.rdf_keeper.proofs.script.feed.Feed.take.Goals as goal

pub returns : goal.returns
returns g c =
    let a = c.take_on-fed.ensures in
    let all = writer_writes g.W.Write.contents _ _ (fails_to_write c.take_on-fed.result) (concat a.0) a.1 in
    let name = all.0 in
    let wrote = all.1 in
    (a.0, search rules, a.2)
