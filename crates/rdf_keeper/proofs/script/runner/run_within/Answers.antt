use Rattle.std.proofs.Common.{rules}
use Rattle.rdf_streams.proofs.DeviceLemmas.Pairs.{lent_bytes, lent_names}
use Rattle.rdf_keeper.proofs.ScriptLemmas.OverBytes.{reader_at_end}
use Rattle.rdf_keeper.proofs.script.runner.run_within.Goals as goal

pub returns : goal.returns
returns g c =
    let r = c.run_on-status.ensures in
    let remaining = g.R.Read.remaining in
    let contents = g.W.Write.contents in
    let names = lent_names remaining contents _ r.0 _ r.2 in
    let bytes = lent_bytes remaining contents _ r.0 _ r.2 in
    let end = reader_at_end remaining contents _ c.args.settings.stop _ r.0 _ r.1 _ c.run_on-status.result _ r.2 r.3 in
    let reader_name = names.0 in
    let writer_name = names.1 in
    let consumed = bytes.0 in
    let appended = bytes.1 in
    (r.0, r.1, record { ran = r.3; consumed = search rules; appended = search rules; end = search rules })
