use Rattle.std.proofs.Common.{rules}
use Rattle.rdf_streams.specs.Devices.{taken}
use Rattle.rdf_streams.proofs.ConversionLemmas.Ordered.{converts_over}
use Rattle.rdf_streams.proofs.DeviceLemmas.Pairs.{lent_bytes, lent_names}
use Rattle.rdf_streams.proofs.conversion.lines.convert_lines.Goals as goal

pub returns : goal.returns
returns g c text e =
    let r = c.convert_lines_on-answer.ensures in
    let remaining = g.R.Read.remaining in
    let contents = g.W.Write.contents in
    let names = lent_names remaining contents _ r.0 _ r.1 in
    let bytes = lent_bytes remaining contents _ r.0 _ r.1 in
    let over = converts_over remaining contents _ c.args.format _ _ r.0 c.convert_lines_on-answer.result r.1 r.2 text e in
    let reader_name = names.0 in
    let writer_name = names.1 in
    let appended = bytes.1 in
    (taken r.0, search rules, search rules)
