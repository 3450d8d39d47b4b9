use Rattle.std.proofs.Common.{◌∙◌, sym}
use Rattle.rdf_streams.specs.Inside.Parts.{text_of}
use Rattle.rdf_streams.proofs.ConversionLemmas.Pieces.{last_failed}
use Rattle.rdf_streams.proofs.conversion.writing.write_held.Goals as goal

pub returns : goal.returns
returns g c =
    last_failed (g.W.Write.contents c.args.writer.now) (g.W.Write.contents c.put_held.new.writer) (g.W.Write.contents c.flush.new.writer) c.in-Ok.gathered.items c.put_held.new.gathered.items c.flush.new.gathered.items (text_of c.args.held.now)
    c.put_held.result c.in-Err-flush.field-0 c.in-Ok.ensures.items (sym c.is_err.ensures.value ∙ c.if-is_err.false) c.put_held.ensures c.in-Err-flush.ensures.puts
