use Rattle.std.proofs.Common.{◌≡◌, ◌∙◌, subst, ℕ, List}
use Rattle.std.specs.Option.{option_copied}
use Rattle.rdf_turtle.specs.Document as turtle
use Rattle.rdf_streams.specs.Streams.{ReadsTo}
use Rattle.rdf_streams.specs.declared.streams.reading.Ending.TheVariants.{AtEnd}
use Rattle.rdf_streams.proofs.ConversionLemmas.Turtle.{document, no_document, whole_text}
use Rattle.rdf_streams.proofs.conversion.turtle.convert_turtle.Goals as goal

pub returns-in-Ok : goal.returns-in-Ok
returns-in-Ok g c text e =
    let before = g.R.Read.remaining c.args.reader.now in
    let after = g.R.Read.remaining c.read_all.new.reader in
    let held = c.read_all.new.held.items in
    let wrote = g.W.Write.contents c.args.writer.now in
    let now = g.W.Write.contents c.write.new.writer in
    let reads = subst (λ (h : List ℕ). ReadsTo before after h AtEnd held) c.new-held.ensures.items c.in-AtEnd.ensures in
    let is : c.as_slice.result.now ≡ text = c.as_slice.ensures.value ∙ whole_text before after text held e reads in
    document wrote now (option_copied c.args.base) text c.in-Ok.lines c.write.result
    (subst (λ (t : List ℕ). turtle.IsDocument (option_copied c.args.base) t c.in-Ok.lines) is c.in-Ok.ensures) c.write.ensures

pub returns-in-AtEnd : goal.returns-in-AtEnd
returns-in-AtEnd g c text e =
    let before = g.R.Read.remaining c.args.reader.now in
    let after = g.R.Read.remaining c.read_all.new.reader in
    let held = c.read_all.new.held.items in
    let fault = c.in-Err.fault in
    let reads = subst (λ (h : List ℕ). ReadsTo before after h AtEnd held) c.new-held.ensures.items c.in-AtEnd.ensures in
    let is : c.as_slice.result.now ≡ text = c.as_slice.ensures.value ∙ whole_text before after text held e reads in
    no_document (g.W.Write.contents c.args.writer.now) (option_copied c.args.base) text fault c.turtle_fault.result c.turtle_fault.ensures
    (subst (λ (t : List ℕ). turtle.TellsFault (option_copied c.args.base) t fault fault.kind) is c.in-Err.ensures)
