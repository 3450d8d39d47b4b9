use Rattle.std.proofs.Common.{subst, [], List, ℕ}
use Rattle.std.specs.Prelude.{Err, Ok}
use Rattle.rdf_streams.specs.Inside.Pieces.{Puts}
use Rattle.rdf_streams.proofs.ConversionLemmas.Pieces.{puts_fails, written_alone}
use Rattle.rdf_streams.proofs.conversion.pieces.put.Goals as goal

pub returns-in_err-flush-in-Err : goal.returns-in_err-flush-in-Err
returns-in_err-flush-in-Err g c =
    let before = g.W.Write.contents c.args.writer.now in
    let now = g.W.Write.contents c.flush.new.writer in
    let left = c.flush.new.gathered.items in
    let fault = c.in_err-flush-in-Err.field-0.0 in
    puts_fails before now c.args.gathered.now.items left [] c.args.text.now fault c.from_residual.result c.from_residual.ensures.0
    (subst (λ (x : List ℕ). Puts before x [] (Err fault) now left) c.in-Err.ensures.items c.in_err-flush-in-Err.ensures.puts)

pub returns-in_ok-flush-in-Err : goal.returns-in_ok-flush-in-Err
returns-in_ok-flush-in-Err g c =
    let before = g.W.Write.contents c.args.writer.now in
    let mid = g.W.Write.contents c.flush.new.writer in
    let left = c.flush.new.gathered.items in
    let none = c.in_ok-flush-in-Err.ensures.all in
    written_alone before mid (g.W.Write.contents c.write_whole.new.writer) c.args.gathered.now.items left left c.args.text.now c.write_whole.result
    (subst (λ (x : List ℕ). Puts before x [] (Ok tt) mid left) c.in-Err.ensures.items c.in_ok-flush-in-Err.ensures.puts) none none c.write_whole.ensures
