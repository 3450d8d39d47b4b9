use Rattle.std.proofs.Common.{drop, subst, refl, [], ◌∷◌, List}
use Rattle.rdf_streams.specs.Inside.Parts.{next_subject, part_text, said, size, text_of}
use Rattle.rdf_streams.specs.declared.conversion.parts.Part.{Part}
use Rattle.rdf_streams.proofs.ConversionLemmas.Pieces.{IsLeft, by_fault, left_failed, left_flushed, left_next}
use Rattle.rdf_streams.proofs.conversion.writing.put_held.Goals as goal

pub returns-in_err-flush_piece : goal.returns-in_err-flush_piece
returns-in_err-flush_piece g c =
    let before = g.W.Write.contents c.args.writer.now in
    let after = g.W.Write.contents c.flush_piece.new.writer in
    let known = c.args.held.now.predicates in
    let whole = text_of c.args.held.now in
    let fault = c.in_err-flush_piece.field-0.0 in
    let l = c.loop-part in
    by_fault before after c.args.gathered.now.items c.flush_piece.new.gathered.items whole fault c.from_residual.result c.from_residual.ensures.0
    (left_failed before c.args.gathered.now.items (g.W.Write.contents l.writer) l.gathered.items whole known l.subject.now l.texts.now l.parts.now after c.flush_piece.new.gathered.items []
    (said known l.subject.now l.parts.now l.texts.now) fault l.invariant c.in_err-flush_piece.ensures refl)

pub returns-in_err-next : goal.returns-in_err-next
returns-in_err-next g c =
    let before = g.W.Write.contents c.args.writer.now in
    let gathered = c.args.gathered.now.items in
    let was = g.W.Write.contents c.loop-part.writer in
    let mid = g.W.Write.contents c.flush_piece.new.writer in
    let after = g.W.Write.contents c.put_part.new.writer in
    let known = c.args.held.now.predicates in
    let whole = text_of c.args.held.now in
    let subject = c.loop-part.subject.now in
    let texts = c.loop-part.texts.now in
    let part = c.in-Some.part.now in
    let others = c.in-Some.others.now in
    let fault = c.in_err-next.field-0.0 in
    let left : IsLeft before gathered was c.loop-part.gathered.items whole known subject texts (part ∷ others) =
    subst (λ (ps : List Part). IsLeft before gathered was c.loop-part.gathered.items whole known subject texts ps) c.in-Some.ensures.cases.0 c.loop-part.invariant in
    let flushed = left_flushed before gathered was c.loop-part.gathered.items whole known subject texts (part ∷ others) mid c.flush_piece.new.gathered.items left c.in_ok-flush_piece.ensures in
    by_fault before after gathered c.put_part.new.gathered.items whole fault c.from_residual-in_err-next.result c.from_residual-in_err-next.ensures.0
    (left_failed before gathered mid c.flush_piece.new.gathered.items whole known subject texts (part ∷ others) after c.put_part.new.gathered.items (part_text known subject part texts)
    (said known (next_subject subject part texts) others (drop (size part) texts)) fault flushed c.in_err-next.ensures.puts refl)

pub loop-part-preserved : goal.loop-part-preserved
loop-part-preserved g c =
    let before = g.W.Write.contents c.args.writer.now in
    let gathered = c.args.gathered.now.items in
    let was = g.W.Write.contents c.loop-part.writer in
    let mid = g.W.Write.contents c.flush_piece.new.writer in
    let after = g.W.Write.contents c.put_part.new.writer in
    let known = c.args.held.now.predicates in
    let whole = text_of c.args.held.now in
    let subject = c.loop-part.subject.now in
    let texts = c.loop-part.texts.now in
    let part = c.in-Some.part.now in
    let others = c.in-Some.others.now in
    let left : IsLeft before gathered was c.loop-part.gathered.items whole known subject texts (part ∷ others) =
    subst (λ (ps : List Part). IsLeft before gathered was c.loop-part.gathered.items whole known subject texts ps) c.in-Some.ensures.cases.0 c.loop-part.invariant in
    let flushed = left_flushed before gathered was c.loop-part.gathered.items whole known subject texts (part ∷ others) mid c.flush_piece.new.gathered.items left c.in_ok-flush_piece.ensures in
    left_next before gathered mid c.flush_piece.new.gathered.items whole known subject texts part others flushed after c.put_part.new.gathered.items c.in_ok-next.next.now c.in_ok-next.behind.now
    c.in_ok-next.ensures.puts c.in_ok-next.ensures.subject c.in_ok-next.ensures.behind
