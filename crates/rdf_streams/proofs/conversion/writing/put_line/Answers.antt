use Rattle.std.proofs.Common.{◌∙◌, subst, [], ◌∷◌, ◌++◌, List, ℕ}
use Rattle.std.specs.Prelude.{Err, Ok}
use Rattle.rdf_streams.specs.Inside.Pieces.{Puts}
use Rattle.rdf_streams.proofs.ConversionLemmas.Pieces.{puts_fails, puts_not, puts_then}
use Rattle.rdf_streams.proofs.conversion.writing.put_line.Goals as goal

pub returns-in_err-put : goal.returns-in_err-put
returns-in_err-put g c =
    let a0 = g.W.Write.contents c.args.writer.now in
    let g0 = c.args.gathered.now.items in
    let a1 = g.W.Write.contents c.put.new.writer in
    let g1 = c.put.new.gathered.items in
    let s = c.args.subject.now in
    let b = 32 ∷ 60 ∷ [] in
    let p = c.args.predicate.now in
    let d = 62 ∷ 32 ∷ [] in
    let r = c.args.rest.now in
    puts_fails a0 a1 g0 g1 (((s ++ b) ++ p) ++ d) r c.in_err-put.field-0.0 c.from_residual.result c.from_residual.ensures.0 (puts_not a0 a1 g0 g1 ((s ++ b) ++ p) d c.in_err-put.field-0.0 (puts_not a0 a1 g0 g1 (s ++ b) p c.in_err-put.field-0.0 (puts_not a0 a1 g0 g1 s b c.in_err-put.field-0.0 c.in_err-put.ensures)))

pub returns-in_err-put-2 : goal.returns-in_err-put-2
returns-in_err-put-2 g c =
    let a0 = g.W.Write.contents c.args.writer.now in
    let g0 = c.args.gathered.now.items in
    let a1 = g.W.Write.contents c.put.new.writer in
    let g1 = c.put.new.gathered.items in
    let a2 = g.W.Write.contents c.put-2.new.writer in
    let g2 = c.put-2.new.gathered.items in
    let s = c.args.subject.now in
    let b = 32 ∷ 60 ∷ [] in
    let p = c.args.predicate.now in
    let d = 62 ∷ 32 ∷ [] in
    let r = c.args.rest.now in
    puts_fails a0 a2 g0 g2 (((s ++ b) ++ p) ++ d) r c.in_err-put-2.field-0.0 c.from_residual-in_err-put-2.result c.from_residual-in_err-put-2.ensures.0 (puts_not a0 a2 g0 g2 ((s ++ b) ++ p) d c.in_err-put-2.field-0.0 (puts_not a0 a2 g0 g2 (s ++ b) p c.in_err-put-2.field-0.0 (puts_then a0 a1 a2 g0 g1 g2 s b (Err c.in_err-put-2.field-0.0) c.in_ok-put.ensures c.in_err-put-2.ensures)))

pub returns-in_err-put-3 : goal.returns-in_err-put-3
returns-in_err-put-3 g c =
    let a0 = g.W.Write.contents c.args.writer.now in
    let g0 = c.args.gathered.now.items in
    let a1 = g.W.Write.contents c.put.new.writer in
    let g1 = c.put.new.gathered.items in
    let a2 = g.W.Write.contents c.put-2.new.writer in
    let g2 = c.put-2.new.gathered.items in
    let a3 = g.W.Write.contents c.put-3.new.writer in
    let g3 = c.put-3.new.gathered.items in
    let s = c.args.subject.now in
    let b = 32 ∷ 60 ∷ [] in
    let p = c.args.predicate.now in
    let d = 62 ∷ 32 ∷ [] in
    let r = c.args.rest.now in
    puts_fails a0 a3 g0 g3 (((s ++ b) ++ p) ++ d) r c.in_err-put-3.field-0.0 c.from_residual-in_err-put-3.result c.from_residual-in_err-put-3.ensures.0 (puts_not a0 a3 g0 g3 ((s ++ b) ++ p) d c.in_err-put-3.field-0.0 (puts_then a0 a2 a3 g0 g2 g3 (s ++ b) p (Err c.in_err-put-3.field-0.0) (puts_then a0 a1 a2 g0 g1 g2 s b (Ok tt) c.in_ok-put.ensures c.in_ok-put-2.ensures) (subst (λ (x : List ℕ). Puts a2 g2 x (Err c.in_err-put-3.field-0.0) a3 g3) (c.as_bytes.ensures.value ∙ c.as_str.ensures.value) c.in_err-put-3.ensures)))

pub returns-in_err-put-4 : goal.returns-in_err-put-4
returns-in_err-put-4 g c =
    let a0 = g.W.Write.contents c.args.writer.now in
    let g0 = c.args.gathered.now.items in
    let a1 = g.W.Write.contents c.put.new.writer in
    let g1 = c.put.new.gathered.items in
    let a2 = g.W.Write.contents c.put-2.new.writer in
    let g2 = c.put-2.new.gathered.items in
    let a3 = g.W.Write.contents c.put-3.new.writer in
    let g3 = c.put-3.new.gathered.items in
    let a4 = g.W.Write.contents c.put-4.new.writer in
    let g4 = c.put-4.new.gathered.items in
    let s = c.args.subject.now in
    let b = 32 ∷ 60 ∷ [] in
    let p = c.args.predicate.now in
    let d = 62 ∷ 32 ∷ [] in
    let r = c.args.rest.now in
    puts_fails a0 a4 g0 g4 (((s ++ b) ++ p) ++ d) r c.in_err-put-4.field-0.0 c.from_residual-in_err-put-4.result c.from_residual-in_err-put-4.ensures.0 (puts_then a0 a3 a4 g0 g3 g4 ((s ++ b) ++ p) d (Err c.in_err-put-4.field-0.0) (puts_then a0 a2 a3 g0 g2 g3 (s ++ b) p (Ok tt) (puts_then a0 a1 a2 g0 g1 g2 s b (Ok tt) c.in_ok-put.ensures c.in_ok-put-2.ensures) (subst (λ (x : List ℕ). Puts a2 g2 x (Ok tt) a3 g3) (c.as_bytes.ensures.value ∙ c.as_str.ensures.value) c.in_ok-put-3.ensures)) c.in_err-put-4.ensures)

pub returns : goal.returns
returns g c =
    let a0 = g.W.Write.contents c.args.writer.now in
    let g0 = c.args.gathered.now.items in
    let a1 = g.W.Write.contents c.put.new.writer in
    let g1 = c.put.new.gathered.items in
    let a2 = g.W.Write.contents c.put-2.new.writer in
    let g2 = c.put-2.new.gathered.items in
    let a3 = g.W.Write.contents c.put-3.new.writer in
    let g3 = c.put-3.new.gathered.items in
    let a4 = g.W.Write.contents c.put-4.new.writer in
    let g4 = c.put-4.new.gathered.items in
    let a5 = g.W.Write.contents c.put-5.new.writer in
    let g5 = c.put-5.new.gathered.items in
    let s = c.args.subject.now in
    let b = 32 ∷ 60 ∷ [] in
    let p = c.args.predicate.now in
    let d = 62 ∷ 32 ∷ [] in
    let r = c.args.rest.now in
    puts_then a0 a4 a5 g0 g4 g5 (((s ++ b) ++ p) ++ d) r c.put-5.result (puts_then a0 a3 a4 g0 g3 g4 ((s ++ b) ++ p) d (Ok tt) (puts_then a0 a2 a3 g0 g2 g3 (s ++ b) p (Ok tt) (puts_then a0 a1 a2 g0 g1 g2 s b (Ok tt) c.in_ok-put.ensures c.in_ok-put-2.ensures) (subst (λ (x : List ℕ). Puts a2 g2 x (Ok tt) a3 g3) (c.as_bytes.ensures.value ∙ c.as_str.ensures.value) c.in_ok-put-3.ensures)) c.in_ok-put-4.ensures) c.put-5.ensures
