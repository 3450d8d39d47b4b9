use Rattle.std.proofs.Common.{refl, subst, inl, inr, ℕ, List, Option}
use Rattle.rdf_streams.proofs.ConversionLemmas.Converts.{Appends-none}
use Rattle.rdf_keeper.specs.Program.Words.{AppliesRequest}
use Rattle.rdf_keeper.proofs.program.once.update_named.Goals as goal

pub returns-in-Ok-clause-does : goal.returns-in-Ok-clause-does
returns-in-Ok-clause-does g c =
    let end : g.row.F.Denot × Option (List ℕ) = (c.asked_text.new.folder, g.R.Read.remaining c.asked_text.new.reader) in
    let answers = subst (λ text. AppliesRequest c.args.words.now.shown c.args.keeper.now text (g.W.Write.contents c.args.writer.now) (g.W.Write.contents c.write_update.new.writer) c.write_update.result) c.as_slice.ensures.value c.write_update.ensures.applies in
    inr (c.in-Ok.text.items, end, c.in-Ok.ensures.read, (answers, refl))

pub returns-in-Err-clause-does : goal.returns-in-Err-clause-does
returns-in-Err-clause-does g c = inl (c.in-Err.ensures.read, Appends-none _)
