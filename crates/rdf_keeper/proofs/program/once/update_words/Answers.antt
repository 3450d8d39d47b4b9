use Rattle.std.proofs.Common.{inl, inr, ℕ, List, Option}
use Rattle.rdf_streams.proofs.ConversionLemmas.Converts.{Appends-none}
use Rattle.rdf_keeper.proofs.program.once.update_words.Goals as goal

pub returns-in-Ok-clause-does : goal.returns-in-Ok-clause-does
returns-in-Ok-clause-does g c =
    let mid : g.row.F.Denot × Option (List ℕ) = (c.session_with.new.folder, g.R.Read.remaining c.session_with.new.reader) in
    (g.R.Read.remaining c.update_named-outcome.new.reader, inr (c.in-Ok.keeper, mid, c.in-Ok.ensures, c.update_named-outcome.ensures.does))

pub returns-in-Err-clause-does : goal.returns-in-Err-clause-does
returns-in-Err-clause-does g c = (g.R.Read.remaining c.session_with.new.reader, inl (c.in-Err.ensures, Appends-none _))
