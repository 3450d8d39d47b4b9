use Rattle.std.proofs.Common.{inl, inr}
use Rattle.rdf_streams.proofs.ConversionLemmas.Converts.{Appends-none}
use Rattle.rdf_keeper.proofs.program.run_words.Goals as goal

pub returns-in-Ok-clause-does : goal.returns-in-Ok-clause-does
returns-in-Ok-clause-does g c = inr (c.in-Ok.keeper, c.session_of-started.new.folder, c.in-Ok.ensures, c.run_named-outcome.ensures.does)

pub returns-in-Err-clause-does : goal.returns-in-Err-clause-does
returns-in-Err-clause-does g c = inl (c.in-Err.ensures, Appends-none _)
