use Rattle.std.proofs.Common.{drop}
use Rattle.std.specs.Prelude.{string_bytes}
use Rattle.rdf_keeper.specs.Progress.{AsksProgress}
use Rattle.rdf_keeper.proofs.program.has_progress_word.Given as goal

-- what asks for it among the words that are left asks for it among all
abbrev pub invariant-loop-word : goal.invariant-loop-word
invariant-loop-word l = AsksProgress string_bytes (drop l.word-index l.words) → AsksProgress string_bytes l.words
