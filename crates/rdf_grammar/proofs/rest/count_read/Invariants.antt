use Rattle.std.proofs.Common.{◌≡◌, ◌+◌, length}
use Rattle.rdf_grammar.specs.Inside.LexemeReading.{lexemes_of}
use Rattle.rdf_grammar.proofs.rest.count_read.Given as goal

abbrev pub invariant-loop-count : goal.invariant-loop-count
invariant-loop-count g l = l.count + length (lexemes_of g.T.Terminal.of l.rest) ≡ length (lexemes_of g.T.Terminal.of l.text)
