use Rattle.rdf_tokens.proofs.LineLemmas as lemma
use Rattle.rdf_tokens.proofs.line.line_ends_are_counted.Goals as goal

pub returns-clause-there : goal.returns-clause-there
returns-clause-there c = lemma.texts_have_lines

pub returns-clause-counted : goal.returns-clause-counted
returns-clause-counted c = lemma.line_ends_are_counted
