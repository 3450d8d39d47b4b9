use Rattle.rdf_lines.proofs.LineEndLemmas.{lines_are_the_text, no_others}
use Rattle.rdf_lines.proofs.held.lines_are_the_text.Goals as goal

pub returns-clause-there : goal.returns-clause-there
returns-clause-there c = lines_are_the_text

pub returns-clause-alone : goal.returns-clause-alone
returns-clause-alone c = no_others
