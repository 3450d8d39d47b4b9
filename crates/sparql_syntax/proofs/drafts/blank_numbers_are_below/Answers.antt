use Rattle.sparql_syntax.proofs.DraftsNumbered as lemma
use Rattle.sparql_syntax.proofs.drafts.blank_numbers_are_below.Goals as goal

pub returns : goal.returns
returns c = lemma.blank_numbers_are_below
