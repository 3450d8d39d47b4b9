use Rattle.std.proofs.Common.{sym}
use Rattle.rdf_terms.proofs.QuotedLemmas.{quoted_sound, quoted_complete}
use Rattle.rdf_terms.proofs.quoted.strings_are_read.Goals as goal

pub returns-clause-sound : goal.returns-clause-sound
returns-clause-sound c = λ quote apart. quoted_sound quote (λ e. apart (sym e))

pub returns-clause-complete : goal.returns-clause-complete
returns-clause-complete c = λ quote apart. quoted_complete quote (λ e. apart (sym e))
