use Rattle.rdf_tokens.proofs.CallerLemmas.{local_plain}
use Rattle.rdf_grammar.proofs.names.joined_local.Goals as goal

pub returns-then-not-contains : goal.returns-then-not-contains
returns-then-not-contains c = rw (local_plain c.as_str-part.result.now c.args.local.now c.as_str-part.utf8 c.as_str-part.ensures c.if-not-contains.ensures.cases) c.joined.ensures
