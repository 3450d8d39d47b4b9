use Rattle.rdf_lines.proofs.CanonicalLemmas.{scheme_behind}
use Rattle.rdf_lines.proofs.canonical.begins_with_scheme.Goals as goal

pub returns-in-len1-up : goal.returns-in-len1-up
returns-in-len1-up c iri e is = scheme_behind c.args.text.now iri e (c.has_scheme.ensures is)
