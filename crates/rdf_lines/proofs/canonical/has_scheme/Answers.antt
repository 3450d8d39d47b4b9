use Rattle.std.proofs.Common.{sym, ◌∙◌}
use Rattle.rdf_lines.proofs.CanonicalLemmas.{scheme_is}
use Rattle.rdf_lines.proofs.canonical.has_scheme.Goals as goal

pub returns-in-Some : goal.returns-in-Some
returns-in-Some c is = scheme_is c.args.text.now c.in-Some.colon c.in-Some.ensures.first c.in-Some.ensures.within (sym c.is_scheme.ensures ∙ is)
