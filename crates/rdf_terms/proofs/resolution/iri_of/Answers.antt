use Rattle.std.proofs.Common.{sym}
use Rattle.std.proofs.lemmas.Bool.{true≢false}
use Rattle.rdf_terms.proofs.CleanLemmas.{utf8_from_iri}
use Rattle.rdf_terms.proofs.resolution.iri_of.Goals as goal

pub unreachable-requires : goal.unreachable-requires
unreachable-requires c = true≢false (sym (c.in_default.ensures.succeeds (utf8_from_iri c.args.bytes.items c.requires)))
