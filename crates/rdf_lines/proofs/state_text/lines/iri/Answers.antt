use Rattle.std.proofs.lemmas.Bool.{and_parts}
use Rattle.std.proofs.lemmas.Str.{IsUtf8-from_is_utf8}
use Rattle.rdf_lines.proofs.state_text.lines.iri.Goals as goal

pub returns-in_default : goal.returns-in_default
returns-in_default c = λ h. c.in_default.ensures.cases.0 (IsUtf8-from_is_utf8 c.args.bytes.now (and_parts _ _ h).0)
