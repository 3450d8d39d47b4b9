use Rattle.std.proofs.Common.{ap, sym, ◌∙◌, length}
use Rattle.std.proofs.lemmas.Str.{encodes-chars}
use Rattle.rdf_terms.specs.Reading.{byte_count}
use Rattle.rdf_terms.proofs.cursor.Cursor.left.Goals as goal

pub returns : goal.returns
returns c = ap length (sym (encodes-chars c.self.inside.rest.now c.self.invariant)) ∙ ap byte_count c.self.view_is
