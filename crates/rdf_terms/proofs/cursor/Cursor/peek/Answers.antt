use Rattle.rdf_terms.proofs.OneCharacterLemmas.{chars_first}
use Rattle.rdf_terms.proofs.cursor.Cursor.peek.Goals as goal

pub returns : goal.returns
returns c = chars_first (λ s. s.rest.now) c.chars.result c.next.new.self c.next.result c.self.inside.rest.now c.args.self.now c.self.invariant c.self.view_is c.chars.ensures.rest c.next.ensures.steps.0
