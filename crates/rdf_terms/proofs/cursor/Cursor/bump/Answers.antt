use Rattle.rdf_terms.proofs.OneCharacterLemmas.{chars_step}
use Rattle.rdf_terms.proofs.cursor.Cursor.bump.Goals as goal

pub returns : goal.returns
returns c =
    let h = c.next-first.ensures.steps in
    rw c.as_str-self-inside.ensures (chars_step (λ s. s.rest.now) c.chars-chars.result c.next-first.new.self c.next-first.result c.self.inside.rest.now c.args.self.now c.self.invariant c.self.view_is c.chars-chars.ensures.rest h.0)
