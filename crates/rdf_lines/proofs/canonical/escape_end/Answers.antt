use Rattle.std.proofs.Common.{ap, sym, ◌∙◌, ◌∷◌, ℕ, List}
use Rattle.rdf_lines.proofs.CanonicalLemmas.{escape_is}
use Rattle.rdf_lines.proofs.canonical.escape_end.Goals as goal

pub returns-in-34 : goal.returns-in-34
returns-in-34 c =
    let e = escape_is c.in_ok-bump.field-0 c.bump.new.self c.in-34.is in
    (e.0, ap (λ (t : List ℕ). 92 ∷ t) (sym c.fork-rest.ensures ∙ c.in_ok-bump.ensures) ∙ e.1)
