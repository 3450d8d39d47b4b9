use Rattle.std.proofs.Common.{Some, sym, ap, ◌∙◌, subst}
use Rattle.sparql_values.specs.Mapping.{Mapping}
use Rattle.sparql_solve.specs.Grown.{IsPut}
use Rattle.sparql_solve.specs.declared.grown.Spot.{Spot}
use Rattle.sparql_solve.proofs.SpotLemmas.{vacant_put}
use Rattle.sparql_solve.proofs.grown.set_at.Goals as goal

pub returns-in-Free : goal.returns-in-Free
returns-in-Free c =
    vacant_put c.args.values.now.items c.args._place.now c.in-Free.column c.args.term
    (subst (λ (s : Spot). IsPut s c.args.values.now.items c.args._place.now c.args.term) c.in-Free.is c.requires.put)
    ∙ ap (λ (m : Mapping). Some m) (sym c.set.ensures)
