use Rattle.std.proofs.Common.{Some, sym, ap, ◌∙◌, subst}
use Rattle.sparql_values.specs.Mapping.{Mapping}
use Rattle.sparql_solve.specs.Grown.{IsPut}
use Rattle.sparql_solve.specs.declared.grown.Spot.{Spot}
use Rattle.sparql_solve.proofs.SpotLemmas.{vacant_put}
use Rattle.sparql_solve.proofs.grown.put.Goals as goal

pub returns-in-Known : goal.returns-in-Known
returns-in-Known c = subst (λ (s : Spot). IsPut s c.args.row.now c.args.place.now c.args.term) c.in-Known.is c.requires

pub returns-in_ok-set-in-Free : goal.returns-in_ok-set-in-Free
returns-in_ok-set-in-Free c =
    vacant_put c.args.row.now c.args.place.now c.in-Free.column c.args.term
    (subst (λ (s : Spot). IsPut s c.args.row.now c.args.place.now c.args.term) c.in-Free.is c.requires)
    ∙ ap (λ (m : Mapping). Some m) (sym c.in_ok-set-in-Free.ensures)
