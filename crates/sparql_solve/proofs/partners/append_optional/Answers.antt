use Rattle.std.proofs.Common.{◌++◌, List, length, ap, sym, ◌∙◌}
use Rattle.std.proofs.lemmas.Bool.{eqb-false}
use Rattle.std.proofs.lemmas.Result.{IfOk-weaker}
use Rattle.sparql_values.specs.Mapping.{Mapping}
use Rattle.sparql_solve.specs.Matching.{matches_of}
use Rattle.sparql_solve.proofs.PartnerLemmas.{quads_of, some_alone, told_one}
use Rattle.sparql_solve.proofs.partners.append_optional.Goals as goal

pub returns-then-are_told_in : goal.returns-then-are_told_in
returns-then-are_told_in c =
    IfOk-weaker c.append_moved.result _ _
    (λ x e. e ∙ ap (λ (ms : List Mapping). c.args.out.now.items ++ ms)
    (some_alone c.args.row (matches_of (quads_of c.args.quads.now) c.args.places.now c.args.row)
    (told_one c.args.places.now c.args.row (c.are_told_in.ensures c.if-are_told_in.true) c.args.quads.now c.requires
    (eqb-false (length c.args.quads.now) 0 (sym c.is_empty.ensures ∙ c.if-is_empty.false)))))
    c.append_moved.ensures
