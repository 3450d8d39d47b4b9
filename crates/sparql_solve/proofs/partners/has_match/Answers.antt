use Rattle.std.proofs.Common.{length, sym, ◌∙◌}
use Rattle.std.proofs.lemmas.Bool.{eqb-false}
use Rattle.sparql_solve.proofs.PartnerLemmas.{told_one}
use Rattle.sparql_solve.proofs.partners.has_match.Goals as goal

pub returns-then-are_told_in : goal.returns-then-are_told_in
returns-then-are_told_in c =
    sym (told_one c.args.places.now c.args.row.now (c.are_told_in.ensures c.if-are_told_in.true) c.args.quads.now c.requires
    (eqb-false (length c.args.quads.now) 0 (sym c.is_empty.ensures ∙ c.if-is_empty.false)))
