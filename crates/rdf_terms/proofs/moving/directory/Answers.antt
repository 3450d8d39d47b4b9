use Rattle.std.proofs.Common.{inr, refl}
use Rattle.rdf_terms.proofs.MovingLemmas.{directory_is, directory_plain}
use Rattle.rdf_terms.proofs.moving.directory.Goals as goal

pub returns-then-end-gt0-clause-value : goal.returns-then-end-gt0-clause-value
returns-then-end-gt0-clause-value c =
    directory_is c.args.path.now c.slash_end-end.result c.args.layout.has_authority c.if-end-gt0.true c.slash_end-end.ensures.within c.slash_end-end.ensures.front

pub returns-then-end-gt0-clause-goes_on : goal.returns-then-end-gt0-clause-goes_on
returns-then-end-gt0-clause-goes_on c =
    λ rest. inr (directory_plain c.args.path.now c.slash_end-end.result c.if-end-gt0.true c.slash_end-end.ensures.within c.slash_end-end.ensures.front (c.requires c.if-layout.true), refl)
