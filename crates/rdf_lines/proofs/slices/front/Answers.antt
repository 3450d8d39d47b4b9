use Rattle.std.proofs.Common.{subst, ℕ, List}
use Rattle.rdf_lines.specs.Inside.Slices.{ReadsIri, ReadsNode}
use Rattle.rdf_lines.proofs.SliceLemmas.{front_slices}
use Rattle.rdf_lines.proofs.slices.front.Goals as goal

pub returns : goal.returns
returns c =
    front_slices c.args.at.now c.in_ok-subject.rest c.in_ok-predicate.predicate.now c.in_ok-predicate.rest c.in_ok-subject.subject
    (subst (λ (t : List ℕ). ReadsNode t c.in_ok-subject.subject c.in_ok-subject.rest) c.skip_white.ensures c.in_ok-subject.ensures)
    (subst (λ (t : List ℕ). ReadsIri t c.in_ok-predicate.predicate.now c.in_ok-predicate.rest) c.skip_white-2.ensures c.in_ok-predicate.ensures)
