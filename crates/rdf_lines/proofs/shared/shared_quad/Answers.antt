use Rattle.std.proofs.Common.{◌≡◌, ◌∙◌, ap}
use Rattle.std.specs.Prelude.{None, Some}
use Rattle.std.proofs.lemmas.Option.{same_Some}
use Rattle.rdf_lines.proofs.SharedLemmas.{made_again}
use Rattle.rdf_lines.proofs.shared.shared_quad.Goals as goal

pub unreachable-requires : goal.unreachable-requires
unreachable-requires c =
    let parts = c.into_parts-graph.ensures.value in
    let front = c.in_ok-graph.ensures in
    let back = c.in_ok-predicate.ensures in
    let e : None ≡ Some c.args.quad =
    made_again c.args.quad _ _ _ _ _ (ap (λ r. r.0) front ∙ ap (λ r. r.0) parts) (ap (λ r. r.1) front ∙ ap (λ r. r.1) parts)
    (ap (λ r. r.0) back ∙ ap (λ r. r.2) parts) (ap (λ r. r.1) back ∙ ap (λ r. r.3) parts) c.in-None.ensures c.into_parts-graph.ensures.sound in
    cc

pub returns : goal.returns
returns c =
    let parts = c.into_parts-graph.ensures.value in
    let front = c.in_ok-graph.ensures in
    let back = c.in_ok-predicate.ensures in
    let e : Some c.in-Some.shared ≡ Some c.args.quad =
    made_again c.args.quad _ _ _ _ _ (ap (λ r. r.0) front ∙ ap (λ r. r.0) parts) (ap (λ r. r.1) front ∙ ap (λ r. r.1) parts)
    (ap (λ r. r.0) back ∙ ap (λ r. r.2) parts) (ap (λ r. r.1) back ∙ ap (λ r. r.3) parts) c.in-Some.ensures c.into_parts-graph.ensures.sound in
    same_Some _ _ e
