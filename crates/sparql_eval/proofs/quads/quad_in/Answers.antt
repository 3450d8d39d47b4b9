use Rattle.std.proofs.Common.{◌∙◌, ap, sym, is_some}
use Rattle.std.proofs.lemmas.Option.{same_Some}
use Rattle.sparql_eval.proofs.QuadLemmas.{quad_in-made}
use Rattle.sparql_eval.proofs.quads.quad_in.Goals as goal

pub unwrap-requires : goal.unwrap-requires
unwrap-requires c =
    let parts = c.into_parts-subject.ensures.value in
    ap is_some (quad_in-made c.args.graph c.args.quad _ _ _ _ (ap (λ r. r.1) parts) (ap (λ r. r.2) parts) (ap (λ r. r.3) parts) c.new-moved.ensures c.requires c.into_parts-subject.ensures.sound)

pub returns : goal.returns
returns c =
    let parts = c.into_parts-subject.ensures.value in
    same_Some _ _ (sym c.unwrap.ensures ∙ quad_in-made c.args.graph c.args.quad _ _ _ _ (ap (λ r. r.1) parts) (ap (λ r. r.2) parts) (ap (λ r. r.3) parts) c.new-moved.ensures c.requires c.into_parts-subject.ensures.sound)
