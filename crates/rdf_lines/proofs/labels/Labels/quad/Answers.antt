use Rattle.std.proofs.Common.{◌∙◌, sym, ap, refl, is_some}
use Rattle.std.proofs.lemmas.Option.{same_Some}
use Rattle.rdf_lines.proofs.LabelLemmas.{quad_in-by_places, made}
use Rattle.rdf_lines.proofs.labels.Labels.quad.Goals as goal

pub unwrap-requires : goal.unwrap-requires
unwrap-requires c =
    let ends = c.in_ok-subject.ensures in
    let third = c.in_ok-graph.ensures in
    let quad = quad_in-by_places c.args.self.now _ _ _ c.args.statement refl ends.labels third.0 ends.subject ends.object third.1 in
    ap is_some (made c.graph.new.self c.args.statement _ c.new-quad.result quad.1 c.new-quad.ensures)

pub returns : goal.returns
returns c =
    let ends = c.in_ok-subject.ensures in
    let third = c.in_ok-graph.ensures in
    let quad = quad_in-by_places c.args.self.now _ _ _ c.args.statement refl ends.labels third.0 ends.subject ends.object third.1 in (
      quad.0,
      same_Some _ _ (sym c.unwrap.ensures ∙ made c.graph.new.self c.args.statement _ c.new-quad.result quad.1 c.new-quad.ensures) ∙ quad.1,
    )
