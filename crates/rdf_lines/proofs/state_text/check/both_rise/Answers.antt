use Rattle.std.proofs.Common.{◌∙◌, sym, ap, ◌&&◌, None}
use Rattle.rdf_terms.specs.Order.{quad_cmp}
use Rattle.rdf_terms.specs.OrderLaws.{term_order_is, quad_order_is}
use Rattle.rdf_lines.specs.Inside.StateListing.{rises}
use Rattle.rdf_lines.proofs.state_text.check.both_rise.Goals as goal

pub returns-then-rises : goal.returns-then-rises
returns-then-rises c =
    let names = sym (ap (λ order. rises order None c.args.names.now) term_order_is) ∙ sym c.rises.ensures ∙ c.if-rises.true in
    c.rises-then-rises.ensures ∙ ap (λ order. rises order None c.args.quads.now) quad_order_is ∙ sym (ap (λ b. b && rises quad_cmp None c.args.quads.now) names)
