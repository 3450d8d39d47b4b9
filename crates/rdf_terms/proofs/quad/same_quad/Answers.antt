use Rattle.std.proofs.Common.{◌≡◌, ◌∙◌, sym, subst, true}
use Rattle.rdf_terms.proofs.QuadLemmas.{quad_eq-same, quad_eq-own}
use Rattle.rdf_terms.specs.contracts.quad.QuadPartialEq.TheImpl as of_quads
use Rattle.rdf_terms.proofs.quad.same_quad.Goals as goal

pub returns : goal.returns
returns c = (
  λ h. quad_eq-same c.args.a.now c.args.b.now (sym c.eq.ensures ∙ h),
  λ e. c.eq.ensures ∙ subst (λ q. (of_quads.ghosts).eq c.args.a.now q ≡ true) e (quad_eq-own c.args.a.now),
)
