use Rattle.std.proofs.Common.{◌∙◌, ap}
use Rattle.std.proofs.lemmas.Result.{on_ok_weaker, on_err_weaker}
use Rattle.std.specs.FinSet as set
use Rattle.rdf_orders.specs.Contents.{Contents}
use Rattle.rdf_orders.specs.Quads.{quad_of}
use Rattle.rdf_orders.specs.Inside.Mirror.{quads_in, Mirrors}
use Rattle.rdf_orders.proofs.TreeLemmas.{quads_held, mirrors_itself, holds_either_way}
use Rattle.rdf_orders.proofs.quad_sets.QuadSets.insert.Goals as goal

pub invariant_of-self : goal.invariant_of-self
invariant_of-self c =
    holds_either_way c.insert.result (Mirrors c.insert.new.self (quads_in c.insert.new.self))
    (on_ok_weaker c.insert.result (λ f. mirrors_itself _ _ (f _ c.self.invariant)) c.insert.ensures.ok)
    (on_err_weaker c.insert.result (λ f. mirrors_itself _ _ (f _ c.self.invariant)) c.insert.ensures.err)

pub returns-clause-ok : goal.returns-clause-ok
returns-clause-ok c = on_ok_weaker c.insert.result (λ f i. record {
  quads = (quads_held _ _ (f _ c.self.invariant) ∙ ap (λ (v : Contents). set.insert v.quads (quad_of c.args.quad.now)) c.self.view_is) i;
  names = ap (λ (v : Contents). v.names) c.self.view_is i;
}) c.insert.ensures.ok

pub returns-clause-err : goal.returns-clause-err
returns-clause-err c = on_err_weaker c.insert.result (λ f i. record {
  quads = (quads_held _ _ (f _ c.self.invariant) ∙ ap (λ (v : Contents). v.quads) c.self.view_is) i;
  names = ap (λ (v : Contents). v.names) c.self.view_is i;
}) c.insert.ensures.err
