use Rattle.std.proofs.Common.{List, ℕ, Some, ◌∙◌, subst}
use Rattle.rdf_terms.specs.Quad.{QuadParts}
use Rattle.rdf_dataset.specs.Loading.{IsNetOfData}
use Rattle.sparql_eval.proofs.NetLemmas.{data_net}
use Rattle.sparql_eval.proofs.net.net_of_data.Goals as goal

pub returns-in-Some-clause-made : goal.returns-in-Some-clause-made
returns-in-Some-clause-made g c =
    let s = g.S.Source.contents c.args.under.now in
    let inserted = c.args.inserted.now in
    let net = c.in-Some.net in
    let is = rw c.in-Some.is at c.in_ok-of_data.ensures in
    data_net s inserted net
    (subst (λ (quads : List QuadParts). IsNetOfData s quads inserted.blanks (Some net)) (c.in_ok-quads.ensures ∙ c.quads.ensures.value)
    (subst (λ (blanks : ℕ). IsNetOfData s c.in_ok-quads.quads.items blanks (Some net)) c.blanks.ensures is))
