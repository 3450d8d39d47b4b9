use Rattle.std.proofs.Common.{◌∙◌, sym, true, false}
use Rattle.rdf_terms.specs.Quad.{QuadParts}
use Rattle.rdf_terms.proofs.QuadLemmas.{is_quad-from, answered}
use Rattle.rdf_terms.proofs.quad.Quad.new.Goals as goal

pub returns-then-not-may_stand : goal.returns-then-not-may_stand
returns-then-not-may_stand c =
    let parts : QuadParts = record { graph = c.args.graph; subject = c.args.subject; predicate = c.args.predicate; object = c.args.object } in
    answered parts c.may_stand.result (c.may_stand.ensures c.args.object) false c.if-not-may_stand.true

pub invariant_of-result : goal.invariant_of-result
invariant_of-result c =
    let parts : QuadParts = record { graph = c.args.graph; subject = c.args.subject; predicate = c.args.predicate; object = c.args.object } in
    is_quad-from parts (sym (c.may_stand.ensures c.args.object) ∙ c.if-not-may_stand.false) c.graph_is_one.ensures c.term_is_one.ensures c.term_is_one-2.ensures c.term_is_one-3.ensures

pub returns : goal.returns
returns c =
    let parts : QuadParts = record { graph = c.args.graph; subject = c.args.subject; predicate = c.args.predicate; object = c.args.object } in
    answered parts c.may_stand.result (c.may_stand.ensures c.args.object) true c.if-not-may_stand.false
