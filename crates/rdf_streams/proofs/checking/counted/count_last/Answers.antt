use Rattle.std.proofs.Common.{subst, [], ◌∷◌, Option, arith}
use Rattle.std.specs.Prelude.{Ok}
use Rattle.rdf_lines.specs.Fed as fed
use Rattle.rdf_terms.specs.declared.quad.Quad.{Quad}
use Rattle.rdf_streams.proofs.ConversionLemmas.Gathered.{ends_faulty, ends_on, ends_open}
use Rattle.rdf_streams.proofs.checking.counted.count_last.Goals as goal

pub returns-in-Ok-None : goal.returns-in-Ok-None
returns-in-Ok-None c = ([], ends_open c.what_is_fed_comes_first.ensures c.args.document (subst (λ (q : Option Quad). fed.Ends c.args.document (Ok q)) c.in-Ok-None.field-0-is c.in-Ok-None.ensures), omega arith)

pub returns-in-Ok-Some : goal.returns-in-Ok-Some
returns-in-Ok-Some c =
    let q = c.in-Ok-Some.quad in
    (q ∷ [], ends_on c.what_is_fed_comes_first.ensures c.args.document q (subst (λ (a : Option Quad). fed.Ends c.args.document (Ok a)) c.in-Ok-Some.field-0-is c.in-Ok-Some.ensures), omega arith)

pub returns-in-Err : goal.returns-in-Err
returns-in-Err c = ends_faulty c.what_is_fed_comes_first.ensures c.args.document c.in-Err.fault _ c.fault_of.ensures c.in-Err.ensures
