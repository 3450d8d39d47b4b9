use Rattle.std.proofs.Common.{◌<◌, arith, sym, ap, subst, ◌∙◌}
use Rattle.rdf_terms.specs.Reading.{byte_count, expect}
use Rattle.rdf_tokens.specs.Inside.TokenReading.{NoPnameBefore}
use Rattle.rdf_tokens.proofs.TokenNameless.{nameless_use, nameless_here}
use Rattle.rdf_tokens.proofs.dotted.pname.Goals as goal

pub returns-then-left-nameless-clause-place : goal.returns-then-left-nameless-clause-place
returns-then-left-nameless-clause-place c =
    let more : c.args.nameless.now < byte_count c.args.cursor.now = omega (arith, c.left.ensures) in
    sym (nameless_use c.args.cursor.now c.args.nameless.now c.requires more)

pub returns-in-None-clause-nameless : goal.returns-in-None-clause-nameless
returns-in-None-clause-nameless c =
    subst (NoPnameBefore c.args.cursor.now) (sym (c.left-in-None.ensures ∙ ap byte_count c.prefix-end.ensures))
    (nameless_here c.args.cursor.now (ap (expect 58) (sym c.prefix-end.ensures) ∙ sym c.in-None.ensures))
