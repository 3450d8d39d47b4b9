use Rattle.std.proofs.Common.{sym, subst, [], ◌∷◌, ◌++◌, append-nil, List, Option}
use Rattle.std.specs.Prelude.{Ok, None}
use Rattle.rdf_lines.specs.Document.{IsDocument}
use Rattle.rdf_lines.specs.Fed as fed
use Rattle.rdf_terms.specs.Quad.{QuadParts}
use Rattle.rdf_session.specs.Inside.Staging.{TellsLineFault}
use Rattle.rdf_session.proofs.FedLemmas.{stops_line}
use Rattle.rdf_session.proofs.fed_start.take_last.Goals as goal

pub returns-in-Ok-None : goal.returns-in-Ok-None
returns-in-Ok-None c read h = subst (λ (q : Option QuadParts). fed.Ends c.args.lines (Ok q)) c.in-Ok-None.field-0-is c.in-Ok-None.ensures read c.args.quads.now h

pub returns-in-Ok : goal.returns-in-Ok
returns-in-Ok c =
    let q = c.in-Ok-Some.quad in
    let ends = subst (λ (a : Option QuadParts). fed.Ends c.args.lines (Ok a)) c.in-Ok-Some.field-0-is c.in-Ok-Some.ensures in
    λ read h. subst (λ (k : List QuadParts). IsDocument c.args.lines.format read k None) (sym c.in-Ok.ensures) (ends read c.args.quads.now h)

pub returns-in-Err : goal.returns-in-Err
returns-in-Err c read h =
    subst (TellsLineFault c.args.lines.format read) (sym c.line_refusal.ensures) (stops_line c.args.lines.format read c.args.quads.now c.in-Err.fault c.in-Err.fault.kind (c.in-Err.ensures read c.args.quads.now h))
