use Rattle.std.proofs.Common.{◌≡◌, refl, sym, ◌∙◌, subst, arith, rules, List, Option, Ok, ◌+◌}
use Rattle.rdf_terms.specs.declared.quad.Quad.{Quad}
use Rattle.rdf_lines.specs.declared.fault.LineFault.{LineFault}
use Rattle.rdf_lines.specs.Document.{StopsBehind}
use Rattle.rdf_lines.specs.Reader.{ReadsLine}
use Rattle.rdf_lines.proofs.HeldLemmas.{past_silence, past_statement, at_fault, at_line, at_end, is_nil}
use Rattle.rdf_lines.proofs.held.read_into.Goals as goal

pub returns-in-Err : goal.returns-in-Err
returns-in-Err c =
    let now = c.loop-rest in
    at_fault c.args.format c.args.bytes.now now.quads.items now.progress.number c.line.new.self.number now.progress.labels c.line.new.self.labels now.rest.now c.first_line.result.0.now c.first_line.result.1.now c.in-Err.fault now.invariant.0 c.first_line.ensures.lines c.in-Err.ensures

pub loop-rest-preserved-in-Ok-None : goal.loop-rest-preserved-in-Ok-None
loop-rest-preserved-in-Ok-None c =
    let now = c.loop-rest in
    let p = c.line.new.self in
    let line = c.first_line.result.0.now in
    let read = subst (λ (a : Option Quad). ReadsLine c.args.format line now.progress.number now.progress.labels (Ok a) p.number p.labels) c.in-Ok-None.field-0-is c.in-Ok-None.ensures in (
      past_silence c.args.format c.args.bytes.now now.quads.items now.progress.number p.number now.progress.labels p.labels now.rest.now line c.first_line.result.1.now now.invariant.0 c.first_line.ensures.lines read,
      (let a : p.number ≡ now.progress.number + 1 = read.1 in omega (arith, a, now.invariant.1, c.first_line.ensures.falls)),
    )

pub loop-rest-preserved : goal.loop-rest-preserved
loop-rest-preserved c =
    let now = c.loop-rest in
    let p = c.line.new.self in
    let line = c.first_line.result.0.now in
    let read = subst (λ (a : Option Quad). ReadsLine c.args.format line now.progress.number now.progress.labels (Ok a) p.number p.labels) c.in-Ok-Some.field-0-is c.in-Ok-Some.ensures in (
      past_statement c.args.format c.args.bytes.now now.quads.items _ c.in-Ok-Some.quad now.progress.number p.number now.progress.labels p.labels now.rest.now line c.first_line.result.1.now now.invariant.0 c.first_line.ensures.lines read
          (search rules),
      (let a : p.number ≡ now.progress.number + 1 = read.4 in omega (arith, a, now.invariant.1, c.first_line.ensures.falls)),
    )

pub returns : goal.returns
returns c =
    let now = c.loop-rest in
    at_end c.args.format c.args.bytes.now now.quads.items now.progress.number now.progress.labels now.rest.now now.invariant.0 (is_nil now.rest.now (sym c.is_empty.ensures ∙ c.loop-rest-test.false))

pub returns-in-Err-push_shared : goal.returns-in-Err-push_shared
returns-in-Err-push_shared c =
    let now = c.loop-rest in
    let fault : LineFault = record { line = now.progress.number; kind = c.from.result } in
    let same : c.push_shared.new.quads.items ≡ now.quads.items = search rules in
    subst (λ (quads : List Quad). StopsBehind c.args.format c.args.bytes.now quads fault c.from.result) (sym same)
    (at_line c.args.format c.args.bytes.now now.quads.items now.progress.number now.progress.labels now.rest.now c.first_line.result.0.now c.first_line.result.1.now fault now.invariant.0 c.first_line.ensures.lines refl c.from.ensures)
