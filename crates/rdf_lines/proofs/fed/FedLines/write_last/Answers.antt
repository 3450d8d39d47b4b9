use Rattle.std.proofs.Common.{arith, subst, sym, ◌∙◌, [], append-nil}
use Rattle.std.specs.Prelude.{Ok, Err, Result}
use Rattle.rdf_lines.specs.Fed.{EndsBehind, Fed, and_then}
use Rattle.rdf_lines.specs.Inside.Slices.{WritesLine}
use Rattle.rdf_lines.proofs.FedLemmas.{is_none, is_some}
use Rattle.rdf_lines.proofs.WrittenFedLemmas.{ended_open, ended_wrote}
use Rattle.rdf_lines.proofs.fed.FedLines.write_last.Goals as goal

pub returns-then-is_empty : goal.returns-then-is_empty
returns-then-is_empty c =
    let i = c.self.inside in
    let old : Fed = record { format = i.format; line = i.line.items; behind_return = i.behind_return; number = i.progress.number; labels = i.progress.labels } in
    ([], sym (append-nil _), subst (λ (f : Fed). EndsBehind f [] (Ok tt)) c.self.view_is (ended_open old (is_none _ i.line.items (sym c.is_empty.ensures ∙ c.if-is_empty.true) (omega (arith, i.line.ok.0)))))

pub returns : goal.returns
returns c =
    let i = c.self.inside in
    let old : Fed = record { format = i.format; line = i.line.items; behind_return = i.behind_return; number = i.progress.number; labels = i.progress.labels } in
    let writes = subst (λ l. WritesLine i.format l i.progress.number i.progress.labels c.args.lines.now.items c.write_line.result c.write_line.new.self.number c.write_line.new.self.labels c.write_line.new.lines.items) c.as_slice.ensures.value c.write_line.ensures in
    let some = is_some _ i.line.items (sym c.is_empty.ensures ∙ c.if-is_empty.false) (omega (arith, i.line.ok.0)) in
    let w = ended_wrote old c.args.lines.now.items _ _ _ some c.write_line.result writes in
    (w.0, w.1, subst (λ (f : Fed). EndsBehind f w.0 c.write_line.result) c.self.view_is w.2)
