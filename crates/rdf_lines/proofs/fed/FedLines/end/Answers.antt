use Rattle.std.proofs.Common.{arith, subst, sym, ◌∙◌}
use Rattle.rdf_lines.specs.Fed.{Ends, Fed}
use Rattle.rdf_lines.specs.Reader.{ReadsLine}
use Rattle.std.specs.Prelude.{Ok}
use Rattle.std.proofs.Common.{None}
use Rattle.rdf_lines.proofs.FedLemmas.{ends_line, ends_open, is_none, is_some}
use Rattle.rdf_lines.proofs.fed.FedLines.end.Goals as goal

pub returns-then-is_empty : goal.returns-then-is_empty
returns-then-is_empty c =
    let i = c.self.inside in
    let old : Fed = record { format = i.format; line = i.line.items; behind_return = i.behind_return; number = i.progress.number; labels = i.progress.labels } in
    subst (λ (f : Fed). Ends f (Ok None)) c.self.view_is (ends_open old (is_none _ i.line.items (sym c.is_empty.ensures ∙ c.if-is_empty.true) (omega (arith, i.line.ok.0))))

pub returns : goal.returns
returns c =
    let i = c.self.inside in
    let old : Fed = record { format = i.format; line = i.line.items; behind_return = i.behind_return; number = i.progress.number; labels = i.progress.labels } in
    let reads = subst (λ l. ReadsLine i.format l i.progress.number i.progress.labels c.line.result c.line.new.self.number c.line.new.self.labels) c.as_slice.ensures.value c.line.ensures in
    subst (λ (f : Fed). Ends f c.line.result) c.self.view_is (ends_line old _ _ (is_some _ i.line.items (sym c.is_empty.ensures ∙ c.if-is_empty.false) (omega (arith, i.line.ok.0))) c.line.result reads)
