use Rattle.std.proofs.Common.{refl, subst, true, false, Ok}
use Rattle.rdf_lines.specs.declared.cut.Cut.{Cut}
use Rattle.std.proofs.Common.{ℕ, Bool, List, Option}
use Rattle.rdf_lines.specs.declared.state.ReaderState.{ReaderState}
use Rattle.rdf_lines.specs.declared.state.ReaderState.TheVariants.{Ended, Failed}
use Rattle.rdf_lines.specs.declared.format.LineFormat.{LineFormat}
use Rattle.rdf_lines.specs.Pieces.{ahead, TakesLine}
use Rattle.rdf_lines.specs.Reader.{LineState}
use Rattle.rdf_lines.proofs.ReaderLemmas.{line_taken, no_line, line_failed, is_last}
use Rattle.rdf_lines.proofs.reader.LineReader.gathered_line.Goals as goal

-- what the fields say
abbrev at : LineFormat → Option (List ℕ) → Bool → ℕ → List (List ℕ) → ReaderState → LineState
at format left behind number labels state = record { format = format; ahead = left; behind_return = behind; number = number; labels = labels; state = state }

pub returns-in-Ok-Line-clause-line : goal.returns-in-Ok-Line-clause-line
returns-in-Ok-Line-clause-line g c =
    let i = c.self.inside in
    let n = c.next_line.new in
    let before = ahead i.pieces.held (g.R.Read.remaining c.args.stream.now) in
    let after = ahead n.pieces.held (g.R.Read.remaining n.stream) in
    let t = subst (λ (k : Cut). TakesLine before i.behind_return (Ok k) n.line.items after n.behind_return) c.in-Ok-Line.field-0-is c.in-Ok-Line.ensures.line in
    rw (← c.self.view_is) (line_taken (at i.format before i.behind_return i.progress.number i.progress.labels i.state) (at i.format after n.behind_return c.line-answer.new.self.number c.line-answer.new.self.labels c.state_after-self-inside.result) n.line.items false c.line-answer.result t (rw c.as_slice.ensures.value at c.line-answer.ensures) refl c.state_after-self-inside.ensures)

pub returns-in-Ok-Last-clause-line : goal.returns-in-Ok-Last-clause-line
returns-in-Ok-Last-clause-line g c =
    let i = c.self.inside in
    let n = c.next_line.new in
    let before = ahead i.pieces.held (g.R.Read.remaining c.args.stream.now) in
    let after = ahead n.pieces.held (g.R.Read.remaining n.stream) in
    let t = subst (λ (k : Cut). TakesLine before i.behind_return (Ok k) n.line.items after n.behind_return) c.in-Ok-Last.field-0-is c.in-Ok-Last.ensures.line in
    rw (← c.self.view_is) (line_taken (at i.format before i.behind_return i.progress.number i.progress.labels i.state) (at i.format after n.behind_return c.line-answer-in-Ok-Last.new.self.number c.line-answer-in-Ok-Last.new.self.labels c.state_after-self-inside-in-Ok-Last.result) n.line.items true c.line-answer-in-Ok-Last.result (t.0, t.1, is_last i.behind_return t.0 n.line.items n.behind_return t.2 t.3, t.4) (rw c.as_slice-in-Ok-Last.ensures.value at c.line-answer-in-Ok-Last.ensures) refl c.state_after-self-inside-in-Ok-Last.ensures)

pub returns-in-Ok-End-clause-line : goal.returns-in-Ok-End-clause-line
returns-in-Ok-End-clause-line g c =
    let i = c.self.inside in
    let n = c.next_line.new in
    let before = ahead i.pieces.held (g.R.Read.remaining c.args.stream.now) in
    let after = ahead n.pieces.held (g.R.Read.remaining n.stream) in
    let t = subst (λ (k : Cut). TakesLine before i.behind_return (Ok k) n.line.items after n.behind_return) c.in-Ok-End.field-0-is c.in-Ok-End.ensures.line in
    rw (← c.self.view_is) (no_line (at i.format before i.behind_return i.progress.number i.progress.labels i.state) (at i.format after n.behind_return i.progress.number i.progress.labels Ended) t refl refl refl refl)

pub returns-in-Err-clause-line : goal.returns-in-Err-clause-line
returns-in-Err-clause-line g c =
    let i = c.self.inside in
    let n = c.next_line.new in
    let before = ahead i.pieces.held (g.R.Read.remaining c.args.stream.now) in
    let after = ahead n.pieces.held (g.R.Read.remaining n.stream) in
    rw (← c.self.view_is) (line_failed (at i.format before i.behind_return i.progress.number i.progress.labels i.state) (at i.format after n.behind_return i.progress.number i.progress.labels Failed) c.next_line.new.line.items c.in-Err.kind c.fault.result c.in-Err.ensures.line c.fault.ensures.0 c.fault.ensures.1 refl refl)
