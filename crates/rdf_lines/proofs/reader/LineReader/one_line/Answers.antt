use Rattle.std.proofs.Common.{refl, subst, false, ℕ, Bool, List, Option, ◌+◌, take, slice_range}
use Rattle.rdf_lines.specs.declared.state.ReaderState.{ReaderState}
use Rattle.rdf_lines.specs.declared.format.LineFormat.{LineFormat}
use Rattle.rdf_lines.specs.Pieces.{ahead, HasLine}
use Rattle.rdf_lines.specs.Reader.{LineState, ReadsLine}
use Rattle.rdf_lines.proofs.PieceLemmas.{advanced_by}
use Rattle.rdf_lines.proofs.ReaderLemmas.{line_taken}
use Rattle.rdf_lines.proofs.reader.LineReader.one_line.Goals as goal

-- what the fields say
abbrev at : LineFormat → Option (List ℕ) → Bool → ℕ → List (List ℕ) → ReaderState → LineState
at format left behind number labels state = record { format = format; ahead = left; behind_return = behind; number = number; labels = labels; state = state }

pub returns-in-Some-clause-line : goal.returns-in-Some-clause-line
returns-in-Some-clause-line g c =
    let i = c.self.inside in
    let p = c.in-Some.place in
    let beyond = g.R.Read.remaining c.args.stream.now in
    let a = c.line-answer in
    let whole = subst (λ (piece : List ℕ). HasLine i.behind_return piece p) c.held.ensures c.in-Some.ensures in
    let read = subst (λ (piece : List ℕ). ReadsLine i.format (slice_range piece p.start p.end) i.progress.number i.progress.labels a.result a.new.self.number a.new.self.labels) c.held-in-Some.ensures a.ensures in
    rw (← c.self.view_is) (line_taken (at i.format (ahead i.pieces.held beyond) i.behind_return i.progress.number i.progress.labels i.state) (at i.format (ahead c.advance.new.self.held beyond) p.by_return a.new.self.number a.new.self.labels c.state_after-self-inside.result)
    (slice_range i.pieces.held p.start p.end) false a.result (take (p.end + 1) i.pieces.held, advanced_by beyond i.pieces c.advance.new.self (p.end + 1) c.advance.ensures, whole.2) read refl c.state_after-self-inside.ensures)
