use Rattle.std.proofs.Common.{◌≡◌, ℕ, List, ◌++◌}
use Rattle.std.specs.Io.KnownBytes.{Consumes}
use Rattle.rdf_streams.proofs.streams.reading.read_all.Given as goal

abbrev pub invariant-loop : goal.invariant-loop
invariant-loop g l = (read : List ℕ) × (l.held.items ≡ l.fn.held.items ++ read) × Consumes (g.R.Read.remaining l.fn.reader) (g.R.Read.remaining l.reader) read
