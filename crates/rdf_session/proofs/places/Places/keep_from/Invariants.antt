use Rattle.std.proofs.Common.{length}
use Rattle.std.specs.Prelude.{nat_le}
use Rattle.rdf_session.proofs.ListedLemmas.{Keeps}
use Rattle.rdf_session.specs.Inside.Marks.{marks_of}
use Rattle.rdf_session.proofs.places.Places.keep_from.Given as goal

abbrev pub invariant-loop-name : goal.invariant-loop-name
invariant-loop-name l =
    Keeps (λ k. nat_le l.place k) l.self-inside.listed l.self-inside.by_place.keys (marks_of l.self-inside.by_name.entries) (marks_of l.initial.self-inside.by_name.entries)

abbrev pub decreases-loop-name : goal.decreases-loop-name
decreases-loop-name l = length l.self-inside.by_place.keys
