-- The numbers of blank nodes don't run out: but for a subject's, each stands in a pattern of its own.
use Rattle.std.specs.Prelude.{ℕ, ◌+◌, ◌≤◌, length}
use Rattle.sparql_drafts.specs.Drafting.{Drafting}

-- No list in memory is longer than this.
abbrev pub longest : ℕ
longest = 9223372036854775807

-- at most so many numbers more were taken than patterns said, with room for these
abbrev pub HasRoom : ℕ → Drafting → Type 0
HasRoom more s = s.numbering.next + more ≤ length s.patterns + longest

-- from one drafting to the other, at most so many numbers more are taken than patterns said
abbrev pub TakesAtMost : ℕ → Drafting → Drafting → Type 0
TakesAtMost more s u = u.numbering.next + length s.patterns ≤ s.numbering.next + length u.patterns + more

-- from one drafting to the other, so many patterns are said or more
abbrev pub SaysAtLeast : ℕ → Drafting → Drafting → Type 0
SaysAtLeast least s u = length s.patterns + least ≤ length u.patterns

-- each pattern said has taken two numbers at most
abbrev pub IsPaired : Drafting → Type 0
IsPaired s = s.numbering.next ≤ length s.patterns + length s.patterns
