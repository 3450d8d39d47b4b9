use Rattle.std.proofs.Common.{◌≡◌, ℕ, Bool, length}
use Rattle.rdf_terms.specs.Skips.{IsTest, skip}
use Rattle.rdf_terms.proofs.cursor.Cursor.skip.Given as goal

abbrev pub invariant-loop-c : goal.invariant-loop-c
invariant-loop-c g l = record {
  here : l.behind ≡ l.rest;
  over : (class : ℕ → Bool) → IsTest (goal.F-post g l.fn.passes) class → skip class l.rest ≡ skip class l.fn.self;
}

abbrev pub decreases-loop-c : goal.decreases-loop-c
decreases-loop-c g l = length l.behind
