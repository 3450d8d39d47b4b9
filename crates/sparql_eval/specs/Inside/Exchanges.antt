-- What DELETE/INSERT takes away and brings in.
use Rattle.std.specs.Prelude.{◌≡◌, ℕ, ◌+◌, ◌≤◌, List}
use Rattle.rdf_terms.specs.Below.{AreBelow}
use Rattle.rdf_terms.specs.Quad.{QuadParts}
use Rattle.rdf_dataset.specs.State.{State, last_number}
use Rattle.sparql_eval.specs.Operations.{blanks_of, deletions, insertions}
use Rattle.sparql_trees.specs.declared.template.Modify.{Modify as Modification}

-- the quads that go and those that come, and how many new blank nodes there are; the counter has room for these
pub record Exchanges (s : State) (m : Modification) (gone : List QuadParts) (blanks : ℕ) (come : List QuadParts) : Type 0 where
  pub gone_are : gone ≡ deletions s m
  pub blanks_are : blanks ≡ blanks_of s m
  pub come_are : come ≡ insertions s m
  pub room : s.next + blanks ≤ last_number
  pub below : AreBelow (s.next + blanks) come
