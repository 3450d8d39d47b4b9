-- What is appended of a run, and what is left of it.
use Rattle.std.specs.Prelude.{◌≡◌, Bool, ℕ, List, [], ◌++◌, map, IsTrue}
use Rattle.rdf_terms.specs.declared.term.Term.{Term}
use Rattle.rdf_terms.specs.Quad.{QuadParts}
use Rattle.rdf_store.specs.Inside.Numbers.{parts_of}

-- the list has gained the quads of the first keys of the run, whose others are left: none, where it is said that these are all
pub record GivesFront (table : List Term) (all : Bool) (run left : List (List ℕ)) (old new : List QuadParts) : Type 0 where
  pub keys : List (List ℕ)
  pub parted : run ≡ keys ++ left
  pub appended : new ≡ old ++ map (parts_of table) keys
  pub whole : IsTrue all → left ≡ []
