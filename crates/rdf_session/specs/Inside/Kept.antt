-- What a keeper holds, seen as a session: the dataset is the state now, the entries are the nets between neighbours.
use Rattle.std.specs.Prelude.{◌≡◌, ℕ, ◌≤◌, List, [], ◌∷◌, length, take, slice_index_or, Option}
use Rattle.rdf_dataset.specs.State.{State, Change, IsSound, net_between, applied, turned}
use Rattle.rdf_session.specs.Depth.{IsDepth, IsWithin}
use Rattle.rdf_session.specs.History.{LieIn, Marks}
use Rattle.rdf_session.specs.Session.{Session}

-- the state before the changes, from the one after them
abbrev pub before_all : List Change → State → State
before_all [] t = t
before_all (n ∷ ns) t = applied (turned n) (before_all ns t)

-- the state after each change
abbrev pub states_after : State → List Change → List State
states_after s [] = []
states_after s (n ∷ ns) = applied n s ∷ states_after (applied n s) ns

-- each change is the net between the sound states before and after it
abbrev pub AreNets : State → List Change → Type 0
AreNets s [] = Unit {0}
AreNets s (n ∷ ns) = (n ≡ net_between s (applied n s)) × (IsSound (applied n s) × AreNets (applied n s) ns)

-- what a keeper is given at its beginning
pub record Settings : Type 0 where
  pub base_iri : Option (List ℕ)
  pub depth : Option ℕ

-- the session with this base
abbrev pub session_from : Settings → State → List Change → ℕ → Marks → Session
session_from given base entries cursor marks = record {
  base_iri = given.base_iri;
  depth = given.depth;
  base = base;
  states = record { items = states_after base entries; cursor = cursor; marks = marks };
}

-- no more entries than the depth
abbrev pub IsBounded : Option ℕ → List Change → Type 0
IsBounded depth entries = IsDepth depth × IsWithin depth (length entries)

abbrev pub base_of : State → List Change → ℕ → State
base_of now entries cursor = before_all (take cursor entries) now

-- the entries are the nets of the session, the dataset is at the cursor, and cursor and marks lie in the list
pub record IsKept (base now : State) (entries : List Change) (cursor : ℕ) (marks : Marks) : Type 0 where
  pub sound : IsSound base
  pub nets : AreNets base entries
  pub current : now ≡ slice_index_or (base ∷ states_after base entries) cursor base
  pub within : cursor ≤ length entries
  pub marks_within : LieIn (length entries) marks
