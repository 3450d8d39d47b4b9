-- Lists of the members of a set.
use Rattle.std.specs.Prelude.{◌≡◌, List, ◌++◌, length}
use Rattle.std.specs.declared.cmp.Ordering.{Ordering}
use Rattle.std.specs.List.Sorted.{IsStrictlySortedBy}
use Rattle.std.specs.FinSet as set

-- the list has each member of the set once, and nothing else
pub record ListsOnce {K : Type 0} {R : K → K → Ordering} (members : set.FinSet R) (items : List K) : Type 0 where
  pub all : set.from_list items ≡ members
  pub once : length items ≡ set.len members

-- the same in strictly rising order: there is one such list for each set
pub record ListsSorted {K : Type 0} {R : K → K → Ordering} (members : set.FinSet R) (items : List K) : Type 0 where
  pub lists : ListsOnce members items
  pub rises : IsStrictlySortedBy R items

-- the list has gained each member of the set once
pub record AppendsOnce {K : Type 0} {R : K → K → Ordering} (members : set.FinSet R) (old new : List K) : Type 0 where
  pub found : List K
  pub appended : new ≡ old ++ found
  pub each_once : ListsOnce members found
