-- What came in where an insertion was refused.
use Rattle.std.specs.Prelude.{◌≡◌, ℕ, List, ◌++◌}
use Rattle.rdf_orders.specs.Contents.{Contents, with_all}

-- some first quads and names of these lists came in
pub record GainsSomeOf (old new : Contents) (keys : List (List ℕ)) (names : List ℕ) : Type 0 where
  pub keys_in : List (List ℕ)
  pub keys_out : List (List ℕ)
  pub names_in : List ℕ
  pub names_out : List ℕ
  pub keys_are : keys ≡ keys_in ++ keys_out
  pub names_are : names ≡ names_in ++ names_out
  pub is : new ≡ with_all old keys_in names_in
