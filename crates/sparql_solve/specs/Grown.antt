-- What the places of a triple pattern have in a mapping under which triples were looked up.
use Rattle.std.specs.Prelude.{◌≡◌, ℕ, Bool, true, false, cond, Option, Some, None, is_some, ⊤}
use Rattle.rdf_terms.specs.declared.term.Term.{Term}
use Rattle.sparql_values.specs.Mapping.{Mapping}
use Rattle.sparql_solve.specs.Matching.{assigned, held, is_place_at, vacant}
use Rattle.sparql_solve.specs.declared.grown.Spot.{Spot}
use Rattle.sparql_solve.specs.declared.grown.Spot.TheVariants.{Known, Free, Asked}
use Rattle.sparql_solve.specs.declared.grown.Spots.{Spots}
use Rattle.sparql_solve.specs.declared.place.Place.{Place}
use Rattle.sparql_solve.specs.declared.place.Places.{Places}

abbrev pub free_or_asked : Option ℕ → Spot
free_or_asked (Some c) = Free c
free_or_asked None = Asked

-- what the place has in the mapping
abbrev pub spot_of : Mapping → Place → Spot
spot_of m x = cond (is_some (held m x)) Known (free_or_asked (vacant m x))

-- the same where the term of another place comes before
abbrev pub behind : Spot → Place → Spot
behind Known y = Known
behind (Free c) y = cond (is_place_at c y) Asked (Free c)
behind Asked y = Asked

-- what the places have, into which the terms come in this order: predicate, subject and object
abbrev pub spots_in : Places → Mapping → Spots
spots_in p m = record {
  subject = behind (spot_of m p.subject) p.predicate;
  predicate = spot_of m p.predicate;
  object = behind (behind (spot_of m p.object) p.predicate) p.subject;
}

-- the place is as it is told, where the term comes
abbrev pub IsPut : Spot → Mapping → Place → Term → Type 0
IsPut Known m x u = assigned m x u ≡ Some m
IsPut (Free c) m x u = vacant m x ≡ Some c
IsPut Asked m x u = ⊤

-- the row needn't be asked for each triple
abbrev pub is_told : Spot → Bool
is_told Known = true
is_told (Free c) = true
is_told Asked = false

pub record AreTold (s : Spots) : Type 0 where
  pub predicate : is_told s.predicate ≡ true
  pub subject : is_told s.subject ≡ true
  pub object : is_told s.object ≡ true
