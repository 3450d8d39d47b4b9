-- The right side of a join in parts, each by the key that it shares with some left rows.
use Rattle.std.specs.Prelude.{Bool, ◌&&◌, not, cond, List, [], ◌∷◌, map}
use Rattle.std.specs.List.{flat_map, list_any}
use Rattle.sparql_values.specs.Mapping.{Mapping, compatible, value_at}
use Rattle.sparql_algebra.specs.Solutions.{merges, shares}
use Rattle.sparql_solve.specs.declared.keyed.Part.{Part}
use Rattle.sparql_solve.specs.declared.keyed.Part.TheVariants.{Binned, Sorted}
use Rattle.sparql_solve.specs.declared.bins.Bins.{Bins}
use Rattle.sparql_solve.specs.TermBins.{in_bin_of}
use Rattle.sparql_solve.specs.Keys.{run}

-- those in the bin of the term that a mapping has at the column
abbrev pub bin_of : Mapping → Bins → List Mapping
bin_of a b = in_bin_of b.rows (value_at a b.column)

-- those of a part that have the key of a mapping
abbrev pub part_run : Mapping → Part → List Mapping
part_run a (Binned b) = bin_of a b
part_run a (Sorted i) = run i.columns.items (map (λ r. r.now) i.rows.items) a

-- its merges with these
abbrev pub part_merges : Mapping → Part → List Mapping
part_merges a p = merges (part_run a p) a

-- and with those of all parts, one after another
abbrev pub merges_in : List Part → Mapping → List Mapping
merges_in parts a = flat_map (part_merges a) parts

-- ---- Minus (SPARQL 1.1 Query, section 18.5)

-- the mapping is compatible with another one, and has a variable in common with it
abbrev pub meets : Mapping → Mapping → Bool
meets a b = compatible a b && shares a b

-- it meets one of a part that has its key
abbrev pub meets_in : Mapping → Part → Bool
meets_in a p = list_any (meets a) (part_run a p)

-- it meets none of the parts
abbrev pub is_left : List Part → Mapping → Bool
is_left parts a = not (list_any (meets_in a) parts)

-- the mapping, where it meets none of the parts
abbrev pub left_in : List Part → Mapping → List Mapping
left_in parts a = cond (list_any (meets_in a) parts) [] (a ∷ [])
