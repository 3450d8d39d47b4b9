use Rattle.std.proofs.Common.{rules, ◌≡◌, true, false, ◌-◌, ap, ◌∙◌, sym, subst, arith, length, take, drop, List, Bor}
use Rattle.std.specs.List.Sorted.{IsPartitionPoint, IsPartitionedBy}
use Rattle.std.proofs.lemmas.Fn.{always_returns_same}
use Rattle.std.proofs.lemmas.List.{take_all, length-drop}
use Rattle.sparql_values.specs.Mapping.{Mapping}
use Rattle.sparql_algebra.proofs.CallerLemmas.{mapping_total}
use Rattle.sparql_solve.specs.Keys.{key, same_key}
use Rattle.sparql_solve.proofs.KeyLemmas.{low, up, low_parts, up_parts, run_found, map_filter, rows_of, sorted_references}
use Rattle.sparql_solve.proofs.keys.run_of.Goals as goal

pub returns : goal.returns
returns c =
    let columns = c.args.columns.now in
    let xs = c.args.index.now in
    let i = c.partition_point-start.result in
    let n = c.partition_point-len.result in
    let key_at = λ (r : Bor Mapping). key columns r.now in
    let k = key columns c.args.row.now in
    let rising = sorted_references columns xs c.requires in
    let rest = take_all (length xs - i) (drop i xs) (omega (arith, length-drop i xs)) in
    let lows = c.partition_point-start.ensures.partitioned (low key_at mapping_total k)
    (always_returns_same _ (λ a r. r ≡ low key_at mapping_total k a.0.now) _ (λ a r q h. search rules))
    (low_parts key_at mapping_total k xs rising) in
    let ups = c.partition_point-len.ensures.partitioned (up key_at mapping_total k)
    (always_returns_same _ (λ a r. r ≡ up key_at mapping_total k a.0.now) _ (λ a r q h. search rules))
    (subst (λ (l : List (Bor Mapping)). IsPartitionedBy (up key_at mapping_total k) l) (sym rest) (up_parts key_at mapping_total k xs i rising)) in
    let found = run_found key_at mapping_total k xs i n lows
    (subst (λ (l : List (Bor Mapping)). IsPartitionPoint (λ x. up key_at mapping_total k x ≡ true) (λ x. up key_at mapping_total k x ≡ false) l n) rest ups) in
    ap (λ (l : List (Bor Mapping)). rows_of (take n l)) rest ∙ ap rows_of found
    ∙ map_filter (λ (r : Bor Mapping). r.now) (same_key columns c.args.row.now) xs
