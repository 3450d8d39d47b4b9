use Rattle.std.proofs.Common.{◌++◌, ℕ, List, map, refl, arith, length-append}
use Rattle.std.proofs.lemmas.List.{length-map}
use Rattle.std.specs.Prelude.{codes}
use Rattle.rdf_lines.specs.QuadText.{quad_text}
use Rattle.rdf_keeper.specs.Script.Show.{name_line}
use Rattle.rdf_keeper.proofs.ScriptLemmas.Show.{four_groups}
use Rattle.rdf_keeper.proofs.script.show.append_change.Goals as goal

pub returns : goal.returns
returns c =
    let nr = c.names_removed-names_removed.result.now in
    let r = c.removed-removed.result.now in
    let na = c.names_added-names_added.result.now in
    let a = c.added-added.result.now in
    let l1 : List (List ℕ) = map (λ n. codes "- graph " ++ name_line n) nr in
    let l2 : List (List ℕ) = map (λ q. codes "- " ++ quad_text q) r in
    let l3 : List (List ℕ) = map (λ n. codes "+ graph " ++ name_line n) na in
    let l4 : List (List ℕ) = map (λ q. codes "+ " ++ quad_text q) a in (
      l1 ++ l2 ++ l3 ++ l4,
      (nr, r, na, a, c.names_removed-names_removed.ensures, c.removed-removed.ensures, c.names_added-names_added.ensures, c.added-added.ensures, refl),
      four_groups _ _ _ _ _ l1 l2 l3 l4 c.in_ok-append_names.ensures c.in_ok-append_quads.ensures c.in_ok-append_names-2.ensures c.in_ok-append_quads-2.ensures,
      simp (length-append, length-map) (omega arith),
    )
