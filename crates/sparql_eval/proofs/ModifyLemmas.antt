-- The quads that DELETE/INSERT brings, from the solutions that were found.
use Rattle.std.proofs.Common.{◌≡◌, ℕ, ◌+◌, ◌*◌, List, length, sym, subst, arith, Option, None, Some}
use Rattle.rdf_terms.specs.Below.{AreBelow, IsGraphBelow}
use Rattle.rdf_terms.specs.Quad.{QuadParts}
use Rattle.rdf_terms.specs.declared.quad.GraphName.{GraphName}
use Rattle.rdf_dataset.specs.State.{State, IsSound}
use Rattle.sparql_algebra.specs.Bound.{AllValues, IsValueBelow}
use Rattle.sparql_algebra.proofs.CallerLemmas.{solutions_below}
use Rattle.sparql_eval.specs.Operations.{home_of, instances_of, solutions_of}
use Rattle.sparql_eval.specs.Templates.{all_instances}
use Rattle.sparql_eval.proofs.TemplateLemmas.{all_instances_below, values_more}
use Rattle.sparql_trees.specs.Visible.{visible}
use Rattle.sparql_trees.specs.declared.template.Modify.{Modify as Modification}
use Rattle.sparql_trees.specs.declared.template.QuadPattern.{QuadPattern}
use Rattle.sparql_values.specs.Mapping.{Mapping, Variables}

home_below : (graph : Option (List ℕ)) (next : ℕ) → IsGraphBelow next (home_of graph)
home_below None next = tt
home_below (Some iri) next = tt

-- the solutions of an operation, as they were found
pub record IsFound (s : State) (m : Modification) (variables : Variables) (rows : List Mapping) (home : GraphName) : Type 0 where
  pub variables_are : variables ≡ visible m.pattern
  pub rows_are : rows ≡ solutions_of s m
  pub home_is : home ≡ home_of m.with

module _ (s : State) (m : Modification) (variables : Variables) (rows : List Mapping) (home : GraphName) (found : IsFound s m variables rows home) where
  -- the quads that come have no blank node from the new counter on
  pub come_below : (next first : ℕ) (come : List QuadParts) → IsSound s → first ≡ s.next → next ≡ s.next + length rows * m.insert.blanks
      → come ≡ all_instances variables home m.insert.blanks m.insert.quads first rows → AreBelow next come
  come_below next first come sound from counter e =
      let low : AllValues (IsValueBelow s.next) rows = subst (AllValues (IsValueBelow s.next)) (sym found.rows_are) (solutions_below m.pattern (home_of m.with) s sound) in
      subst (AreBelow next) (sym e)
      (all_instances_below next variables home m.insert.blanks m.insert.quads first rows (values_more s.next next rows low (omega (arith, counter)))
      (subst (IsGraphBelow next) (sym found.home_is) (home_below m.with next)) (omega (arith, from, counter)))

  -- the instances of a template under them are those of the operation
  pub found_instances : (blanks : ℕ) (quads : List QuadPattern) (first : ℕ) → first ≡ s.next → all_instances variables home blanks quads first rows ≡ instances_of s m blanks quads
  found_instances blanks quads first from = λ i. all_instances (found.variables_are i) (found.home_is i) blanks quads (from i) (found.rows_are i)
