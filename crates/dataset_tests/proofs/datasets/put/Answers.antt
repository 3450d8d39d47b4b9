use Rattle.std.proofs.Common.{List, [], ◌∷◌, ◌++◌, arith, sym, subst}
use Rattle.rdf_terms.specs.Below.{AreBelow, IsQuadBelow}
use Rattle.rdf_terms.specs.Quad.{QuadParts}
use Rattle.dataset_tests.proofs.datasets.put.Goals as goal

one_more : (quads : List QuadParts) (q : QuadParts) → AreBelow 4 quads → IsQuadBelow 4 q → AreBelow 4 (quads ++ q ∷ [])
one_more [] q h b = (b, tt)
one_more (x ∷ xs) q h b = (h.0, one_more xs q h.1 b)

pub returns-in-Ok : goal.returns-in-Ok
returns-in-Ok c = subst (AreBelow 4) (sym c.in-Ok.ensures.ok) (one_more _ _ c.requires (c.in_ok-quad.ensures 4 (omega arith)))
