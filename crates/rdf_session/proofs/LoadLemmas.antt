-- A load: the least number above those of its blank nodes.
use Rattle.std.proofs.Common.{◌≡◌, ℕ, suc, ◌+◌, ◌<◌, ◌≤◌, List, [], ◌∷◌, ◌++◌, length, drop, get_or, refl, sym, ap, add-one, drop-cons, arith}
use Rattle.std.proofs.lemmas.List.{drop_all}
use Rattle.std.specs.Prelude.{min, max}
use Rattle.rdf_terms.specs.Below.{AreBelow, IsGraphBelow, IsTermBelow}
use Rattle.rdf_terms.specs.Quad.{QuadParts}
use Rattle.rdf_terms.specs.declared.quad.GraphName.{GraphName}
use Rattle.rdf_terms.specs.declared.quad.GraphName.TheVariants.{Default, Named}
use Rattle.rdf_terms.specs.declared.term.Term.{Term}
use Rattle.rdf_terms.specs.declared.term.Term.TheVariants.{Blank, Iri, Literal}
use Rattle.rdf_dataset.specs.State.{last_number}
use Rattle.rdf_session.specs.Request.{blank_limit, graph_limit, quad_limit, term_limit}

pub blank_limit-drop : (qs : List QuadParts) (i : ℕ) (q : QuadParts) → i < length qs → q ≡ get_or qs i q → blank_limit (drop i qs) ≡ max (quad_limit q) (blank_limit (drop (i + 1) qs))
blank_limit-drop qs i q h e = rw (drop-cons qs i q h, add-one) (ap (λ x. max (quad_limit x) (blank_limit (drop (suc i) qs))) (sym e))

pub blank_limit-end : (qs : List QuadParts) (i : ℕ) → length qs ≤ i → blank_limit (drop i qs) ≡ 0
blank_limit-end qs i h = rw (drop_all i qs h) refl

-- the greatest so far, up to a bound
pub limit_step : (all limit rest quad rest' q limit' bound : ℕ) → min all bound ≡ max limit (min rest bound) → rest ≡ max quad rest' → q ≡ min quad bound → limit' ≡ max q limit → min all bound ≡ max limit' (min rest' bound)
limit_step all limit rest quad rest' q limit' bound a b c d = omega (arith, a, b, c, d)

pub limit_end : (all limit rest bound : ℕ) → min all bound ≡ max limit (min rest bound) → rest ≡ 0 → limit ≡ min all bound
limit_end all limit rest bound a b = omega (arith, a, b)

-- that of one quad more
blank_limit-push : (qs : List QuadParts) (q : QuadParts) → blank_limit (qs ++ q ∷ []) ≡ max (blank_limit qs) (quad_limit q)
blank_limit-push [] q = omega arith
blank_limit-push (p ∷ ps) q = let h = blank_limit-push ps q in omega (arith, h)

pub limit_pushed : (old new : List QuadParts) (q : QuadParts) (limit of_quad now bound : ℕ) → limit ≡ min (blank_limit old) bound → of_quad ≡ min (quad_limit q) bound → now ≡ max limit of_quad → new ≡ old ++ q ∷ [] → now ≡ min (blank_limit new) bound
limit_pushed old new q limit of_quad now bound a b c e = let h = ap blank_limit e in omega (arith, a, b, c, h, blank_limit-push old q)

-- ---- the blank nodes lie below the limit

term_below : (next : ℕ) (t : Term) → term_limit t ≤ next → IsTermBelow next t
term_below next (Blank number) h = omega (arith, h)
term_below next (Iri iri) h = tt
term_below next (Literal l) h = tt

graph_below : (next : ℕ) (g : GraphName) → graph_limit g ≤ next → IsGraphBelow next g
graph_below next Default h = tt
graph_below next (Named t) h = term_below next t h

all_below : (next : ℕ) (qs : List QuadParts) → blank_limit qs ≤ next → AreBelow next qs
all_below next [] h = tt
all_below next (q ∷ qs) h = (
  record {
    graph = graph_below next q.graph (omega (arith, h));
    subject = term_below next q.subject (omega (arith, h));
    predicate = term_below next q.predicate (omega (arith, h));
    object = term_below next q.object (omega (arith, h));
  },
  all_below next qs (omega (arith, h)),
)

-- what was counted is the limit, where it is no greater than the last number
pub counted_below : (qs : List QuadParts) (count : ℕ) → count ≡ min (blank_limit qs) (last_number + 1) → count ≤ last_number → AreBelow count qs
counted_below qs count c h = all_below count qs (omega (arith, c, h))
