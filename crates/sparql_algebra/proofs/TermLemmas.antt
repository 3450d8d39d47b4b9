-- Tests of values and mappings.
use Rattle.std.proofs.Common.{◌≡◌, true, ◌&&◌, [], ◌∷◌, Option, Some, None, refl, ap, ◌∙◌}
use Rattle.rdf_terms.specs.declared.term.Term.{Term}
use Rattle.sparql_values.specs.Mapping.{Mapping, same_value, same_mapping}
pub use Rattle.sparql_values.proofs.CallerLemmas.{same_term_is, same_term_own}
use Rattle.sparql_algebra.proofs.TruthLemmas.{and_left, and_right}

pub same_value_is : (x y : Option Term) → same_value x y ≡ true → x ≡ y
same_value_is (Some s) (Some t) h = ap Some (same_term_is s t h)
same_value_is (Some s) None h = cc
same_value_is None (Some t) h = cc
same_value_is None None h = refl

pub same_value_own : (x : Option Term) → same_value x x ≡ true
same_value_own (Some t) = same_term_own t
same_value_own None = refl

pub same_mapping_is : (a b : Mapping) → same_mapping a b ≡ true → a ≡ b
same_mapping_is [] [] h = refl
same_mapping_is [] (y ∷ b) h = cc
same_mapping_is (x ∷ a) [] h = cc
same_mapping_is (x ∷ a) (y ∷ b) h =
    let e : x ≡ y = same_value_is x y (and_left _ _ h) in
    let r : a ≡ b = same_mapping_is a b (and_right (same_value x y) _ h) in
    cc

pub same_mapping_own : (a : Mapping) → same_mapping a a ≡ true
same_mapping_own [] = refl
same_mapping_own (x ∷ a) = ap (λ b. b && same_mapping a a) (same_value_own x) ∙ same_mapping_own a
