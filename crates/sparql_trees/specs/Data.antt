-- The data of an update (SPARQL 1.1 Update, section 3.1.1).
use Rattle.std.specs.Prelude.{ℕ, List, refl}
use Rattle.std.specs.Coded.{Coded, code_by, coded×, coded_ℕ, coded_list}
use Rattle.rdf_terms.specs.Codes.{coded_quad}
use Rattle.rdf_terms.specs.Quad.{QuadParts}

-- quads, and how many blank nodes they have
pub record DataParts : Type 0 where
  pub quads : List QuadParts
  pub blanks : ℕ

abbrev pub coded_data : Coded DataParts
coded_data = code_by (List QuadParts × ℕ) (coded× (coded_list coded_quad) coded_ℕ) (λ d. (d.quads, d.blanks)) (λ p. record { quads = p.0; blanks = p.1 }) (λ _. refl)
