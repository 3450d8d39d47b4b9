-- How terms, graph names and quads are stored, where a model's value is made of them.
use Rattle.std.specs.Prelude.{ℕ, List, Option, refl, ◌⊎◌}
use mathlib.Core.Logic.{inl, inr}
use Rattle.std.specs.Coded.{Coded, code_by, coded×, coded⊎, coded_ℕ, coded_list, coded_option}
use base.Stored.{coded_unit}
use Rattle.rdf_terms.specs.Literal.{LiteralParts}
use Rattle.rdf_terms.specs.Quad.{QuadParts}
use Rattle.rdf_terms.specs.declared.term.Term.{Term}
use Rattle.rdf_terms.specs.declared.term.Term.TheVariants.{Blank, Iri, Literal}
use Rattle.rdf_terms.specs.declared.quad.GraphName.{GraphName}
use Rattle.rdf_terms.specs.declared.quad.GraphName.TheVariants.{Default, Named}

abbrev pub coded_text : Coded (List ℕ)
coded_text = coded_list coded_ℕ

abbrev pub coded_literal : Coded LiteralParts
coded_literal = code_by (List ℕ × (List ℕ × Option (List ℕ))) (coded× coded_text (coded× coded_text (coded_option coded_text)))
    (λ l. (l.lexical, (l.datatype, l.tag))) (λ p. record { lexical = p.0; datatype = p.1.0; tag = p.1.1 }) (λ _. refl)

abbrev pub coded_term : Coded Term
coded_term = code_by (ℕ ⊎ (List ℕ ⊎ LiteralParts)) (coded⊎ coded_ℕ (coded⊎ coded_text coded_literal))
    (elim [ Blank n ↦ inl n | Iri i ↦ inr (inl i) | Literal l ↦ inr (inr l) ])
    (elim [ inl n ↦ Blank n | inr (inl i) ↦ Iri i | inr (inr l) ↦ Literal l ])
    (elim [ Blank n ↦ refl | Iri i ↦ refl | Literal l ↦ refl ])

abbrev pub coded_graph : Coded GraphName
coded_graph = code_by (Unit {0} ⊎ Term) (coded⊎ coded_unit coded_term)
    (elim [ Default ↦ inl tt | Named t ↦ inr t ]) (elim [ inl u ↦ Default | inr t ↦ Named t ]) (elim [ Default ↦ refl | Named t ↦ refl ])

abbrev pub coded_quad : Coded QuadParts
coded_quad = code_by (GraphName × (Term × (Term × Term))) (coded× coded_graph (coded× coded_term (coded× coded_term coded_term)))
    (λ q. (q.graph, (q.subject, (q.predicate, q.object)))) (λ p. record { graph = p.0; subject = p.1.0; predicate = p.1.1.0; object = p.1.1.1 }) (λ _. refl)
