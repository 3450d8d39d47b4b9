-- What is written is the text of the state.
use Rattle.std.proofs.Common.{◌≡◌, ◌∙◌, ap, refl, ℕ, List, [], ◌∷◌, ◌++◌, codes, decimal, length, append_assoc}
use Rattle.std.specs.Prelude.{IsPermutation, IsSorted}
use Rattle.std.specs.FinSet as set
use Rattle.std.specs.List.{flat_map}
use Rattle.std.specs.List.Sorted.{IsStrictlySortedBy}
use Rattle.rdf_terms.specs.Order.{term_cmp, quad_cmp}
use Rattle.rdf_terms.specs.OrderLaws.{term_cmp_total, term_cmp-IsAntisymmetric, quad_cmp_total, quad_cmp-IsAntisymmetric}
use Rattle.rdf_terms.specs.declared.term.Term.{Term}
use Rattle.rdf_terms.specs.declared.quad.Quad.{Quad}
use Rattle.rdf_lines.specs.QuadText.{IsSortedText, quad_text}
use Rattle.rdf_lines.specs.StateText.{names_of, quads_of, name_line, state_text, IsStateText}
use Rattle.rdf_lines.proofs.StateSetLemmas.{listed_in_order, lists_sorted}

abbrev pub head : ℕ → List ℕ
head next = codes "#% rdfkeep state 2\n#% next " ++ (decimal next ++ codes "\n")

regroup : (old front number end names quads : List ℕ) → ((old ++ (front ++ (number ++ end))) ++ names) ++ quads ≡ old ++ (front ++ (number ++ (end ++ (names ++ quads))))
regroup old front number end names quads = simp append_assoc

pub headed : (old a b c : List ℕ) (next : ℕ) → a ≡ old ++ codes "#% rdfkeep state 2\n#% next " → b ≡ a ++ decimal next → c ≡ b ++ 10 ∷ [] → c ≡ old ++ head next
headed old a b c next pa pb pc =
    pc ∙ ap (λ (l : List ℕ). l ++ 10 ∷ []) (pb ∙ ap (λ (l : List ℕ). l ++ decimal next) pa)
    ∙ append_assoc (old ++ codes "#% rdfkeep state 2\n#% next ") (decimal next) (10 ∷ []) ∙ append_assoc old (codes "#% rdfkeep state 2\n#% next ") (decimal next ++ 10 ∷ [])

pub written : (old c d e text : List ℕ) (next : ℕ) (names sorted : List Term) (quads : List Quad)
    → c ≡ old ++ head next → d ≡ c ++ flat_map name_line sorted → e ≡ d ++ text
    → length names ≡ set.len (names_of names) → IsPermutation names sorted → IsSorted term_cmp sorted → length quads ≡ set.len (quads_of quads) → IsSortedText quads text
    → (whole : List ℕ) × IsStateText next (names_of names) (quads_of quads) whole × (e ≡ old ++ whole)
written old c d e text next names sorted quads pc pd pe once perm rises each (listed, same, up, is) = (
  state_text next sorted listed,
  record {
    names_listed = sorted;
    quads_listed = listed;
    names_sorted = listed_in_order term_cmp_total term_cmp-IsAntisymmetric names sorted once perm rises;
    quads_sorted = listed_in_order quad_cmp_total quad_cmp-IsAntisymmetric quads listed each same up;
    is = refl;
  },
  pe ∙ ap (λ (l : List ℕ). l ++ text) (pd ∙ ap (λ (l : List ℕ). l ++ flat_map name_line sorted) pc)
      ∙ regroup old (codes "#% rdfkeep state 2\n#% next ") (decimal next) (10 ∷ []) (flat_map name_line sorted) text
      ∙ ap (λ (l : List ℕ). old ++ (codes "#% rdfkeep state 2\n#% next " ++ (decimal next ++ 10 ∷ (flat_map name_line sorted ++ l)))) is,
)

pub written_in_order : (old c d e : List ℕ) (next : ℕ) (names : List Term) (quads : List Quad)
    → c ≡ old ++ head next → d ≡ c ++ flat_map name_line names → e ≡ d ++ flat_map quad_text quads
    → IsStrictlySortedBy term_cmp names → IsStrictlySortedBy quad_cmp quads
    → (whole : List ℕ) × IsStateText next (names_of names) (quads_of quads) whole × (e ≡ old ++ whole)
written_in_order old c d e next names quads pc pd pe names_rise quads_rise = (
  state_text next names quads,
  record {
    names_listed = names;
    quads_listed = quads;
    names_sorted = lists_sorted term_cmp_total term_cmp-IsAntisymmetric names names_rise;
    quads_sorted = lists_sorted quad_cmp_total quad_cmp-IsAntisymmetric quads quads_rise;
    is = refl;
  },
  pe ∙ ap (λ (l : List ℕ). l ++ flat_map quad_text quads) (pd ∙ ap (λ (l : List ℕ). l ++ flat_map name_line names) pc)
      ∙ regroup old (codes "#% rdfkeep state 2\n#% next ") (decimal next) (10 ∷ []) (flat_map name_line names) (flat_map quad_text quads),
)
