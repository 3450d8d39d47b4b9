-- The list of commands and of answer lines.
use Rattle.std.proofs.Common.{[], ◌∷◌, ◌++◌, map, refl, ◌∙◌}
use Rattle.std.specs.Prelude.{codes}
use Rattle.std.specs.Fmt.{digits}
use Rattle.rdf_lines.specs.QuadText.{quad_text}
use Rattle.rdf_terms.specs.OrderLaws.{term_cmp_total, term_cmp-IsAntisymmetric, quad_cmp_total, quad_cmp-IsAntisymmetric}
use Rattle.rdf_terms.specs.declared.term.Term.TheVariants.{Iri}
use Rattle.rdf_keeper.specs.Script.CommandLaws.{ChangesTell, LinesTell, one_for_another, quad_in}
use Rattle.rdf_keeper.specs.Script.Show.{name_line}
use Rattle.rdf_keeper.proofs.ScriptLemmas.Examples.{lists_one}
use Rattle.rdf_keeper.proofs.ScriptLemmas.OneShow.{one_sorted}

pub lines_tell : LinesTell
unfolding digits
lines_tell = (refl, refl, refl, refl)

pub changes_tell : ChangesTell
changes_tell lines a =
    let net = one_for_another in
    let there = lists_one term_cmp_total term_cmp-IsAntisymmetric in
    let quads = lists_one quad_cmp_total quad_cmp-IsAntisymmetric in
    let nr = one_sorted term_cmp_total term_cmp-IsAntisymmetric net.names_removed a.0 (Iri (codes "e:r") ∷ []) a.4 (there (Iri (codes "e:r"))) in
    let r = one_sorted quad_cmp_total quad_cmp-IsAntisymmetric net.removed a.1 (quad_in (codes "e:r") ∷ []) a.5 (quads (quad_in (codes "e:r"))) in
    let na = one_sorted term_cmp_total term_cmp-IsAntisymmetric net.names_added a.2 (Iri (codes "e:a") ∷ []) a.6 (there (Iri (codes "e:a"))) in
    let d = one_sorted quad_cmp_total quad_cmp-IsAntisymmetric net.added a.3 (quad_in (codes "e:a") ∷ []) a.7 (quads (quad_in (codes "e:a"))) in
    a.8 ∙ (λ i. map (λ n. codes "- graph " ++ name_line n) (nr i) ++ map (λ q. codes "- " ++ quad_text q) (r i)
    ++ map (λ n. codes "+ graph " ++ name_line n) (na i) ++ map (λ q. codes "+ " ++ quad_text q) (d i))
