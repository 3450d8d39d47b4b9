-- Blank labels: the longest one is read.
use Rattle.std.proofs.Common.{◌≡◌, ℕ, ◌≤◌, false, List, [], ◌∷◌, ◌++◌, length, Option, Some, refl, ap, ◌∙◌}
use Rattle.rdf_terms.specs.Characters.{is_pn_chars_base, is_pn_chars_u, is_pn_chars}
use Rattle.rdf_terms.specs.Dotted.{IsOne, dotted_at}
use Rattle.rdf_terms.specs.ReadingLaws.{IsGreedy}
use Rattle.rdf_terms.specs.Skips.{one_of}
use Rattle.rdf_terms.proofs.CallerLemmas.{IsUnit, Shortens, unit_shortens, one_unit, dotted_front, dotted_over, dotted_no_longer, some_is, none_is, guard_some}
use Rattle.rdf_lines.specs.Reading.{label_end_at}
use Rattle.rdf_lines.specs.Grammar.{is_label_start, is_label_part, IsLabelName}

dot_no_part : is_label_part 46 ≡ false
unfolding is_label_part is_pn_chars is_pn_chars_u is_pn_chars_base
dot_no_part = refl

abbrev pub part_at : List ℕ → Option (List ℕ)
part_at cs = one_of is_label_part cs

part_unit : IsUnit (IsOne is_label_part) part_at
part_unit = one_unit is_label_part dot_no_part

pub part_shortens : Shortens part_at
part_shortens = unit_shortens part_at part_unit

end_sound : (cs rest : List ℕ) → label_end_at cs ≡ Some rest → (name : List ℕ) × (cs ≡ name ++ rest) × IsLabelName name
unfolding label_end_at
end_sound [] rest e = none_is rest e
end_sound (c ∷ cs) rest e =
    let g = guard_some (is_label_start c) (Some (dotted_at part_at cs)) rest e in
    let f = dotted_front part_at part_unit cs in
    (c ∷ f.0, ap (λ (t : List ℕ). c ∷ t) (f.2 ∙ ap (λ (t : List ℕ). f.0 ++ t) (some_is (dotted_at part_at cs) rest g.1)), (g.0, (f.1, f.3)))

end_claims : (name after : List ℕ) → IsLabelName name → (rest : List ℕ) × (label_end_at (name ++ after) ≡ Some rest) × (length rest ≤ length after)
unfolding label_end_at
end_claims [] after h = absurd h
end_claims (c ∷ cs) after h =
    let over = dotted_over part_at part_unit h.1.0 cs after h.1.1 in
    (dotted_at part_at after, rw (h.0, over) refl, dotted_no_longer part_at part_unit after)

pub label_greedy : IsGreedy IsLabelName label_end_at
label_greedy = record { sound = end_sound; claims = end_claims }
