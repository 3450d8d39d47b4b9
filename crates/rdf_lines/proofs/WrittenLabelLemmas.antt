-- The label of a blank node's number is a label.
use Rattle.std.proofs.Common.{◌≡◌, refl, ℕ, ◌<◌, ◌^◌, true, List, [], ◌∷◌, map, decimal}
use Rattle.rdf_terms.specs.Characters.{is_pn_chars_base, is_pn_chars_u}
use Rattle.rdf_terms.proofs.CallerLemmas.{ones_dotted, AllPass, is_digit, decimal_digits, digit_part}
use Rattle.rdf_lines.specs.Grammar.{is_label_part, is_label_start, IsLabelName}

digit_label_part : (c : ℕ) → is_digit c ≡ true → is_label_part c ≡ true
unfolding is_label_part
digit_label_part c h = rw (digit_part c h) refl

digits_are_parts : (cs : List ℕ) → AllPass is_digit cs → AllPass is_label_part cs
digits_are_parts [] h = tt
digits_are_parts (c ∷ cs) h = (digit_label_part c h.0, digits_are_parts cs h.1)

label_first : is_label_start 98 ≡ true
unfolding is_label_start is_pn_chars_u is_pn_chars_base
label_first = refl

pub label_name : (n : ℕ) → n < 2 ^ 64 → IsLabelName (98 ∷ decimal n)
label_name n h = (label_first, (map (λ c. c ∷ []) (decimal n), ones_dotted is_label_part (decimal n) (digits_are_parts (decimal n) (decimal_digits n h))))
