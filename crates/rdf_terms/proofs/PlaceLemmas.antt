-- What stands between two places of a text.
use Rattle.std.proofs.Common.{◌≡◌, ◌-◌, ◌≤◌, ℕ, List, [], ◌∷◌, ◌++◌, length, take, refl, sym, ap, ◌∙◌, length-append, arith}
use Rattle.std.specs.List.{slice_range}
use Rattle.std.specs.Str.{chars, encode_utf8_all, IsUtf8, IsCharBoundary}
use Rattle.std.proofs.lemmas.Str.{encodes-chars, encodes-append, IsCharBoundary-at_seam}
use Rattle.rdf_terms.specs.Reading.{LeadsTo, between}

take_front : (xs ys : List ℕ) → take (length xs) (xs ++ ys) ≡ xs
take_front [] ys = refl
take_front (x ∷ xs) ys = ap (λ (t : List ℕ). x ∷ t) (take_front xs ys)

pub between_is : (from to over : List ℕ) → from ≡ over ++ to → between from to ≡ over
between_is from to over e =
    let n : length from - length to ≡ length over = omega (arith, ap length e, length-append over to) in
    ap (λ (k : ℕ). take k from) n ∙ ap (take (length over)) e ∙ take_front over to

-- the bytes of the one place are those between, and those of the other
pub bytes_between : (from to now then : List ℕ) → IsUtf8 from → IsUtf8 to → chars from ≡ now → chars to ≡ then → LeadsTo now then
    → from ≡ encode_utf8_all (between now then) ++ to
bytes_between from to now then u v is was l =
    sym (encodes-chars from u) ∙ ap encode_utf8_all (is ∙ l.1) ∙ encodes-append l.0 then
    ∙ ap (λ (t : List ℕ). encode_utf8_all t ++ encode_utf8_all then) (sym (between_is now then l.0 l.1))
    ∙ ap (λ (t : List ℕ). encode_utf8_all (between now then) ++ t) (ap encode_utf8_all (sym was) ∙ encodes-chars to v)

pub no_longer : (from to front : List ℕ) → from ≡ front ++ to → length to ≤ length from
no_longer from to front e = omega (arith, ap length e, length-append front to)

pub cut_is : (from to front : List ℕ) → from ≡ front ++ to → slice_range from 0 (length from - length to) ≡ front
cut_is from to front e =
    let n : length from - length to - 0 ≡ length from - length to = omega arith in
    ap (λ (k : ℕ). take k from) n ∙ between_is from to front e

pub may_cut : (from to front : List ℕ) → from ≡ front ++ to → IsUtf8 to → IsCharBoundary from (length from - length to)
may_cut from to front e u =
    let n : length front ≡ length from - length to = omega (arith, ap length e, length-append front to) in
    rw (sym n) (IsCharBoundary-at_seam from front to e u)
