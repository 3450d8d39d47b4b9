-- The line ends of a text are counted.
use Rattle.std.proofs.Common.{◌≡◌, inl, inr, ◌∙◌, ap, refl, ℕ, ◌+◌, false, List, [], ◌∷◌, ◌++◌, drop, ◌==◌, arith}
use Rattle.std.proofs.lemmas.Bool.{cases_Bool, eqb-true, or_cases, or_parts}
use Rattle.rdf_terms.specs.LineEnds.{is_line_end, IsLineEnd}
use Rattle.rdf_tokens.specs.Lines.{line_ends}
use Rattle.rdf_tokens.specs.LineLaws.{IsLine, HasLines, TextsHaveLines, LineEndsAreCounted}

-- ---- counting

line_uncounted : (line rest : List ℕ) → IsLine line → line_ends (line ++ rest) ≡ line_ends rest
unfolding line_ends
line_uncounted [] rest h = refl
line_uncounted (c ∷ cs) rest h =
    let apart = or_parts (c == 10) (c == 13) h.0 in
    let lf : (c == 10) ≡ false = apart.0 in
    let cr : (c == 13) ≡ false = apart.1 in
    rw (cr, lf) (line_uncounted cs rest h.1)

no_ends : (line : List ℕ) → IsLine line → line_ends line ≡ 0
unfolding line_ends
no_ends [] h = refl
no_ends (c ∷ cs) h =
    let apart = or_parts (c == 10) (c == 13) h.0 in
    let lf : (c == 10) ≡ false = apart.0 in
    let cr : (c == 13) ≡ false = apart.1 in
    rw (cr, lf) (no_ends cs h.1)

end_counted : (end rest : List ℕ) → IsLineEnd end rest → line_ends (end ++ rest) ≡ 1 + line_ends rest
unfolding line_ends
end_counted end rest (inl e) = rw e refl
end_counted end rest (inr (inl e)) = rw e refl
end_counted end rest (inr (inr h)) = rw (h.0, h.1) refl

pub line_ends_are_counted : LineEndsAreCounted
line_ends_are_counted text [] h = no_ends text h
line_ends_are_counted text (line ∷ lines) h =
    let end : line_ends text ≡ 1 + line_ends h.1 = ap line_ends h.2 ∙ line_uncounted line (h.0 ++ h.1) h.3 ∙ end_counted h.0 h.1 h.4 in
    let rest = line_ends_are_counted h.1 lines h.5 in
    omega (arith, end, rest)

-- ---- each text has lines

abbrev SomeLines : List ℕ → Type 0
SomeLines text = (lines : List (List ℕ)) × HasLines text lines

-- one more character in the first line
longer : (c : ℕ) (cs : List ℕ) → is_line_end c ≡ false → SomeLines cs → SomeLines (c ∷ cs)
longer c cs plain ([], h) = ([], (plain, h))
longer c cs plain (line ∷ lines, h) = ((c ∷ line) ∷ lines, (h.0, h.1, ap (λ (t : List ℕ). c ∷ t) h.2, (plain, h.3), h.4, h.5))

-- CR, with an LF or without
cr_first : (c : ℕ) (cs : List ℕ) → c ≡ 13 → SomeLines cs → SomeLines (drop 1 cs) → SomeLines (c ∷ cs)
cr_first c [] e rest behind = ([] ∷ rest.0, (13 ∷ [], [], rw e refl, tt, inr (inr (refl, refl)), rest.1))
cr_first c (d ∷ ds) e rest behind = elim (cases_Bool (d == 10)) [
  | inl lf ↦ (let is : d ≡ 10 = eqb-true d 10 lf in ([] ∷ behind.0, (13 ∷ 10 ∷ [], ds, rw (e, is) refl, tt, inr (inl refl), behind.1)))
  | inr other ↦ ([] ∷ rest.0, (13 ∷ [], d ∷ ds, rw e refl, tt, inr (inr (refl, other)), rest.1))
]

first_more : (c : ℕ) (cs : List ℕ) → SomeLines cs → SomeLines (drop 1 cs) → SomeLines (c ∷ cs)
first_more c cs rest behind = elim (cases_Bool (is_line_end c)) [
  | inl ends ↦ elim (or_cases (c == 10) (c == 13) ends) [
    | inl lf ↦ (let is : c ≡ 10 = eqb-true c 10 lf in ([] ∷ rest.0, (10 ∷ [], cs, rw is refl, tt, inl refl, rest.1)))
    | inr cr ↦ cr_first c cs (eqb-true c 13 cr) rest behind
  ]
  | inr plain ↦ longer c cs plain rest
]

both : (text : List ℕ) → SomeLines text × SomeLines (drop 1 text)
both [] = (([], tt), ([], tt))
both (c ∷ cs) = let rest = both cs in (first_more c cs rest.0 rest.1, rest.0)

pub texts_have_lines : TextsHaveLines
texts_have_lines text = (both text).0
