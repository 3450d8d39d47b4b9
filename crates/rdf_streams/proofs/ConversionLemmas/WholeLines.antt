-- The lines of a front of a text.
use Rattle.std.proofs.Common.{◌≡◌, ◌∙◌, ap, refl, sym, ℕ, Bool, true, false, cond, ◌&&◌, ◌||◌, List, [], ◌∷◌, ◌++◌}
use Rattle.std.specs.Prelude.{not}
use Rattle.rdf_terms.specs.LineEnds.{is_line_feed, is_return, is_line_end}
use Rattle.rdf_lines.specs.Lines.{lines_behind}
use Rattle.std.specs.List.{onto_first}
use Rattle.rdf_lines.specs.Pieces.{Hold, onto}
use Rattle.rdf_lines.proofs.CallerLemmas.{onto-cons, other, ended, not_feed, feed}
use Rattle.rdf_streams.specs.Conversion.Converts.{whole_lines, is_empty}

feed_is_end : (behind f r : Bool) → (behind && f) ≡ true → (f || r) ≡ true
feed_is_end true true r e = refl
feed_is_end true false r e = cc
feed_is_end false f r e = cc

-- ---- the whole lines of a text

keeps_end : (b : ℕ) (bs : List ℕ) → is_line_end b ≡ true → whole_lines (b ∷ bs) ≡ b ∷ whole_lines bs
keeps_end b bs e = ap (λ v. cond (v || not (is_empty (whole_lines bs))) (b ∷ whole_lines bs) []) e

nothing_whole : (b : ℕ) (bs : List ℕ) → is_line_end b ≡ false → whole_lines bs ≡ [] → whole_lines (b ∷ bs) ≡ []
nothing_whole b bs e n = ap (λ v. cond (v || not (is_empty (whole_lines bs))) (b ∷ whole_lines bs) []) e ∙ ap (λ w. cond (not (is_empty w)) (b ∷ w) []) n

keeps_front : (b c : ℕ) (bs cs : List ℕ) → is_line_end b ≡ false → whole_lines bs ≡ c ∷ cs → whole_lines (b ∷ bs) ≡ b ∷ whole_lines bs
keeps_front b c bs cs e n = ap (λ v. cond (v || not (is_empty (whole_lines bs))) (b ∷ whole_lines bs) []) e ∙ ap (λ w. cond (not (is_empty w)) (b ∷ whole_lines bs) []) n

onto_some : (b : ℕ) (ls : List (List ℕ)) → (l : List ℕ) × (more : List (List ℕ)) × (onto_first b ls ≡ l ∷ more)
onto_some b [] = (b ∷ [], [], refl)
onto_some b (l ∷ ls) = (b ∷ l, ls, refl)

some_line : (c : ℕ) (cs : List ℕ) → (l : List ℕ) × (more : List (List ℕ)) × (lines_behind false (c ∷ cs) ≡ l ∷ more)
some_line c cs = by (is_line_end c) refl
  where
    by : (v : Bool) → is_line_end c ≡ v → (l : List ℕ) × (more : List (List ℕ)) × (lines_behind false (c ∷ cs) ≡ l ∷ more)
    by true e = ([], lines_behind (is_return c) cs, ended c cs e)
    by false e = let some = onto_some c (lines_behind false cs) in (some.0, some.1, other c cs e ∙ some.2)

onto_first-append : (b : ℕ) (l : List ℕ) (ls more rest : List (List ℕ)) → ls ≡ l ∷ more → onto_first b (ls ++ rest) ≡ onto_first b ls ++ rest
onto_first-append b l ls more rest e = ap (λ k. onto_first b (k ++ rest)) e ∙ sym (ap (λ k. onto_first b k ++ rest) e)

abbrev Held : Bool → List ℕ → Type 0
Held behind xs = (front : List ℕ) × (now : Bool) × Hold behind xs (lines_behind behind (whole_lines xs)) front now

-- however a text goes on, its whole lines stand
pub held_by : (behind : Bool) (xs : List ℕ) → Held behind xs
held_by behind [] = ([], behind, λ tail. refl)
held_by behind (b ∷ bs) = by (behind && is_line_feed b) refl (held_by false bs) (held_by (is_return b) bs)
  where
    by_front : (behind && is_line_feed b) ≡ false → is_line_end b ≡ false → (w : List ℕ) → whole_lines bs ≡ w → Held false bs → Held behind (b ∷ bs)
    by_front n e [] is later = (
      b ∷ later.0,
      later.1,
      λ tail. not_feed behind b (bs ++ tail) n ∙ other b (bs ++ tail) e
          ∙ ap (onto_first b) (later.2 tail ∙ ap (λ w. lines_behind false w ++ onto later.0 (lines_behind later.1 tail)) is)
          ∙ sym (ap (λ w. lines_behind behind w ++ onto (b ∷ later.0) (lines_behind later.1 tail)) (nothing_whole b bs e is)),
    )
    by_front n e (c ∷ cs) is later =
        let some = some_line c cs in
        let line : lines_behind false (whole_lines bs) ≡ some.0 ∷ some.1 = ap (lines_behind false) is ∙ some.2 in (
          later.0,
          later.1,
          λ tail.
              let rest = onto later.0 (lines_behind later.1 tail) in
              not_feed behind b (bs ++ tail) n ∙ other b (bs ++ tail) e ∙ ap (onto_first b) (later.2 tail)
              ∙ onto_first-append b some.0 (lines_behind false (whole_lines bs)) some.1 rest line
              ∙ ap (λ k. k ++ rest) (sym (ap (lines_behind behind) (keeps_front b c bs cs e is) ∙ not_feed behind b (whole_lines bs) n ∙ other b (whole_lines bs) e)),
        )

    by_end : (behind && is_line_feed b) ≡ false → (v : Bool) → is_line_end b ≡ v → Held false bs → Held (is_return b) bs → Held behind (b ∷ bs)
    by_end n true e plain later = (
      later.0,
      later.1,
      λ tail.
          let rest = onto later.0 (lines_behind later.1 tail) in
          not_feed behind b (bs ++ tail) n ∙ ended b (bs ++ tail) e ∙ ap (λ k. [] ∷ k) (later.2 tail)
          ∙ ap (λ k. k ++ rest) (sym (ap (lines_behind behind) (keeps_end b bs e) ∙ not_feed behind b (whole_lines bs) n ∙ ended b (whole_lines bs) e)),
    )
    by_end n false e plain later = by_front n e (whole_lines bs) refl plain

    by : (v : Bool) → (behind && is_line_feed b) ≡ v → Held false bs → Held (is_return b) bs → Held behind (b ∷ bs)
    by true e plain later = (
      plain.0,
      plain.1,
      λ tail.
          let rest = onto plain.0 (lines_behind plain.1 tail) in
          feed behind b (bs ++ tail) e ∙ plain.2 tail
          ∙ ap (λ k. k ++ rest) (sym (ap (lines_behind behind) (keeps_end b bs (feed_is_end behind (is_line_feed b) (is_return b) e)) ∙ feed behind b (whole_lines bs) e)),
    )
    by false e plain later = by_end e (is_line_end b) refl plain later

-- ---- the whole lines are determined

without_last : (ls ms : List (List ℕ)) (x y : List ℕ) → ls ++ x ∷ [] ≡ ms ++ y ∷ [] → ls ≡ ms
without_last [] [] x y e = refl
without_last [] (m ∷ []) x y e = cc
without_last [] (m ∷ n ∷ ms) x y e = cc
without_last (l ∷ []) [] x y e = cc
without_last (l ∷ k ∷ ls) [] x y e = cc
without_last (l ∷ ls) (m ∷ ms) x y e =
    let first : l ≡ m = cc in
    let rest : ls ++ x ∷ [] ≡ ms ++ y ∷ [] = cc in
    let same = without_last ls ms x y rest in
    cc

one_letter : (now : Bool) → lines_behind now (65 ∷ []) ≡ (65 ∷ []) ∷ []
one_letter true = refl
one_letter false = refl

closed : (behind : Bool) (xs : List ℕ) (ls : List (List ℕ)) (front : List ℕ) (now : Bool) → Hold behind xs ls front now → lines_behind behind (xs ++ 65 ∷ []) ≡ ls ++ (front ++ 65 ∷ []) ∷ []
closed behind xs ls front now h = h (65 ∷ []) ∙ ap (λ k. ls ++ onto front k) (one_letter now) ∙ ap (λ k. ls ++ k) (onto-cons front (65 ∷ []) [])

pub lines_of_whole : (behind : Bool) (xs : List ℕ) (ls : List (List ℕ)) (front : List ℕ) (now : Bool) → Hold behind xs ls front now → lines_behind behind (whole_lines xs) ≡ ls
lines_of_whole behind xs ls front now h =
    let mine = held_by behind xs in
    without_last (lines_behind behind (whole_lines xs)) ls (mine.0 ++ 65 ∷ []) (front ++ 65 ∷ [])
    (sym (closed behind xs (lines_behind behind (whole_lines xs)) mine.0 mine.1 mine.2) ∙ closed behind xs ls front now h)
