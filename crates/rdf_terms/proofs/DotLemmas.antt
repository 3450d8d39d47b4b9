-- The rewriting of a path's text against the list of its segments.
use Rattle.std.proofs.Common.{◌≡◌, ℕ, ◌+◌, ◌⊎◌, Bool, true, false, eqb, suc, ◌||◌, nat_eq, List, [], ◌∷◌, ◌++◌, codes, map, Option, Some, None, length, take, drop, get_or, zero, ◌<◌, refl, sym, ap, subst, ◌∙◌, inl, inr, arith, append_assoc}
use Rattle.std.specs.List.{starts_with, onto_first, All, join_with_byte}
use Rattle.std.proofs.lemmas.Bool.{cases_Bool, eqb-true, or_cases, or_parts, true≢false, false_from_ne_true}
use Rattle.std.proofs.lemmas.Bool.Decides.{Decides-eqb}
use Rattle.std.proofs.lemmas.List.{append-nil, take_at, drop_at, length-append}
use Rattle.std.proofs.lemmas.List.Splits.{slice_split_none, slice_split_at, join_with_byte-slice_split}
use Rattle.std.proofs.lemmas.Slice.Eq.{starts_is, slice_eq-Decides}
use Rattle.rdf_terms.specs.Cuts.{before, after}
use Rattle.rdf_terms.specs.Dots.{is_text, segments, undotted, with_slashes, closing, kept, joined, without_dots}
use Rattle.rdf_terms.specs.ResolutionLaws.{together}
use Rattle.rdf_terms.specs.Rewriting.{without_last, step_input, step_output}
use Rattle.rdf_terms.specs.Reference.{Lacks, marked, is_rooted}
use Rattle.rdf_terms.proofs.CutLemmas.{cut_joins, before_lacks_mark, pop_joined, pop_lacks}

abbrev pub slashed : List ℕ → List ℕ
slashed s = 47 ∷ s

-- what the segments kept and the input left come to
abbrev meaning : List (List ℕ) → List ℕ → List ℕ
meaning done input = joined (kept done (with_slashes (undotted (segments input))))

-- segments kept, the last one first: a slash and no other slash in each, and none at all in a leading one
abbrev pub Shaped : List (List ℕ) → Type 0
Shaped [] = Unit {0}
Shaped (p ∷ earlier) = ((s : List ℕ) × (p ≡ 47 ∷ s) × Lacks 47 s × Shaped earlier) ⊎ ((earlier ≡ []) × Lacks 47 p)

-- where the loop stands
pub record DoneSoFar (path input output : List ℕ) : Type 0 where
  pub done : List (List ℕ)
  pub shaped : Shaped done
  pub rooted : (done ≡ []) ⊎ (is_rooted input ≡ true)
  pub output_is : output ≡ joined done
  pub meaning_is : joined (kept done (with_slashes (undotted (segments input)))) ≡ without_dots path

pub done_start : (path : List ℕ) → DoneSoFar path path []
unfolding without_dots
done_start path = record { done = []; shaped = tt; rooted = inl refl; output_is = refl; meaning_is = refl }

pub done_end : (path output : List ℕ) → DoneSoFar path [] output → output ≡ without_dots path
done_end path output so_far = so_far.output_is ∙ so_far.meaning_is

-- ---- words

text_is : (xs w : List ℕ) → is_text xs w ≡ true → xs ≡ w
text_is xs w e = (slice_eq-Decides Decides-eqb xs w (is_text xs w) refl).0 e

is_itself : (xs w : List ℕ) → xs ≡ w → is_text xs w ≡ true
is_itself xs w e = (slice_eq-Decides Decides-eqb xs w (is_text xs w) refl).1 e

begins : (xs w : List ℕ) → starts_with nat_eq xs w ≡ true → xs ≡ w ++ drop (length w) xs
begins xs w e = (starts_is Decides-eqb xs w (starts_with nat_eq xs w) refl).0 e

begins_from : (xs w rest : List ℕ) → xs ≡ w ++ rest → starts_with nat_eq xs w ≡ true
begins_from xs w rest e = (starts_is Decides-eqb xs w (starts_with nat_eq xs w) refl).1 rest e

-- a first segment isn't a word where the input neither is that word nor begins with it and a slash
not_word : (w p : List ℕ) (a : Option (List ℕ)) (input : List ℕ) → input ≡ p ++ marked (codes "/") a → is_text input w ≡ false → starts_with nat_eq input (w ++ codes "/") ≡ false → is_text p w ≡ false
not_word w p None input e no_text no_start =
    false_from_ne_true (is_text p w) (λ (h : is_text p w ≡ true). true≢false (sym (is_itself input w (e ∙ append-nil p ∙ text_is p w h)) ∙ no_text))
not_word w p (Some r) input e no_text no_start =
    false_from_ne_true (is_text p w) (λ (h : is_text p w ≡ true).
    true≢false (sym (begins_from input (w ++ codes "/") r (e ∙ ap (λ (t : List ℕ). t ++ 47 ∷ r) (text_is p w h) ∙ sym (append_assoc w (codes "/") r))) ∙ no_start))

-- ---- the segments of a text

closing_onto : (c : ℕ) (ss : List (List ℕ)) → closing (map slashed (onto_first c ss)) ≡ []
closing_onto c [] = refl
closing_onto c (s ∷ ss) = refl

closing_split : (r : List ℕ) → closing (map slashed (segments r)) ≡ []
closing_split [] = refl
closing_split (c ∷ cs) =
    elim (cases_Bool (eqb c 47)) [
      | inl is ↦ rw is refl
      | inr not ↦ rw not (closing_onto c (segments cs))
    ]

-- the segments after the first, of a text that goes on by a slash or ends
abbrev tails : Option (List ℕ) → List (List ℕ)
tails None = []
tails (Some r) = segments r

none_slash_at : (s : List ℕ) → Lacks 47 s → (k d : ℕ) → k < length s → eqb (get_or s k d) 47 ≡ false
none_slash_at [] h k d below = absurd (omega arith)
none_slash_at (c ∷ cs) h zero d below = h.0
none_slash_at (c ∷ cs) h (suc k) d below = let less : k < length cs = omega arith in none_slash_at cs h.1 k d less

pub none_slash : (s : List ℕ) → Lacks 47 s → All (λ c. eqb c 47 ≡ false) s
none_slash s h = none_slash_at s h

first_segment : (s : List ℕ) (a : Option (List ℕ)) → Lacks 47 s → segments (s ++ marked (codes "/") a) ≡ s ∷ tails a
first_segment s None h = rw append-nil (slice_split_none (λ c. eqb c 47) s (none_slash s h))
first_segment s (Some r) h = slice_split_at (λ c. eqb c 47) s 47 r (none_slash s h) refl

tails_with_slashes : (a : Option (List ℕ)) → with_slashes (undotted (segments (marked (codes "/") a))) ≡ map slashed (tails a)
tails_with_slashes None = refl
tails_with_slashes (Some r) = refl

-- a segment that is no word is kept
pub kept_segment : (done ps : List (List ℕ)) (p : List ℕ) → is_text p (codes "/.") ≡ false → is_text p (codes "/..") ≡ false → kept done (p ∷ ps) ≡ kept (p ∷ done) ps
kept_segment done ps p one two = rw (one, two) refl

-- the first segment of an input that begins with a slash
slash_first : (s : List ℕ) (a : Option (List ℕ)) → Lacks 47 s → with_slashes (undotted (segments (47 ∷ (s ++ marked (codes "/") a)))) ≡ (47 ∷ s) ∷ map slashed (tails a)
slash_first s a lacks = ap (λ (ss : List (List ℕ)). map slashed ss) (first_segment s a lacks)

-- and of one that doesn't
undot : (p : List ℕ) (ss : List (List ℕ)) → is_text p (codes ".") ≡ false → is_text p (codes "..") ≡ false → with_slashes (undotted (p ∷ ss)) ≡ with_slashes (p ∷ ss)
undot p ss one two = rw (one, two) refl

plain_first : (c : ℕ) (s : List ℕ) (a : Option (List ℕ)) → eqb c 47 ≡ false → Lacks 47 s → is_text (c ∷ s) (codes ".") ≡ false → is_text (c ∷ s) (codes "..") ≡ false
    → with_slashes (undotted (segments (c ∷ (s ++ marked (codes "/") a)))) ≡ (c ∷ s) ∷ map slashed (tails a)
plain_first c s a plain lacks one two =
    let whole : segments (c ∷ (s ++ marked (codes "/") a)) ≡ (c ∷ s) ∷ tails a =
    rw plain (ap (onto_first c) (first_segment s a lacks)) in
    ap (λ (ss : List (List ℕ)). with_slashes (undotted ss)) whole ∙ undot (c ∷ s) (tails a) one two

-- ---- one step

Shaped-drop : (done : List (List ℕ)) → Shaped done → Shaped (drop 1 done)
Shaped-drop [] h = tt
Shaped-drop (p ∷ earlier) (inl h) = h.3
Shaped-drop (p ∷ earlier) (inr h) = subst Shaped (sym h.0) tt

popped : (done : List (List ℕ)) → Shaped done → without_last (joined done) ≡ joined (drop 1 done)
popped [] h = refl
popped (p ∷ earlier) (inl h) = ap (λ (t : List ℕ). without_last (joined earlier ++ t)) h.1 ∙ pop_joined (joined earlier) h.0 h.2
popped (p ∷ earlier) (inr h) =
    ap (λ (d : List (List ℕ)). without_last (joined d ++ p)) h.0 ∙ pop_lacks p h.1 ∙ sym (ap joined h.0)

-- an input that doesn't begin with a slash: nothing is kept so far
none_done : (done : List (List ℕ)) → (done ≡ []) ⊎ (false ≡ true) → done ≡ []
none_done done (inl h) = h
none_done done (inr h) = absurd (true≢false (sym h))

abbrev s1 : List ℕ → Bool
s1 input = starts_with nat_eq input (codes "../")

abbrev s2 : List ℕ → Bool
s2 input = starts_with nat_eq input (codes "./")

abbrev s3 : List ℕ → Bool
s3 input = starts_with nat_eq input (codes "/./")

abbrev s4 : List ℕ → Bool
s4 input = is_text input (codes "/.")

abbrev s5 : List ℕ → Bool
s5 input = starts_with nat_eq input (codes "/../")

abbrev s6 : List ℕ → Bool
s6 input = is_text input (codes "/..")

abbrev s7 : List ℕ → Bool
s7 input = is_text input (codes ".") || is_text input (codes "..")

-- what one step leaves
record Next (path input output : List ℕ) : Type 0 where
  so_far : DoneSoFar path (step_input input) (step_output input output)
  smaller : length (step_input input) < length input

next_from : (path input output rest more : List ℕ) → step_input input ≡ rest → step_output input output ≡ more → DoneSoFar path rest more → length rest < length input → Next path input output
next_from path input output rest more e f so_far smaller =
    record { so_far = rw (e, f) so_far; smaller = rw e smaller }

-- ---- the cases

leading : (path r output : List ℕ) (input : List ℕ) → is_rooted input ≡ false → ((done : List (List ℕ)) → meaning done input ≡ meaning done r) → DoneSoFar path input output → DoneSoFar path r output
leading path r output input plain same so_far = record {
  done = so_far.done;
  shaped = so_far.shaped;
  rooted = inl (none_done so_far.done (subst (λ (b : Bool). (so_far.done ≡ []) ⊎ (b ≡ true)) plain so_far.rooted));
  output_is = so_far.output_is;
  meaning_is = sym (same so_far.done) ∙ so_far.meaning_is;
}

case_1 : (path input output : List ℕ) → s1 input ≡ true → DoneSoFar path input output → Next path input output
unfolding step_input step_output
case_1 path input output e so_far =
    let shape : input ≡ 46 ∷ 46 ∷ 47 ∷ drop 3 input = begins input (codes "../") e in
    let len = ap length shape in
    next_from path input output (drop 3 input) output (rw e refl) (rw e refl)
    (leading path (drop 3 input) output (46 ∷ 46 ∷ 47 ∷ drop 3 input) refl (λ done. refl) (subst (λ (i : List ℕ). DoneSoFar path i output) shape so_far))
    (omega arith)

case_2 : (path input output : List ℕ) → s1 input ≡ false → s2 input ≡ true → DoneSoFar path input output → Next path input output
unfolding step_input step_output
case_2 path input output n1 e so_far =
    let shape : input ≡ 46 ∷ 47 ∷ drop 2 input = begins input (codes "./") e in
    let len = ap length shape in
    next_from path input output (drop 2 input) output (rw (n1, e) refl) (rw (n1, e) refl)
    (leading path (drop 2 input) output (46 ∷ 47 ∷ drop 2 input) refl (λ done. refl) (subst (λ (i : List ℕ). DoneSoFar path i output) shape so_far))
    (omega arith)

-- a dropped segment with a further one after it
drops_dot : (done : List (List ℕ)) (r : List ℕ) → meaning done (47 ∷ 46 ∷ 47 ∷ r) ≡ meaning done (47 ∷ r)
drops_dot done r = ap (λ (t : List (List ℕ)). joined (kept (t ++ done) (map slashed (segments r)))) (closing_split r)

drops_dots : (done : List (List ℕ)) (r : List ℕ) → meaning done (47 ∷ 46 ∷ 46 ∷ 47 ∷ r) ≡ meaning (drop 1 done) (47 ∷ r)
drops_dots done r = ap (λ (t : List (List ℕ)). joined (kept (t ++ drop 1 done) (map slashed (segments r)))) (closing_split r)

dropped : (path r output input : List ℕ) → is_rooted r ≡ true → ((done : List (List ℕ)) → meaning done input ≡ meaning done r) → DoneSoFar path input output → DoneSoFar path r output
dropped path r output input root same so_far = record {
  done = so_far.done;
  shaped = so_far.shaped;
  rooted = inr root;
  output_is = so_far.output_is;
  meaning_is = sym (same so_far.done) ∙ so_far.meaning_is;
}

dropped_up : (path r output input : List ℕ) → is_rooted r ≡ true → ((done : List (List ℕ)) → meaning done input ≡ meaning (drop 1 done) r) → DoneSoFar path input output → DoneSoFar path r (without_last output)
dropped_up path r output input root same so_far = record {
  done = drop 1 so_far.done;
  shaped = Shaped-drop so_far.done so_far.shaped;
  rooted = inr root;
  output_is = ap without_last so_far.output_is ∙ popped so_far.done so_far.shaped;
  meaning_is = sym (same so_far.done) ∙ so_far.meaning_is;
}

case_3 : (path input output : List ℕ) → s1 input ≡ false → s2 input ≡ false → s3 input ≡ true → DoneSoFar path input output → Next path input output
unfolding step_input step_output
case_3 path input output n1 n2 e so_far =
    let shape : input ≡ 47 ∷ 46 ∷ 47 ∷ drop 3 input = begins input (codes "/./") e in
    let rest : drop 2 input ≡ 47 ∷ drop 3 input = ap (drop 2) shape in
    let len = ap length shape in
    next_from path input output (47 ∷ drop 3 input) output (rw (n1, n2, e) rest) (rw (n1, n2, e) refl)
    (dropped path (47 ∷ drop 3 input) output (47 ∷ 46 ∷ 47 ∷ drop 3 input) refl (λ done. drops_dot done (drop 3 input)) (subst (λ (i : List ℕ). DoneSoFar path i output) shape so_far))
    (omega arith)

case_4 : (path input output : List ℕ) → s1 input ≡ false → s2 input ≡ false → s3 input ≡ false → s4 input ≡ true → DoneSoFar path input output → Next path input output
unfolding step_input step_output
case_4 path input output n1 n2 n3 e so_far =
    let shape : input ≡ 47 ∷ 46 ∷ [] = text_is input (codes "/.") e in
    let rest : take 1 input ≡ 47 ∷ [] = ap (take 1) shape in
    let len = ap length shape in
    next_from path input output (47 ∷ []) output (rw (n1, n2, n3, e) rest) (rw (n1, n2, n3, e) refl)
    (dropped path (47 ∷ []) output (47 ∷ 46 ∷ []) refl (λ done. refl) (subst (λ (i : List ℕ). DoneSoFar path i output) shape so_far))
    (omega arith)

case_5 : (path input output : List ℕ) → s1 input ≡ false → s2 input ≡ false → s3 input ≡ false → s4 input ≡ false → s5 input ≡ true → DoneSoFar path input output → Next path input output
unfolding step_input step_output
case_5 path input output n1 n2 n3 n4 e so_far =
    let shape : input ≡ 47 ∷ 46 ∷ 46 ∷ 47 ∷ drop 4 input = begins input (codes "/../") e in
    let rest : drop 3 input ≡ 47 ∷ drop 4 input = ap (drop 3) shape in
    let len = ap length shape in
    next_from path input output (47 ∷ drop 4 input) (without_last output) (rw (n1, n2, n3, n4, e) rest) (rw (n1, n2, n3, n4, e) refl)
    (dropped_up path (47 ∷ drop 4 input) output (47 ∷ 46 ∷ 46 ∷ 47 ∷ drop 4 input) refl (λ done. drops_dots done (drop 4 input)) (subst (λ (i : List ℕ). DoneSoFar path i output) shape so_far))
    (omega arith)

case_6 : (path input output : List ℕ) → s1 input ≡ false → s2 input ≡ false → s3 input ≡ false → s4 input ≡ false → s5 input ≡ false → s6 input ≡ true → DoneSoFar path input output → Next path input output
unfolding step_input step_output
case_6 path input output n1 n2 n3 n4 n5 e so_far =
    let shape : input ≡ 47 ∷ 46 ∷ 46 ∷ [] = text_is input (codes "/..") e in
    let rest : take 1 input ≡ 47 ∷ [] = ap (take 1) shape in
    let len = ap length shape in
    next_from path input output (47 ∷ []) (without_last output) (rw (n1, n2, n3, n4, n5, e) rest) (rw (n1, n2, n3, n4, n5, e) refl)
    (dropped_up path (47 ∷ []) output (47 ∷ 46 ∷ 46 ∷ []) refl (λ done. refl) (subst (λ (i : List ℕ). DoneSoFar path i output) shape so_far))
    (omega arith)

whole_dots : (path input output : List ℕ) → s7 input ≡ true → DoneSoFar path input output → DoneSoFar path [] output × (0 < length input)
whole_dots path input output e so_far =
    elim (or_cases (is_text input (codes ".")) (is_text input (codes "..")) e) [
      | inl one ↦
          let shape : input ≡ 46 ∷ [] = text_is input (codes ".") one in
          let len = ap length shape in
          (dropped path [] output (46 ∷ []) refl (λ done. refl) (subst (λ (i : List ℕ). DoneSoFar path i output) shape so_far), omega arith)
      | inr two ↦
          let shape : input ≡ 46 ∷ 46 ∷ [] = text_is input (codes "..") two in
          let len = ap length shape in
          (dropped path [] output (46 ∷ 46 ∷ []) refl (λ done. refl) (subst (λ (i : List ℕ). DoneSoFar path i output) shape so_far), omega arith)
    ]

case_7 : (path input output : List ℕ) → s1 input ≡ false → s2 input ≡ false → s3 input ≡ false → s4 input ≡ false → s5 input ≡ false → s6 input ≡ false → s7 input ≡ true → DoneSoFar path input output → Next path input output
unfolding step_input step_output
case_7 path input output n1 n2 n3 n4 n5 n6 e so_far =
    let w = whole_dots path input output e so_far in
    next_from path input output [] output (rw (n1, n2, n3, n4, n5, n6, e) refl) (rw (n1, n2, n3, n4, n5, n6, e) refl) w.0 w.1

rest_rooted : (a : Option (List ℕ)) → is_rooted (marked (codes "/") a) ≡ true
rest_rooted None = refl
rest_rooted (Some r) = refl

-- the first segment goes to the output
moved : (path : List ℕ) (c : ℕ) (s : List ℕ) (a : Option (List ℕ)) (output : List ℕ) → Lacks 47 s
    → is_text (c ∷ s) (codes ".") ≡ false → is_text (c ∷ s) (codes "..") ≡ false → is_text (c ∷ s) (codes "/.") ≡ false → is_text (c ∷ s) (codes "/..") ≡ false
    → DoneSoFar path (c ∷ (s ++ marked (codes "/") a)) output → DoneSoFar path (marked (codes "/") a) (output ++ c ∷ s)
moved path c s a output lacks m1 m2 m3 m4 so_far =
    elim (cases_Bool (eqb c 47)) [
      | inl is ↦ record {
        done = (c ∷ s) ∷ so_far.done;
        shaped = inl (s, ap (λ (x : ℕ). x ∷ s) (eqb-true c 47 is), lacks, so_far.shaped);
        rooted = inr (rest_rooted a);
        output_is = ap (λ (t : List ℕ). t ++ c ∷ s) so_far.output_is;
        meaning_is =
            let slash = eqb-true c 47 is in
            ap (λ (ps : List (List ℕ)). joined (kept ((c ∷ s) ∷ so_far.done) ps)) (tails_with_slashes a)
            ∙ sym (ap joined (kept_segment so_far.done (map slashed (tails a)) (c ∷ s) m3 m4))
            ∙ sym (ap (λ (ps : List (List ℕ)). joined (kept so_far.done ps))
            (ap (λ (x : ℕ). with_slashes (undotted (segments (x ∷ (s ++ marked (codes "/") a))))) slash ∙ slash_first s a lacks ∙ ap (λ (x : ℕ). (x ∷ s) ∷ map slashed (tails a)) (sym slash)))
            ∙ so_far.meaning_is;
      }
      | inr plain ↦
          let none : so_far.done ≡ [] = none_done so_far.done (subst (λ (b : Bool). (so_far.done ≡ []) ⊎ (b ≡ true)) plain so_far.rooted) in
          record {
            done = (c ∷ s) ∷ so_far.done;
            shaped = inr (none, (plain, lacks));
            rooted = inr (rest_rooted a);
            output_is = ap (λ (t : List ℕ). t ++ c ∷ s) so_far.output_is;
            meaning_is =
                ap (λ (ps : List (List ℕ)). joined (kept ((c ∷ s) ∷ so_far.done) ps)) (tails_with_slashes a)
                ∙ sym (ap joined (kept_segment so_far.done (map slashed (tails a)) (c ∷ s) m3 m4))
                ∙ sym (ap (λ (ps : List (List ℕ)). joined (kept so_far.done ps)) (plain_first c s a plain lacks m1 m2))
                ∙ so_far.meaning_is;
          }
    ]

case_8 : (path input output : List ℕ) → (input ≡ [] → ⊥) → s1 input ≡ false → s2 input ≡ false → s3 input ≡ false → s4 input ≡ false → s5 input ≡ false → s6 input ≡ false → s7 input ≡ false
    → DoneSoFar path input output → Next path input output
unfolding step_input step_output
case_8 path [] output some n1 n2 n3 n4 n5 n6 n7 so_far = absurd (some refl)
case_8 path (c ∷ t) output some n1 n2 n3 n4 n5 n6 n7 so_far =
    let split : c ∷ t ≡ c ∷ (before 47 t ++ marked (codes "/") (after 47 t)) = ap (λ (x : List ℕ). c ∷ x) (cut_joins 47 t) in
    let n = or_parts (is_text (c ∷ t) (codes ".")) (is_text (c ∷ t) (codes "..")) n7 in
    let rest : drop (length (before 47 t)) t ≡ marked (codes "/") (after 47 t) =
    ap (drop (length (before 47 t))) (cut_joins 47 t) ∙ drop_at (before 47 t) (marked (codes "/") (after 47 t)) (length (before 47 t)) refl in
    let front : take (length (before 47 t)) t ≡ before 47 t =
    ap (take (length (before 47 t))) (cut_joins 47 t) ∙ take_at (before 47 t) (marked (codes "/") (after 47 t)) (length (before 47 t)) refl in
    let len : length t ≡ length (before 47 t) + length (marked (codes "/") (after 47 t)) =
    ap length (cut_joins 47 t) ∙ length-append (before 47 t) (marked (codes "/") (after 47 t)) in
    next_from path (c ∷ t) output (marked (codes "/") (after 47 t)) (output ++ c ∷ before 47 t)
    (rw (n1, n2, n3, n4, n5, n6, n7) rest)
    (rw (n1, n2, n3, n4, n5, n6, n7) (ap (λ (x : List ℕ). output ++ c ∷ x) front))
    (moved path c (before 47 t) (after 47 t) output (before_lacks_mark 47 t)
    (not_word (codes ".") (c ∷ before 47 t) (after 47 t) (c ∷ t) split n.0 n2)
    (not_word (codes "..") (c ∷ before 47 t) (after 47 t) (c ∷ t) split n.1 n1)
    (not_word (codes "/.") (c ∷ before 47 t) (after 47 t) (c ∷ t) split n4 n3)
    (not_word (codes "/..") (c ∷ before 47 t) (after 47 t) (c ∷ t) split n6 n5)
    (subst (λ (i : List ℕ). DoneSoFar path i output) split so_far))
    (omega arith)

next : (path input output : List ℕ) → (input ≡ [] → ⊥) → DoneSoFar path input output → Next path input output
next path input output some so_far =
    elim (cases_Bool (s1 input)) [
      | inl e ↦ case_1 path input output e so_far
      | inr n1 ↦ elim (cases_Bool (s2 input)) [
        | inl e ↦ case_2 path input output n1 e so_far
        | inr n2 ↦ elim (cases_Bool (s3 input)) [
          | inl e ↦ case_3 path input output n1 n2 e so_far
          | inr n3 ↦ elim (cases_Bool (s4 input)) [
            | inl e ↦ case_4 path input output n1 n2 n3 e so_far
            | inr n4 ↦ elim (cases_Bool (s5 input)) [
              | inl e ↦ case_5 path input output n1 n2 n3 n4 e so_far
              | inr n5 ↦ elim (cases_Bool (s6 input)) [
                | inl e ↦ case_6 path input output n1 n2 n3 n4 n5 e so_far
                | inr n6 ↦ elim (cases_Bool (s7 input)) [
                  | inl e ↦ case_7 path input output n1 n2 n3 n4 n5 n6 e so_far
                  | inr n7 ↦ case_8 path input output some n1 n2 n3 n4 n5 n6 n7 so_far
                ]
              ]
            ]
          ]
        ]
      ]
    ]

pub done_next : (path input output rest more : List ℕ) → (input ≡ [] → ⊥) → rest ≡ step_input input → more ≡ step_output input output → DoneSoFar path input output → DoneSoFar path rest more
done_next path input output rest more some e f so_far = rw (e, f) (next path input output some so_far).so_far

pub smaller_next : (path input output rest : List ℕ) → (input ≡ [] → ⊥) → rest ≡ step_input input → DoneSoFar path input output → length rest < length input
smaller_next path input output rest some e so_far = rw e (next path input output some so_far).smaller

-- ---- the segments of a path are the path

together_slashed : (s : List ℕ) (ss : List (List ℕ)) → together (map slashed (s ∷ ss)) ≡ 47 ∷ join_with_byte 47 (s ∷ ss)
together_slashed s [] = ap (λ (t : List ℕ). 47 ∷ t) (append-nil s)
together_slashed s (t ∷ ss) = ap (λ (x : List ℕ). 47 ∷ (s ++ x)) (together_slashed t ss)

together_segments : (ss : List (List ℕ)) → together (with_slashes ss) ≡ join_with_byte 47 ss
together_segments [] = refl
together_segments ([] ∷ []) = refl
together_segments ([] ∷ s ∷ ss) = together_slashed s ss
together_segments ((c ∷ cs) ∷ []) = append-nil (c ∷ cs)
together_segments ((c ∷ cs) ∷ s ∷ ss) = ap (λ (x : List ℕ). c ∷ (cs ++ x)) (together_slashed s ss)

pub segments_are_the_path : (path : List ℕ) → together (with_slashes (segments path)) ≡ path
segments_are_the_path path = together_segments (segments path) ∙ join_with_byte-slice_split 47 path
