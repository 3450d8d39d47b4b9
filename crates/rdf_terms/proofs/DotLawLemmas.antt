-- No dot segment is left in a path without its dot segments, and a path that has none stays as it is.
use Rattle.std.proofs.Common.{◌≡◌, ℕ, ◌⊎◌, Bool, false, eqb, List, [], ◌∷◌, ◌++◌, codes, map, drop, refl, sym, ap, subst, ◌∙◌, inl, inr, append_assoc}
use Rattle.std.specs.List.{AllByRecursion, list_any, onto_first}
use Rattle.std.proofs.lemmas.Bool.{cases_Bool, cond_both, or_from, or_parts}
use Rattle.std.proofs.lemmas.List.{append-nil}
use Rattle.std.proofs.lemmas.List.Splits.{slice_split_none}
use Rattle.rdf_terms.specs.Dots.{is_text, is_dot_segment, segments, undotted, with_slashes, closing, kept, joined, without_dots}
use Rattle.rdf_terms.specs.Reference.{Lacks}
use Rattle.rdf_terms.specs.ResolutionLaws.{together}
use Rattle.rdf_terms.proofs.DotLemmas.{slashed, none_slash, kept_segment, segments_are_the_path}

abbrev pub has_dots : List (List ℕ) → Bool
has_dots ss = list_any is_dot_segment ss

pub has_dots-append : (xs ys : List (List ℕ)) → has_dots xs ≡ false → has_dots ys ≡ false → has_dots (xs ++ ys) ≡ false
has_dots-append [] ys h g = g
has_dots-append (x ∷ xs) ys h g =
    let p = or_parts (is_dot_segment x) (has_dots xs) h in
    or_from (is_dot_segment x) (has_dots (xs ++ ys)) p.0 (has_dots-append xs ys p.1 g)

-- ---- the segments of a text

pub some_segment : (xs : List ℕ) → (s : List ℕ) × (ss : List (List ℕ)) × (segments xs ≡ s ∷ ss)
some_segment [] = ([], [], refl)
some_segment (x ∷ xs) =
    elim (cases_Bool (eqb x 47)) [
      | inl is ↦ ([], segments xs, rw is refl)
      | inr not ↦ let r = some_segment xs in (x ∷ r.0, r.1, rw not (ap (onto_first x) r.2))
    ]

onto_append : (x : ℕ) (ss : List (List ℕ)) (s t : List ℕ) (ts : List (List ℕ)) → ss ≡ t ∷ ts → onto_first x (ss ++ s ∷ []) ≡ onto_first x ss ++ s ∷ []
onto_append x ss s t ts e = rw e refl

pub segments-append : (xs s : List ℕ) → Lacks 47 s → segments (xs ++ 47 ∷ s) ≡ segments xs ++ s ∷ []
segments-append [] s h = ap (λ (ss : List (List ℕ)). [] ∷ ss) (slice_split_none (λ c. eqb c 47) s (none_slash s h))
segments-append (x ∷ xs) s h =
    elim (cases_Bool (eqb x 47)) [
      | inl is ↦ rw is (ap (λ (ss : List (List ℕ)). [] ∷ ss) (segments-append xs s h))
      | inr not ↦ let r = some_segment xs in rw not (ap (onto_first x) (segments-append xs s h) ∙ onto_append x (segments xs) s r.0 r.1 r.2)
    ]

abbrev pub AllLack : List (List ℕ) → Type 0
AllLack ss = AllByRecursion (λ s. Lacks 47 s) ss

lack_onto : (x : ℕ) (ss : List (List ℕ)) → eqb x 47 ≡ false → AllLack ss → AllLack (onto_first x ss)
lack_onto x [] e h = ((e, tt), tt)
lack_onto x (s ∷ ss) e h = ((e, h.0), h.1)

pub segments_lack : (xs : List ℕ) → AllLack (segments xs)
segments_lack [] = (tt, tt)
segments_lack (x ∷ xs) =
    elim (cases_Bool (eqb x 47)) [
      | inl is ↦ rw is (tt, segments_lack xs)
      | inr not ↦ rw not (lack_onto x (segments xs) not (segments_lack xs))
    ]

undotted_lack : (ss : List (List ℕ)) → AllLack ss → AllLack (undotted ss)
undotted_lack [] h = tt
undotted_lack (s ∷ ss) h = cond_both (is_dot_segment s) (undotted ss) (s ∷ ss) (λ (ts : List (List ℕ)). AllLack ts) (λ _. undotted_lack ss h.1) (λ _. h)

abbrev pub FirstIsPlain : List (List ℕ) → Type 0
FirstIsPlain [] = Unit {0}
FirstIsPlain (s ∷ ss) = is_dot_segment s ≡ false

undotted_first : (ss : List (List ℕ)) → FirstIsPlain (undotted ss)
undotted_first [] = tt
undotted_first (s ∷ ss) =
    cond_both (is_dot_segment s) (undotted ss) (s ∷ ss) (λ (ts : List (List ℕ)). FirstIsPlain ts) (λ _. undotted_first ss) (λ not. not)

-- ---- no dot segment is left

-- segments kept, the last one first: none is a slash and a dot segment, nor a leading dot segment
abbrev pub Plain : List (List ℕ) → Type 0
Plain [] = Unit {0}
Plain (p ∷ earlier) =
    ((s : List ℕ) × (p ≡ 47 ∷ s) × Lacks 47 s × (is_dot_segment s ≡ false) × Plain earlier) ⊎ ((earlier ≡ []) × Lacks 47 p × (is_dot_segment p ≡ false))

plain_joined : (done : List (List ℕ)) → Plain done → has_dots (segments (joined done)) ≡ false
plain_joined [] h = refl
plain_joined (p ∷ earlier) (inl h) =
    ap (λ (t : List ℕ). has_dots (segments (joined earlier ++ t))) h.1 ∙ ap has_dots (segments-append (joined earlier) h.0 h.2)
    ∙ has_dots-append (segments (joined earlier)) (h.0 ∷ []) (plain_joined earlier h.4) (or_from (is_dot_segment h.0) false h.3 refl)
plain_joined (p ∷ earlier) (inr h) =
    ap (λ (d : List (List ℕ)). has_dots (segments (joined d ++ p))) h.0 ∙ ap has_dots (slice_split_none (λ c. eqb c 47) p (none_slash p h.1))
    ∙ or_from (is_dot_segment p) false h.2 refl

plain_closing : (ps done : List (List ℕ)) → Plain done → Plain (closing ps ++ done)
plain_closing [] done h = inl ([], refl, tt, refl, h)
plain_closing (p ∷ ps) done h = h

plain_less : (done : List (List ℕ)) → Plain done → Plain (drop 1 done)
plain_less [] h = tt
plain_less (p ∷ earlier) (inl h) = h.4
plain_less (p ∷ earlier) (inr h) = subst Plain (sym h.0) tt

abbrev AllSlashed : List (List ℕ) → Type 0
AllSlashed ps = AllByRecursion (λ p. (s : List ℕ) × (p ≡ 47 ∷ s) × Lacks 47 s) ps

slashed_are : (ss : List (List ℕ)) → AllLack ss → AllSlashed (map slashed ss)
slashed_are [] h = tt
slashed_are (s ∷ ss) h = ((s, refl, h.0), slashed_are ss h.1)

no_word : (p s : List ℕ) → p ≡ 47 ∷ s → is_text p (codes "/.") ≡ false → is_text p (codes "/..") ≡ false → is_dot_segment s ≡ false
no_word p s e one two =
    or_from (is_text s (codes ".")) (is_text s (codes "..")) (sym (ap (λ (t : List ℕ). is_text t (codes "/.")) e) ∙ one) (sym (ap (λ (t : List ℕ). is_text t (codes "/..")) e) ∙ two)

kept_plain : (done ps : List (List ℕ)) → Plain done → AllSlashed ps → Plain (kept done ps)
kept_plain done [] h g = h
kept_plain done (p ∷ ps) h g =
    elim (cases_Bool (is_text p (codes "/."))) [
      | inl one ↦ rw one (kept_plain (closing ps ++ done) ps (plain_closing ps done h) g.1)
      | inr not_one ↦ elim (cases_Bool (is_text p (codes "/.."))) [
        | inl two ↦ rw (not_one, two) (kept_plain (closing ps ++ drop 1 done) ps (plain_closing ps (drop 1 done) (plain_less done h)) g.1)
        | inr not_two ↦ subst Plain (sym (kept_segment done ps p not_one not_two))
            (kept_plain (p ∷ done) ps (inl (g.0.0, g.0.1, g.0.2, no_word p g.0.0 g.0.1 not_one not_two, h)) g.1)
      ]
    ]

pub no_slash_word : (c : ℕ) (cs w : List ℕ) → eqb c 47 ≡ false → is_text (c ∷ cs) (47 ∷ w) ≡ false
no_slash_word c cs w e = rw e refl

pub segments_kept : (ss : List (List ℕ)) → AllLack ss → FirstIsPlain ss → Plain (kept [] (with_slashes ss))
segments_kept [] h first = tt
segments_kept ([] ∷ ss) h first = kept_plain [] (map slashed ss) tt (slashed_are ss h.1)
segments_kept ((c ∷ cs) ∷ ss) h first =
    subst Plain (sym (kept_segment [] (map slashed ss) (c ∷ cs) (no_slash_word c cs (codes ".") h.0.0) (no_slash_word c cs (codes "..") h.0.0)))
    (kept_plain ((c ∷ cs) ∷ []) (map slashed ss) (inr (refl, h.0, first)) (slashed_are ss h.1))

pub no_dots_left : (path : List ℕ) → has_dots (segments (without_dots path)) ≡ false
unfolding without_dots
no_dots_left path =
    plain_joined (kept [] (with_slashes (undotted (segments path)))) (segments_kept (undotted (segments path)) (undotted_lack (segments path) (segments_lack path)) (undotted_first (segments path)))

-- ---- other paths stay

kept_slashed : (done ss : List (List ℕ)) → has_dots ss ≡ false → joined (kept done (map slashed ss)) ≡ joined done ++ together (map slashed ss)
kept_slashed done [] h = sym (append-nil (joined done))
kept_slashed done (s ∷ ss) h =
    let first = or_parts (is_dot_segment s) (has_dots ss) h in
    let words = or_parts (is_text s (codes ".")) (is_text s (codes "..")) first.0 in
    ap joined (kept_segment done (map slashed ss) (47 ∷ s) words.0 words.1) ∙ kept_slashed ((47 ∷ s) ∷ done) ss first.1
    ∙ append_assoc (joined done) (47 ∷ s) (together (map slashed ss))

kept_segments : (ss : List (List ℕ)) → AllLack ss → has_dots ss ≡ false → joined (kept [] (with_slashes (undotted ss))) ≡ together (with_slashes ss)
kept_segments [] h g = refl
kept_segments ([] ∷ ss) h g = kept_slashed [] ss g
kept_segments ((c ∷ cs) ∷ ss) h g =
    let first = or_parts (is_dot_segment (c ∷ cs)) (has_dots ss) g in
    let same : undotted ((c ∷ cs) ∷ ss) ≡ (c ∷ cs) ∷ ss = rw first.0 refl in
    ap (λ (ts : List (List ℕ)). joined (kept [] (with_slashes ts))) same
    ∙ ap joined (kept_segment [] (map slashed ss) (c ∷ cs) (no_slash_word c cs (codes ".") h.0.0) (no_slash_word c cs (codes "..") h.0.0))
    ∙ kept_slashed ((c ∷ cs) ∷ []) ss first.1

pub others_kept : (path : List ℕ) → has_dots (segments path) ≡ false → without_dots path ≡ path
unfolding without_dots
others_kept path none = kept_segments (segments path) (segments_lack path) none ∙ segments_are_the_path path
