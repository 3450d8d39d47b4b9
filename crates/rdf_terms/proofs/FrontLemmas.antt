-- A front without dot segments, behind which the rewriting goes on.
use Rattle.std.proofs.Common.{◌≡◌, ℕ, ◌+◌, ◌-◌, ◌<◌, ◌≤◌, false, eqb, List, [], ◌∷◌, ◌++◌, map, length, take, refl, sym, ap, subst, ◌∙◌, inl, inr, arith, append_assoc}
use Rattle.std.specs.List.{onto_first}
use Rattle.std.proofs.lemmas.Bool.{cases_Bool, eqb-true, or_parts, true≢false}
use Rattle.std.proofs.lemmas.List.{append-nil, length-append, length-take-le, map-append, take-take, take_at}
use Rattle.rdf_terms.specs.Cuts.{up_to_slash}
use Rattle.rdf_terms.specs.Dots.{is_text, is_dot_segment, segments, undotted, with_slashes, kept, joined, without_dots}
use Rattle.rdf_terms.specs.Rewriting.{without_last, GoesOnBehind}
use Rattle.rdf_terms.proofs.CutLemmas.{last_slash, up_lacks, up_joined, pop_joined, pop_lacks, Lacks-append}
use Rattle.rdf_terms.proofs.DotLemmas.{slashed, Shaped, DoneSoFar, done_start, kept_segment}
use Rattle.rdf_terms.proofs.DotLawLemmas.{has_dots, some_segment, AllLack, segments_lack, FirstIsPlain, Plain, segments_kept, no_slash_word, others_kept}

onto_many : (x : ℕ) (ss more : List (List ℕ)) (t : List ℕ) (ts : List (List ℕ)) → ss ≡ t ∷ ts → onto_first x (ss ++ more) ≡ onto_first x ss ++ more
onto_many x ss more t ts e = rw e refl

-- the segments of two texts with a slash between them
pub segments_joined : (xs ys : List ℕ) → segments (xs ++ 47 ∷ ys) ≡ segments xs ++ segments ys
segments_joined [] ys = refl
segments_joined (x ∷ xs) ys =
    elim (cases_Bool (eqb x 47)) [
      | inl is ↦ rw is (ap (λ (ss : List (List ℕ)). [] ∷ ss) (segments_joined xs ys))
      | inr not ↦ let r = some_segment xs in rw not (ap (onto_first x) (segments_joined xs ys) ∙ onto_many x (segments xs) (segments ys) r.0 r.1 r.2)
    ]

-- segments that are no dot segments are kept, whatever follows
kept_on : (done ss more : List (List ℕ)) → has_dots ss ≡ false → kept done (map slashed ss ++ more) ≡ kept (kept done (map slashed ss)) more
kept_on done [] more h = refl
kept_on done (s ∷ ss) more h =
    let first = or_parts (is_dot_segment s) (has_dots ss) h in
    let words = or_parts (is_text s (46 ∷ [])) (is_text s (46 ∷ 46 ∷ [])) first.0 in
    kept_segment done (map slashed ss ++ more) (47 ∷ s) words.0 words.1 ∙ kept_on ((47 ∷ s) ∷ done) ss more first.1
    ∙ sym (ap (λ (d : List (List ℕ)). kept d more) (kept_segment done (map slashed ss) (47 ∷ s) words.0 words.1))

kept_behind : (ss more : List (List ℕ)) (s : List ℕ) → AllLack (s ∷ ss) → has_dots (s ∷ ss) ≡ false
    → kept [] (with_slashes (undotted ((s ∷ ss) ++ more))) ≡ kept (kept [] (with_slashes (s ∷ ss))) (map slashed more)
kept_behind ss more [] h none =
    ap (λ (ps : List (List ℕ)). kept [] ps) (map-append slashed ss more) ∙ kept_on [] ss (map slashed more) none
kept_behind ss more (c ∷ cs) h none =
    let first = or_parts (is_dot_segment (c ∷ cs)) (has_dots ss) none in
    let same : undotted ((c ∷ cs) ∷ (ss ++ more)) ≡ (c ∷ cs) ∷ (ss ++ more) = rw first.0 refl in
    let one = no_slash_word c cs (46 ∷ []) h.0.0 in
    let two = no_slash_word c cs (46 ∷ 46 ∷ []) h.0.0 in
    ap (λ (ts : List (List ℕ)). kept [] (with_slashes ts)) same ∙ ap (λ (ps : List (List ℕ)). kept [] ((c ∷ cs) ∷ ps)) (map-append slashed ss more)
    ∙ kept_segment [] (map slashed ss ++ map slashed more) (c ∷ cs) one two ∙ kept_on ((c ∷ cs) ∷ []) ss (map slashed more) first.1
    ∙ sym (ap (λ (d : List (List ℕ)). kept d (map slashed more)) (kept_segment [] (map slashed ss) (c ∷ cs) one two))

undotted_same : (ss : List (List ℕ)) → has_dots ss ≡ false → undotted ss ≡ ss
undotted_same [] h = refl
undotted_same (s ∷ ss) h = let first = or_parts (is_dot_segment s) (has_dots ss) h in rw first.0 refl

first_plain : (ss : List (List ℕ)) → has_dots ss ≡ false → FirstIsPlain ss
first_plain [] h = tt
first_plain (s ∷ ss) h = (or_parts (is_dot_segment s) (has_dots ss) h).0

shaped_from : (done : List (List ℕ)) → Plain done → Shaped done
shaped_from [] h = tt
shaped_from (p ∷ earlier) (inl h) = inl (h.0, h.1, h.2, shaped_from earlier h.4)
shaped_from (p ∷ earlier) (inr h) = inr (h.0, h.1)

behind_some : (front rest s : List ℕ) (ss : List (List ℕ)) → segments front ≡ s ∷ ss → has_dots (segments front) ≡ false
    → kept [] (with_slashes (undotted (segments (front ++ 47 ∷ rest)))) ≡ kept (kept [] (with_slashes (segments front))) (map slashed (segments rest))
behind_some front rest s ss e none =
    ap (λ (ts : List (List ℕ)). kept [] (with_slashes (undotted ts))) (segments_joined front rest ∙ ap (λ (ts : List (List ℕ)). ts ++ segments rest) e)
    ∙ kept_behind ss (segments rest) s (subst AllLack e (segments_lack front)) (subst (λ (ts : List (List ℕ)). has_dots ts ≡ false) e none)
    ∙ sym (ap (λ (ts : List (List ℕ)). kept (kept [] (with_slashes ts)) (map slashed (segments rest))) e)

-- once the front is written, the rewriting stands at the slash behind it
pub done_behind : (front rest : List ℕ) → has_dots (segments front) ≡ false → DoneSoFar (front ++ 47 ∷ rest) (47 ∷ rest) front
unfolding without_dots
done_behind front rest none =
    let r = some_segment front in
    record {
      done = kept [] (with_slashes (segments front));
      shaped = shaped_from (kept [] (with_slashes (segments front))) (segments_kept (segments front) (segments_lack front) (first_plain (segments front) none));
      rooted = inr refl;
      output_is = sym (sym (ap (λ (ts : List (List ℕ)). joined (kept [] (with_slashes ts))) (undotted_same (segments front) none)) ∙ others_kept front none);
      meaning_is = sym (ap joined (behind_some front rest r.0 r.1 r.2 none));
    }

-- ---- where the rewriting starts, and what it drops

pub done_front : (front path : List ℕ) → GoesOnBehind front path → DoneSoFar (front ++ path) path front
done_front front path (inl none) = rw none (done_start path)
done_front front [] (inr h) = absurd (true≢false (sym h.1))
done_front front (c ∷ cs) (inr h) =
    subst (λ (x : ℕ). DoneSoFar (front ++ x ∷ cs) (x ∷ cs) front) (sym (eqb-true c 47 h.1)) (done_behind front cs h.0)

-- the last segment is one of those that were added
pub drop_added : (front added : List ℕ) (end : ℕ) → 0 < end → end ≤ length added → take end added ≡ up_to_slash added → front ++ take (end - 1) added ≡ without_last (front ++ added)
drop_added front added end some within e =
    elim (last_slash added) [
      | inl lacks ↦ let len : length (take end added) ≡ 0 = ap length (e ∙ up_lacks added lacks) in let same = length-take-le end added within in absurd (omega arith)
      | inr found ↦
          let up : take end added ≡ found.0 ++ 47 ∷ [] = e ∙ ap up_to_slash found.2 ∙ up_joined found.0 found.1 found.3 in
          let len : end ≡ length found.0 + 1 = sym (length-take-le end added within) ∙ ap length up ∙ length-append found.0 (47 ∷ []) in
          let less : end - 1 ≡ length found.0 = omega arith in
          ap (λ (n : ℕ). front ++ take n added) less ∙ ap (λ (t : List ℕ). front ++ take (length found.0) t) found.2
          ∙ ap (λ (t : List ℕ). front ++ t) (take_at found.0 (47 ∷ found.1) (length found.0) refl)
          ∙ sym (ap (λ (t : List ℕ). without_last (front ++ t)) found.2 ∙ ap without_last (sym (append_assoc front found.0 (47 ∷ found.1))) ∙ pop_joined (front ++ found.0) found.1 found.3)
    ]

-- nothing was added that has a slash, and the last segment is one of the front
pub drop_front : (front added : List ℕ) (end last : ℕ) → end ≡ 0 → take end added ≡ up_to_slash added → last ≤ length front → take last front ≡ up_to_slash front → take (last - 1) front ++ [] ≡ without_last (front ++ added)
drop_front front added end last none e within f =
    append-nil (take (last - 1) front) ∙ elim (last_slash added) [
      | inr found ↦
          let up : [] ≡ found.0 ++ 47 ∷ [] = sym (ap (λ (n : ℕ). take n added) none) ∙ e ∙ ap up_to_slash found.2 ∙ up_joined found.0 found.1 found.3 in
          let len = ap length up in let sum = length-append found.0 (47 ∷ []) in absurd (omega arith)
      | inl lacks ↦ elim (last_slash front) [
        | inl all ↦
            let len : length (take last front) ≡ 0 = ap length (f ∙ up_lacks front all) in
            let same = length-take-le last front within in
            let less : last - 1 ≡ 0 = omega arith in
            ap (λ (n : ℕ). take n front) less ∙ sym (pop_lacks (front ++ added) (Lacks-append 47 front added all lacks))
        | inr found ↦
            let up : take last front ≡ found.0 ++ 47 ∷ [] = f ∙ ap up_to_slash found.2 ∙ up_joined found.0 found.1 found.3 in
            let len : last ≡ length found.0 + 1 = sym (length-take-le last front within) ∙ ap length up ∙ length-append found.0 (47 ∷ []) in
            let less : last - 1 ≡ length found.0 = omega arith in
            ap (λ (n : ℕ). take n front) less ∙ ap (take (length found.0)) found.2 ∙ take_at found.0 (47 ∷ found.1) (length found.0) refl
            ∙ sym (ap (λ (t : List ℕ). without_last (t ++ added)) found.2 ∙ ap without_last (append_assoc found.0 (47 ∷ found.1) added)
            ∙ pop_joined found.0 (found.1 ++ added) (Lacks-append 47 found.1 added found.3 lacks))
      ]
    ]

pub drop_kept : (front added : List ℕ) (kept end last : ℕ) → kept ≤ length front → end ≤ 0 → take end added ≡ up_to_slash added → last ≤ length (take kept front) → take last (take kept front) ≡ up_to_slash (take kept front)
    → take (last - 1) front ++ [] ≡ without_last (take kept front ++ added)
drop_kept front added kept end last room none e within f =
    let len = length-take-le kept front room in
    let below : last - 1 ≤ kept = omega arith in
    ap (λ (t : List ℕ). t ++ []) (sym (take-take (last - 1) kept front below)) ∙ drop_front (take kept front) added end last (omega arith) e within f
