-- Texts of UTF-8 without a forbidden character: each step of resolution gives such a text of such texts.
use Rattle.std.proofs.Common.{◌≡◌, ℕ, zero, suc, ◌+◌, ◌<◌, Bool, true, false, cond, ◌||◌, ◌&&◌, not, nat_eq, List, [], ◌∷◌, ◌++◌, codes, map, Option, Some, None, length, drop, get_or, refl, sym, ap, subst, ◌∙◌, inl, inr, arith, append_assoc, IfSome, IsTrue, is_some}
use Rattle.std.specs.List.{starts_with, AllByRecursion, join_with_byte}
use Rattle.std.specs.Str.{IsUtf8, is_utf8}
use Rattle.std.specs.Option.{option_or}
use Rattle.std.proofs.lemmas.Bool.{cases_Bool, and_parts, or_parts, or_from, cond_both, true≢false}
use Rattle.std.proofs.lemmas.Bool.Decides.{Decides-eqb}
use Rattle.std.proofs.lemmas.List.{append-nil, take_at, drop_at, length-append, get_or_at}
use Rattle.std.proofs.lemmas.List.Splits.{join_with_byte-slice_split}
use Rattle.std.proofs.lemmas.Slice.Eq.{starts_is}
use Rattle.std.proofs.lemmas.Str.{IsUtf8-append, IsUtf8-nil, IsUtf8-take, IsUtf8-drop, IsUtf8-from_is_utf8, IsCharBoundary-before_ascii, IsCharBoundary-after_ascii, IsUtf8-from_ascii}
use Rattle.rdf_terms.specs.Cuts.{before, after, up_to_slash}
use Rattle.rdf_terms.specs.Dots.{is_text, segments, undotted, with_slashes, closing, kept, joined, without_dots}
use Rattle.rdf_terms.specs.Iri.{is_forbidden, has_forbidden, has_scheme, is_scheme, is_iri}
use Rattle.rdf_terms.specs.Rewriting.{with_front, components_of, resolved}
use Rattle.rdf_terms.specs.Reference.{Components, marked, recomposed}
use Rattle.rdf_terms.specs.Resolution.{target, merged, is_empty, begins_with_slash}
use Rattle.rdf_terms.proofs.Utf8Lemmas.{iri_from}
use Rattle.rdf_terms.proofs.CutLemmas.{cut_joins, last_slash, up_lacks, up_joined, after_joined, before_joined, before_lacks_mark}

pub record Clean (text : List ℕ) : Type 0 where
  pub utf8 : IsUtf8 text
  pub allowed : has_forbidden text ≡ false

forbidden_append : (xs ys : List ℕ) → has_forbidden xs ≡ false → has_forbidden ys ≡ false → has_forbidden (xs ++ ys) ≡ false
forbidden_append [] ys h g = g
forbidden_append (x ∷ xs) ys h g =
    let p = or_parts (is_forbidden x) (has_forbidden xs) h in or_from (is_forbidden x) (has_forbidden (xs ++ ys)) p.0 (forbidden_append xs ys p.1 g)

forbidden_parts : (xs ys : List ℕ) → has_forbidden (xs ++ ys) ≡ false → (has_forbidden xs ≡ false) × (has_forbidden ys ≡ false)
forbidden_parts [] ys h = (refl, h)
forbidden_parts (x ∷ xs) ys h =
    let p = or_parts (is_forbidden x) (has_forbidden (xs ++ ys)) h in
    let r = forbidden_parts xs ys p.1 in
    (or_from (is_forbidden x) (has_forbidden xs) p.0 r.0, r.1)

utf8_front : (xs ys : List ℕ) (c : ℕ) → c < 128 → IsUtf8 (xs ++ c ∷ ys) → IsUtf8 xs
utf8_front xs ys c small u =
    let at : get_or (xs ++ c ∷ ys) (length xs) 0 ≡ c = get_or_at xs c ys 0 (length xs) refl in
    let below : length xs < length (xs ++ c ∷ ys) = (let l = length-append xs (c ∷ ys) in omega arith) in
    subst IsUtf8 (take_at xs (c ∷ ys) (length xs) refl)
    (IsUtf8-take (xs ++ c ∷ ys) (length xs) u (IsCharBoundary-before_ascii (xs ++ c ∷ ys) (length xs) below (omega arith)))

utf8_back : (xs ys : List ℕ) (c : ℕ) → c < 128 → IsUtf8 (xs ++ c ∷ ys) → IsUtf8 ys
utf8_back xs ys c small u =
    let at : get_or (xs ++ c ∷ ys) (length xs) 0 ≡ c = get_or_at xs c ys 0 (length xs) refl in
    let below : length xs < length (xs ++ c ∷ ys) = (let l = length-append xs (c ∷ ys) in omega arith) in
    let len : length (xs ++ c ∷ []) ≡ length xs + 1 = length-append xs (c ∷ []) in
    subst IsUtf8 (ap (drop (length xs + 1)) (sym (append_assoc xs (c ∷ []) ys)) ∙ drop_at (xs ++ c ∷ []) ys (length xs + 1) len)
    (IsUtf8-drop (xs ++ c ∷ ys) (length xs + 1) u (IsCharBoundary-after_ascii (xs ++ c ∷ ys) (length xs) u below (omega arith)))

pub clean_nil : Clean []
clean_nil = record { utf8 = IsUtf8-nil; allowed = refl }

pub clean_append : (xs ys : List ℕ) → Clean xs → Clean ys → Clean (xs ++ ys)
clean_append xs ys h g = record { utf8 = IsUtf8-append xs ys h.utf8 g.utf8; allowed = forbidden_append xs ys h.allowed g.allowed }

clean_front : (xs ys : List ℕ) (c : ℕ) → c < 128 → Clean (xs ++ c ∷ ys) → Clean xs
clean_front xs ys c small h = record { utf8 = utf8_front xs ys c small h.utf8; allowed = (forbidden_parts xs (c ∷ ys) h.allowed).0 }

clean_back : (xs ys : List ℕ) (c : ℕ) → c < 128 → Clean (xs ++ c ∷ ys) → Clean ys
clean_back xs ys c small h = record {
  utf8 = utf8_back xs ys c small h.utf8;
  allowed = (or_parts (is_forbidden c) (has_forbidden ys) (forbidden_parts xs (c ∷ ys) h.allowed).1).1;
}

one_ascii : (c : ℕ) → c < 128 → (i : ℕ) → get_or (c ∷ []) i 0 < 128
one_ascii c small zero = small
one_ascii c small (suc i) = omega arith

one_utf8 : (c : ℕ) → c < 128 → IsUtf8 (c ∷ [])
one_utf8 c small = IsUtf8-from_ascii (c ∷ []) (one_ascii c small)

clean_slash : Clean (codes "/")
clean_slash = record { utf8 = one_utf8 47 (omega arith); allowed = refl }

clean_question : Clean (codes "?")
clean_question = record { utf8 = one_utf8 63 (omega arith); allowed = refl }

clean_hash : Clean (codes "#")
clean_hash = record { utf8 = one_utf8 35 (omega arith); allowed = refl }

clean_colon : Clean (codes ":")
clean_colon = record { utf8 = one_utf8 58 (omega arith); allowed = refl }

clean_slashes : Clean (codes "//")
clean_slashes = clean_append (codes "/") (codes "/") clean_slash clean_slash

-- ---- cuts

abbrev CleanPart : Option (List ℕ) → Type 0
CleanPart o = IfSome o (λ t. Clean t)

clean_cut_front : (mark : ℕ) (front : List ℕ) (o : Option (List ℕ)) → mark < 128 → Clean (front ++ marked (mark ∷ []) o) → Clean front
clean_cut_front mark front None small h = subst Clean (append-nil front) h
clean_cut_front mark front (Some r) small h = clean_front front r mark small h

clean_cut_back : (mark : ℕ) (front : List ℕ) (o : Option (List ℕ)) → mark < 128 → Clean (front ++ marked (mark ∷ []) o) → CleanPart o
clean_cut_back mark front None small h = tt
clean_cut_back mark front (Some r) small h = clean_back front r mark small h

clean_before : (mark : ℕ) (cs : List ℕ) → mark < 128 → Clean cs → Clean (before mark cs)
clean_before mark cs small h = clean_cut_front mark (before mark cs) (after mark cs) small (subst Clean (cut_joins mark cs) h)

clean_after : (mark : ℕ) (cs : List ℕ) → mark < 128 → Clean cs → CleanPart (after mark cs)
clean_after mark cs small h = clean_cut_back mark (before mark cs) (after mark cs) small (subst Clean (cut_joins mark cs) h)

clean_marked : (word : List ℕ) (o : Option (List ℕ)) → Clean word → CleanPart o → Clean (marked word o)
clean_marked word None w h = clean_nil
clean_marked word (Some t) w h = clean_append word t w h

clean_up : (cs : List ℕ) → Clean cs → Clean (up_to_slash cs)
clean_up cs h =
    elim (last_slash cs) [
      | inl lacks ↦ rw (up_lacks cs lacks) clean_nil
      | inr found ↦
          let e : up_to_slash cs ≡ found.0 ++ 47 ∷ [] = ap up_to_slash found.2 ∙ up_joined found.0 found.1 found.3 in
          rw e (clean_append found.0 (codes "/") (clean_front found.0 found.1 47 (omega arith) (subst Clean found.2 h)) clean_slash)
    ]

-- ---- components

record CleanComponents (p : Components) : Type 0 where
  authority : CleanPart p.authority
  path : Clean p.path
  query : CleanPart p.query
  fragment : CleanPart p.fragment

clean_with_front : (front : List ℕ) (query fragment : Option (List ℕ)) → Clean front → CleanPart query → CleanPart fragment → CleanComponents (with_front front query fragment)
clean_with_front front query fragment h q f =
    elim (cases_Bool (starts_with nat_eq front (codes "//"))) [
      | inl is ↦
          let shape : front ≡ codes "//" ++ drop 2 front = (starts_is Decides-eqb front (codes "//") (starts_with nat_eq front (codes "//")) refl).0 is in
          let rest : Clean (drop 2 front) = clean_back (codes "/") (drop 2 front) 47 (omega arith) (subst Clean shape h) in
          rw is (record {
            authority = clean_before 47 (drop 2 front) (omega arith) rest;
            path = clean_marked (codes "/") (after 47 (drop 2 front)) clean_slash (clean_after 47 (drop 2 front) (omega arith) rest);
            query = q;
            fragment = f;
          })
      | inr not ↦ rw not (record { authority = tt; path = h; query = q; fragment = f })
    ]

clean_components : (text : List ℕ) → Clean text → CleanComponents (components_of text)
clean_components text h =
    let front : Clean (before 35 text) = clean_before 35 text (omega arith) h in
    clean_with_front (before 63 (before 35 text)) (after 63 (before 35 text)) (after 35 text)
    (clean_before 63 (before 35 text) (omega arith) front) (clean_after 63 (before 35 text) (omega arith) front) (clean_after 35 text (omega arith) h)

clean_recomposed : (p : Components) → CleanComponents p → Clean (recomposed p)
clean_recomposed p h =
    clean_append (marked (codes "//") p.authority) (p.path ++ (marked (codes "?") p.query ++ marked (codes "#") p.fragment)) (clean_marked (codes "//") p.authority clean_slashes h.authority)
    (clean_append p.path (marked (codes "?") p.query ++ marked (codes "#") p.fragment) h.path
    (clean_append (marked (codes "?") p.query) (marked (codes "#") p.fragment) (clean_marked (codes "?") p.query clean_question h.query) (clean_marked (codes "#") p.fragment clean_hash h.fragment)))

-- ---- dots

abbrev AllClean : List (List ℕ) → Type 0
AllClean ss = AllByRecursion (λ s. Clean s) ss

clean_join : (ss : List (List ℕ)) → Clean (join_with_byte 47 ss) → AllClean ss
clean_join [] h = tt
clean_join (s ∷ []) h = (h, tt)
clean_join (s ∷ t ∷ ss) h = (clean_front s (join_with_byte 47 (t ∷ ss)) 47 (omega arith) h, clean_join (t ∷ ss) (clean_back s (join_with_byte 47 (t ∷ ss)) 47 (omega arith) h))

clean_segments : (path : List ℕ) → Clean path → AllClean (segments path)
clean_segments path h = clean_join (segments path) (subst Clean (sym (join_with_byte-slice_split 47 path)) h)

clean_undotted : (ss : List (List ℕ)) → AllClean ss → AllClean (undotted ss)
clean_undotted [] h = tt
clean_undotted (s ∷ ss) h =
    cond_both (is_text s (codes ".") || is_text s (codes "..")) (undotted ss) (s ∷ ss) (λ (ts : List (List ℕ)). AllClean ts) (λ _. clean_undotted ss h.1) (λ _. h)

clean_slashed : (ss : List (List ℕ)) → AllClean ss → AllClean (map (λ s. 47 ∷ s) ss)
clean_slashed [] h = tt
clean_slashed (s ∷ ss) h = (clean_append (codes "/") s clean_slash h.0, clean_slashed ss h.1)

clean_with_slashes : (ss : List (List ℕ)) → AllClean ss → AllClean (with_slashes ss)
clean_with_slashes [] h = tt
clean_with_slashes ([] ∷ ss) h = clean_slashed ss h.1
clean_with_slashes ((c ∷ cs) ∷ ss) h = (h.0, clean_slashed ss h.1)

clean_closing : (ps done : List (List ℕ)) → AllClean done → AllClean (closing ps ++ done)
clean_closing [] done h = (clean_slash, h)
clean_closing (p ∷ ps) done h = h

clean_less : (done : List (List ℕ)) → AllClean done → AllClean (drop 1 done)
clean_less [] h = tt
clean_less (p ∷ done) h = h.1

clean_kept : (done ps : List (List ℕ)) → AllClean done → AllClean ps → AllClean (kept done ps)
clean_kept done [] h g = h
clean_kept done (p ∷ ps) h g =
    clean_kept (cond (is_text p (codes "/.")) (closing ps ++ done) (cond (is_text p (codes "/..")) (closing ps ++ drop 1 done) (p ∷ done))) ps
    (cond_both (is_text p (codes "/.")) (closing ps ++ done) (cond (is_text p (codes "/..")) (closing ps ++ drop 1 done) (p ∷ done)) (λ (ts : List (List ℕ)). AllClean ts)
    (λ _. clean_closing ps done h)
    (λ _. cond_both (is_text p (codes "/..")) (closing ps ++ drop 1 done) (p ∷ done) (λ (ts : List (List ℕ)). AllClean ts)
    (λ _. clean_closing ps (drop 1 done) (clean_less done h))
    (λ _. (g.0, h))))
    g.1

clean_joined : (ps : List (List ℕ)) → AllClean ps → Clean (joined ps)
clean_joined [] h = clean_nil
clean_joined (p ∷ ps) h = clean_append (joined ps) p (clean_joined ps h.1) h.0

clean_dots : (path : List ℕ) → Clean path → Clean (without_dots path)
unfolding without_dots
clean_dots path h = clean_joined (kept [] (with_slashes (undotted (segments path)))) (clean_kept [] (with_slashes (undotted (segments path))) tt (clean_with_slashes (undotted (segments path)) (clean_undotted (segments path) (clean_segments path h))))

-- ---- the result

clean_or : (o p : Option (List ℕ)) → CleanPart o → CleanPart p → CleanPart (option_or o p)
clean_or None p h g = g
clean_or (Some t) p h g = h

clean_merged : (base : Components) (path : List ℕ) → CleanComponents base → Clean path → Clean (merged base path)
clean_merged base path h g =
    clean_append (cond (is_some base.authority && is_empty base.path) (codes "/") (up_to_slash base.path)) path
    (cond_both (is_some base.authority && is_empty base.path) (codes "/") (up_to_slash base.path) (λ (t : List ℕ). Clean t) (λ _. clean_slash) (λ _. clean_up base.path h.path)) g

clean_target : (base r : Components) → CleanComponents base → CleanComponents r → CleanComponents (target base r)
clean_target base r h g =
    elim (cases_Bool (is_some r.authority)) [
      | inl a ↦ rw a (record { authority = g.authority; path = clean_dots r.path g.path; query = g.query; fragment = g.fragment })
      | inr na ↦ elim (cases_Bool (is_empty r.path)) [
        | inl e ↦ rw (na, e) (record { authority = h.authority; path = h.path; query = clean_or r.query base.query g.query h.query; fragment = g.fragment })
        | inr ne ↦ elim (cases_Bool (begins_with_slash r.path)) [
          | inl b ↦ rw (na, ne, b) (record { authority = h.authority; path = clean_dots r.path g.path; query = g.query; fragment = g.fragment })
          | inr nb ↦ rw (na, ne, nb) (record { authority = h.authority; path = clean_dots (merged base r.path) (clean_merged base r.path h g.path); query = g.query; fragment = g.fragment })
        ]
      ]
    ]

-- ---- IRIs

pub utf8_from_iri : (text : List ℕ) → IsTrue (is_iri text) → IsUtf8 text
utf8_from_iri text h = IsUtf8-from_is_utf8 text (and_parts (is_utf8 text) (has_scheme text && not (has_forbidden text)) h).0

not_true : (b : Bool) → not b ≡ true → b ≡ false
not_true true e = absurd (true≢false (sym e))
not_true false e = refl

pub scheme_from_iri : (text : List ℕ) → IsTrue (is_iri text) → has_scheme text ≡ true
scheme_from_iri text h = (and_parts (has_scheme text) (not (has_forbidden text)) (and_parts (is_utf8 text) (has_scheme text && not (has_forbidden text)) h).1).0

pub clean_from_iri : (text : List ℕ) → IsTrue (is_iri text) → Clean text
clean_from_iri text h = record {
  utf8 = utf8_from_iri text h;
  allowed = not_true (has_forbidden text) (and_parts (has_scheme text) (not (has_forbidden text)) (and_parts (is_utf8 text) (has_scheme text && not (has_forbidden text)) h).1).1;
}

split_some : (base : List ℕ) (o : Option (List ℕ)) → is_some o ≡ true → base ≡ before 58 base ++ marked (58 ∷ []) o → (rest : List ℕ) × (o ≡ Some rest) × (base ≡ before 58 base ++ 58 ∷ rest)
split_some base None e h = absurd (true≢false (sym e))
split_some base (Some r) e h = (r, refl, h)

-- the scheme of a base, and what follows it
pub scheme_split : (base : List ℕ) → has_scheme base ≡ true → (rest : List ℕ) × (after 58 base ≡ Some rest) × (base ≡ before 58 base ++ 58 ∷ rest)
scheme_split base h = split_some base (after 58 base) (and_parts (is_some (after 58 base)) (is_scheme (before 58 base)) h).0 (cut_joins 58 base)

pub resolved_iri : (base reference : List ℕ) → IsTrue (is_iri base) → IsUtf8 reference → has_forbidden reference ≡ false → IsTrue (is_iri (resolved base reference))
unfolding resolved
resolved_iri base reference iri utf8 allowed =
    let sp = scheme_split base (scheme_from_iri base iri) in
    let hb : Clean base = clean_from_iri base iri in
    let rest : Clean sp.0 = clean_back (before 58 base) sp.0 58 (omega arith) (subst Clean sp.2 hb) in
    let scheme : Clean (before 58 base) = clean_before 58 base (omega arith) hb in
    let hr : Clean reference = record { utf8 = utf8; allowed = allowed } in
    let tail : List ℕ = recomposed (target (components_of sp.0) (components_of reference)) in
    let clean_tail : Clean tail = clean_recomposed (target (components_of sp.0) (components_of reference)) (clean_target (components_of sp.0) (components_of reference) (clean_components sp.0 rest) (clean_components reference hr)) in
    let whole : Clean (before 58 base ++ 58 ∷ tail) = clean_append (before 58 base) (58 ∷ tail) scheme (clean_append (codes ":") tail clean_colon clean_tail) in
    let is_scheme_base : is_scheme (before 58 base) ≡ true = (and_parts (is_some (after 58 base)) (is_scheme (before 58 base)) (scheme_from_iri base iri)).1 in
    let again : has_scheme (before 58 base ++ 58 ∷ tail) ≡ true =
    rw (after_joined 58 (before 58 base) tail (before_lacks_mark 58 base), before_joined 58 (before 58 base) tail (before_lacks_mark 58 base)) is_scheme_base in
    rw sp.1 (iri_from (before 58 base ++ 58 ∷ tail) whole.utf8 again whole.allowed)
