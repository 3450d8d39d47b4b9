-- The layout of a base, and of one that is moved where it stands.
use Rattle.std.proofs.Common.{◌≡◌, ℕ, ◌+◌, ◌-◌, ◌≤◌, true, false, cond, eqb, List, [], ◌∷◌, ◌++◌, codes, map, Option, is_some, length, drop, refl, sym, ap, ◌∙◌, inl, inr, arith, append_assoc, IsTrue, unwrap_or}
use Rattle.std.specs.List.{AllByRecursion, onto_first}
use Rattle.std.proofs.lemmas.Bool.{cases_Bool, cond_both, true≢false}
use Rattle.std.proofs.lemmas.List.{length-append}
use Rattle.rdf_terms.specs.declared.layout.Layout.{Layout}
use Rattle.rdf_terms.specs.Cuts.{before, after}
use Rattle.rdf_terms.specs.Dots.{is_text, is_dot_segment, segments, undotted, with_slashes, closing, kept, joined, without_dots}
use Rattle.rdf_terms.specs.Iri.{has_scheme}
use Rattle.rdf_terms.specs.Layout.{front_of, IsLayout}
use Rattle.rdf_terms.specs.Reference.{Components, Lacks, HasComponents, marked, recomposed, is_rooted}
use Rattle.rdf_terms.specs.Rewriting.{parts_of}
use Rattle.rdf_terms.proofs.CleanLemmas.{scheme_split}
use Rattle.rdf_terms.proofs.CutLemmas.{Lacks-append}
use Rattle.rdf_terms.proofs.DotLemmas.{slashed}
use Rattle.rdf_terms.proofs.ReferenceLemmas.{components_there}

-- ---- what holds of the segments of a path holds of the path without its dot segments

record Closed (P : List ℕ → Type 0) : Type 1 where
  nothing : P []
  joins : (xs ys : List ℕ) → P xs → P ys → P (xs ++ ys)
  slash : P (codes "/")

closed_joined : (P : List ℕ → Type 0) → Closed P → (ps : List (List ℕ)) → AllByRecursion P ps → P (joined ps)
closed_joined P closed [] h = closed.nothing
closed_joined P closed (p ∷ ps) h = closed.joins (joined ps) p (closed_joined P closed ps h.1) h.0

closed_closing : (P : List ℕ → Type 0) → Closed P → (ps done : List (List ℕ)) → AllByRecursion P done → AllByRecursion P (closing ps ++ done)
closed_closing P closed [] done h = (closed.slash, h)
closed_closing P closed (p ∷ ps) done h = h

closed_less : (P : List ℕ → Type 0) (done : List (List ℕ)) → AllByRecursion P done → AllByRecursion P (drop 1 done)
closed_less P [] h = tt
closed_less P (p ∷ done) h = h.1

closed_kept : (P : List ℕ → Type 0) → Closed P → (done ps : List (List ℕ)) → AllByRecursion P done → AllByRecursion P ps → AllByRecursion P (kept done ps)
closed_kept P closed done [] h g = h
closed_kept P closed done (p ∷ ps) h g =
    closed_kept P closed (cond (is_text p (codes "/.")) (closing ps ++ done) (cond (is_text p (codes "/..")) (closing ps ++ drop 1 done) (p ∷ done))) ps
    (cond_both (is_text p (codes "/.")) (closing ps ++ done) (cond (is_text p (codes "/..")) (closing ps ++ drop 1 done) (p ∷ done)) (λ (ts : List (List ℕ)). AllByRecursion P ts)
    (λ _. closed_closing P closed ps done h)
    (λ _. cond_both (is_text p (codes "/..")) (closing ps ++ drop 1 done) (p ∷ done) (λ (ts : List (List ℕ)). AllByRecursion P ts)
    (λ _. closed_closing P closed ps (drop 1 done) (closed_less P done h))
    (λ _. (g.0, h))))
    g.1

closed_dots : (P : List ℕ → Type 0) → Closed P → (path : List ℕ) → AllByRecursion P (with_slashes (undotted (segments path))) → P (without_dots path)
unfolding without_dots
closed_dots P closed path h = closed_joined P closed (kept [] (with_slashes (undotted (segments path)))) (closed_kept P closed [] (with_slashes (undotted (segments path))) tt h)

-- ---- a character that a path lacks

lacks_closed : (mark : ℕ) → eqb 47 mark ≡ false → Closed (λ t. Lacks mark t)
lacks_closed mark other = record { nothing = tt; joins = Lacks-append mark; slash = (other, tt) }

abbrev AllLack : ℕ → List (List ℕ) → Type 0
AllLack mark ss = AllByRecursion (λ s. Lacks mark s) ss

onto_lacks : (mark x : ℕ) (ss : List (List ℕ)) → eqb x mark ≡ false → AllLack mark ss → AllLack mark (onto_first x ss)
onto_lacks mark x [] e h = ((e, tt), tt)
onto_lacks mark x (s ∷ ss) e h = ((e, h.0), h.1)

segments_lack : (mark : ℕ) (xs : List ℕ) → Lacks mark xs → AllLack mark (segments xs)
segments_lack mark [] h = (tt, tt)
segments_lack mark (x ∷ xs) h =
    elim (cases_Bool (eqb x 47)) [
      | inl is ↦ rw is (tt, segments_lack mark xs h.1)
      | inr not ↦ rw not (onto_lacks mark x (segments xs) h.0 (segments_lack mark xs h.1))
    ]

undotted_lack : (mark : ℕ) (ss : List (List ℕ)) → AllLack mark ss → AllLack mark (undotted ss)
undotted_lack mark [] h = tt
undotted_lack mark (s ∷ ss) h = cond_both (is_dot_segment s) (undotted ss) (s ∷ ss) (λ (ts : List (List ℕ)). AllLack mark ts) (λ _. undotted_lack mark ss h.1) (λ _. h)

slashed_lack : (mark : ℕ) (ss : List (List ℕ)) → eqb 47 mark ≡ false → AllLack mark ss → AllLack mark (map slashed ss)
slashed_lack mark [] other h = tt
slashed_lack mark (s ∷ ss) other h = ((other, h.0), slashed_lack mark ss other h.1)

with_slashes_lack : (mark : ℕ) (ss : List (List ℕ)) → eqb 47 mark ≡ false → AllLack mark ss → AllLack mark (with_slashes ss)
with_slashes_lack mark [] other h = tt
with_slashes_lack mark ([] ∷ ss) other h = slashed_lack mark ss other h.1
with_slashes_lack mark ((c ∷ cs) ∷ ss) other h = (h.0, slashed_lack mark ss other h.1)

pub dots_lack : (mark : ℕ) (path : List ℕ) → eqb 47 mark ≡ false → Lacks mark path → Lacks mark (without_dots path)
dots_lack mark path other h =
    closed_dots (λ t. Lacks mark t) (lacks_closed mark other) path
    (with_slashes_lack mark (undotted (segments path)) other (undotted_lack mark (segments path) (segments_lack mark path h)))

-- ---- a path that begins with a slash

rooted_joins : (xs ys : List ℕ) → IsTrue (is_rooted xs) → IsTrue (is_rooted ys) → IsTrue (is_rooted (xs ++ ys))
rooted_joins [] ys h g = g
rooted_joins (x ∷ xs) ys h g = h

rooted_closed : Closed (λ t. IsTrue (is_rooted t))
rooted_closed = record { nothing = refl; joins = rooted_joins; slash = refl }

all_rooted : (ss : List (List ℕ)) → AllByRecursion (λ s. IsTrue (is_rooted s)) (map slashed ss)
all_rooted [] = tt
all_rooted (s ∷ ss) = (refl, all_rooted ss)

rooted_segments : (path : List ℕ) → IsTrue (is_rooted path) → AllByRecursion (λ s. IsTrue (is_rooted s)) (with_slashes (undotted (segments path)))
rooted_segments [] h = tt
rooted_segments (c ∷ cs) h = rw h (all_rooted (segments cs))

pub dots_rooted : (path : List ℕ) → IsTrue (is_rooted path) → IsTrue (is_rooted (without_dots path))
dots_rooted path h = closed_dots (λ t. IsTrue (is_rooted t)) rooted_closed path (rooted_segments path h)

-- ---- a base as the text of its parts

pub parts_have : (base : List ℕ) → HasComponents (unwrap_or (after 58 base) []) (parts_of base)
parts_have base = components_there (unwrap_or (after 58 base) [])

abbrev pub end_of : Components → List ℕ
end_of p = marked (codes "?") p.query ++ marked (codes "#") p.fragment

pub front_joins : (scheme : List ℕ) (p : Components) → scheme ++ 58 ∷ recomposed p ≡ (scheme ++ 58 ∷ marked (codes "//") p.authority) ++ (p.path ++ end_of p)
front_joins scheme p = sym (append_assoc scheme (58 ∷ marked (codes "//") p.authority) (p.path ++ end_of p))

pub base_text : (base : List ℕ) → has_scheme base ≡ true → base ≡ front_of base ++ ((parts_of base).path ++ end_of (parts_of base))
base_text base h =
    let sp = scheme_split base h in
    let rest : unwrap_or (after 58 base) [] ≡ sp.0 = ap (λ (o : Option (List ℕ)). unwrap_or o []) sp.1 in
    sp.2 ∙ ap (λ (t : List ℕ). before 58 base ++ 58 ∷ t) (sym rest ∙ (parts_have base).text_is) ∙ front_joins (before 58 base) (parts_of base)

pub base_length : (base : List ℕ) → has_scheme base ≡ true
    → length base ≡ length (front_of base) + length (parts_of base).path + length (marked (codes "?") (parts_of base).query) + length (marked (codes "#") (parts_of base).fragment)
base_length base h =
    let p = parts_of base in
    let whole = ap length (base_text base h) in
    let one = length-append (front_of base) ((parts_of base).path ++ end_of (parts_of base)) in
    let two = length-append (parts_of base).path (end_of (parts_of base)) in
    let three = length-append (marked (codes "?") (parts_of base).query) (marked (codes "#") (parts_of base).fragment) in
    omega arith

pub parts_within : (base : List ℕ) (p : Components) (fragment query path : ℕ) → has_scheme base ≡ true → p ≡ parts_of base
    → fragment ≡ length (marked (codes "#") p.fragment) → query ≡ length (marked (codes "?") p.query) → path ≡ length p.path → path + query + fragment ≤ length base
parts_within base p fragment query path h e f q r =
    let whole = base_length base h in
    let same_fragment : length (marked (codes "#") p.fragment) ≡ length (marked (codes "#") (parts_of base).fragment) = ap (λ (x : Components). length (marked (codes "#") x.fragment)) e in
    let same_query : length (marked (codes "?") p.query) ≡ length (marked (codes "?") (parts_of base).query) = ap (λ (x : Components). length (marked (codes "?") x.query)) e in
    let same_path : length p.path ≡ length (parts_of base).path = ap (λ (x : Components). length x.path) e in
    omega arith

pub layout_found : (base : List ℕ) (p : Components) (l : Layout) (fragment query path : ℕ) → has_scheme base ≡ true → p ≡ parts_of base
    → fragment ≡ length (marked (codes "#") p.fragment) → query ≡ length (marked (codes "?") p.query) → path ≡ length p.path
    → l.has_authority ≡ is_some p.authority → l.query_end ≡ length base - fragment → l.path_end ≡ l.query_end - query → l.path_start ≡ l.path_end - path → l.is_plain ≡ false → IsLayout base l
layout_found base p l fragment query path h e f q r authority query_end path_end path_start plain =
    let whole = base_length base h in
    let same_fragment : length (marked (codes "#") p.fragment) ≡ length (marked (codes "#") (parts_of base).fragment) = ap (λ (x : Components). length (marked (codes "#") x.fragment)) e in
    let same_query : length (marked (codes "?") p.query) ≡ length (marked (codes "?") (parts_of base).query) = ap (λ (x : Components). length (marked (codes "?") x.query)) e in
    let same_path : length p.path ≡ length (parts_of base).path = ap (λ (x : Components). length x.path) e in
    record {
      authority = authority ∙ ap (λ (x : Components). is_some x.authority) e;
      path = omega arith;
      path_end = omega arith;
      query_end = omega arith;
      plain = λ is. absurd (true≢false (sym is ∙ plain));
    }
