-- Dot segments of a path, removed on the list of its segments (RFC 3986, section 5.2.4).
use Rattle.std.specs.Prelude.{ℕ, Bool, ◌==◌, ◌||◌, if◌then◌else◌, nat_eq, List, [], ◌∷◌, ◌++◌, codes, map, drop}
use Rattle.std.specs.List.{slice_split}
use Rattle.std.specs.Cmp.Lexicographic.{pointwise}
use Rattle.rdf_terms.specs.Cuts.{slash}

abbrev pub is_text : List ℕ → List ℕ → Bool
is_text = pointwise nat_eq

-- the texts between the slashes of a path; the first one stands before the first slash (RFC 3986, section 3.3)
abbrev pub segments : List ℕ → List (List ℕ)
segments path = slice_split (λ c. c == slash) path

-- `.` or `..`
abbrev pub is_dot_segment : List ℕ → Bool
is_dot_segment s = is_text s (codes ".") || is_text s (codes "..")

-- leading dot segments are dropped, each with the slash after it
abbrev pub undotted : List (List ℕ) → List (List ℕ)
undotted [] = []
undotted (s ∷ ss) = if is_dot_segment s then undotted ss else s ∷ ss

-- the segments, each with the slash before it; a leading one that stands before the first slash is kept where it has characters
abbrev pub with_slashes : List (List ℕ) → List (List ℕ)
with_slashes [] = []
with_slashes ([] ∷ ss) = map (λ s. slash ∷ s) ss
with_slashes ((c ∷ cs) ∷ ss) = (c ∷ cs) ∷ map (λ s. slash ∷ s) ss

-- a `/` in place of a dropped segment that was the last of all
abbrev pub closing : List (List ℕ) → List (List ℕ)
closing [] = codes "/" ∷ []
closing (p ∷ ps) = []

-- the segments kept, the last one first: those kept so far, and what is kept of the segments left. A segment `/.` is dropped, and
-- `/..` is dropped with the last segment kept, if there is one
abbrev pub kept : List (List ℕ) → List (List ℕ) → List (List ℕ)
kept done [] = done
kept done (p ∷ ps) =
    kept (if is_text p (codes "/.") then closing ps ++ done else
    if is_text p (codes "/..") then closing ps ++ drop 1 done else p ∷ done) ps

-- the text of segments, the last one first
abbrev pub joined : List (List ℕ) → List ℕ
joined [] = []
joined (p ∷ earlier) = joined earlier ++ p

-- the path without its dot segments
unfoldable pub without_dots : List ℕ → List ℕ
without_dots path = joined (kept [] (with_slashes (undotted (segments path))))
