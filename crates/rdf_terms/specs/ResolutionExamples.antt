-- All examples of resolution that RFC 3986 gives, section 5.4, and those of the rows that these leave out.
use Rattle.std.specs.Prelude.{◌≡◌, ℕ, List, [], ◌∷◌, codes, Some}
use Rattle.rdf_terms.specs.Resolution.{Means}

-- the base of RFC 3986, section 5.4
abbrev pub there : List ℕ
there = codes "http://a/b/c/d;p?q"

abbrev pub MeansThere : List ℕ → List ℕ → Type 0
MeansThere reference text = Means (Some there) reference text

-- RFC 3986, section 5.4.1: normal examples, each of them
abbrev pub NormalExamples : Type 0
NormalExamples =
    MeansThere (codes "g:h") (codes "g:h") × MeansThere (codes "g") (codes "http://a/b/c/g") × MeansThere (codes "./g") (codes "http://a/b/c/g")
    × MeansThere (codes "g/") (codes "http://a/b/c/g/") × MeansThere (codes "/g") (codes "http://a/g") × MeansThere (codes "//g") (codes "http://g")
    × MeansThere (codes "?y") (codes "http://a/b/c/d;p?y") × MeansThere (codes "g?y") (codes "http://a/b/c/g?y")
    × MeansThere (codes "#s") (codes "http://a/b/c/d;p?q#s") × MeansThere (codes "g#s") (codes "http://a/b/c/g#s")
    × MeansThere (codes "g?y#s") (codes "http://a/b/c/g?y#s") × MeansThere (codes ";x") (codes "http://a/b/c/;x")
    × MeansThere (codes "g;x") (codes "http://a/b/c/g;x") × MeansThere (codes "g;x?y#s") (codes "http://a/b/c/g;x?y#s")
    × MeansThere [] (codes "http://a/b/c/d;p?q") × MeansThere (codes ".") (codes "http://a/b/c/") × MeansThere (codes "./") (codes "http://a/b/c/")
    × MeansThere (codes "..") (codes "http://a/b/") × MeansThere (codes "../") (codes "http://a/b/")
    × MeansThere (codes "../g") (codes "http://a/b/g") × MeansThere (codes "../..") (codes "http://a/")
    × MeansThere (codes "../../") (codes "http://a/") × MeansThere (codes "../../g") (codes "http://a/g")

-- RFC 3986, section 5.4.2: abnormal examples, each of them; `http:g` as a strict parser has it
abbrev pub AbnormalExamples : Type 0
AbnormalExamples =
    MeansThere (codes "../../../g") (codes "http://a/g") × MeansThere (codes "../../../../g") (codes "http://a/g")
    × MeansThere (codes "/./g") (codes "http://a/g") × MeansThere (codes "/../g") (codes "http://a/g")
    × MeansThere (codes "g.") (codes "http://a/b/c/g.") × MeansThere (codes ".g") (codes "http://a/b/c/.g")
    × MeansThere (codes "g..") (codes "http://a/b/c/g..") × MeansThere (codes "..g") (codes "http://a/b/c/..g")
    × MeansThere (codes "./../g") (codes "http://a/b/g") × MeansThere (codes "./g/.") (codes "http://a/b/c/g/")
    × MeansThere (codes "g/./h") (codes "http://a/b/c/g/h") × MeansThere (codes "g/../h") (codes "http://a/b/c/h")
    × MeansThere (codes "g;x=1/./y") (codes "http://a/b/c/g;x=1/y") × MeansThere (codes "g;x=1/../y") (codes "http://a/b/c/y")
    × MeansThere (codes "g?y/./x") (codes "http://a/b/c/g?y/./x") × MeansThere (codes "g?y/../x") (codes "http://a/b/c/g?y/../x")
    × MeansThere (codes "g#s/./x") (codes "http://a/b/c/g#s/./x") × MeansThere (codes "g#s/../x") (codes "http://a/b/c/g#s/../x")
    × MeansThere (codes "http:g") (codes "http:g")

-- what these leave out: a base with an authority and an empty path has a slash put behind it, and one whose path has no slash loses
-- that path (RFC 3986, section 5.2.3); an empty query of the reference is one, the base's fragment goes, and the path behind an
-- authority loses its dot segments too (section 5.2.2)
abbrev pub OtherBases : Type 0
OtherBases =
    Means (Some (codes "http://a")) (codes "g") (codes "http://a/g") × Means (Some (codes "http://a?q")) (codes "g") (codes "http://a/g")
    × Means (Some (codes "urn:a")) (codes "g") (codes "urn:g") × Means (Some (codes "urn:a")) (codes "#s") (codes "urn:a#s")
    × Means (Some (codes "http://a/b?q")) (codes "?") (codes "http://a/b?") × Means (Some (codes "http://a/b?q#f")) [] (codes "http://a/b?q")
    × MeansThere (codes "//g/h/../i") (codes "http://g/i")
