-- Where the components of a base stand in its text, and what moves it where it stands.
use Rattle.std.specs.Prelude.{◌≡◌, ◌≤◌, ◌+◌, ℕ, true, false, if◌then◌else◌, is_some, None, List, ◌∷◌, ◌++◌, codes, length, take}
use Rattle.std.specs.List.{list_any}
use Rattle.rdf_terms.specs.declared.layout.Layout.{Layout}
use Rattle.rdf_terms.specs.declared.moving.Change.{Change}
use Rattle.rdf_terms.specs.Cuts.{colon, before}
use Rattle.rdf_terms.specs.Dots.{is_dot_segment, segments}
use Rattle.rdf_terms.specs.Reference.{Components, marked}
use Rattle.rdf_terms.specs.Resolution.{begins_with_slash, is_empty, merged}
use Rattle.rdf_terms.specs.Rewriting.{parts_of, resolved}

-- the scheme with its colon, and the authority with its mark
abbrev pub front_of : List ℕ → List ℕ
front_of base = before colon base ++ colon ∷ marked (codes "//") (parts_of base).authority

-- where the path begins and ends, and where the query ends; a path that is called plain has no dot segment
pub record IsLayout (base : List ℕ) (l : Layout) : Type 0 where
  pub authority : l.has_authority ≡ is_some (parts_of base).authority
  pub path : l.path_start ≡ length (front_of base)
  pub path_end : l.path_end ≡ l.path_start + length (parts_of base).path
  pub query_end : l.query_end ≡ l.path_end + length (marked (codes "?") (parts_of base).query)
  pub plain : l.is_plain ≡ true → list_any is_dot_segment (segments (parts_of base).path) ≡ false

-- a reference without an authority has a path, which is this: its own, where that begins with a slash, or else the one that comes
-- behind the base's directory (RFC 3986, section 5.2.2)
abbrev pub TakesPath : List ℕ → Components → List ℕ → Type 0
TakesPath base r path =
    (r.authority ≡ None) × (is_empty r.path ≡ false) × (path ≡ (if begins_with_slash r.path then r.path else merged (parts_of base) r.path))

-- what is kept of the base, and what comes behind it, are the text that the reference gives
pub record IsMove (base reference : List ℕ) (c : Change) : Type 0 where
  pub within : c.kept ≤ length base
  pub text : take c.kept base ++ c.added.items ≡ resolved base reference
  pub layout : IsLayout (resolved base reference) c.layout
