-- How many blank numbers a load takes (RDF 1.1 N-Quads, section 2.4; RDF 1.1 Turtle, section 2.6).
use Rattle.std.specs.Prelude.{◌≡◌, ℕ, ◌+◌, ◌<◌, ◌↔◌, List, Contains, Option}
use Rattle.std.specs.List.{flat_map}
use Rattle.rdf_dataset.specs.State.{State, last_number}
use Rattle.rdf_terms.specs.Blanks.{blanks_of}
use Rattle.rdf_terms.specs.Quad.{QuadParts}
use Rattle.rdf_session.specs.Documents.{IsDocument}
use Rattle.rdf_session.specs.Request.{Load, IsRefused, Makes, blank_limit}
use Rattle.rdf_session.specs.declared.fault.KeeperFault.TheVariants.{BlankNumbers}
use Rattle.rdf_session.specs.declared.format.Format.{Format}

-- The blank numbers of the quads are just those below the count.
abbrev pub HasBlankCount : List QuadParts → ℕ → Type 0
HasBlankCount quads count = (number : ℕ) → (number < count) ↔ Contains (flat_map blanks_of quads) number

-- The blank numbers of a document are just those below one number, which is its limit.
abbrev pub LimitIsTheCount : Type 0
LimitIsTheCount = (format : Format) (base : Option (List ℕ)) (text : List ℕ) (quads : List QuadParts) → IsDocument format base text quads
    → HasBlankCount quads (blank_limit quads) × ((count : ℕ) → HasBlankCount quads count → count ≡ blank_limit quads)

-- So many numbers a load takes, and no more.
abbrev pub LoadTakesTheCount : Type 0
LoadTakesTheCount = (format : Format) (base : Option (List ℕ)) (text : List ℕ) (quads : List QuadParts) (count : ℕ) (s t : State)
    → IsDocument format base text quads → HasBlankCount quads count → Makes base (Load format text) s t → t.next ≡ s.next + count

-- And it is refused for want of them just where they would bring the counter past the last number.
abbrev pub LoadWantsTheCount : Type 0
LoadWantsTheCount = (format : Format) (base : Option (List ℕ)) (text : List ℕ) (quads : List QuadParts) (count : ℕ) (s : State)
    → IsDocument format base text quads → HasBlankCount quads count
    → IsRefused base (Load format text) s BlankNumbers ↔ (last_number < s.next + count)
