-- The lines that a session shows.
use Rattle.std.specs.Prelude.{◌≡◌, ℕ, List, [], ◌∷◌, ◌++◌, codes, map}
use Rattle.rdf_dataset.specs.Sorted.{ListsSorted}
use Rattle.rdf_terms.specs.Quad.{QuadParts}
use Rattle.rdf_terms.specs.declared.term.Term.{Term}
use Rattle.rdf_dataset.specs.State.{Change, net_between}
use Rattle.rdf_lines.specs.QuadText.{quad_text}
use Rattle.rdf_terms.specs.TermText.{term_text}
use Rattle.rdf_session.specs.QuadLines.{ListsQuads}
use Rattle.rdf_session.specs.Saved.{IsTextOf}
use Rattle.rdf_session.specs.Session.{Session, now}
use Rattle.rdf_keeper.specs.Script.Lines.{raw_lines}
use Rattle.rdf_keeper.specs.declared.script.command.Topic.{Topic}
use Rattle.rdf_keeper.specs.declared.script.command.Topic.TheVariants.{Changes, Graphs, Quads, State as StateText}

-- the line of a graph's name
abbrev pub name_line : Term → List ℕ
name_line name = term_text name ++ 10 ∷ []

-- the lines of a net: names and quads removed, then names and quads added, each group sorted
abbrev pub ListsChange : Change → List (List ℕ) → Type 0
ListsChange net lines =
    (names_removed : List Term) × (removed : List QuadParts) × (names_added : List Term) × (added : List QuadParts)
    × ListsSorted net.names_removed names_removed × ListsSorted net.removed removed × ListsSorted net.names_added names_added × ListsSorted net.added added
    × (lines ≡ map (λ n. codes "- graph " ++ name_line n) names_removed ++ map (λ q. codes "- " ++ quad_text q) removed
    ++ map (λ n. codes "+ graph " ++ name_line n) names_added ++ map (λ q. codes "+ " ++ quad_text q) added)

-- the lines that a session shows
abbrev pub Shows : Topic → Session → List (List ℕ) → Type 0
Shows Quads s lines = ListsQuads (now s) lines
Shows Graphs s lines = (names : List Term) × ListsSorted (now s).names names × (lines ≡ map name_line names)
Shows Changes s lines = ListsChange (net_between s.base (now s)) lines
Shows StateText s lines = (text : List ℕ) × IsTextOf (now s) text × (lines ≡ raw_lines text)
