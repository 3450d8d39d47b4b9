-- Reading a line from left to right: what stands at the front of a list of characters, and what follows it.
use Rattle.std.specs.Prelude.{ℕ, Bool, true, false, List, [], ◌∷◌, Option, Some, None, ◌==◌, ◌||◌, ◌&&◌, if◌then◌else◌}
use Rattle.std.specs.Str.{encode_utf8_all}
use Rattle.rdf_terms.specs.Dotted.{dotted_at}
use Rattle.rdf_terms.specs.Reading.{◌>>=◌, expect, between, iri_at, quoted_at}
use Rattle.rdf_terms.specs.Literal.{LiteralParts, xsd_string, is_tag, tagged}
use Rattle.rdf_terms.specs.Skips.{skip, one_of}
use Rattle.rdf_terms.specs.Tags.{tag_end_at}
use Rattle.rdf_lines.specs.Grammar.{is_white, is_label_start, is_label_part, typed}
use Rattle.rdf_lines.specs.declared.format.LineFormat.{LineFormat}
use Rattle.rdf_lines.specs.declared.format.LineFormat.TheVariants.{NTriples, NQuads}
use Rattle.rdf_lines.specs.declared.written.WrittenNode.{WrittenNode}
use Rattle.rdf_lines.specs.declared.written.WrittenNode.TheVariants as written
use Rattle.rdf_lines.specs.declared.written.WrittenObject.{WrittenObject}
use Rattle.rdf_lines.specs.declared.written.WrittenObject.TheVariants as written_object
use Rattle.rdf_lines.specs.declared.written.WrittenStatement.{WrittenStatement}

unfoldable pub first_is : ℕ → List ℕ → Bool
first_is wanted [] = false
first_is wanted (c ∷ _) = c == wanted

abbrev pub skip_white : List ℕ → List ℕ
skip_white cs = skip is_white cs

-- ---- blank labels

-- behind `_:`
unfoldable pub label_end_at : List ℕ → Option (List ℕ)
label_end_at [] = None
label_end_at (c ∷ cs) = if is_label_start c then Some (dotted_at (one_of is_label_part) cs) else None

-- the text of a name, and what follows it
unfoldable pub name_at : (List ℕ → Option (List ℕ)) → List ℕ → Option (List ℕ × List ℕ)
name_at end_at cs = do
  rest ← end_at cs
  Some (encode_utf8_all (between cs rest), rest)

unfoldable pub label_at : List ℕ → Option (List ℕ × List ℕ)
label_at cs = do
  colon ← expect 95 cs
  name ← expect 58 colon
  name_at label_end_at name

-- ---- tags

unfoldable pub tag_at : List ℕ → Option (List ℕ × List ℕ)
tag_at cs = do
  name ← expect 64 cs
  name_at tag_end_at name

-- ---- terms

unfoldable pub node_at : List ℕ → Option (WrittenNode × List ℕ)
node_at cs =
    if first_is 60 cs then (do
      iri ← iri_at cs
      Some (written.Iri iri.0, iri.1))
    else (do
      label ← label_at cs
      Some (written.Label label.0, label.1))

unfoldable pub tagged_literal : List ℕ → List ℕ → Option LiteralParts
tagged_literal lexical tag = if is_tag tag then Some (tagged lexical tag) else None

-- behind the string and a gap
unfoldable pub tagged_at : List ℕ → List ℕ → Option (WrittenObject × List ℕ)
tagged_at lexical cs = do
  tag ← tag_at cs
  literal ← tagged_literal lexical tag.0
  Some (written_object.Literal literal, tag.1)

unfoldable pub typed_at : List ℕ → List ℕ → Option (WrittenObject × List ℕ)
typed_at lexical cs = do
  one ← expect 94 cs
  both ← expect 94 one
  datatype ← iri_at (skip_white both)
  Some (written_object.Typed lexical datatype.0, datatype.1)

-- behind the string, and behind it and a gap
unfoldable pub suffix_at : List ℕ → List ℕ → List ℕ → Option (WrittenObject × List ℕ)
suffix_at lexical after suffix =
    if first_is 64 suffix then tagged_at lexical suffix
    else if first_is 94 suffix then typed_at lexical suffix
    else Some (written_object.Literal (typed lexical xsd_string), after)

unfoldable pub literal_at : List ℕ → Option (WrittenObject × List ℕ)
literal_at cs = do
  text ← quoted_at 34 cs
  suffix_at text.0 text.1 (skip_white text.1)

unfoldable pub object_at : List ℕ → Option (WrittenObject × List ℕ)
object_at cs =
    if first_is 34 cs then literal_at cs
    else (do
      place ← node_at cs
      Some (written_object.Node place.0, place.1))

abbrev pub may_name_graph : LineFormat → Bool
may_name_graph NTriples = false
may_name_graph NQuads = true

unfoldable pub begins_node : List ℕ → Bool
begins_node cs = first_is 60 cs || first_is 95 cs

unfoldable pub graph_at : LineFormat → List ℕ → Option (Option WrittenNode × List ℕ)
graph_at format cs =
    if may_name_graph format && begins_node cs then (do
      place ← node_at cs
      Some (Some place.0, place.1))
    else Some (None, cs)

-- ---- lines

unfoldable pub is_empty_or_comment : List ℕ → Bool
is_empty_or_comment [] = true
is_empty_or_comment (c ∷ _) = c == 35

unfoldable pub is_end : List ℕ → Bool
is_end cs = is_empty_or_comment (skip_white cs)

-- the statement's dot, and the end of the line
unfoldable pub stops_at : List ℕ → Bool
stops_at [] = false
stops_at (c ∷ cs) = (c == 46) && is_end cs

unfoldable pub statement_at : LineFormat → List ℕ → Option WrittenStatement
statement_at format cs = do
  subject ← node_at (skip_white cs)
  predicate ← iri_at (skip_white subject.1)
  object ← object_at (skip_white predicate.1)
  graph ← graph_at format (skip_white object.1)
  if stops_at (skip_white graph.1) then Some (record { subject = subject.0; predicate = predicate.0; object = object.0; graph = graph.0 }) else None

-- the same in two steps, as the code takes them: the subject and the predicate, then the object and the graph label up to the end

unfoldable pub front_at : List ℕ → Option (WrittenNode × List ℕ × List ℕ)
front_at cs = do
  subject ← node_at (skip_white cs)
  predicate ← iri_at (skip_white subject.1)
  Some (subject.0, predicate.0, predicate.1)

unfoldable pub back_at : LineFormat → List ℕ → Option (WrittenObject × Option WrittenNode)
back_at format cs = do
  object ← object_at (skip_white cs)
  graph ← graph_at format (skip_white object.1)
  if stops_at (skip_white graph.1) then Some (object.0, graph.0) else None
