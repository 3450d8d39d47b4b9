-- Statements as they stand in their lines: what is read of their parts.
use Rattle.std.proofs.Common.{◌≡◌, ◌∙◌, ap, refl, sym, ℕ, Bool, true, false, cond, ◌&&◌, List, [], ◌∷◌, ◌++◌, codes, append_assoc, arith, Option, Some, None, Ok, IfSome, chars, IsUtf8}
use Rattle.std.proofs.lemmas.Grind.{common_steps}
use Rattle.rdf_terms.specs.Reading.{◌>>=◌, iri_at}
use Rattle.rdf_terms.specs.TermText.{term_text}
use Rattle.rdf_terms.specs.declared.term.Term.{Term}
use Rattle.rdf_terms.specs.declared.term.Term.TheVariants as term
use Rattle.rdf_terms.specs.declared.quad.Quad.{Quad}
use Rattle.rdf_lines.specs.Inside.Slices.{AreSlices, IsGraphSlice, IsNodeSlice, IsObjectSlice, ReadsBack, ReadsFront, ReadsGraph, ReadsIri, ReadsLiteral, ReadsNode, ReadsObject, ReadsStatement, graph_slice_text, labels_in_graph_slice, labels_in_slice, slice_text}
use Rattle.rdf_lines.specs.Labels.{all_noted, graph_in, labels_in_graph, labels_in_object, labels_in, labels_of, number_of, object_in, quad_in, term_in}
use Rattle.rdf_lines.specs.Line.{LineSays}
use Rattle.rdf_lines.specs.QuadText.{graph_text, quad_text}
use Rattle.rdf_lines.specs.Reading.{back_at, begins_node, first_is, front_at, graph_at, is_end, label_at, literal_at, may_name_graph, node_at, object_at, skip_white, statement_at, stops_at}
use Rattle.rdf_lines.specs.Written.{absolute_graph, absolute_iri, absolute_node, absolute_object, absolute_statement}
use Rattle.rdf_lines.specs.declared.format.LineFormat.{LineFormat}
use Rattle.rdf_lines.specs.declared.slices.StatementSlices.{StatementSlices}
use Rattle.rdf_lines.specs.declared.slices.TermSlice.{TermSlice}
use Rattle.rdf_lines.specs.declared.statement.Node.{Node}
use Rattle.rdf_lines.specs.declared.statement.Node.TheVariants as node
use Rattle.rdf_lines.specs.declared.statement.Object.{Object}
use Rattle.rdf_lines.specs.declared.statement.Object.TheVariants as object
use Rattle.rdf_lines.specs.declared.statement.Statement.{Statement}
use Rattle.rdf_lines.specs.declared.written.WrittenNode.{WrittenNode}
use Rattle.rdf_lines.specs.declared.written.WrittenNode.TheVariants as written
use Rattle.rdf_lines.specs.declared.written.WrittenObject.{WrittenObject}
use Rattle.rdf_lines.specs.declared.written.WrittenStatement.{WrittenStatement}
use Rattle.rdf_lines.specs.declared.written.WrittenObject.TheVariants as written_object
use Rattle.rdf_lines.proofs.AnswerLemmas.{tells_statement}
use Rattle.rdf_lines.proofs.LabelLemmas.{quad_in-by_places}
use Rattle.rdf_lines.proofs.StatementSteps.{both_absolute, both_read}

-- ---- nodes

iri_node_at : (cs iri rest : List ℕ) → first_is 60 cs ≡ true → iri_at cs ≡ Some (iri, rest) → node_at cs ≡ Some (written.Iri iri, rest)
unfolding node_at
iri_node_at cs iri rest h e = rw (h, e) refl

label_node_at : (cs text rest : List ℕ) → first_is 60 cs ≡ false → label_at cs ≡ Some (text, rest) → node_at cs ≡ Some (written.Label text, rest)
unfolding node_at
label_node_at cs text rest h e = rw (h, e) refl

pub iri_node : (cs text rest : List ℕ) (slice : TermSlice) → first_is 60 cs ≡ true → ReadsIri cs text rest → labels_in_slice slice ≡ [] → ((known : List (List ℕ)) → slice_text known slice ≡ text)
    → ReadsNode cs slice rest
iri_node cs text rest slice h r none whole =
    let iri = r.0 in
    (written.Iri iri, node.Iri iri, iri_node_at cs iri rest h r.2, ap (λ (o : Option (List ℕ)). o >>= (λ named. Some (node.Iri named))) r.3, (none, λ known. whole known ∙ r.4))

pub label_node : (cs text rest : List ℕ) (slice : TermSlice) → first_is 60 cs ≡ false → label_at cs ≡ Some (text, rest) → labels_in_slice slice ≡ text ∷ []
    → ((known : List (List ℕ)) → slice_text known slice ≡ term_text (term.Blank (number_of known text))) → ReadsNode cs slice rest
label_node cs text rest slice h e own whole = (written.Label text, node.Label text, label_node_at cs text rest h e, refl, (own, whole))

-- ---- objects

literal_object_at : (cs rest : List ℕ) (w : WrittenObject) → first_is 34 cs ≡ true → literal_at cs ≡ Some (w, rest) → object_at cs ≡ Some (w, rest)
unfolding object_at
literal_object_at cs rest w h e = rw h e

node_object_at : (cs rest : List ℕ) (w : WrittenNode) → first_is 34 cs ≡ false → node_at cs ≡ Some (w, rest) → object_at cs ≡ Some (written_object.Node w, rest)
unfolding object_at
node_object_at cs rest w h e = rw (h, e) refl

pub literal_object : (cs text rest : List ℕ) (slice : TermSlice) → first_is 34 cs ≡ true → ReadsLiteral cs text rest → labels_in_slice slice ≡ [] → ((known : List (List ℕ)) → slice_text known slice ≡ text)
    → ReadsObject cs slice rest
literal_object cs text rest slice h r none whole = (r.0, object.Literal r.1, literal_object_at cs rest r.0 h r.2, r.3, (none, λ known. whole known ∙ r.4))

pub node_object : (cs rest : List ℕ) (slice : TermSlice) → first_is 34 cs ≡ false → ReadsNode cs slice rest → ReadsObject cs slice rest
node_object cs rest slice h r =
    (written_object.Node r.0, object.Node r.1, node_object_at cs rest r.0 h r.2, ap (λ (o : Option Node). o >>= (λ named. Some (object.Node named))) r.3, r.4)

pub node_objects : (cs : List ℕ) (read : Option (TermSlice × List ℕ)) → first_is 34 cs ≡ false → IfSome read (λ r. ReadsNode cs r.0 r.1) → IfSome read (λ r. ReadsObject cs r.0 r.1)
node_objects cs None h r = tt
node_objects cs (Some read) h r = node_object cs read.1 read.0 h r

-- ---- graph labels

no_graph_at : (format : LineFormat) (cs : List ℕ) → (may_name_graph format && begins_node cs) ≡ false → graph_at format cs ≡ Some (None, cs)
unfolding graph_at
no_graph_at format cs h = rw h refl

some_graph_at : (format : LineFormat) (cs rest : List ℕ) (w : WrittenNode) → (may_name_graph format && begins_node cs) ≡ true → node_at cs ≡ Some (w, rest) → graph_at format cs ≡ Some (Some w, rest)
unfolding graph_at
some_graph_at format cs rest w h e = rw (h, e) refl

pub no_graph : (format : LineFormat) (cs : List ℕ) → (may_name_graph format && begins_node cs) ≡ false → ReadsGraph format cs None cs
no_graph format cs h = (None, None, no_graph_at format cs h, refl, tt)

pub some_graph : (format : LineFormat) (cs rest : List ℕ) (slice : TermSlice) → (may_name_graph format && begins_node cs) ≡ true → ReadsNode cs slice rest → ReadsGraph format cs (Some slice) rest
some_graph format cs rest slice h r =
    (Some r.0, Some r.1, some_graph_at format cs rest r.0 h r.2, ap (λ (o : Option Node). o >>= (λ named. Some (Some named))) r.3, r.4)

-- ---- statements

front_from : (cs iri after rest : List ℕ) (w : WrittenNode) → node_at (skip_white cs) ≡ Some (w, after) → iri_at (skip_white after) ≡ Some (iri, rest) → front_at cs ≡ Some (w, iri, rest)
unfolding front_at
front_from cs iri after rest w e h = rw (e, h) refl

abbrev two : {A B : Type 0} → A → B → Option (A × B)
two x y = Some (x, y)

absolute_two : {A B : Type 0} (a : Option A) (b : Option B) (x : A) (y : B) → a ≡ Some x → b ≡ Some y → (a >>= (λ p. b >>= (λ q. two p q))) ≡ two x y
absolute_two a b x y e h = rw (e, h) refl

pub front_slices : (cs after text rest : List ℕ) (slice : TermSlice) → ReadsNode (skip_white cs) slice after → ReadsIri (skip_white after) text rest → ReadsFront cs slice text rest
front_slices cs after text rest slice n i =
    (n.0, n.1, i.0, front_from cs i.0 after rest n.0 n.2 i.2, absolute_two (absolute_node n.0) (absolute_iri i.0) n.1 i.0 n.3 i.3, n.4, i.4)

back_from : (format : LineFormat) (cs after rest : List ℕ) (w : WrittenObject) (g : Option WrittenNode) → object_at (skip_white cs) ≡ Some (w, after) → graph_at format (skip_white after) ≡ Some (g, rest)
    → stops_at (skip_white rest) ≡ true → back_at format cs ≡ Some (w, g)
unfolding back_at
back_from format cs after rest w g e h stop = rw (e, h, stop) refl

pub back_slices : (format : LineFormat) (cs after rest : List ℕ) (slice : TermSlice) (graph : Option TermSlice) → ReadsObject (skip_white cs) slice after → ReadsGraph format (skip_white after) graph rest
    → stops_at (skip_white rest) ≡ true → ReadsBack format cs slice graph
back_slices format cs after rest slice graph o g stop =
    (o.0, g.0, o.1, g.1, back_from format cs after rest o.0 g.0 o.2 g.2 stop, absolute_two (absolute_object o.0) (absolute_graph g.0) o.1 g.1 o.3 g.3, o.4, g.4)

pub both_slices : (format : LineFormat) (cs rest : List ℕ) (slices : StatementSlices) → ReadsFront cs slices.subject slices.predicate.now rest → ReadsBack format rest slices.object slices.graph
    → ReadsStatement format cs slices
both_slices format cs rest slices f b =
    let w : WrittenStatement = record { subject = f.0; predicate = f.2; object = b.0; graph = b.1 } in (
      w,
      record { subject = f.1; predicate = f.2; object = b.2; graph = b.3 },
      sym (both_read format cs f.0 f.2 rest b.0 b.1 (sym f.3) (sym b.4)),
      sym (both_absolute w f.1 f.2 b.2 b.3 (sym f.4) (sym b.5)),
      record { subject = f.5; predicate = f.6; object = b.6; graph = b.7 },
    )

-- what a line says of which these are the slices
pub said_slices : (format : LineFormat) (line text cs : List ℕ) → IsUtf8 line → text ≡ line → cs ≡ chars text → is_end cs ≡ false → (read : Option StatementSlices) → IfSome read (ReadsStatement format cs)
    → IfSome read (λ slices. (s : Statement) × LineSays format line (Ok (Some s)) × AreSlices slices s)
said_slices format line text cs utf8 is begins not None h = tt
said_slices format line text cs utf8 is begins not (Some slices) h =
    (h.1, tells_statement format line text h.0 h.1 utf8 is (ap is_end (sym begins) ∙ not) (ap (statement_at format) (sym begins) ∙ h.2) h.3, h.4)

-- ---- the line of a statement's quad

pub graph_labels : (slice : Option TermSlice) (graph : Option Node) → IsGraphSlice slice graph → labels_in_graph_slice slice ≡ labels_in_graph graph
graph_labels None None h = refl
graph_labels (Some s) (Some n) h = h.0
graph_labels None (Some n) h = absurd h
graph_labels (Some s) None h = absurd h

graph_texts : (known : List (List ℕ)) (slice : Option TermSlice) (graph : Option Node) → IsGraphSlice slice graph → graph_slice_text known slice ≡ graph_text (graph_in known graph)
graph_texts known None None h = refl
graph_texts known (Some s) (Some n) h = ap (λ (t : List ℕ). t ++ codes " ") (h.1 known)
graph_texts known None (Some n) h = absurd h
graph_texts known (Some s) None h = absurd h

module _ (slices : StatementSlices) (s : Statement) (are : AreSlices slices s) (known one two whole : List (List ℕ)) (first : one ≡ all_noted known (labels_in_slice slices.subject))
    (second : two ≡ all_noted one (labels_in_slice slices.object)) (third : whole ≡ all_noted two (labels_in_graph_slice slices.graph)) where
  quad : (whole ≡ all_noted known (labels_of s))
      × ◌≡◌ {A = Quad} (record { graph = graph_in whole s.graph; subject = term_in one s.subject; predicate = term.Iri s.predicate; object = object_in two s.object }) (quad_in whole s)
  quad =
      quad_in-by_places known one two whole s (first ∙ ap (all_noted known) are.subject.0) (second ∙ ap (all_noted one) are.object.0) (third ∙ ap (all_noted two) (graph_labels slices.graph s.graph are.graph))
      refl refl refl

  pub slices_labels : whole ≡ all_noted known (labels_of s)
  slices_labels = quad.0

  pub slices_line : slice_text one slices.subject ++ codes " " ++ slices.predicate.now ++ codes " " ++ slice_text two slices.object ++ codes " " ++ graph_slice_text whole slices.graph ++ codes ".\n"
      ≡ quad_text (quad_in whole s)
  slices_line =
      (λ i. are.subject.1 one i ++ codes " " ++ are.predicate i ++ codes " " ++ are.object.1 two i ++ codes " " ++ graph_texts whole slices.graph s.graph are.graph i ++ codes ".\n") ∙ ap quad_text quad.1

-- four parts, one appended behind the other
pub in_parts : (start a b c d e one two three four five : List ℕ) → one ≡ start ++ (a ++ codes " ") → two ≡ one ++ (b ++ codes " ") → three ≡ two ++ (c ++ codes " ") → four ≡ three ++ d → five ≡ four ++ e
    → five ≡ start ++ (a ++ codes " " ++ b ++ codes " " ++ c ++ codes " " ++ d ++ e)
in_parts start a b c d e one two three four five p q r s t =
    t ∙ ap (λ (l : List ℕ). l ++ e) (s ∙ ap (λ (l : List ℕ). l ++ d) (r ∙ ap (λ (l : List ℕ). l ++ (c ++ codes " ")) (q ∙ ap (λ (l : List ℕ). l ++ (b ++ codes " ")) p)))
    ∙ regroup
  where
    regroup : ((((start ++ (a ++ codes " ")) ++ (b ++ codes " ")) ++ (c ++ codes " ")) ++ d) ++ e ≡ start ++ (a ++ codes " " ++ b ++ codes " " ++ c ++ codes " " ++ d ++ e)
    regroup = grind (arith, common_steps)
