-- A whole line: what is read is its reading, and its reading is read.
use Rattle.std.proofs.Common.{◌≡◌, ◌⊎◌, ℕ, true, false, eqb, ◌==◌, List, [], ◌∷◌, Option, Some, None, refl, sym, ap, subst, ◌∙◌, inl, inr}
use Rattle.std.specs.Prelude.{option_map, if◌then◌else◌}
use Rattle.std.proofs.lemmas.Bool.{cases_Bool, eqb-true, eq-eqb, and_parts, or_left, or_right, true≢false}
use Rattle.rdf_terms.specs.Quoted.{IsIriRef}
use Rattle.rdf_terms.specs.Reading.{◌>>=◌, iri_at}
use Rattle.rdf_terms.proofs.CallerLemmas.{bind_some, some_is, some_pair, none_is, guard_some}
use Rattle.rdf_lines.specs.declared.format.LineFormat.{LineFormat}
use Rattle.rdf_lines.specs.declared.format.LineFormat.TheVariants.{NTriples, NQuads}
use Rattle.rdf_lines.specs.declared.written.WrittenNode.{WrittenNode}
use Rattle.rdf_lines.specs.declared.written.WrittenStatement.{WrittenStatement}
use Rattle.rdf_lines.specs.declared.statement.Node.{Node}
use Rattle.rdf_lines.specs.declared.statement.Object.{Object}
use Rattle.rdf_lines.specs.declared.statement.Statement.{Statement}
use Rattle.rdf_lines.specs.Reading.{first_is, skip_white, node_at, object_at, begins_node, graph_at, is_empty_or_comment, is_end, stops_at, statement_at}
use Rattle.rdf_lines.specs.Grammar.{is_white, HasNode, HasGraph, EmptyOrComment, Ends, IsStatement, Holds}
use Rattle.rdf_lines.proofs.LinePartLemmas.{NotWhite, Begins, iri_reader, gap_skip, skip_gap, skip_twice, black_begins, next_sound, next_complete, first_begins, first_other, differs}
use Rattle.rdf_lines.proofs.TermLemmas.{meant_node, written_node, meant-written, meant_object, NoMark, node_sound, node_begins, node_complete, object_sound, object_complete}

-- ---- the end of a line

empty_sound : (cs : List ℕ) → is_empty_or_comment cs ≡ true → EmptyOrComment cs
unfolding is_empty_or_comment
empty_sound [] e = tt
empty_sound (c ∷ cs) e = eqb-true c 35 e

empty_complete : (cs : List ℕ) → EmptyOrComment cs → is_empty_or_comment cs ≡ true
unfolding is_empty_or_comment
empty_complete [] h = refl
empty_complete (c ∷ cs) h = eq-eqb c 35 h

end_white : (cs : List ℕ) → EmptyOrComment cs → NotWhite cs
end_white [] h = tt
end_white (c ∷ cs) h = ap is_white h

pub end_sound : (cs : List ℕ) → is_end cs ≡ true → Ends cs
unfolding is_end
end_sound cs e = (skip_white cs, gap_skip cs, empty_sound (skip_white cs) e)

end_complete : (cs : List ℕ) → Ends cs → is_end cs ≡ true
unfolding is_end
end_complete cs h = ap is_empty_or_comment (skip_gap cs h.0 h.1 (end_white h.0 h.2)) ∙ empty_complete h.0 h.2

stops_sound : (cs : List ℕ) → stops_at cs ≡ true → (after : List ℕ) × (cs ≡ 46 ∷ after) × Ends after
unfolding stops_at
stops_sound [] e = absurd (true≢false (sym e))
stops_sound (c ∷ cs) e =
    let p = and_parts (c == 46) (is_end cs) e in
    (cs, ap (λ (x : ℕ). x ∷ cs) (eqb-true c 46 p.0), end_sound cs p.1)

stops_complete : (after : List ℕ) → Ends after → stops_at (46 ∷ after) ≡ true
unfolding stops_at
stops_complete after h = end_complete after h

-- ---- the graph label

-- the graph label that is written, and the writing of one
abbrev pub meant_graph : Option WrittenNode → Option Node
meant_graph g = option_map meant_node g

abbrev written_graph : Option Node → Option WrittenNode
written_graph g = option_map written_node g

meant_written_graph : (g : Option Node) → meant_graph (written_graph g) ≡ g
meant_written_graph None = refl
meant_written_graph (Some v) = ap (λ (x : Node). Some x) (meant-written v)

graph_none : (format : LineFormat) (cs : List ℕ) → begins_node cs ≡ false → graph_at format cs ≡ Some (None, cs)
unfolding graph_at
graph_none NTriples cs h = refl
graph_none NQuads cs h = rw h refl

graph_some : (cs : List ℕ) (w : WrittenNode) (rest : List ℕ) → begins_node cs ≡ true → node_at cs ≡ Some (w, rest) → graph_at NQuads cs ≡ Some (Some w, rest)
unfolding graph_at
graph_some cs w rest h e = rw (h, e) refl

-- a graph label, or none, and the same gap behind it
abbrev GraphRead : LineFormat → List ℕ → Option WrittenNode → List ℕ → Type 0
GraphRead format line g rest = (after : List ℕ) × HasGraph format line (meant_graph g) after × (skip_white rest ≡ skip_white after)

abbrev read : Option WrittenNode → List ℕ → Option (Option WrittenNode × List ℕ)
read g rest = Some (g, rest)

no_graph : (format : LineFormat) (line : List ℕ) (g : Option WrittenNode) (rest : List ℕ) → read None (skip_white line) ≡ read g rest → GraphRead format line g rest
no_graph format line g rest e =
    let p = some_pair None g (skip_white line) rest e in
    subst (λ (o : Option WrittenNode). GraphRead format line o rest) p.0 (line, refl, ap skip_white (sym p.1) ∙ skip_twice line)

graph_sound : (format : LineFormat) (line : List ℕ) (g : Option WrittenNode) (rest : List ℕ) → graph_at format (skip_white line) ≡ Some (g, rest) → GraphRead format line g rest
unfolding graph_at
graph_sound NTriples line g rest e = no_graph NTriples line g rest e
graph_sound NQuads line g rest e =
    elim (cases_Bool (begins_node (skip_white line))) [
      | inl is ↦
          let b = bind_some (node_at (skip_white line)) _ (g, rest) (rw is at e) in
          let p = some_pair (Some b.0.0) g b.0.1 rest b.2 in
          let n : HasNode line (meant_node b.0.0) rest = subst (λ (t : List ℕ). HasNode line (meant_node b.0.0) t) p.1 (node_sound line b.0.0 b.0.1 b.1) in
          subst (λ (o : Option WrittenNode). GraphRead NQuads line o rest) p.0 (rest, n, refl)
      | inr not ↦ no_graph NQuads line g rest (rw not at e)
    ]

dot_no_node : (cs : List ℕ) → Begins 46 cs → begins_node cs ≡ false
unfolding begins_node
dot_no_node cs b = rw (first_other 60 46 cs (differs 46 60 refl) b, first_other 95 46 cs (differs 46 95 refl) b) refl

node_is_node : (cs : List ℕ) → Begins 60 cs ⊎ Begins 95 cs → begins_node cs ≡ true
unfolding begins_node
node_is_node cs (inl b) = or_left (first_is 60 cs) (first_is 95 cs) (first_begins 60 cs b)
node_is_node cs (inr b) = or_right (first_is 60 cs) (first_is 95 cs) (first_begins 95 cs b)

graph_complete : (format : LineFormat) (line : List ℕ) (g : Option Node) (after : List ℕ) → HasGraph format line g after → Begins 46 (skip_white after)
    → (rest : List ℕ) × (graph_at format (skip_white line) ≡ Some (written_graph g, rest)) × (skip_white rest ≡ skip_white after)
graph_complete format line None after h dot =
    let at : Begins 46 (skip_white line) = (dot.0, ap skip_white h ∙ dot.1) in
    (skip_white line, graph_none format (skip_white line) (dot_no_node (skip_white line) at), skip_twice line ∙ ap skip_white h)
graph_complete NTriples line (Some v) after h dot = absurd h
graph_complete NQuads line (Some v) after h dot =
    (after, graph_some (skip_white line) (written_node v) after (node_is_node (skip_white line) (node_begins line v after h)) (node_complete line v after h), refl)

no_mark_at : (line : List ℕ) (c : ℕ) → Begins c (skip_white line) → eqb c 64 ≡ false → eqb c 94 ≡ false → NoMark line
no_mark_at line c b h k = (first_other 64 c (skip_white line) (differs c 64 h) b, first_other 94 c (skip_white line) (differs c 94 k) b)

-- neither a graph label nor the dot goes on with a literal
graph_no_mark : (format : LineFormat) (line : List ℕ) (g : Option Node) (after : List ℕ) → HasGraph format line g after → Begins 46 (skip_white after) → NoMark line
graph_no_mark format line None after h dot = no_mark_at line 46 (dot.0, ap skip_white h ∙ dot.1) refl refl
graph_no_mark NTriples line (Some v) after h dot = absurd h
graph_no_mark NQuads line (Some v) after h dot =
    elim (node_begins line v after h) [
      | inl b ↦ no_mark_at line 60 b refl refl
      | inr b ↦ no_mark_at line 95 b refl refl
    ]

-- ---- statements

-- what a writing means
abbrev pub meant : WrittenStatement → Statement
meant w = record { subject = meant_node w.subject; predicate = w.predicate; object = meant_object w.object; graph = meant_graph w.graph }

pub statement_sound : (format : LineFormat) (cs : List ℕ) (w : WrittenStatement) → statement_at format cs ≡ Some w → IsStatement format cs (meant w)
unfolding statement_at
statement_sound format cs w e =
    let s = bind_some (node_at (skip_white cs)) _ w e in
    let p = bind_some (iri_at (skip_white s.0.1)) _ w s.2 in
    let o = bind_some (object_at (skip_white p.0.1)) _ w p.2 in
    let g = bind_some (graph_at format (skip_white o.0.1)) _ w o.2 in
    let made : WrittenStatement = record { subject = s.0.0; predicate = p.0.0; object = o.0.0; graph = g.0.0 } in
    let stop = guard_some (stops_at (skip_white g.0.1)) (Some made) w g.2 in
    let d = stops_sound (skip_white g.0.1) stop.0 in
    let graph = graph_sound format o.0.1 g.0.0 g.0.1 g.1 in
    subst (λ (x : WrittenStatement). IsStatement format cs (meant x)) (some_is made w stop.1) (record {
      after_subject = s.0.1;
      after_predicate = p.0.1;
      after_object = o.0.1;
      after_graph = graph.0;
      before_dot = skip_white graph.0;
      after_dot = d.0;
      subject = node_sound cs s.0.0 s.0.1 s.1;
      predicate = next_sound IsIriRef iri_at iri_reader s.0.1 p.0.0 p.0.1 p.1;
      object = object_sound p.0.1 o.0.0 o.0.1 o.1;
      graph = graph.1;
      gap = gap_skip graph.0;
      dot = sym graph.2 ∙ d.1;
      end = d.2;
    })

-- a statement is read as one of its writings
pub statement_complete : (format : LineFormat) (cs : List ℕ) (s : Statement) → IsStatement format cs s → (w : WrittenStatement) × (statement_at format cs ≡ Some w) × (meant w ≡ s)
unfolding statement_at
statement_complete format cs s h =
    let here : Begins 46 h.before_dot = (h.after_dot, h.dot) in
    let at_dot : skip_white h.after_graph ≡ 46 ∷ h.after_dot = skip_gap h.after_graph h.before_dot h.gap (black_begins 46 h.before_dot refl here) ∙ h.dot in
    let dot : Begins 46 (skip_white h.after_graph) = (h.after_dot, at_dot) in
    let subject = node_complete cs s.subject h.after_subject h.subject in
    let predicate = next_complete IsIriRef iri_at iri_reader h.after_subject s.predicate h.after_predicate h.predicate in
    let object = object_complete h.after_predicate s.object h.after_object h.object (graph_no_mark format h.after_object s.graph h.after_graph h.graph dot) in
    let graph = graph_complete format h.after_object s.graph h.after_graph h.graph dot in
    let stops : stops_at (skip_white graph.0) ≡ true = ap stops_at (graph.2 ∙ at_dot) ∙ stops_complete h.after_dot h.end in
    let made : WrittenStatement = record { subject = written_node s.subject; predicate = s.predicate; object = object.0; graph = written_graph s.graph } in
    let view : Node → Object → Option Node → Statement = λ a b c. record { subject = a; predicate = s.predicate; object = b; graph = c } in (
      made,
      rw (subject, predicate, object.1, graph.1, stops) refl,
      ap (λ (a : Node). view a (meant_object object.0) (meant_graph (written_graph s.graph))) (meant-written s.subject)
          ∙ ap (λ (b : Object). view s.subject b (meant_graph (written_graph s.graph))) object.2
          ∙ ap (λ (c : Option Node). view s.subject s.object c) (meant_written_graph s.graph),
    )

-- a statement's line doesn't end before it
no_end : (cs : List ℕ) (c : ℕ) → Begins c (skip_white cs) → eqb c 35 ≡ false → is_end cs ≡ false
unfolding is_end is_empty_or_comment
no_end cs c b h = rw b.1 h

statement_no_end : (cs : List ℕ) (v : Node) (rest : List ℕ) → HasNode cs v rest → is_end cs ≡ false
statement_no_end cs v rest n =
    elim (node_begins cs v rest n) [
      | inl b ↦ no_end cs 60 b refl
      | inr b ↦ no_end cs 95 b refl
    ]

-- ---- lines

-- nothing, or a statement
abbrev pub line_at : LineFormat → List ℕ → Option (Option WrittenStatement)
line_at format cs = if is_end cs then Some None else (statement_at format cs >>= λ w. Some (Some w))

abbrev pub meant_line : Option WrittenStatement → Option Statement
meant_line r = option_map meant r

pub line_sound : (format : LineFormat) (cs : List ℕ) (r : Option WrittenStatement) → line_at format cs ≡ Some r → Holds format cs (meant_line r)
line_sound format cs r e =
    elim (cases_Bool (is_end cs)) [
      | inl is ↦ subst (λ (x : Option WrittenStatement). Holds format cs (meant_line x)) (some_is None r (rw is at e)) (end_sound cs is)
      | inr not ↦
          let b = bind_some (statement_at format cs) (λ w. Some (Some w)) r (rw not at e) in
          subst (λ (x : Option WrittenStatement). Holds format cs (meant_line x)) (some_is (Some b.0) r b.2) (statement_sound format cs b.0 b.1)
    ]

pub line_complete : (format : LineFormat) (cs : List ℕ) (r : Option Statement) → Holds format cs r → (w : Option WrittenStatement) × (line_at format cs ≡ Some w) × (meant_line w ≡ r)
line_complete format cs None h = (None, rw (end_complete cs h) refl, refl)
line_complete format cs (Some s) h =
    let c = statement_complete format cs s h in
    (Some c.0, rw (statement_no_end cs s.subject h.after_subject h.subject, c.1) refl, ap (λ (x : Statement). Some x) c.2)

-- a line has one reading at most
pub one_reading : (format : LineFormat) (cs : List ℕ) (r s : Option Statement) → Holds format cs r → Holds format cs s → r ≡ s
one_reading format cs r s h k =
    let a = line_complete format cs r h in
    let b = line_complete format cs s k in
    sym a.2 ∙ ap meant_line (some_is a.0 b.0 (sym a.1 ∙ b.1)) ∙ b.2

pub no_reading : (format : LineFormat) (cs : List ℕ) → line_at format cs ≡ None → (r : Option Statement) → Holds format cs r → ⊥
no_reading format cs e r h = let a = line_complete format cs r h in none_is a.0 (sym e ∙ a.1)
