-- Whether each IRI of a statement has a scheme.
use Rattle.std.proofs.Common.{◌≡◌, ℕ, true, List, Option, Some, None, refl, sym, ap, subst, ◌∙◌, inl, inr}
use Rattle.rdf_terms.specs.Iri.{has_scheme}
use Rattle.std.proofs.lemmas.Bool.{cases_Bool}
use Rattle.rdf_terms.specs.Reading.{expect, iri_at, quoted_at}
use Rattle.rdf_terms.specs.Literal.{LiteralParts, xsd_string, lang_string, is_tag, tagged}
use Rattle.rdf_terms.proofs.CallerLemmas.{bind_some, some_is, some_pair, none_is, guard_some}
use Rattle.rdf_lines.specs.declared.written.WrittenNode.{WrittenNode}
use Rattle.rdf_lines.specs.declared.written.WrittenNode.TheVariants as written
use Rattle.rdf_lines.specs.declared.written.WrittenObject.{WrittenObject}
use Rattle.rdf_lines.specs.declared.written.WrittenObject.TheVariants as written_object
use Rattle.rdf_lines.specs.declared.written.WrittenStatement.{WrittenStatement}
use Rattle.rdf_lines.specs.declared.statement.Node.{Node}
use Rattle.rdf_lines.specs.declared.statement.Node.TheVariants as node
use Rattle.rdf_lines.specs.declared.statement.Object.{Object}
use Rattle.rdf_lines.specs.declared.statement.Object.TheVariants as object
use Rattle.rdf_lines.specs.declared.statement.Statement.{Statement}
use Rattle.rdf_lines.specs.declared.format.LineFormat.{LineFormat}
use Rattle.rdf_lines.specs.Reading.{first_is, skip_white, tag_at, node_at, tagged_literal, tagged_at, typed_at, suffix_at, literal_at, object_at, graph_at, stops_at, statement_at}
use Rattle.rdf_lines.specs.Grammar.{typed}
use Rattle.rdf_lines.specs.Written.{absolute_iri, absolute_node, absolute_object, absolute_graph, absolute_statement}
use Rattle.rdf_lines.specs.Line.{IsAbsoluteNode, IsAbsoluteObject, IsAbsoluteGraph, IsAbsolute}
use Rattle.rdf_lines.proofs.TermLemmas.{meant_node, meant_object}
use Rattle.rdf_lines.proofs.LineLemmas.{meant_graph, meant}

iri_sound : (text iri : List ℕ) → absolute_iri text ≡ Some iri → (text ≡ iri) × (has_scheme text ≡ true)
iri_sound text iri e = let g = guard_some (has_scheme text) (Some text) iri e in (some_is text iri g.1, g.0)

iri_complete : (text : List ℕ) → has_scheme text ≡ true → absolute_iri text ≡ Some text
iri_complete text h = rw h refl

node_sound : (w : WrittenNode) (v : Node) → absolute_node w ≡ Some v → (meant_node w ≡ v) × IsAbsoluteNode (meant_node w)
node_sound (written.Label text) v e = (some_is (node.Label text) v e, tt)
node_sound (written.Iri text) v e =
    let b = bind_some (absolute_iri text) _ v e in
    let s = iri_sound text b.0 b.1 in
    (ap (λ (t : List ℕ). node.Iri t) s.0 ∙ some_is (node.Iri b.0) v b.2, s.1)

node_complete : (w : WrittenNode) → IsAbsoluteNode (meant_node w) → absolute_node w ≡ Some (meant_node w)
node_complete (written.Label text) h = refl
node_complete (written.Iri text) h = rw (iri_complete text h) refl

-- A literal that stands already has a datatype with a scheme.
abbrev pub Ready : WrittenObject → Type 0
Ready (written_object.Node place) = Unit {0}
Ready (written_object.Literal literal) = has_scheme literal.datatype ≡ true
Ready (written_object.Typed lexical datatype) = Unit {0}

object_sound : (w : WrittenObject) (v : Object) → Ready w → absolute_object w ≡ Some v → (meant_object w ≡ v) × IsAbsoluteObject (meant_object w)
object_sound (written_object.Node place) v ready e =
    let b = bind_some (absolute_node place) _ v e in
    let s = node_sound place b.0 b.1 in
    (ap (λ (x : Node). object.Node x) s.0 ∙ some_is (object.Node b.0) v b.2, s.1)
object_sound (written_object.Literal literal) v ready e = (some_is (object.Literal literal) v e, ready)
object_sound (written_object.Typed lexical datatype) v ready e =
    let b = bind_some (absolute_iri datatype) _ v e in
    let s = iri_sound datatype b.0 b.1 in
    (ap (λ (t : List ℕ). object.Literal (typed lexical t)) s.0 ∙ some_is (object.Literal (typed lexical b.0)) v b.2, s.1)

object_complete : (w : WrittenObject) → IsAbsoluteObject (meant_object w) → absolute_object w ≡ Some (meant_object w)
object_complete (written_object.Node place) h = rw (node_complete place h) refl
object_complete (written_object.Literal literal) h = refl
object_complete (written_object.Typed lexical datatype) h = rw (iri_complete datatype h) refl

graph_sound : (w : Option WrittenNode) (v : Option Node) → absolute_graph w ≡ Some v → (meant_graph w ≡ v) × IsAbsoluteGraph (meant_graph w)
graph_sound None v e = (some_is None v e, tt)
graph_sound (Some place) v e =
    let b = bind_some (absolute_node place) _ v e in
    let s = node_sound place b.0 b.1 in
    (ap (λ (x : Node). Some x) s.0 ∙ some_is (Some b.0) v b.2, s.1)

graph_complete : (w : Option WrittenNode) → IsAbsoluteGraph (meant_graph w) → absolute_graph w ≡ Some (meant_graph w)
graph_complete None h = refl
graph_complete (Some place) h = rw (node_complete place h) refl

pub absolute_sound : (w : WrittenStatement) (s : Statement) → Ready w.object → absolute_statement w ≡ Some s → (meant w ≡ s) × IsAbsolute (Some (meant w))
absolute_sound w s ready e =
    let a = bind_some (absolute_node w.subject) _ s e in
    let p = bind_some (absolute_iri w.predicate) _ s a.2 in
    let o = bind_some (absolute_object w.object) _ s p.2 in
    let g = bind_some (absolute_graph w.graph) _ s o.2 in
    let subject = node_sound w.subject a.0 a.1 in
    let predicate = iri_sound w.predicate p.0 p.1 in
    let place = object_sound w.object o.0 ready o.1 in
    let graph = graph_sound w.graph g.0 g.1 in
    let made : Statement = record { subject = a.0; predicate = p.0; object = o.0; graph = g.0 } in
    let same : meant w ≡ made = cc (subject.0, predicate.0, place.0, graph.0) in
    (same ∙ some_is made s g.2, (subject.1, predicate.1, place.1, graph.1))

pub absolute_complete : (w : WrittenStatement) → IsAbsolute (Some (meant w)) → absolute_statement w ≡ Some (meant w)
absolute_complete w h =
    rw (node_complete w.subject h.0, iri_complete w.predicate h.1, object_complete w.object h.2, graph_complete w.graph h.3) refl

pub not_absolute : (w : WrittenStatement) → absolute_statement w ≡ None → IsAbsolute (Some (meant w)) → ⊥
not_absolute w e h = none_is (meant w) (sym e ∙ absolute_complete w h)

-- ---- a literal that is read has a datatype with a scheme

xsd_has_scheme : has_scheme xsd_string ≡ true
xsd_has_scheme = refl

lang_has_scheme : has_scheme lang_string ≡ true
lang_has_scheme = refl

tagged_ready : (text suffix : List ℕ) (w : WrittenObject) (rest : List ℕ) → tagged_at text suffix ≡ Some (w, rest) → Ready w
unfolding tagged_at tagged_literal
tagged_ready text suffix w rest e =
    let t = bind_some (tag_at suffix) _ (w, rest) e in
    let l = bind_some (tagged_literal text t.0.0) _ (w, rest) t.2 in
    let g = guard_some (is_tag t.0.0) (Some (tagged text t.0.0)) l.0 l.1 in
    let p = some_pair (written_object.Literal l.0) w t.0.1 rest l.2 in
    let scheme : has_scheme l.0.datatype ≡ true = ap (λ (x : LiteralParts). has_scheme x.datatype) (sym (some_is (tagged text t.0.0) l.0 g.1)) ∙ lang_has_scheme in
    subst Ready p.0 scheme

typed_ready : (text suffix : List ℕ) (w : WrittenObject) (rest : List ℕ) → typed_at text suffix ≡ Some (w, rest) → Ready w
unfolding typed_at
typed_ready text suffix w rest e =
    let a = bind_some (expect 94 suffix) _ (w, rest) e in
    let b = bind_some (expect 94 a.0) _ (w, rest) a.2 in
    let d = bind_some (iri_at (skip_white b.0)) _ (w, rest) b.2 in
    let p = some_pair (written_object.Typed text d.0.0) w d.0.1 rest d.2 in
    subst Ready p.0 tt

literal_ready : (cs : List ℕ) (w : WrittenObject) (rest : List ℕ) → literal_at cs ≡ Some (w, rest) → Ready w
unfolding literal_at suffix_at
literal_ready cs w rest e =
    let b = bind_some (quoted_at 34 cs) _ (w, rest) e in
    let text = b.0.0 in
    let after = b.0.1 in
    elim (cases_Bool (first_is 64 (skip_white after))) [
      | inl is ↦ tagged_ready text (skip_white after) w rest (rw is at b.2)
      | inr no_tag ↦
          elim (cases_Bool (first_is 94 (skip_white after))) [
            | inl is ↦ typed_ready text (skip_white after) w rest (rw (no_tag, is) at b.2)
            | inr no_type ↦
                let p = some_pair (written_object.Literal (typed text xsd_string)) w after rest (rw (no_tag, no_type) at b.2) in
                subst Ready p.0 xsd_has_scheme
          ]
    ]

object_ready : (cs : List ℕ) (w : WrittenObject) (rest : List ℕ) → object_at cs ≡ Some (w, rest) → Ready w
unfolding object_at
object_ready cs w rest e =
    elim (cases_Bool (first_is 34 cs)) [
      | inl is ↦ literal_ready cs w rest (rw is at e)
      | inr not ↦
          let b = bind_some (node_at cs) _ (w, rest) (rw not at e) in
          let p = some_pair (written_object.Node b.0.0) w b.0.1 rest b.2 in
          subst Ready p.0 tt
    ]

pub statement_ready : (format : LineFormat) (cs : List ℕ) (w : WrittenStatement) → statement_at format cs ≡ Some w → Ready w.object
unfolding statement_at
statement_ready format cs w e =
    let s = bind_some (node_at (skip_white cs)) _ w e in
    let p = bind_some (iri_at (skip_white s.0.1)) _ w s.2 in
    let o = bind_some (object_at (skip_white p.0.1)) _ w p.2 in
    let g = bind_some (graph_at format (skip_white o.0.1)) _ w o.2 in
    let made : WrittenStatement = record { subject = s.0.0; predicate = p.0.0; object = o.0.0; graph = g.0.0 } in
    let stop = guard_some (stops_at (skip_white g.0.1)) (Some made) w g.2 in
    subst (λ (x : WrittenStatement). Ready x.object) (some_is made w stop.1) (object_ready (skip_white p.0.1) o.0.0 o.0.1 o.1)
