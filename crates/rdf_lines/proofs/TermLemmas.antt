-- Nodes, literals and objects: what is read is there, and what is there is read.
use Rattle.std.proofs.Common.{◌≡◌, ◌⊎◌, ℕ, true, false, List, ◌∷◌, Option, Some, refl, sym, ap, subst, ◌∙◌, inl, inr}
use Rattle.std.proofs.lemmas.Bool.{cases_Bool}
use Rattle.rdf_terms.specs.Literal.{LiteralParts, xsd_string, is_tag, tagged}
use Rattle.rdf_terms.specs.Quoted.{IsIriRef}
use Rattle.rdf_terms.specs.Reading.{expect, iri_at, quoted_at}
use Rattle.rdf_terms.proofs.CallerLemmas.{bind_some, some_is, some_pair, guard_some, expect_sound, expect_complete, tag_form}
use Rattle.rdf_lines.specs.declared.written.WrittenNode.{WrittenNode}
use Rattle.rdf_lines.specs.declared.written.WrittenNode.TheVariants as written
use Rattle.rdf_lines.specs.declared.written.WrittenObject.{WrittenObject}
use Rattle.rdf_lines.specs.declared.written.WrittenObject.TheVariants as written_object
use Rattle.rdf_lines.specs.declared.statement.Node.{Node}
use Rattle.rdf_lines.specs.declared.statement.Node.TheVariants as node
use Rattle.rdf_lines.specs.declared.statement.Object.{Object}
use Rattle.rdf_lines.specs.declared.statement.Object.TheVariants as object
use Rattle.rdf_lines.specs.Reading.{first_is, skip_white, label_at, tag_at, node_at, tagged_literal, tagged_at, typed_at, suffix_at, literal_at, object_at}
use Rattle.rdf_lines.specs.Grammar.{IsString, IsBlankLabel, IsTag, Next, HasNode, typed, HasLiteral, HasObject}
use Rattle.rdf_lines.proofs.LinePartLemmas.{Begins, iri_reader, string_reader, label_reader, tag_reader, gap_skip, skip_gap, black_begins, next_sound, next_complete, next_begins, first_begins, first_other, differs}

-- ---- nodes

-- the node that is written, and the writing of a node
abbrev pub meant_node : WrittenNode → Node
meant_node (written.Label text) = node.Label text
meant_node (written.Iri text) = node.Iri text

abbrev pub written_node : Node → WrittenNode
written_node (node.Label text) = written.Label text
written_node (node.Iri text) = written.Iri text

pub meant-written : (v : Node) → meant_node (written_node v) ≡ v
meant-written (node.Label text) = refl
meant-written (node.Iri text) = refl

node_iri : (cs text rest : List ℕ) → first_is 60 cs ≡ true → iri_at cs ≡ Some (text, rest) → node_at cs ≡ Some (written.Iri text, rest)
unfolding node_at
node_iri cs text rest h e = rw (h, e) refl

node_label : (cs text rest : List ℕ) → first_is 60 cs ≡ false → label_at cs ≡ Some (text, rest) → node_at cs ≡ Some (written.Label text, rest)
unfolding node_at
node_label cs text rest h e = rw (h, e) refl

pub node_sound : (line : List ℕ) (w : WrittenNode) (rest : List ℕ) → node_at (skip_white line) ≡ Some (w, rest) → HasNode line (meant_node w) rest
unfolding node_at
node_sound line w rest e =
    elim (cases_Bool (first_is 60 (skip_white line))) [
      | inl is ↦
          let b = bind_some (iri_at (skip_white line)) _ (w, rest) (rw is at e) in
          let p = some_pair (written.Iri b.0.0) w b.0.1 rest b.2 in
          let n : Next IsIriRef line b.0.0 b.0.1 = next_sound IsIriRef iri_at iri_reader line b.0.0 b.0.1 b.1 in
          subst (λ (v : WrittenNode). HasNode line (meant_node v) rest) p.0 (subst (λ (t : List ℕ). Next IsIriRef line b.0.0 t) p.1 n)
      | inr not ↦
          let b = bind_some (label_at (skip_white line)) _ (w, rest) (rw not at e) in
          let p = some_pair (written.Label b.0.0) w b.0.1 rest b.2 in
          let n : Next IsBlankLabel line b.0.0 b.0.1 = next_sound IsBlankLabel label_at label_reader line b.0.0 b.0.1 b.1 in
          subst (λ (v : WrittenNode). HasNode line (meant_node v) rest) p.0 (subst (λ (t : List ℕ). Next IsBlankLabel line b.0.0 t) p.1 n)
    ]

-- a node begins with `<` or with `_`
pub node_begins : (line : List ℕ) (v : Node) (rest : List ℕ) → HasNode line v rest → Begins 60 (skip_white line) ⊎ Begins 95 (skip_white line)
node_begins line (node.Label text) rest n = inr (next_begins IsBlankLabel label_at label_reader line text rest n)
node_begins line (node.Iri text) rest n = inl (next_begins IsIriRef iri_at iri_reader line text rest n)

pub node_complete : (line : List ℕ) (v : Node) (rest : List ℕ) → HasNode line v rest → node_at (skip_white line) ≡ Some (written_node v, rest)
node_complete line (node.Label text) rest n =
    node_label (skip_white line) text rest (first_other 60 95 (skip_white line) (differs 95 60 refl) (next_begins IsBlankLabel label_at label_reader line text rest n))
    (next_complete IsBlankLabel label_at label_reader line text rest n)
node_complete line (node.Iri text) rest n =
    node_iri (skip_white line) text rest (first_begins 60 (skip_white line) (next_begins IsIriRef iri_at iri_reader line text rest n))
    (next_complete IsIriRef iri_at iri_reader line text rest n)

-- ---- literals

abbrev pub meant_object : WrittenObject → Object
meant_object (written_object.Node place) = object.Node (meant_node place)
meant_object (written_object.Literal literal) = object.Literal literal
meant_object (written_object.Typed lexical datatype) = object.Literal (typed lexical datatype)

-- neither a tag nor `^^` follows
abbrev pub NoMark : List ℕ → Type 0
NoMark rest = (first_is 64 (skip_white rest) ≡ false) × (first_is 94 (skip_white rest) ≡ false)

tagged_sound : (line text after : List ℕ) (w : WrittenObject) (rest : List ℕ) → Next IsString line text after → tagged_at text (skip_white after) ≡ Some (w, rest) → HasObject line (meant_object w) rest
unfolding tagged_at tagged_literal
tagged_sound line text after w rest n e =
    let t = bind_some (tag_at (skip_white after)) _ (w, rest) e in
    let l = bind_some (tagged_literal text t.0.0) _ (w, rest) t.2 in
    let g = guard_some (is_tag t.0.0) (Some (tagged text t.0.0)) l.0 l.1 in
    let p = some_pair (written_object.Literal l.0) w t.0.1 rest l.2 in
    let tag : Next IsTag after t.0.0 t.0.1 = next_sound IsTag tag_at tag_reader after t.0.0 t.0.1 t.1 in
    let same : l.0 ≡ tagged text t.0.0 = sym (some_is (tagged text t.0.0) l.0 g.1) in
    let has : HasLiteral line l.0 rest = inr (inl (text, t.0.0, after, n, subst (λ (x : List ℕ). Next IsTag after t.0.0 x) p.1 tag, same)) in
    subst (λ (v : WrittenObject). HasObject line (meant_object v) rest) p.0 has

typed_sound : (line text after : List ℕ) (w : WrittenObject) (rest : List ℕ) → Next IsString line text after → typed_at text (skip_white after) ≡ Some (w, rest) → HasObject line (meant_object w) rest
unfolding typed_at
typed_sound line text after w rest n e =
    let a = bind_some (expect 94 (skip_white after)) _ (w, rest) e in
    let b = bind_some (expect 94 a.0) _ (w, rest) a.2 in
    let d = bind_some (iri_at (skip_white b.0)) _ (w, rest) b.2 in
    let p = some_pair (written_object.Typed text d.0.0) w d.0.1 rest d.2 in
    let marks : skip_white after ≡ 94 ∷ 94 ∷ b.0 = expect_sound 94 (skip_white after) a.0 a.1 ∙ ap (λ (t : List ℕ). 94 ∷ t) (expect_sound 94 a.0 b.0 b.1) in
    let iri : Next IsIriRef b.0 d.0.0 d.0.1 = next_sound IsIriRef iri_at iri_reader b.0 d.0.0 d.0.1 d.1 in
    let has : HasLiteral line (typed text d.0.0) rest =
    inr (inr (text, d.0.0, after, skip_white after, b.0, n, gap_skip after, marks, subst (λ (x : List ℕ). Next IsIriRef b.0 d.0.0 x) p.1 iri, refl)) in
    subst (λ (v : WrittenObject). HasObject line (meant_object v) rest) p.0 has

abbrev read : WrittenObject → List ℕ → Option (WrittenObject × List ℕ)
read w rest = Some (w, rest)

plain_sound : (line text after : List ℕ) (w : WrittenObject) (rest : List ℕ) → Next IsString line text after
    → read (written_object.Literal (typed text xsd_string)) after ≡ read w rest → HasObject line (meant_object w) rest
plain_sound line text after w rest n e =
    let p = some_pair (written_object.Literal (typed text xsd_string)) w after rest e in
    let has : HasLiteral line (typed text xsd_string) rest = inl (text, subst (λ (x : List ℕ). Next IsString line text x) p.1 n, refl) in
    subst (λ (v : WrittenObject). HasObject line (meant_object v) rest) p.0 has

literal_sound : (line : List ℕ) (w : WrittenObject) (rest : List ℕ) → literal_at (skip_white line) ≡ Some (w, rest) → HasObject line (meant_object w) rest
unfolding literal_at suffix_at
literal_sound line w rest e =
    let b = bind_some (quoted_at 34 (skip_white line)) _ (w, rest) e in
    let text = b.0.0 in
    let after = b.0.1 in
    let n : Next IsString line text after = next_sound IsString (quoted_at 34) string_reader line text after b.1 in
    elim (cases_Bool (first_is 64 (skip_white after))) [
      | inl is ↦ tagged_sound line text after w rest n (rw is at b.2)
      | inr no_tag ↦
          elim (cases_Bool (first_is 94 (skip_white after))) [
            | inl is ↦ typed_sound line text after w rest n (rw (no_tag, is) at b.2)
            | inr no_type ↦ plain_sound line text after w rest n (rw (no_tag, no_type) at b.2)
          ]
    ]

-- what stands behind the string
string_read : (line text after : List ℕ) → Next IsString line text after → literal_at (skip_white line) ≡ suffix_at text after (skip_white after)
unfolding literal_at
string_read line text after n = rw (next_complete IsString (quoted_at 34) string_reader line text after n) refl

suffix-plain : (text after suffix : List ℕ) → first_is 64 suffix ≡ false → first_is 94 suffix ≡ false → suffix_at text after suffix ≡ Some (written_object.Literal (typed text xsd_string), after)
unfolding suffix_at
suffix-plain text after suffix h k = rw (h, k) refl

suffix-tagged : (text after suffix tag rest : List ℕ) → first_is 64 suffix ≡ true → tag_at suffix ≡ Some (tag, rest) → is_tag tag ≡ true
    → suffix_at text after suffix ≡ Some (written_object.Literal (tagged text tag), rest)
unfolding suffix_at tagged_at tagged_literal
suffix-tagged text after suffix tag rest h e form = rw (h, e, form) refl

suffix-typed : (text after suffix more datatype rest : List ℕ) → first_is 64 suffix ≡ false → first_is 94 suffix ≡ true → suffix ≡ 94 ∷ 94 ∷ more
    → iri_at (skip_white more) ≡ Some (datatype, rest) → suffix_at text after suffix ≡ Some (written_object.Typed text datatype, rest)
unfolding suffix_at typed_at
suffix-typed text after suffix more datatype rest h k marks e =
    let one : expect 94 suffix ≡ Some (94 ∷ more) = ap (expect 94) marks ∙ expect_complete 94 (94 ∷ more) in
    rw (h, k, one, expect_complete 94 more, e) refl

-- A literal is read as one of its writings.
abbrev pub ReadsAs : List ℕ → Object → List ℕ → Type 0
ReadsAs line v rest = (w : WrittenObject) × (object_at (skip_white line) ≡ Some (w, rest)) × (meant_object w ≡ v)

object_string : (line text after : List ℕ) → Next IsString line text after → object_at (skip_white line) ≡ suffix_at text after (skip_white after)
unfolding object_at
object_string line text after n =
    let quote : first_is 34 (skip_white line) ≡ true = first_begins 34 (skip_white line) (next_begins IsString (quoted_at 34) string_reader line text after n) in
    rw quote (string_read line text after n)

tag_name : (after tag rest : List ℕ) → Next IsTag after tag rest → is_tag tag ≡ true
tag_name after tag rest n =
    let form = n.2.form in
    ap is_tag form.3 ∙ tag_form form.0 form.2

literal_complete : (line : List ℕ) (l : LiteralParts) (rest : List ℕ) → HasLiteral line l rest → NoMark rest → ReadsAs line (object.Literal l) rest
literal_complete line l rest (inl h) stop =
    (written_object.Literal (typed h.0 xsd_string), object_string line h.0 rest h.1 ∙ suffix-plain h.0 rest (skip_white rest) stop.0 stop.1, ap (λ (x : LiteralParts). object.Literal x) (sym h.2))
literal_complete line l rest (inr (inl h)) stop =
    let at_tag = first_begins 64 (skip_white h.2) (next_begins IsTag tag_at tag_reader h.2 h.1 rest h.4) in (
      written_object.Literal (tagged h.0 h.1),
      object_string line h.0 h.2 h.3
          ∙ suffix-tagged h.0 h.2 (skip_white h.2) h.1 rest at_tag (next_complete IsTag tag_at tag_reader h.2 h.1 rest h.4) (tag_name h.2 h.1 rest h.4),
      ap (λ (x : LiteralParts). object.Literal x) (sym h.5),
    )
literal_complete line l rest (inr (inr h)) stop =
    let here : Begins 94 h.3 = (94 ∷ h.4, h.7) in
    let at : skip_white h.2 ≡ 94 ∷ 94 ∷ h.4 = skip_gap h.2 h.3 h.6 (black_begins 94 h.3 refl here) ∙ h.7 in
    let begins : Begins 94 (skip_white h.2) = (94 ∷ h.4, at) in (
      written_object.Typed h.0 h.1,
      object_string line h.0 h.2 h.5
          ∙ suffix-typed h.0 h.2 (skip_white h.2) h.4 h.1 rest (first_other 64 94 (skip_white h.2) (differs 94 64 refl) begins) (first_begins 94 (skip_white h.2) begins) at
          (next_complete IsIriRef iri_at iri_reader h.4 h.1 rest h.8),
      ap (λ (x : LiteralParts). object.Literal x) (sym h.9),
    )

-- ---- objects

pub object_sound : (line : List ℕ) (w : WrittenObject) (rest : List ℕ) → object_at (skip_white line) ≡ Some (w, rest) → HasObject line (meant_object w) rest
unfolding object_at
object_sound line w rest e =
    elim (cases_Bool (first_is 34 (skip_white line))) [
      | inl is ↦ literal_sound line w rest (rw is at e)
      | inr not ↦
          let b = bind_some (node_at (skip_white line)) _ (w, rest) (rw not at e) in
          let p = some_pair (written_object.Node b.0.0) w b.0.1 rest b.2 in
          let n : HasNode line (meant_node b.0.0) rest = subst (λ (t : List ℕ). HasNode line (meant_node b.0.0) t) p.1 (node_sound line b.0.0 b.0.1 b.1) in
          subst (λ (v : WrittenObject). HasObject line (meant_object v) rest) p.0 n
    ]

object-node : (cs : List ℕ) (w : WrittenNode) (rest : List ℕ) → first_is 34 cs ≡ false → node_at cs ≡ Some (w, rest) → object_at cs ≡ Some (written_object.Node w, rest)
unfolding object_at
object-node cs w rest h e = rw (h, e) refl

no_quote : (cs : List ℕ) → Begins 60 cs ⊎ Begins 95 cs → first_is 34 cs ≡ false
no_quote cs (inl b) = first_other 34 60 cs (differs 60 34 refl) b
no_quote cs (inr b) = first_other 34 95 cs (differs 95 34 refl) b

pub object_complete : (line : List ℕ) (v : Object) (rest : List ℕ) → HasObject line v rest → NoMark rest → ReadsAs line v rest
object_complete line (object.Node place) rest n stop = (
  written_object.Node (written_node place),
  object-node (skip_white line) (written_node place) rest (no_quote (skip_white line) (node_begins line place rest n)) (node_complete line place rest n),
  ap (λ (x : Node). object.Node x) (meant-written place),
)
object_complete line (object.Literal literal) rest h stop = literal_complete line literal rest h stop
