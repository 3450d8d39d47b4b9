-- What the abbreviations of triples stand for in SPARQL (SPARQL 1.1 Query, sections 4.1.1, 4.1.4 and 4.2).
use Rattle.std.specs.Prelude.{◌≡◌, ℕ, List, [], ◌∷◌, Some, None, map}
use Rattle.rdf_terms.specs.Quoted.{IsIriRef}
use Rattle.rdf_terms.specs.Resolution.{Means}
use Rattle.rdf_terms.specs.Vocabulary.{rdf_type, rdf_first, rdf_rest, rdf_nil}
use Rattle.rdf_terms.specs.declared.term.Term.TheVariants as t
use Rattle.rdf_grammar.specs.Keys.{key_of}
use Rattle.rdf_grammar.specs.NumberingLaws.{Written, numbered}
use Rattle.rdf_grammar.specs.Prologue.{Prologue, declares, iri_of, moves_base}
use Rattle.rdf_grammar.specs.Literals.{literal_of}
use Rattle.rdf_grammar.specs.Steps.{◌>>=◌, ◌>>◌, pure}
use Rattle.rdf_grammar.specs.declared.tree.Literal.{Literal}
use Rattle.rdf_grammar.specs.declared.tree.Name.{Name}
use Rattle.rdf_terms.specs.Literal.{LiteralParts}
use Rattle.sparql_grammar.specs.declared.tree.Declaration.TheVariants as d
use Rattle.sparql_grammar.specs.declared.tree.Node.{Node}
use Rattle.sparql_grammar.specs.declared.tree.Node.TheVariants as n
use Rattle.sparql_grammar.specs.declared.tree.Property.{Property}
use Rattle.sparql_grammar.specs.declared.tree.Verb.{Verb}
use Rattle.sparql_grammar.specs.declared.tree.Verb.TheVariants as v
use Rattle.sparql_drafts.specs.declared.draft.VarOrIri.{VarOrIri}
use Rattle.sparql_drafts.specs.declared.draft.VarOrIri.TheVariants as i
use Rattle.sparql_drafts.specs.declared.draft.VarOrTerm.{VarOrTerm}
use Rattle.sparql_drafts.specs.declared.draft.VarOrTerm.TheVariants as x
use Rattle.sparql_drafts.specs.Drafting.{Drafting, Does, fresh, says}
use Rattle.sparql_drafts.specs.Meaning.{Meaning, declaration, meaning, object, objects, property, properties, verb}

-- the two do the same in every state
abbrev pub Same : {A : Type 0} → Does A → Does A → Type 0
Same {A} f g = (s : Drafting) → f s ≡ g s

-- what some objects have of a subject under a verb
abbrev pub has : VarOrTerm → Verb → List Node → Does (Unit {0})
has subject w xs = property (record { verb = w; objects = xs }) subject

-- what a subject has inside
abbrev pub inside : Node → VarOrTerm → Does (Unit {0})
inside node subject = (meaning node).inside subject

-- ---- section 4.2

-- an object's own triple comes before those inside the object
abbrev pub ObjectIsSaid : Type 0
ObjectIsSaid = (subject : VarOrTerm) (predicate : VarOrIri) (m : Meaning) →
    Same (object subject predicate m) (m.term >>= (λ o. says subject predicate o >> m.inside o))

-- `a` is rdf:type (section 4.2.4)
abbrev pub AIsType : Type 0
AIsType = (subject : VarOrTerm) (y : Node) → Same (has subject v.Type (y ∷ [])) (object subject (i.Iri rdf_type) (meaning y) >> pure tt)

-- `,`: the subject and the verb have one object, and then the others (section 4.2.2)
abbrev pub CommaRepeats : Type 0
CommaRepeats = (subject : VarOrTerm) (w : Verb) (y z : Node) (zs : List Node) →
    Same (has subject w (y ∷ z ∷ zs)) (verb w >>= (λ p. object subject p (meaning y) >> objects subject p (map meaning (z ∷ zs))))

-- `;`: the subject has one verb with its objects, and then the others (section 4.2.1)
abbrev pub SemicolonRepeats : Type 0
SemicolonRepeats = (subject : VarOrTerm) (p : Property) (ps : List Property) →
    Same (properties subject (p ∷ ps)) (property p subject >> properties subject ps)

-- `[ ]` has what stands inside (section 4.1.4)
abbrev pub BracketHas : Type 0
BracketHas = (bracket : List ℕ) (ps : List Property) (b : VarOrTerm) → Same (inside (n.Blank bracket ps) b) (properties b ps)

abbrev pub nil : VarOrTerm
nil = x.Term (t.Iri rdf_nil)

-- `( )` is rdf:nil (section 4.2.3)
abbrev pub EmptyIsNil : Type 0
EmptyIsNil = (bracket : List ℕ) → Same (meaning (n.Collection bracket [])).term (pure nil)

-- a list of one element has it as its rdf:first, and rdf:nil as its rdf:rest
abbrev pub LastHas : Type 0
LastHas = (bracket : List ℕ) (y : Node) (cell : VarOrTerm) →
    Same (inside (n.Collection bracket (y ∷ [])) cell) (object cell (i.Iri rdf_first) (meaning y) >> says cell (i.Iri rdf_rest) nil)

-- and the rdf:rest of any other is the list of the elements behind the first
abbrev pub ListHas : Type 0
ListHas = (bracket other : List ℕ) (y z : Node) (zs : List Node) (cell : VarOrTerm) →
    Same (inside (n.Collection bracket (y ∷ z ∷ zs)) cell)
    (object cell (i.Iri rdf_first) (meaning y)
    >> (fresh >>= (λ next. says cell (i.Iri rdf_rest) next >> inside (n.Collection other (z ∷ zs)) next)))

-- ---- nodes

-- a variable is itself, a name its IRI, a literal what it stands for under the prologue in force (section 4.1)
abbrev pub VariablesAreThemselves : Type 0
VariablesAreThemselves = (name : List ℕ) → Same (meaning (n.Variable name)).term (pure (x.Variable name))

abbrev pub NamesAreIris : Type 0
NamesAreIris = (name : Name) (iri : List ℕ) (s : Drafting) → iri_of name s.prologue ≡ Some iri → (meaning (n.Name name)).term s ≡ Some (x.Term (t.Iri iri), s)

abbrev pub LiteralsAreTerms : Type 0
LiteralsAreTerms = (w : Literal) (l : LiteralParts) (s : Drafting) → literal_of w s.prologue ≡ Some l → (meaning (n.Literal w)).term s ≡ Some (x.Term (t.Literal l), s)

-- The step gives the blank node of the number that one written so has: by a label, which has one number, or by none, which has one of its own
-- (`OneLabelIsOneNode`). It says no triple.
abbrev pub IsNode : Written → Does VarOrTerm → Type 0
IsNode written step = (s : Drafting) →
    (u : Drafting) × (step s ≡ Some (x.Term (t.Blank (numbered written s.numbering).0), u)) × (u.numbering ≡ (numbered written s.numbering).1) × (u.patterns ≡ s.patterns)

-- blank nodes are numbered where they stand: a label, `[`, and each cell of a list (section 4.1.4)
pub record BlankNodeTable : Type 0 where
  pub label : (label : List ℕ) → IsNode (Some (key_of label)) (meaning (n.Label label)).term
  pub bracket : (bracket : List ℕ) (ps : List Property) → IsNode None (meaning (n.Blank bracket ps)).term
  pub list : (bracket : List ℕ) (y : Node) (ys : List Node) → IsNode None (meaning (n.Collection bracket (y ∷ ys))).term
  pub cell : IsNode None fresh

-- ---- declarations (section 4.1.1)

-- a base is what its reference means against the base before it, and in force from there on
abbrev pub BaseIsMoved : Type 0
BaseIsMoved =
    (p : Prologue) (slice text iri : List ℕ) → IsIriRef slice text → Means p.base text iri → declaration (d.Base slice) p ≡ Some (tt, moves_base iri p)

-- a prefix stands for what its reference means against the base where it is declared
abbrev pub PrefixIsDeclared : Type 0
PrefixIsDeclared =
    (p : Prologue) (prefix slice text iri : List ℕ) → IsIriRef slice text → Means p.base text iri
    → declaration (d.Prefix prefix slice) p ≡ Some (tt, declares (key_of prefix) iri p)
