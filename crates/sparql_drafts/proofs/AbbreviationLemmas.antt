-- The meaning of a property, and of a node of each kind.
use Rattle.std.proofs.Common.{◌≡◌, ◌∙◌, ap, sym, subst, refl, ℕ, List, [], ◌∷◌, map, Option, Some, None}
use Rattle.std.specs.Map.{lookup}
use Rattle.std.specs.Option.{option_map}
use Rattle.rdf_terms.specs.Literal.{LiteralParts}
use Rattle.rdf_terms.specs.Quoted.{IsIriRef}
use Rattle.rdf_terms.specs.Resolution.{Means}
use Rattle.rdf_terms.specs.declared.term.Term.TheVariants as t
use Rattle.rdf_tokens.proofs.CallerLemmas.{iri_value_is}
use Rattle.rdf_grammar.specs.Keys.{key_of, same_key}
use Rattle.rdf_grammar.specs.NumberingLaws.{numbered}
use Rattle.rdf_grammar.specs.Prologue.{Prologue, declares, moves_base, resolved}
use Rattle.rdf_grammar.specs.Steps.{Outcome, ◌>>=◌, ◌>>◌, and_then, pure}
use Rattle.rdf_grammar.specs.declared.tree.Literal.{Literal}
use Rattle.rdf_grammar.specs.declared.tree.Name.{Name}
use Rattle.rdf_grammar.proofs.CallerLemmas.{resolved_is}
use Rattle.sparql_grammar.specs.declared.tree.Node.{Node}
use Rattle.sparql_grammar.specs.declared.tree.Node.TheVariants as n
use Rattle.sparql_grammar.specs.declared.tree.Node.TheOpen.{Node-F}
use Rattle.sparql_grammar.specs.declared.tree.Node.TheFolds.{fold-roll-Node, fold-roll-Property}
use Rattle.sparql_grammar.specs.declared.tree.Property.{Property}
use Rattle.sparql_grammar.specs.declared.tree.Verb.{Verb}
use Rattle.sparql_grammar.specs.declared.tree.Verb.TheVariants as v
use Rattle.sparql_drafts.specs.Abbreviations.{AIsType, BaseIsMoved, BlankNodeTable, BracketHas, CommaRepeats, EmptyIsNil, IsNode, LastHas, ListHas, LiteralsAreTerms, NamesAreIris, ObjectIsSaid, PrefixIsDeclared, SemicolonRepeats, VariablesAreThemselves}
use Rattle.sparql_drafts.specs.declared.draft.VarOrTerm.{VarOrTerm}
use Rattle.sparql_drafts.specs.declared.draft.VarOrTerm.TheVariants as x
use Rattle.sparql_drafts.specs.Drafting.{Drafting, fresh, labelled, labels_behind, says}
use Rattle.sparql_drafts.specs.Meaning.{Meaning, Says, behind, collection, declaration, first, iri, literal, meaning, node_of, object, property, property_of, rest, verb}

meaning-Variable : (name : List ℕ) → meaning (n.Variable name) ≡ node_of (Node-F.Variable name)
meaning-Variable name = ap meaning (sym (n.rolls-Variable name)) ∙ fold-roll-Node Meaning Says node_of property_of (Node-F.Variable name)

meaning-Name : (name : Name) → meaning (n.Name name) ≡ node_of (Node-F.Name name)
meaning-Name name = ap meaning (sym (n.rolls-Name name)) ∙ fold-roll-Node Meaning Says node_of property_of (Node-F.Name name)

meaning-Literal : (w : Literal) → meaning (n.Literal w) ≡ node_of (Node-F.Literal w)
meaning-Literal w = ap meaning (sym (n.rolls-Literal w)) ∙ fold-roll-Node Meaning Says node_of property_of (Node-F.Literal w)

meaning-Label : (label : List ℕ) → meaning (n.Label label) ≡ node_of (Node-F.Label label)
meaning-Label label = ap meaning (sym (n.rolls-Label label)) ∙ fold-roll-Node Meaning Says node_of property_of (Node-F.Label label)

pub meaning-Blank : (bracket : List ℕ) (ps : List Property) → meaning (n.Blank bracket ps) ≡ node_of (Node-F.Blank bracket (map property ps))
meaning-Blank bracket ps = ap meaning (sym (n.rolls-Blank bracket ps)) ∙ fold-roll-Node Meaning Says node_of property_of (Node-F.Blank bracket ps)

pub meaning-Collection : (bracket : List ℕ) (xs : List Node) → meaning (n.Collection bracket xs) ≡ collection (map meaning xs)
meaning-Collection bracket xs =
    ap meaning (sym (n.rolls-Collection bracket xs)) ∙ fold-roll-Node Meaning Says node_of property_of (Node-F.Collection bracket xs)

pub property-is : (w : Verb) (xs : List Node) →
    property (record { verb = w; objects = xs }) ≡ property_of (record { verb = w; objects = map meaning xs })
property-is w xs = fold-roll-Property Meaning Says node_of property_of (record { verb = w; objects = xs })

-- ---- triples

pub object_is_said : ObjectIsSaid
unfolding object
object_is_said subject predicate m s = refl

pub a_is_type : AIsType
unfolding verb
a_is_type subject y s = ap (λ (f : Says). f subject s) (property-is v.Type (y ∷ []))

pub comma_repeats : CommaRepeats
comma_repeats subject w y z zs s = ap (λ (f : Says). f subject s) (property-is w (y ∷ z ∷ zs))

pub semicolon_repeats : SemicolonRepeats
semicolon_repeats subject p ps s = refl

pub bracket_has : BracketHas
bracket_has bracket ps b s = ap (λ (m : Meaning). m.inside b s) (meaning-Blank bracket ps)

pub empty_is_nil : EmptyIsNil
empty_is_nil bracket s = ap (λ (m : Meaning). m.term s) (meaning-Collection bracket [])

pub last_has : LastHas
last_has bracket y cell s = ap (λ (m : Meaning). m.inside cell s) (meaning-Collection bracket (y ∷ []))

-- the cell behind one, with its element, and what is behind that
module _ (cell : VarOrTerm) (m : Meaning) (ms : List Meaning) where
  next_by : (next : VarOrTerm) (o : Outcome Drafting (Unit {0})) →
      and_then (and_then o (λ _. pure next)) (λ a. behind a ms) ≡ and_then o (λ _. behind next ms)
  next_by next None = refl
  next_by next (Some p) = refl

  said_by : (next : VarOrTerm) (o : Outcome Drafting (Unit {0})) →
      and_then (and_then o (λ _. object next first m >> pure next)) (λ a. behind a ms) ≡ and_then o (λ _. object next first m >> behind next ms)
  said_by next None = refl
  said_by next (Some p) = next_by next (object next first m p.1)

  cell_by : (o : Outcome Drafting VarOrTerm) →
      and_then (and_then o (λ next. says cell rest next >> (object next first m >> pure next))) (λ a. behind a ms)
      ≡ and_then o (λ next. says cell rest next >> (object next first m >> behind next ms))
  cell_by None = refl
  cell_by (Some p) = said_by p.0 (says cell rest p.0 p.1)

  pub behind-is : (s : Drafting) → behind cell (m ∷ ms) s ≡ (fresh >>= (λ next. says cell rest next >> (object next first m >> behind next ms))) s
  behind-is s = cell_by (fresh s)

-- both sides with the meanings of the two lists put in
pub list_has : ListHas
list_has bracket other y z zs cell s =
    ap (λ (m : Meaning). m.inside cell s) (meaning-Collection bracket (y ∷ z ∷ zs))
    ∙ (λ k. and_then (object cell first (meaning y) s) (λ _ u. behind-is cell (meaning z) (map meaning zs) u k))
    ∙ sym (ap (λ (m : Meaning). (object cell first (meaning y) >> (fresh >>= (λ next. says cell rest next >> m.inside next))) s) (meaning-Collection other (z ∷ zs)))

-- ---- nodes

pub variables_are_themselves : VariablesAreThemselves
variables_are_themselves name s = ap (λ (m : Meaning). m.term s) (meaning-Variable name)

pub names_are_iris : NamesAreIris
unfolding iri
names_are_iris name found s e =
    ap (λ (m : Meaning). m.term s) (meaning-Name name)
    ∙ ap (λ (o : Option (List ℕ)). and_then (option_map (λ a. (a, s)) o) (λ a. pure (x.Term (t.Iri a)))) e

pub literals_are_terms : LiteralsAreTerms
unfolding literal
literals_are_terms w l s e =
    ap (λ (m : Meaning). m.term s) (meaning-Literal w)
    ∙ ap (λ (o : Option LiteralParts). and_then (option_map (λ a. (a, s)) o) (λ a. pure (x.Term (t.Literal a)))) e

label_is : (label : List ℕ) → IsNode (Some (key_of label)) (labelled label)
unfolding labelled
label_is label s = (
  record s {
    numbering = (numbered (Some (key_of label)) s.numbering).1;
    labels = labels_behind label (lookup (same_key (key_of label)) s.numbering.labels) s.labels;
  },
  refl,
  refl,
  refl,
)

fresh_is : IsNode None fresh
unfolding fresh
fresh_is s = (record s { numbering = (numbered None s.numbering).1 }, refl, refl, refl)

pub blank_node_table : BlankNodeTable
blank_node_table = record {
  label = λ label. subst (λ (m : Meaning). IsNode (Some (key_of label)) m.term) (sym (meaning-Label label)) (label_is label);
  bracket = λ bracket ps. subst (λ (m : Meaning). IsNode None m.term) (sym (meaning-Blank bracket ps)) fresh_is;
  list = λ bracket y ys. subst (λ (m : Meaning). IsNode None m.term) (sym (meaning-Collection bracket (y ∷ ys))) fresh_is;
  cell = fresh_is;
}

-- ---- declarations

found_at : (p : Prologue) (slice text iri : List ℕ) → IsIriRef slice text → Means p.base text iri → resolved slice p ≡ Some iri
found_at p slice text iri form m = resolved_is p p.base slice text iri refl (iri_value_is slice text form) m

pub base_is_moved : BaseIsMoved
unfolding declaration
base_is_moved p slice text iri form m = ap (option_map (λ a. (tt, moves_base a p))) (found_at p slice text iri form m)

pub prefix_is_declared : PrefixIsDeclared
unfolding declaration
prefix_is_declared p prefix slice text iri form m = ap (option_map (λ a. (tt, declares (key_of prefix) a p))) (found_at p slice text iri form m)
