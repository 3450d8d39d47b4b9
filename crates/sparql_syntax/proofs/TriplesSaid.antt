-- What triples say: what is asked of it is answered as for their trees. It is there where their names have IRIs.
use Rattle.std.proofs.Common.{◌≡◌, is_some, ◌≢◌, ◌∙◌, ap, refl, sym, subst, ℕ, ◌+◌, ◌==◌, Bool, true, false, cond, ◌&&◌, ◌||◌, not, List, [], ◌∷◌, ◌++◌, map, Option, Some, None, arith, true≢false}
use Rattle.std.proofs.lemmas.Bool.{and_parts}
use Rattle.std.proofs.lemmas.List.Folds.{list_all-append, list_any-append}
use Rattle.std.proofs.lemmas.Slice.Eq.{bytes_eq-Decides}
use Rattle.std.specs.List.{list_all, AllByRecursion}
use Rattle.std.specs.Map.{lookup}
use Rattle.std.specs.Option.{option_map}
use Rattle.indexmap.specs.IndexMap.{insert_entry}
use Rattle.rdf_terms.specs.Literal.{is_tag}
use Rattle.rdf_terms.specs.Vocabulary.{rdf_type}
use Rattle.rdf_terms.specs.declared.term.Term.TheVariants as t
use Rattle.rdf_tokens.specs.Values.{tag_value}
use Rattle.rdf_grammar.proofs.CallerLemmas.{kept}
use Rattle.rdf_grammar.specs.Holds.{holds}
use Rattle.rdf_grammar.specs.Keys.{key_of, same_key}
use Rattle.rdf_grammar.specs.Literals.{literal_of as literal_parts, proper_literal}
use Rattle.rdf_grammar.specs.Numbering.{labelled_as}
use Rattle.rdf_grammar.specs.Prologue.{Prologue, iri_of}
use Rattle.rdf_grammar.specs.Steps.{Outcome, and_then, each, none}
use Rattle.rdf_grammar.specs.Terminals.{Slice}
use Rattle.rdf_grammar.specs.declared.tree.Literal.{Literal}
use Rattle.rdf_grammar.specs.declared.tree.Literal.TheVariants as l
use Rattle.rdf_grammar.specs.declared.tree.Name.{Name}
use Rattle.sparql_grammar.specs.Proper.{is_filled, stands_alone, stands_alone_of, proper_block, proper_graph, proper_node, proper_node_of, proper_property, proper_property_of, proper_triples, proper_verb}
use Rattle.sparql_grammar.specs.declared.tree.Block.{Block}
use Rattle.sparql_grammar.specs.declared.tree.Node.{Node}
use Rattle.sparql_grammar.specs.declared.tree.Node.TheOpen.{Node-F, Property-F}
use Rattle.sparql_grammar.specs.declared.tree.Node.TheFolds.{fold-Property, fold-roll-Node, fold-roll-Property, map-Node, map-Property, ind-Node, ind-Property}
use Rattle.sparql_grammar.specs.declared.tree.Node.TheViews.{roll-Node, roll-Property}
use Rattle.sparql_grammar.specs.declared.tree.Property.{Property}
use Rattle.sparql_grammar.specs.declared.tree.Triples.{Triples}
use Rattle.sparql_grammar.specs.declared.tree.VarOrIri as written
use Rattle.sparql_grammar.specs.declared.tree.VarOrIri.TheVariants as n
use Rattle.sparql_grammar.specs.declared.tree.Verb.{Verb}
use Rattle.sparql_grammar.specs.declared.tree.Verb.TheVariants as v
use Rattle.sparql_drafts.specs.Drafting.{Drafting, Does, start, quads, fresh, labelled, labels_behind, in_default, in_graph, says}
use Rattle.sparql_drafts.specs.Meaning.{Meaning, Says, iri, verb, var_or_iri, literal, object, objects, first, rest, nil, next_cell, behind, list_term, list_inside, node_of, property_of, meaning, property, properties, subject_with, triples, graph, block, quads_in, pattern_in}
use Rattle.sparql_drafts.specs.declared.draft.QuadPattern.{QuadPattern}
use Rattle.sparql_drafts.specs.declared.draft.Quads.{Quads}
use Rattle.sparql_drafts.specs.declared.draft.VarOrIri.{VarOrIri}
use Rattle.sparql_drafts.specs.declared.draft.VarOrIri.TheVariants as i
use Rattle.sparql_drafts.specs.declared.draft.VarOrTerm.{VarOrTerm}
use Rattle.sparql_drafts.specs.declared.draft.VarOrTerm.TheVariants as x
use Rattle.sparql_syntax.specs.RuleLaws.{stands_in}
use Rattle.sparql_syntax.specs.Rules.{is_literal}
use Rattle.sparql_syntax.proofs.NameFronts.{and_true}
use Rattle.sparql_syntax.proofs.SharedLabels.{or_no, or_yes}
use Rattle.sparql_syntax.proofs.TripleQuestions.{Question, literal_of, property_of as none_of, is_literal_node, is_literal_property, asks_literal, asks_verb, asks_property_of, asks_list, asks_node_of, asks_node, asks_property, asks_subject, asks_triples, asks_name, asks_graph, asks_block, asks_blocks}

-- ---- what was said

module _ (q : Question) where
  abbrev pub fits_iri : VarOrIri → Bool
  fits_iri (i.Variable name) = q.variable
  fits_iri (i.Iri iri) = true

  abbrev pub fits_around : Option VarOrIri → Bool
  fits_around None = true
  fits_around (Some name) = fits_iri name

  abbrev pub fits_place : VarOrTerm → Bool
  fits_place (x.Variable name) = q.variable
  fits_place (x.Term t) = true

  abbrev pub fits_subject : VarOrTerm → Bool
  fits_subject y = fits_place y && (not (is_literal y) || q.literal)

  abbrev pub fits_triple : VarOrTerm → VarOrIri → VarOrTerm → Bool
  fits_triple subject predicate o = fits_subject subject && (fits_iri predicate && fits_place o)

  abbrev pub fits_pattern : QuadPattern → Bool
  fits_pattern p = fits_around p.graph && fits_triple p.subject p.predicate p.object

  -- so many blank nodes, these labels, these quads and these graphs
  abbrev pub fits_all : ℕ → List Slice → List QuadPattern → List VarOrIri → Bool
  fits_all blanks labels patterns graphs = ((blanks == 0) || q.blank) && (list_all q.label labels && (list_all fits_pattern patterns && list_all fits_iri graphs))

  abbrev pub fits_quads : Quads → Bool
  fits_quads d = fits_all d.blanks d.labels d.patterns d.graphs

  abbrev so_far : Drafting → Bool
  so_far s = fits_all s.numbering.next s.labels s.patterns s.graphs

-- It is said against the prologue, if strictly so. A label that has a number is listed, where no blank node has one no label is, and the graph at
-- hand is listed.
pub record Listed (strict : Bool) (p : Prologue) (s : Drafting) : Type 0 where
  pub given : strict ≡ true → s.prologue ≡ p
  pub found : (label : Slice) (number : ℕ) → lookup (same_key (key_of label)) s.numbering.labels ≡ Some number → stands_in label s.labels ≡ true
  pub few : s.numbering.next ≡ 0 → s.labels ≡ []
  pub around : (q : Question) → list_all (fits_iri q) s.graphs ≡ true → fits_around q s.graph ≡ true

-- A question that can be asked of what is said, whether names have IRIs is asked or not: labels are told apart by their keys, and a blank node
-- with a label is one.
pub record Sound (q : Question) : Type 0 where
  pub strict : Bool
  pub against : Prologue
  pub names : strict ≡ false → (name : Name) → q.name name ≡ true
  pub there : strict ≡ true → (name : Name) → q.name name ≡ is_some (iri_of name against)
  pub alike : (label other : Slice) → same_key (key_of label) (key_of other) ≡ true → q.label label ≡ q.label other
  pub labels : (label : Slice) → q.label label ≡ true → q.blank ≡ true

pub some_map : {A B : Type 0} (f : A → B) (o : Option A) → is_some (option_map f o) ≡ is_some o
some_map f None = refl
some_map f (Some y) = refl

-- ---- flags

and_no : (b : Bool) → b && false ≡ false
and_no true = refl
and_no false = refl

begun : (n : ℕ) → (n + 1 == 0) ≡ false
begun n = grind arith

fresh_flag : (z b l : Bool) → (false || b) && l ≡ ((z || b) && l) && b
fresh_flag z true true = ap (λ (c : Bool). (c && true) && true) (sym (or_yes z))
fresh_flag z true false = sym (ap (λ (c : Bool). c && true) (and_no (z || true)))
fresh_flag z false l = sym (and_no ((z || false) && l))

label_flag : (z b l p r : Bool) → (p ≡ true → b ≡ true) → (false || b) && ((l && (p && true)) && r) ≡ ((z || b) && (l && r)) && p
label_flag z true l true r h = ap (λ (c : Bool). c && r) (and_true l) ∙ sym (and_true (l && r)) ∙ ap (λ (c : Bool). (c && (l && r)) && true) (sym (or_yes z))
label_flag z false l true r h = absurd (true≢false (sym (h refl)))
label_flag z b l false r h = ap (λ (c : Bool). b && (c && r)) (and_no l) ∙ and_no b ∙ sym (and_no ((z || b) && (l && r)))

old_flag : (z l r p : Bool) → (l ≡ true → p ≡ true) → z && (l && r) ≡ (z && (l && r)) && p
old_flag true true true p h = sym (h refl)
old_flag true true false p h = refl
old_flag true false r p h = refl
old_flag false l r p h = refl

said_flag : (z l p r g v : Bool) → (r ≡ true → g ≡ true) → z && (l && ((p && ((g && v) && true)) && r)) ≡ (z && (l && (p && r))) && v
said_flag true true true true g v h = and_true ((g && v) && true) ∙ and_true (g && v) ∙ ap (λ (c : Bool). c && v) (h refl)
said_flag true true true false g v h = and_no ((g && v) && true)
said_flag true true false r g v h = refl
said_flag true false p r g v h = refl
said_flag false l p r g v h = refl

graph_flag : (z l p r v : Bool) → z && (l && (p && (r && (v && true)))) ≡ (z && (l && (p && r))) && v
graph_flag true true true true v = and_true v
graph_flag true true true false v = refl
graph_flag true true false r v = refl
graph_flag true false p r v = refl
graph_flag false l p r v = refl

object_flag : (o b c p r : Bool) → o && ((b && (c && p)) && r) ≡ b && (c && (o && (p && r)))
object_flag true true true p r = refl
object_flag true true false p r = refl
object_flag true false c p r = refl
object_flag false true true p r = refl
object_flag false true false p r = refl
object_flag false false c p r = refl

subject_flag : (o p r s all : Bool) → o && (r && ((p && s) && all)) ≡ s && ((o && (p && r)) && all)
subject_flag true true true true all = refl
subject_flag true true true false all = refl
subject_flag true false true true all = refl
subject_flag true false true false all = refl
subject_flag true true false true all = refl
subject_flag true false false true all = refl
subject_flag true p false false all = refl
subject_flag false p r true all = refl
subject_flag false p r false all = refl

alone_flag : (o r : Bool) → o && (r && true) ≡ (o && r) && true
alone_flag true r = refl
alone_flag false r = refl

and_join : (a b c : Bool) → (a && b) && c ≡ a && (b && c)
and_join true b c = refl
and_join false b c = refl

-- ---- where variables fit

pub every : {A : Type 0} (f : A → Bool) → ((x : A) → f x ≡ true) → (xs : List A) → list_all f xs ≡ true
every f h [] = refl
every f h (x ∷ xs) = ap (λ (b : Bool). b && list_all f xs) (h x) ∙ every f h xs

pub iri_fits : (q : Question) → q.variable ≡ true → (n : VarOrIri) → fits_iri q n ≡ true
iri_fits q e (i.Variable name) = e
iri_fits q e (i.Iri iri) = refl

around_fits : (q : Question) → q.variable ≡ true → (g : Option VarOrIri) → fits_around q g ≡ true
around_fits q e None = refl
around_fits q e (Some n) = iri_fits q e n

place_fits : (q : Question) → q.variable ≡ true → (y : VarOrTerm) → fits_place q y ≡ true
place_fits q e (x.Variable name) = e
place_fits q e (x.Term term) = refl

-- where variables fit, only the subject is asked of
pub pattern_by_subject : (q : Question) → q.variable ≡ true → (p : QuadPattern) → fits_pattern q p ≡ (not (is_literal p.subject) || q.literal)
pattern_by_subject q e p =
    ap (λ (b : Bool). b && (fits_subject q p.subject && (fits_iri q p.predicate && fits_place q p.object))) (around_fits q e p.graph)
    ∙ ap (λ (b : Bool). (b && (not (is_literal p.subject) || q.literal)) && (fits_iri q p.predicate && fits_place q p.object)) (place_fits q e p.subject)
    ∙ ap (λ (b : Bool). (not (is_literal p.subject) || q.literal) && (b && fits_place q p.object)) (iri_fits q e p.predicate)
    ∙ ap (λ (b : Bool). (not (is_literal p.subject) || q.literal) && b) (place_fits q e p.object) ∙ by (not (is_literal p.subject) || q.literal)
  where
    by : (b : Bool) → (b && true) ≡ b
    by true = refl
    by false = refl

-- ---- steps

module _ (q : Question) (sound : Sound q) where
  abbrev Flag : Drafting → Bool
  Flag = so_far q

  abbrev Said : Drafting → Type 0
  Said = Listed sound.strict sound.against

  -- it is so where names are asked
  abbrev pub Must : Bool → Type 0
  Must b = sound.strict ≡ true → b ≡ true

  must_left : (a b : Bool) → Must (a && b) → Must a
  must_left a b h = λ k. (and_parts a b (h k)).0

  must_right : (a b : Bool) → Must (a && b) → Must b
  must_right a b h = λ k. (and_parts a b (h k)).1

  -- behind a step, what was said so far and this, and its result
  abbrev Comes : {A : Type 0} → (A → Type 0) → Bool → Drafting → Outcome Drafting A → Type 0
  Comes Good v s None = sound.strict ≡ true → Flag s && v ≡ false
  Comes Good v s (Some r) = Said r.1 × (Flag r.1 ≡ Flag s && v) × Good r.0

  abbrev Goes : {A : Type 0} → (A → Type 0) → Bool → Does A → Type 0
  Goes Good v f = (s : Drafting) → Said s → Comes Good v s (f s)

  abbrev Any : {A : Type 0} → A → Type 0
  Any y = Unit {0}

  abbrev Done : Bool → Does (Unit {0}) → Type 0
  Done v f = Goes Any v f

  shifted : {B : Type 0} (Better : B → Type 0) (v w : Bool) (s u : Drafting) (o : Outcome Drafting B) → Flag u ≡ Flag s && v → Comes Better w u o → Comes Better (v && w) s o
  shifted Better v w s u None e c = λ k. sym (and_join (Flag s) v w) ∙ ap (λ (b : Bool). b && w) (sym e) ∙ c k
  shifted Better v w s u (Some r) e c = (c.0, c.1 ∙ ap (λ (b : Bool). b && w) e ∙ and_join (Flag s) v w, c.2)

  then_comes : {A B : Type 0} (Good : A → Type 0) (Better : B → Type 0) (v w : Bool) (s : Drafting) (o : Outcome Drafting A) (g : A → Does B) → Comes Good v s o → ((y : A) → Good y → Goes Better w (g y)) → Comes Better (v && w) s (and_then o g)
  then_comes Good Better v w s None g c p = λ k. sym (and_join (Flag s) v w) ∙ ap (λ (b : Bool). b && w) (c k)
  then_comes Good Better v w s (Some r) g c p = shifted Better v w s r.1 (g r.0 r.1) c.1 (p r.0 c.2 r.1 c.0)

  then_goes : {A B : Type 0} (Good : A → Type 0) (Better : B → Type 0) (v w : Bool) (f : Does A) (g : A → Does B) → Goes Good v f → ((y : A) → Good y → Goes Better w (g y)) → Goes Better (v && w) (λ s. and_then (f s) g)
  then_goes Good Better v w f g p r = λ s h. then_comes Good Better v w s (f s) g (p s h) r

  same_goes : {A : Type 0} (Good : A → Type 0) (v w : Bool) (f : Does A) → v ≡ w → Goes Good v f → Goes Good w f
  same_goes Good v w f e p = subst (λ (b : Bool). Goes Good b f) e p

  pure_goes : {A : Type 0} (Good : A → Type 0) (y : A) → Good y → Goes Good true (λ s. Some (y, s))
  pure_goes Good y good = λ s h. (h, sym (and_true (Flag s)), good)

  map_goes : {A B : Type 0} (Good : A → Type 0) (Better : B → Type 0) (v : Bool) (f : Does A) (g : A → B) → Goes Good v f → ((y : A) → Good y → Better (g y)) → Goes Better v (λ s. and_then (f s) (λ y u. Some (g y, u)))
  map_goes Good Better v f g p better = same_goes Better (v && true) v _ (and_true v) (then_goes Good Better v true f (λ y u. Some (g y, u)) p (λ y good. pure_goes Better (g y) (better y good)))

  each_goes : {B C : Type 0} (f : C → Does (Unit {0})) (g : B → C) (flag : B → Bool) (xs : List B) → AllByRecursion (λ y. Done (flag y) (f (g y))) xs → Done (list_all holds (map flag xs)) (each f (map g xs))
  each_goes f g flag [] all = pure_goes Any (tt {0}) tt
  each_goes f g flag (y ∷ ys) all = then_goes Any Any (flag y) (list_all holds (map flag ys)) (f (g y)) (λ _. each f (map g ys)) all.0 (λ _ _. each_goes f g flag ys all.1)

  -- ---- single steps

  told_comes : {A : Type 0} (o : Option A) (v : Bool) (s : Drafting) → (is_some o ≡ true → v ≡ true) → (sound.strict ≡ true → v ≡ is_some o) → Said s → Comes (λ _. v ≡ true) v s (option_map {U = A × Drafting} (λ y. (y, s)) o)
  told_comes None v s is there h = λ k. ap (λ (b : Bool). Flag s && b) (there k) ∙ and_no (Flag s)
  told_comes (Some y) v s is there h = (h, sym (and_true (Flag s)) ∙ ap (λ (b : Bool). Flag s && b) (sym (is refl)), is refl)

  name_there : (s : Drafting) (name : Name) → Said s → sound.strict ≡ true → q.name name ≡ is_some (iri_of name s.prologue)
  name_there s name h k = sound.there k name ∙ ap (λ (p : Prologue). is_some (iri_of name p)) (sym (h.given k))

  name_is : (s : Drafting) (name : Name) → Said s → is_some (iri_of name s.prologue) ≡ true → q.name name ≡ true
  name_is s name h e = by sound.strict refl
    where
      by : (b : Bool) → sound.strict ≡ b → q.name name ≡ true
      by true k = name_there s name h k ∙ e
      by false k = sound.names k name

  iri_goes : (name : Name) → Goes (λ _. q.name name ≡ true) (q.name name) (iri name)
  unfolding iri
  iri_goes name = λ s h. told_comes (iri_of name s.prologue) (q.name name) s (name_is s name h) (name_there s name h) h

  typed_literal : (s : Drafting) (w : Literal) → Said s → is_some (literal_parts w s.prologue) ≡ true → asks_literal q w ≡ true
  unfolding literal_parts
  typed_literal s (l.Typed text name) h e = name_is s name h (sym (some_map _ (iri_of name s.prologue)) ∙ e)
  typed_literal s _ h e = refl

  tag_there : (b : Bool) → b ≡ true → {A : Type 0} (y : A) → true ≡ is_some (cond b (Some y) None)
  tag_there true e y = refl
  tag_there false e y = absurd (true≢false (sym e))

  literal_there : (s : Drafting) (w : Literal) → Said s → Must (proper_literal w) → sound.strict ≡ true → asks_literal q w ≡ is_some (literal_parts w s.prologue)
  unfolding literal_parts
  literal_there s (l.Plain text) h proper k = refl
  literal_there s (l.Tagged text tag) h proper k = tag_there (is_tag (tag_value tag)) (proper k) _
  literal_there s (l.Typed text name) h proper k = name_there s name h k ∙ sym (some_map _ (iri_of name s.prologue))
  literal_there s (l.Integer text) h proper k = refl
  literal_there s (l.Decimal text) h proper k = refl
  literal_there s (l.Double text) h proper k = refl
  literal_there s (l.Boolean value word) h proper k = refl

  literal_goes : (w : Literal) → Must (proper_literal w) → Goes (λ _. asks_literal q w ≡ true) (asks_literal q w) (literal w)
  unfolding literal
  literal_goes w proper = λ s h. told_comes (literal_parts w s.prologue) (asks_literal q w) s (typed_literal s w h) (literal_there s w h proper) h

  -- whether the name of a verb has its IRI
  abbrev verb_there : Verb → Bool
  verb_there (v.Variable name) = true
  verb_there (v.Name name) = q.name name
  verb_there v.Type = true

  verb_goes : (w : Verb) → Goes (λ y. fits_iri q y ≡ asks_verb q w) (verb_there w) (verb w)
  unfolding verb
  verb_goes (v.Variable name) = pure_goes (λ y. fits_iri q y ≡ q.variable) (i.Variable name) refl
  verb_goes (v.Name name) = map_goes (λ _. q.name name ≡ true) (λ y. fits_iri q y ≡ q.name name) (q.name name) (iri name) i.Iri (iri_goes name) (λ y e. sym e)
  verb_goes v.Type = pure_goes (λ y. fits_iri q y ≡ true) (i.Iri rdf_type) refl

  abbrev graph_there : written.VarOrIri → Bool
  graph_there (n.Variable name) = true
  graph_there (n.Name name) = q.name name

  name_goes : (w : written.VarOrIri) → Goes (λ y. fits_iri q y ≡ asks_name q w) (graph_there w) (var_or_iri w)
  unfolding var_or_iri
  name_goes (n.Variable name) = pure_goes (λ y. fits_iri q y ≡ q.variable) (i.Variable name) refl
  name_goes (n.Name name) = map_goes (λ _. q.name name ≡ true) (λ y. fits_iri q y ≡ q.name name) (q.name name) (iri name) i.Iri (iri_goes name) (λ y e. sym e)

  -- a variable or a term that is asked this, a literal or not
  record Stands (place is : Bool) (y : VarOrTerm) : Type 0 where
    fits : fits_place q y ≡ place
    kind : is_literal y ≡ is

  fresh_goes : Goes (Stands true false) q.blank fresh
  unfolding fresh
  fresh_goes = λ s h. (
    record { given = h.given; found = h.found; few = λ e. absurd (omega (arith, e)); around = h.around },
    ap (λ (b : Bool). (b || q.blank) && (list_all q.label s.labels && (list_all (fits_pattern q) s.patterns && list_all (fits_iri q) s.graphs))) (begun s.numbering.next)
        ∙ fresh_flag (s.numbering.next == 0) q.blank (list_all q.label s.labels && (list_all (fits_pattern q) s.patterns && list_all (fits_iri q) s.graphs)),
    record { fits = refl; kind = refl },
  )

  -- behind the labels stands another
  more_stand : (label other : Slice) (labels : List Slice) → stands_in label (labels ++ other ∷ []) ≡ (stands_in label labels || same_key (key_of label) (key_of other))
  more_stand label other labels =
      list_any-append (λ (l : List ℕ). same_key (key_of label) (key_of l)) labels (other ∷ []) ∙ ap (λ (b : Bool). stands_in label labels || b) (or_no (same_key (key_of label) (key_of other)))

  new_found : (other : Slice) (s : Drafting) → Said s → (l : Slice) (number : ℕ) → lookup (same_key (key_of l)) (insert_entry same_key s.numbering.labels (key_of other) s.numbering.next) ≡ Some number
      → stands_in l (s.labels ++ other ∷ []) ≡ true
  new_found other s h l number e = by (same_key (key_of l) (key_of other)) refl
    where
      by : (b : Bool) → same_key (key_of l) (key_of other) ≡ b → stands_in l (s.labels ++ other ∷ []) ≡ true
      by true f = more_stand l other s.labels ∙ ap (λ (b : Bool). stands_in l s.labels || b) f ∙ or_yes (stands_in l s.labels)
      by false f =
          let apart : key_of l ≢ key_of other = λ is. absurd (true≢false (sym ((bytes_eq-Decides (key_of l) (key_of other)).1 is) ∙ f)) in
          let old = h.found l number (sym (kept (key_of other) s.numbering.next (key_of l) s.numbering.labels apart) ∙ e) in
          more_stand l other s.labels ∙ ap (λ (b : Bool). b || same_key (key_of l) (key_of other)) old

  -- what is asked of each of the labels is asked of one that stands among them
  among : (label : Slice) (labels : List Slice) → stands_in label labels ≡ true → list_all q.label labels ≡ true → q.label label ≡ true
  among label [] e all = absurd (true≢false (sym e))
  among label (other ∷ labels) e all = by (same_key (key_of label) (key_of other)) (q.label other) refl refl (among label labels)
    where
      by : (a b : Bool) → same_key (key_of label) (key_of other) ≡ a → q.label other ≡ b → (stands_in label labels ≡ true → list_all q.label labels ≡ true → q.label label ≡ true) → q.label label ≡ true
      by a false f g rest = absurd (true≢false (sym all ∙ ap (λ (c : Bool). c && list_all q.label labels) g))
      by true true f g rest = sound.alike label other f ∙ g
      by false true f g rest = rest (ap (λ (c : Bool). c || stands_in label labels) (sym f) ∙ e) (ap (λ (c : Bool). c && list_all q.label labels) (sym g) ∙ all)

  -- a label that has this number, or none yet
  labelled_by : (other : Slice) (o : Option ℕ) (s : Drafting) → Drafting
  labelled_by other o s = record s { numbering = (labelled_as (key_of other) o s.numbering).1; labels = labels_behind other o s.labels }

  labelled_comes : (other : Slice) (o : Option ℕ) (s : Drafting) → lookup (same_key (key_of other)) s.numbering.labels ≡ o → Said s
      → Said (labelled_by other o s) × (Flag (labelled_by other o s) ≡ Flag s && q.label other)
  unfolding labelled_by
  labelled_comes other (Some number) s e h = (
    record { given = h.given; found = h.found; few = h.few; around = h.around },
    old_flag ((s.numbering.next == 0) || q.blank) (list_all q.label s.labels) (list_all (fits_pattern q) s.patterns && list_all (fits_iri q) s.graphs) (q.label other) (among other s.labels (h.found other number e)),
  )
  labelled_comes other None s e h = (
    record { given = h.given; found = new_found other s h; few = λ none. absurd (omega (arith, none)); around = h.around },
    ap (λ (b : Bool). (b || q.blank) && (list_all q.label (s.labels ++ other ∷ []) && (list_all (fits_pattern q) s.patterns && list_all (fits_iri q) s.graphs))) (begun s.numbering.next)
        ∙ ap (λ (b : Bool). q.blank && (b && (list_all (fits_pattern q) s.patterns && list_all (fits_iri q) s.graphs))) (list_all-append q.label s.labels (other ∷ []))
        ∙ label_flag (s.numbering.next == 0) q.blank (list_all q.label s.labels) (q.label other) (list_all (fits_pattern q) s.patterns && list_all (fits_iri q) s.graphs) (sound.labels other),
  )

  labelled_goes : (other : Slice) → Goes (Stands true false) (q.label other) (labelled other)
  unfolding labelled labelled_by
  labelled_goes other = λ s h. (
      let r = labelled_comes other (lookup (same_key (key_of other)) s.numbering.labels) s refl h in
      (r.0, r.1, record { fits = refl; kind = refl })
      )

  says_goes : (subject : VarOrTerm) (predicate : VarOrIri) (o : VarOrTerm) → Done (fits_triple q subject predicate o) (says subject predicate o)
  unfolding says
  says_goes subject predicate o = λ s h. (
    record { given = h.given; found = h.found; few = h.few; around = h.around },
    ap (λ (b : Bool). ((s.numbering.next == 0) || q.blank) && (list_all q.label s.labels && (b && list_all (fits_iri q) s.graphs)))
        (list_all-append (fits_pattern q) s.patterns (record { graph = s.graph; subject = subject; predicate = predicate; object = o } ∷ []))
        ∙ said_flag ((s.numbering.next == 0) || q.blank) (list_all q.label s.labels) (list_all (fits_pattern q) s.patterns) (list_all (fits_iri q) s.graphs) (fits_around q s.graph) (fits_triple q subject predicate o) (h.around q),
    tt,
  )

  default_goes : Done true in_default
  unfolding in_default
  default_goes = λ s h. (record { given = h.given; found = h.found; few = h.few; around = λ r e. refl }, sym (and_true (Flag s)), tt)

  graph_goes : (name : VarOrIri) → Done (fits_iri q name) (in_graph name)
  unfolding in_graph
  graph_goes name = λ s h. (
    record { given = h.given; found = h.found; few = h.few; around = λ r e. last r (list_all (fits_iri r) s.graphs) (fits_iri r name) (sym (list_all-append (fits_iri r) s.graphs (name ∷ [])) ∙ e) },
    ap (λ (b : Bool). ((s.numbering.next == 0) || q.blank) && (list_all q.label s.labels && (list_all (fits_pattern q) s.patterns && b))) (list_all-append (fits_iri q) s.graphs (name ∷ []))
        ∙ graph_flag ((s.numbering.next == 0) || q.blank) (list_all q.label s.labels) (list_all (fits_pattern q) s.patterns) (list_all (fits_iri q) s.graphs) (fits_iri q name),
    tt,
  )
    where
      last : (r : Question) (a b : Bool) → (a && (b && true)) ≡ true → b ≡ true
      last r true b e = sym (and_true b) ∙ e
      last r false b e = absurd (true≢false (sym e))

  -- ---- nodes

  -- what its term adds, what its place is asked, and what is said inside it; alone it may be a subject without properties
  record NodeGoes (m : Meaning) (whole is alone : Bool) : Type 0 where
    own : Bool
    place : Bool
    others : Bool
    flag : own && (place && others) ≡ whole
    single : alone ≡ true → (is ≡ false) × (place ≡ true)
    term : Goes (Stands place is) own m.term
    inside : (y : VarOrTerm) → Stands place is y → Done others (m.inside y)

  -- what is asked of a subject
  subject_is : (place is : Bool) (y : VarOrTerm) → Stands place is y → fits_subject q y ≡ place && (not is || q.literal)
  subject_is place is y h = ap (λ (b : Bool). b && (not (is_literal y) || q.literal)) h.fits ∙ ap (λ (b : Bool). place && (not b || q.literal)) h.kind

  cell_fits : (y : VarOrTerm) → Stands true false y → fits_subject q y ≡ true
  cell_fits y h = subject_is true false y h

  object_goes : (subject : VarOrTerm) (predicate : VarOrIri) (b c : Bool) (m : Meaning) (whole is alone : Bool) → fits_subject q subject ≡ b → fits_iri q predicate ≡ c → NodeGoes m whole is alone → Done (b && (c && whole)) (object subject predicate m)
  unfolding object
  object_goes subject predicate b c m whole is alone e f g =
      same_goes Any (g.own && ((b && (c && g.place)) && g.others)) (b && (c && whole)) _ (object_flag g.own b c g.place g.others ∙ ap (λ (z : Bool). b && (c && z)) g.flag)
      (then_goes (Stands g.place is) Any g.own ((b && (c && g.place)) && g.others) m.term _ g.term
      (λ o stands. then_goes Any Any (b && (c && g.place)) g.others (says subject predicate o) _
      (same_goes Any (fits_triple q subject predicate o) (b && (c && g.place)) (says subject predicate o)
      (ap (λ (z : Bool). z && (fits_iri q predicate && fits_place q o)) e ∙ ap (λ (z : Bool). b && (z && fits_place q o)) f ∙ ap (λ (z : Bool). b && (c && z)) stands.fits) (says_goes subject predicate o))
      (λ _ _. g.inside o stands)))

  next_goes : (cell : VarOrTerm) (m : Meaning) (whole is alone : Bool) → fits_subject q cell ≡ true → NodeGoes m whole is alone → Goes (Stands true false) (q.blank && whole) (next_cell cell m)
  next_goes cell m whole is alone e g =
      then_goes (Stands true false) (Stands true false) q.blank whole fresh _ fresh_goes
      (λ next stands. then_goes Any (Stands true false) true whole (says cell rest next) _
      (same_goes Any (fits_triple q cell rest next) true (says cell rest next) (ap (λ (z : Bool). z && (true && fits_place q next)) e ∙ stands.fits) (says_goes cell rest next))
      (λ _ _. same_goes (Stands true false) (whole && true) whole _ (and_true whole)
      (then_goes Any (Stands true false) whole true (object next first m) _ (object_goes next first true true m whole is alone (cell_fits next stands) refl g) (λ _ _. pure_goes (Stands true false) next stands))))

  module _ {D : Type 0} (mean : D → Meaning) (flag is alone : D → Bool) where
    abbrev AllGo : List D → Type 0
    AllGo ds = AllByRecursion (λ d. NodeGoes (mean d) (flag d) (is d) (alone d)) ds

    abbrev AllFit : List D → Bool
    AllFit ds = list_all holds (map flag ds)

    all_objects : (subject : VarOrTerm) (predicate : VarOrIri) (b c : Bool) (ds : List D) → fits_subject q subject ≡ b → fits_iri q predicate ≡ c → AllGo ds → AllByRecursion (λ d. Done (b && (c && flag d)) (object subject predicate (mean d))) ds
    all_objects subject predicate b c [] e f all = tt
    all_objects subject predicate b c (d ∷ ds) e f all = (object_goes subject predicate b c (mean d) (flag d) (is d) (alone d) e f all.0, all_objects subject predicate b c ds e f all.1)

    spread : (b c : Bool) (d : D) (ds : List D) → list_all holds (map (λ d. b && (c && flag d)) (d ∷ ds)) ≡ b && (c && AllFit (d ∷ ds))
    spread true true d ds = refl
    spread true false d ds = refl
    spread false c d ds = refl

    objects_go : (subject : VarOrTerm) (predicate : VarOrIri) (b c : Bool) (ds : List D) → Must (is_filled ds) → fits_subject q subject ≡ b → fits_iri q predicate ≡ c → AllGo ds → Done (b && (c && AllFit ds)) (objects subject predicate (map mean ds))
    objects_go subject predicate b c [] filled e f all = λ s h k. absurd (true≢false (sym (filled k)))
    objects_go subject predicate b c (d ∷ ds) filled e f all =
        same_goes Any (list_all holds (map (λ d. b && (c && flag d)) (d ∷ ds))) (b && (c && AllFit (d ∷ ds))) (each (object subject predicate) (map mean (d ∷ ds))) (spread b c d ds)
        (each_goes (object subject predicate) mean (λ d. b && (c && flag d)) (d ∷ ds) (all_objects subject predicate b c (d ∷ ds) e f all))

    behind_goes : (cell : VarOrTerm) (ds : List D) → fits_subject q cell ≡ true → AllGo ds → Done (list_all holds (map (λ d. q.blank && flag d) ds)) (behind cell (map mean ds))
    behind_goes cell [] e all = same_goes Any (fits_triple q cell rest nil) true (says cell rest nil) (ap (λ (z : Bool). z && (true && true)) e) (says_goes cell rest nil)
    behind_goes cell (d ∷ ds) e all =
        then_goes (Stands true false) Any (q.blank && flag d) (list_all holds (map (λ d. q.blank && flag d) ds)) (next_cell cell (mean d)) (λ next. behind next (map mean ds)) (next_goes cell (mean d) (flag d) (is d) (alone d) e all.0)
        (λ next stands. behind_goes next ds (cell_fits next stands) all.1)

    cells : (b : Bool) (d : D) (ds : List D) → b && (true && (flag d && list_all holds (map (λ d. b && flag d) ds))) ≡ b && AllFit (d ∷ ds)
    cells true d ds = refl
    cells false d ds = refl

    list_goes : (ds : List D) → AllGo ds → NodeGoes (record { term = list_term (map mean ds); inside = λ cell. list_inside (map mean ds) cell }) (asks_list q (map flag ds)) false (is_filled (map alone ds))
    list_goes [] all = record {
      own = true;
      place = true;
      others = true;
      flag = refl;
      single = λ e. (refl, refl);
      term = pure_goes (Stands true false) nil (record { fits = refl; kind = refl });
      inside = λ y stands. pure_goes Any (tt {0}) tt;
    }
    list_goes (d ∷ ds) all = record {
      own = q.blank;
      place = true;
      others = flag d && list_all holds (map (λ d. q.blank && flag d) ds);
      flag = cells q.blank d ds;
      single = λ e. (refl, refl);
      term = fresh_goes;
      inside = λ cell stands. then_goes Any Any (flag d) (list_all holds (map (λ d. q.blank && flag d) ds)) (object cell first (mean d)) (λ _. behind cell (map mean ds))
          (object_goes cell first true true (mean d) (flag d) (is d) (alone d) (cell_fits cell stands) refl all.0) (λ _ _. behind_goes cell ds (cell_fits cell stands) all.1);
    }

  -- a leaf
  leaf_goes : (own place is whole : Bool) → own && place ≡ whole → (f : Does VarOrTerm) → Goes (Stands place is) own f → NodeGoes (record { term = f; inside = λ _ s. Some (tt, s) }) whole is false
  leaf_goes own place is whole e f h = record {
    own = own;
    place = place;
    others = true;
    flag = ap (λ (b : Bool). own && b) (and_true place) ∙ e;
    single = λ e. absurd (true≢false (sym e));
    term = h;
    inside = λ y stands. pure_goes Any (tt {0}) tt;
  }

  -- ---- trees

  abbrev NodeMeans : Node → Type 0
  NodeMeans d = Must (proper_node d) → NodeGoes (meaning d) (asks_node q d) (is_literal_node d) (stands_alone d)

  abbrev PropertySays : Property → Type 0
  PropertySays d = (y : VarOrTerm) (b : Bool) → fits_subject q y ≡ b → Done (b && asks_property q d) (property d y)

  abbrev PropertyMeans : Property → Type 0
  PropertyMeans d = Must (proper_property d) → PropertySays d

  abbrev GoodNode : Type 0
  GoodNode = (d : Node) × NodeMeans d

  abbrev GoodProperty : Type 0
  GoodProperty = (d : Property) × PropertyMeans d

  abbrev plain_node : Node-F GoodNode GoodProperty → Node-F Node Property
  plain_node = map-Node GoodNode GoodProperty Node Property (λ e. e.0) (λ e. e.0)

  abbrev plain_property : Property-F GoodNode GoodProperty → Property-F Node Property
  plain_property = map-Property GoodNode GoodProperty Node Property (λ e. e.0) (λ e. e.0)

  abbrev stands_property : Property → Bool
  stands_property = fold-Property Bool Bool stands_alone_of (λ _. true)

  all_nodes : (ds : List GoodNode) → Must (list_all holds (map proper_node (map (λ e. e.0) ds))) → AllGo meaning (asks_node q) is_literal_node stands_alone (map (λ e. e.0) ds)
  all_nodes [] h = tt
  all_nodes (d ∷ ds) h = (d.1 (must_left (proper_node d.0) _ h), all_nodes ds (must_right (proper_node d.0) _ h))

  all_properties : (ds : List GoodProperty) → Must (list_all holds (map proper_property (map (λ e. e.0) ds))) → AllByRecursion PropertySays (map (λ e. e.0) ds)
  all_properties [] h = tt
  all_properties (d ∷ ds) h = (d.1 (must_left (proper_property d.0) _ h), all_properties ds (must_right (proper_property d.0) _ h))

  at_subject : (y : VarOrTerm) (b : Bool) (ds : List Property) → fits_subject q y ≡ b → AllByRecursion PropertySays ds → AllByRecursion (λ d. Done (b && asks_property q d) (property d y)) ds
  at_subject y b [] e all = tt
  at_subject y b (d ∷ ds) e all = (all.0 y b e, at_subject y b ds e all.1)

  properties_go : (y : VarOrTerm) (b : Bool) (ds : List Property) → fits_subject q y ≡ b → AllByRecursion PropertySays ds → Done (list_all holds (map (λ d. b && asks_property q d) ds)) (properties y ds)
  properties_go y b ds e all = each_goes (λ (f : Says). f y) property (λ d. b && asks_property q d) ds (at_subject y b ds e all)

  filled_map : {A B : Type 0} (f : A → B) (xs : List A) → is_filled (map f xs) ≡ true → is_filled xs ≡ true
  filled_map f [] h = h
  filled_map f (y ∷ ys) h = refl

  good_node : (y : Node-F GoodNode GoodProperty) → Must (proper_node_of (map-Node Node Property Bool Bool proper_node proper_property (plain_node y)))
      → NodeGoes (node_of (map-Node Node Property Meaning Says meaning property (plain_node y))) (asks_node_of q (map-Node Node Property Bool Bool (asks_node q) (asks_property q) (plain_node y)))
      (literal_of (map-Node Node Property Bool Bool is_literal_node is_literal_property (plain_node y))) (stands_alone_of (map-Node Node Property Bool Bool stands_alone stands_property (plain_node y)))
  good_node (Node-F.Variable name) h = leaf_goes true q.variable false q.variable refl _ (pure_goes (Stands q.variable false) (x.Variable name) (record { fits = refl; kind = refl }))
  good_node (Node-F.Name name) h = leaf_goes (q.name name) true false (q.name name) (and_true (q.name name)) _
      (map_goes (λ _. q.name name ≡ true) (Stands true false) (q.name name) (iri name) (λ iri. x.Term (t.Iri iri)) (iri_goes name) (λ y e. record { fits = refl; kind = refl }))
  good_node (Node-F.Literal w) h = leaf_goes (asks_literal q w) true true (asks_literal q w) (and_true (asks_literal q w)) _
      (map_goes (λ _. asks_literal q w ≡ true) (Stands true true) (asks_literal q w) (literal w) (λ y. x.Term (t.Literal y)) (literal_goes w h) (λ y e. record { fits = refl; kind = refl }))
  good_node (Node-F.Label other) h = leaf_goes (q.label other) true false (q.label other) (and_true (q.label other)) _ (labelled_goes other)
  good_node (Node-F.Blank bracket ps) h = record {
    own = q.blank;
    place = true;
    others = list_all holds (map (asks_property q) (map (λ e. e.0) ps));
    flag = refl;
    single = λ e. (refl, refl);
    term = fresh_goes;
    inside = λ y stands. properties_go y true (map (λ e. e.0) ps) (cell_fits y stands) (all_properties ps h);
  }
  good_node (Node-F.Collection bracket ds) h = list_goes meaning (asks_node q) is_literal_node stands_alone (map (λ e. e.0) ds) (all_nodes ds h)

  verb_flag : (w : Verb) (b all : Bool) → verb_there w && (b && (asks_verb q w && all)) ≡ b && (asks_verb q w && all)
  verb_flag (v.Variable name) b all = refl
  verb_flag (v.Name name) b all = by (q.name name)
    where
      by : (c : Bool) → c && (b && (c && all)) ≡ b && (c && all)
      by true = refl
      by false = sym (and_no b)
  verb_flag v.Type b all = refl

  good_property : (y : Property-F GoodNode GoodProperty) → Must (proper_property_of (map-Property Node Property Bool Bool proper_node proper_property (plain_property y))) → (subject : VarOrTerm) (b : Bool) → fits_subject q subject ≡ b
      → Done (b && asks_property_of q (map-Property Node Property Bool Bool (asks_node q) (asks_property q) (plain_property y))) (property_of (map-Property Node Property Meaning Says meaning property (plain_property y)) subject)
  good_property y h subject b e =
      let ds : List Node = map (λ e. e.0) y.objects in
      let all : Bool = list_all holds (map (asks_node q) ds) in
      let others = must_right (proper_verb y.verb) (is_filled (map proper_node ds) && list_all holds (map proper_node ds)) h in
      same_goes Any (verb_there y.verb && (b && (asks_verb q y.verb && all))) (b && (asks_verb q y.verb && all)) _ (verb_flag y.verb b all)
      (then_goes (λ predicate. fits_iri q predicate ≡ asks_verb q y.verb) Any (verb_there y.verb) (b && (asks_verb q y.verb && all)) (verb y.verb) (λ predicate. objects subject predicate (map meaning ds)) (verb_goes y.verb)
      (λ predicate f. objects_go meaning (asks_node q) is_literal_node stands_alone subject predicate b (asks_verb q y.verb) ds
      (λ k. filled_map proper_node ds (must_left (is_filled (map proper_node ds)) (list_all holds (map proper_node ds)) others k)) e f
      (all_nodes y.objects (must_right (is_filled (map proper_node ds)) (list_all holds (map proper_node ds)) others))))

  rolled_node : (y : Node-F GoodNode GoodProperty) → NodeMeans (roll-Node (plain_node y))
  rolled_node y h =
      let z : Node-F Node Property = plain_node y in
      subst (λ (m : Meaning). NodeGoes m (asks_node q (roll-Node z)) (is_literal_node (roll-Node z)) (stands_alone (roll-Node z))) (sym (fold-roll-Node Meaning Says node_of property_of z))
      (subst (λ (b : Bool). NodeGoes (node_of (map-Node Node Property Meaning Says meaning property z)) b (is_literal_node (roll-Node z)) (stands_alone (roll-Node z))) (sym (fold-roll-Node Bool Bool (asks_node_of q) (asks_property_of q) z))
      (subst (λ (b : Bool). NodeGoes (node_of (map-Node Node Property Meaning Says meaning property z)) (asks_node_of q (map-Node Node Property Bool Bool (asks_node q) (asks_property q) z)) b (stands_alone (roll-Node z))) (sym (fold-roll-Node Bool Bool literal_of none_of z))
      (subst (λ (b : Bool). NodeGoes (node_of (map-Node Node Property Meaning Says meaning property z)) (asks_node_of q (map-Node Node Property Bool Bool (asks_node q) (asks_property q) z)) (literal_of (map-Node Node Property Bool Bool is_literal_node is_literal_property z)) b)
      (sym (fold-roll-Node Bool Bool stands_alone_of (λ _. true) z)) (good_node y (λ k. sym (fold-roll-Node Bool Bool proper_node_of proper_property_of z) ∙ h k)))))

  rolled_property : (y : Property-F GoodNode GoodProperty) → PropertyMeans (roll-Property (plain_property y))
  rolled_property y h subject b e =
      let z : Property-F Node Property = plain_property y in
      subst (λ (f : Says). Done (b && asks_property q (roll-Property z)) (f subject)) (sym (fold-roll-Property Meaning Says node_of property_of z))
      (subst (λ (c : Bool). Done (b && c) (property_of (map-Property Node Property Meaning Says meaning property z) subject)) (sym (fold-roll-Property Bool Bool (asks_node_of q) (asks_property_of q) z)) (good_property y (λ k. sym (fold-roll-Property Bool Bool proper_node_of proper_property_of z) ∙ h k) subject b e))

  node_step : (z : Node-F Node Property) (y : Node-F GoodNode GoodProperty) → plain_node y ≡ z → NodeMeans (roll-Node z)
  node_step z y is = subst (λ (e : Node-F Node Property). NodeMeans (roll-Node e)) is (rolled_node y)

  property_step : (z : Property-F Node Property) (y : Property-F GoodNode GoodProperty) → plain_property y ≡ z → PropertyMeans (roll-Property z)
  property_step z y is = subst (λ (e : Property-F Node Property). PropertyMeans (roll-Property e)) is (rolled_property y)

  node_means : (d : Node) → NodeMeans d
  node_means = ind-Node NodeMeans PropertyMeans node_step property_step

  property_means : (d : Property) → PropertyMeans d
  property_means = ind-Property NodeMeans PropertyMeans node_step property_step

  properties_mean : (ds : List Property) → Must (list_all holds (map proper_property ds)) → AllByRecursion PropertySays ds
  properties_mean [] h = tt
  properties_mean (d ∷ ds) h = (property_means d (must_left (proper_property d) _ h), properties_mean ds (must_right (proper_property d) _ h))

  -- ---- triples and blocks

  abbrev All : List Property → Bool
  All ps = list_all holds (map (asks_property q) ps)

  some_properties : (b : Bool) (d : Property) (ps : List Property) → list_all holds (map (λ d. b && asks_property q d) (d ∷ ps)) ≡ b && All (d ∷ ps)
  some_properties true d ps = refl
  some_properties false d ps = refl

  -- a subject that is asked this, in a triple or alone
  subject_flags : (node : Node) (ps : List Property) (g : NodeGoes (meaning node) (asks_node q node) (is_literal_node node) (stands_alone node)) → (stands_alone node || is_filled ps) ≡ true
      → g.own && (g.others && list_all holds (map (λ d. (g.place && asks_subject q node) && asks_property q d) ps)) ≡ asks_subject q node && (asks_node q node && All ps)
  subject_flags node (d ∷ ps) g filled =
      ap (λ (b : Bool). g.own && (g.others && b)) (some_properties (g.place && asks_subject q node) d ps)
      ∙ subject_flag g.own g.place g.others (asks_subject q node) (All (d ∷ ps)) ∙ ap (λ (b : Bool). asks_subject q node && (b && All (d ∷ ps))) g.flag
  subject_flags node [] g filled =
      let single = g.single (sym (or_no (stands_alone node)) ∙ filled) in
      alone_flag g.own g.others ∙ ap (λ (b : Bool). (g.own && (b && g.others)) && true) (sym single.1) ∙ ap (λ (b : Bool). b && true) g.flag
      ∙ ap (λ (b : Bool). (not b || q.literal) && (asks_node q node && true)) (sym single.0)

  subject_goes : (node : Node) (ps : List Property) → Must (proper_node node) → Must (list_all holds (map proper_property ps)) → (stands_alone node || is_filled ps) ≡ true → Done (asks_subject q node && (asks_node q node && All ps)) (subject_with node ps)
  subject_goes node ps proper all_proper filled =
      let g = node_means node proper in
      let b : Bool = g.place && asks_subject q node in
      let all : Bool = list_all holds (map (λ d. b && asks_property q d) ps) in
      same_goes Any (g.own && (g.others && all)) (asks_subject q node && (asks_node q node && All ps)) (subject_with node ps) (subject_flags node ps g filled)
      (then_goes (Stands g.place (is_literal_node node)) Any g.own (g.others && all) (meaning node).term _ g.term
      (λ y stands. then_goes Any Any g.others all ((meaning node).inside y) _ (g.inside y stands) (λ _ _. properties_go y b ps (subject_is g.place (is_literal_node node) y stands) (properties_mean ps all_proper))))

  triples_go : (ts : Triples) → Must (proper_triples ts) → Done (asks_triples q ts) (triples ts)
  unfolding triples
  triples_go ts h = chosen (stands_alone ts.subject || is_filled ts.properties) refl
    where
      others : Must (list_all holds (map proper_property ts.properties) && (stands_alone ts.subject || is_filled ts.properties))
      others = must_right (proper_node ts.subject) _ h

      chosen : (b : Bool) → (stands_alone ts.subject || is_filled ts.properties) ≡ b → Done (asks_triples q ts) (cond b (subject_with ts.subject ts.properties) none)
      chosen true e = subject_goes ts.subject ts.properties (must_left (proper_node ts.subject) _ h) (must_left (list_all holds (map proper_property ts.properties)) (stands_alone ts.subject || is_filled ts.properties) others) e
      chosen false e = λ s l k. absurd (true≢false (sym (must_right (list_all holds (map proper_property ts.properties)) (stands_alone ts.subject || is_filled ts.properties) others k) ∙ e))

  all_triples : (ys : List Triples) → Must (list_all holds (map proper_triples ys)) → AllByRecursion (λ ts. Done (asks_triples q ts) (triples ts)) ys
  all_triples [] h = tt
  all_triples (ts ∷ ys) h = (triples_go ts (must_left (proper_triples ts) _ h), all_triples ys (must_right (proper_triples ts) _ h))

  graph_flag_twice : (w : written.VarOrIri) → graph_there w && asks_name q w ≡ asks_name q w
  graph_flag_twice (n.Variable name) = refl
  graph_flag_twice (n.Name name) = by (q.name name)
    where
      by : (c : Bool) → c && c ≡ c
      by true = refl
      by false = refl

  graph_named : (g : Option written.VarOrIri) → Done (asks_graph q g) (graph g)
  graph_named None = default_goes
  graph_named (Some name) = same_goes Any (graph_there name && asks_name q name) (asks_name q name) _ (graph_flag_twice name)
      (then_goes (λ y. fits_iri q y ≡ asks_name q name) Any (graph_there name) (asks_name q name) (var_or_iri name) in_graph (name_goes name) (λ y e. same_goes Any (fits_iri q y) (asks_name q name) (in_graph y) e (graph_goes y)))

  block_goes : (b : Block) → Must (proper_block b) → Done (asks_block q b) (block b)
  block_goes b h =
      then_goes Any Any (asks_graph q b.graph) (list_all holds (map (asks_triples q) b.triples)) (graph b.graph) (λ _. each (λ f. f) (map triples b.triples)) (graph_named b.graph)
      (λ _ _. each_goes (λ (f : Does (Unit {0})). f) triples (asks_triples q) b.triples (all_triples b.triples (must_right (proper_graph b.graph) (list_all holds (map proper_triples b.triples)) h)))

  all_blocks : (bs : List Block) → Must (list_all holds (map proper_block bs)) → AllByRecursion (λ b. Done (asks_block q b) (block b)) bs
  all_blocks [] h = tt
  all_blocks (b ∷ bs) h = (block_goes b (must_left (proper_block b) _ h), all_blocks bs (must_right (proper_block b) _ h))

  -- what is asked of quads, which have no labels where they have no blank nodes, and no graph around them that isn't listed
  pub record Answers (v : Bool) (d : Quads) : Type 0 where
    pub is : fits_quads q d ≡ v
    pub few : d.blanks ≡ 0 → d.labels ≡ []

  abbrev begins : Drafting
  begins = start sound.against

  -- against any prologue, or strictly against its own
  none_listed : (p : Prologue) → (sound.strict ≡ true → p ≡ sound.against) → Said (start p)
  none_listed p e = record { given = e; found = λ l number e. absurd (cc e); few = λ _. refl; around = λ r e. refl }

  quads_said : (v : Bool) (p : Prologue) (o : Outcome Drafting (Unit {0})) (d : Quads) → Comes Any v (start p) o → option_map (λ r. quads r.1) o ≡ Some d → Answers v d
  quads_said v p None d h e = absurd (cc e)
  quads_said v p (Some r) d h e =
      let said : Answers v (quads r.1) = record { is = h.1; few = h.0.few } in
      let same : quads r.1 ≡ d = cc e in
      subst (Answers v) same said

  -- where names alone are asked they are there just where each has its IRI
  quads_are : (v : Bool) (o : Outcome Drafting (Unit {0})) → sound.strict ≡ true → ((d : Quads) → fits_quads q d ≡ true) → Comes Any v begins o → is_some (option_map (λ r. quads r.1) o) ≡ v
  quads_are v None k fits h = sym (h k)
  quads_are v (Some r) k fits h = sym (fits (quads r.1)) ∙ h.1

  blocks_go : (bs : List Block) → Must (list_all holds (map proper_block bs)) → Done (asks_blocks q bs) (each (λ f. f) (map block bs))
  blocks_go bs h = each_goes (λ (f : Does (Unit {0})). f) block (asks_block q) bs (all_blocks bs h)

  all_go : (ts : List Triples) → Must (list_all holds (map proper_triples ts)) → Done (list_all holds (map (asks_triples q) ts)) (each (λ f. f) (map triples ts))
  all_go ts h = each_goes (λ (f : Does (Unit {0})). f) triples (asks_triples q) ts (all_triples ts h)

  no_must : sound.strict ≡ false → (b : Bool) → Must b
  no_must lax b = λ k. absurd (true≢false (sym k ∙ lax))

  pub blocks_say : sound.strict ≡ false → (bs : List Block) (p : Prologue) (d : Quads) → quads_in bs p ≡ Some d → Answers (asks_blocks q bs) d
  unfolding quads_in
  blocks_say lax bs p d e =
      quads_said (asks_blocks q bs) p (each (λ f. f) (map block bs) (start p)) d (blocks_go bs (no_must lax (list_all holds (map proper_block bs))) (start p) (none_listed p (λ k. absurd (true≢false (sym k ∙ lax))))) e

  pub pattern_says : sound.strict ≡ false → (ts : List Triples) (p : Prologue) (d : Quads) → pattern_in ts p ≡ Some d → Answers (list_all holds (map (asks_triples q) ts)) d
  unfolding pattern_in
  pattern_says lax ts p d e =
      quads_said (list_all holds (map (asks_triples q) ts)) p (each (λ f. f) (map triples ts) (start p)) d (all_go ts (no_must lax (list_all holds (map proper_triples ts))) (start p) (none_listed p (λ k. absurd (true≢false (sym k ∙ lax))))) e

  module _ (k : sound.strict ≡ true) (fits : (d : Quads) → fits_quads q d ≡ true) where
    pub blocks_are : (bs : List Block) → list_all holds (map proper_block bs) ≡ true → is_some (quads_in bs sound.against) ≡ asks_blocks q bs
    unfolding quads_in
    blocks_are bs h = quads_are (asks_blocks q bs) (each (λ f. f) (map block bs) begins) k fits (blocks_go bs (λ _. h) begins (none_listed sound.against (λ _. refl)))

    pub pattern_is : (ts : List Triples) → list_all holds (map proper_triples ts) ≡ true → is_some (pattern_in ts sound.against) ≡ list_all holds (map (asks_triples q) ts)
    unfolding pattern_in
    pattern_is ts h = quads_are (list_all holds (map (asks_triples q) ts)) (each (λ f. f) (map triples ts) begins) k fits (all_go ts (λ _. h) begins (none_listed sound.against (λ _. refl)))
