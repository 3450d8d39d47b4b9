-- Proper triples say something just where each of their names has an IRI.
use Rattle.std.proofs.Common.{◌≡◌, ◌∙◌, ap, refl, sym, subst, Bool, true, false, cond, ◌&&◌, not, ◌==◌, List, map, Option, Some, None, true≢false}
use Rattle.std.specs.Prelude.{is_some}
use Rattle.std.specs.List.{list_all}
use Rattle.rdf_terms.specs.Literal.{is_tag}
use Rattle.rdf_tokens.specs.Values.{tag_value}
use Rattle.rdf_grammar.specs.Holds.{holds}
use Rattle.rdf_grammar.specs.Literals.{literal_of, proper_literal}
use Rattle.rdf_grammar.specs.Prologue.{Prologue, iri_of}
use Rattle.rdf_grammar.specs.Steps.{Outcome, Step, and_then}
use Rattle.rdf_grammar.specs.declared.tree.Literal.{Literal}
use Rattle.rdf_grammar.specs.declared.tree.Literal.TheVariants as l
use Rattle.rdf_grammar.specs.declared.tree.Name.{Name}
use Rattle.sparql_grammar.specs.Proper.{proper_block, proper_triples}
use Rattle.sparql_grammar.specs.declared.tree.Block.{Block}
use Rattle.sparql_grammar.specs.declared.tree.Triples.{Triples}
use Rattle.sparql_grammar.specs.declared.tree.VarOrIri.{VarOrIri}
use Rattle.sparql_grammar.specs.declared.tree.VarOrIri.TheVariants as i
use Rattle.sparql_drafts.specs.Meaning.{quads_in, pattern_in}
use Rattle.sparql_drafts.specs.declared.draft.Quads.{Quads}
use Rattle.sparql_syntax.specs.Rules.{is_literal}
use Rattle.sparql_syntax.proofs.NameFronts.{of_names}
use Rattle.sparql_syntax.proofs.NameWords.{each_literal}
use Rattle.sparql_syntax.proofs.NameNodes.{each_triples}
use Rattle.sparql_syntax.proofs.NameOperations.{each_graph, each_block, each_blocks}
use Rattle.sparql_syntax.proofs.NameTriples.{all_same, triples_same}
use Rattle.sparql_syntax.proofs.SharedLabels.{or_yes}
use Rattle.sparql_syntax.proofs.TripleQuestions.{Question, asks_triples, asks_graph, asks_block}
use Rattle.sparql_syntax.proofs.TriplesSaid.{Sound, blocks_are, every, fits_iri, fits_pattern, fits_quads, iri_fits, pattern_by_subject, pattern_is, some_map}

-- the name has an IRI
abbrev pub has_iri : Prologue → Name → Bool
has_iri p name = is_some (iri_of name p)

-- ---- steps over a state of which something holds

module _ {S : Type 0} (Given : S → Type 0) where
  -- an outcome that is there just where the flag is set
  abbrev pub Comes : {A : Type 0} → Bool → Outcome S A → Type 0
  Comes {A} true o = (a : A) × (s : S) × (o ≡ Some (a, s)) × Given s
  Comes {A} false o = o ≡ None

  abbrev pub Goes : {A : Type 0} → Bool → Step S A → Type 0
  Goes flag f = (s : S) → Given s → Comes flag (f s)

  pub then_goes : {A B : Type 0} (b c : Bool) (f : Step S A) (g : A → Step S B) → Goes b f → ((a : A) → Goes c (g a)) → Goes (b && c) (λ s. and_then (f s) g)
  then_goes {A = A} true c f g p q = λ s h. (let r = p s h in subst (λ (o : Outcome S A). Comes c (and_then o g)) (sym r.2) (q r.0 r.1 r.3))
  then_goes {A = A} false c f g p q = λ s h. ap (λ (o : Outcome S A). and_then o g) (p s h)

  pub pure_goes : {A : Type 0} (a : A) → Goes true (λ s. Some (a, s))
  pure_goes a = λ s h. (a, s, refl, h)

  pub map_goes : {A B : Type 0} (b : Bool) (f : Step S A) (g : A → B) → Goes b f → Goes b (λ s. and_then (f s) (λ a u. Some (g a, u)))
  map_goes {A = A} true f g p = λ s h. (let r = p s h in (g r.0, r.1, ap (λ (o : Outcome S A). and_then o (λ a u. Some (g a, u))) r.2, r.3))
  map_goes {A = A} false f g p = λ s h. ap (λ (o : Outcome S A). and_then o (λ a u. Some (g a, u))) (p s h)

  pub by_flag : {A : Type 0} (b c : Bool) (f : Step S A) → b ≡ c → Goes b f → Goes c f
  by_flag b c f e p = subst (λ (x : Bool). Goes x f) e p

  pub there : {A : Type 0} (flag : Bool) (o : Outcome S A) → Comes flag o → is_some o ≡ flag
  there {A = A} true o h = ap (λ (x : Outcome S A). is_some x) h.2
  there {A = A} false o h = ap (λ (x : Outcome S A). is_some x) h

-- ---- names alone, asked of trees

module _ (n : Name → Bool) where
  abbrev names : Question
  names = of_names n

  graph_same : (g : Option VarOrIri) → asks_graph names g ≡ each_graph names g
  graph_same None = refl
  graph_same (Some (i.Variable name)) = refl
  graph_same (Some (i.Name name)) = refl

  block_same : (b : Block) → asks_block names b ≡ each_block names b
  block_same b =
      ap (λ (c : Bool). c && list_all holds (map (asks_triples names) b.triples)) (graph_same b.graph)
      ∙ ap (λ (c : Bool). each_graph names b.graph && c) (all_same n (asks_triples names) (each_triples names) (triples_same n) b.triples)

-- ---- against a prologue

module _ (p : Prologue) where
  abbrev q : Question
  q = of_names (has_iri p)

  abbrev sound : Sound q
  sound = record { strict = true; against = p; names = λ e. absurd (true≢false e); there = λ e name. refl; alike = λ label other e. refl; labels = λ label e. refl }

  -- nothing but names is asked
  all_fit : (d : Quads) → fits_quads q d ≡ true
  all_fit d =
      ap (λ (b : Bool). b && (list_all q.label d.labels && (list_all (fits_pattern q) d.patterns && list_all (fits_iri q) d.graphs))) (or_yes (d.blanks == 0))
      ∙ ap (λ (b : Bool). b && (list_all (fits_pattern q) d.patterns && list_all (fits_iri q) d.graphs)) (every q.label (λ label. refl) d.labels)
      ∙ ap (λ (b : Bool). b && list_all (fits_iri q) d.graphs) (every (fits_pattern q) (λ x. pattern_by_subject q refl x ∙ or_yes (not (is_literal x.subject))) d.patterns)
      ∙ every (fits_iri q) (iri_fits q refl) d.graphs

  tag_there : (b : Bool) → b ≡ true → {A : Type 0} (a : A) → is_some (cond b (Some a) None) ≡ true
  tag_there true e a = refl
  tag_there false e a = absurd (true≢false (sym e))

  pub literal_there : (w : Literal) → proper_literal w ≡ true → is_some (literal_of w p) ≡ each_literal q w
  unfolding literal_of
  literal_there (l.Plain text) h = refl
  literal_there (l.Tagged text tag) h = tag_there (is_tag (tag_value tag)) h _
  literal_there (l.Typed text name) h = some_map _ (iri_of name p)
  literal_there (l.Integer text) h = refl
  literal_there (l.Decimal text) h = refl
  literal_there (l.Double text) h = refl
  literal_there (l.Boolean value word) h = refl

  -- the quads of blocks are there just where each name has an IRI
  pub quads_there : (bs : List Block) → list_all holds (map proper_block bs) ≡ true → is_some (quads_in bs p) ≡ each_blocks q bs
  quads_there bs h = blocks_are q sound refl all_fit bs h ∙ all_same (has_iri p) (asks_block q) (each_block q) (block_same (has_iri p)) bs

  pub pattern_there : (xs : List Triples) → list_all holds (map proper_triples xs) ≡ true → is_some (pattern_in xs p) ≡ list_all holds (map (each_triples q) xs)
  pattern_there xs h = pattern_is q sound refl all_fit xs h ∙ all_same (has_iri p) (asks_triples q) (each_triples q) (triples_same (has_iri p)) xs
