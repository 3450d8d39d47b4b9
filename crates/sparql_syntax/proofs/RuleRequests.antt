-- Requests: some lexeme breaks a static rule just where a part of the tree does.
use Rattle.std.proofs.Common.{◌≡◌, ◌∙◌, ap, refl, sym, subst, ℕ, suc, Bool, true, false, ◌&&◌, ◌||◌, not, List, [], ◌∷◌, ◌++◌, map, append-nil, Option, Some, None, inl, inr, true≢false}
use Rattle.std.proofs.lemmas.Bool.{and_parts}
use Rattle.std.specs.Prelude.{is_some}
use Rattle.std.specs.List.{list_any}
use Rattle.rdf_grammar.specs.Derivations as grammar
use Rattle.rdf_grammar.specs.Derivations.{Then, Star, stop, more}
use Rattle.rdf_grammar.specs.Productions as productions
use Rattle.rdf_grammar.specs.Terminals.{Slice}
use Rattle.rdf_grammar.specs.declared.tree.Name.{Name}
use Rattle.rdf_grammar.specs.declared.tree.Name.TheVariants.{Full}
use Rattle.rdf_grammar.specs.declared.word.Word.TheVariants as w
use Rattle.sparql_terminals.specs.declared.terminal.Terminal.{Terminal}
use Rattle.sparql_terminals.specs.declared.terminal.Terminal.TheVariants as terminal
use Rattle.sparql_terminals.specs.Lexemes.{Lexeme, Lexemes, Derives}
use Rattle.sparql_terminals.specs.Terminals.{word}
use Rattle.sparql_terminals.specs.WordGrammar as words
use Rattle.sparql_grammar.specs.declared.tree.Block.{Block}
use Rattle.sparql_grammar.specs.declared.tree.Declaration.{Declaration}
use Rattle.sparql_grammar.specs.declared.tree.Group.{Group}
use Rattle.sparql_grammar.specs.declared.tree.Modify.{Modify}
use Rattle.sparql_grammar.specs.declared.tree.Operation.{Operation}
use Rattle.sparql_grammar.specs.declared.tree.Operation.TheVariants as o
use Rattle.sparql_grammar.specs.declared.tree.Part.{Part}
use Rattle.sparql_grammar.specs.declared.tree.Part.TheVariants as one_part
use Rattle.sparql_grammar.specs.Grammar.{Nodes_at, Perhaps, TriplesTemplate}
use Rattle.sparql_grammar.specs.GroupGrammar.{GroupAt}
use Rattle.sparql_grammar.specs.OperationGrammar as g
use Rattle.sparql_grammar.specs.OperationGrammar.{IsRequest, Update, declared, last, more as more_parts}
use Rattle.sparql_grammar.specs.PrologueGrammar.{Prologue}
use Rattle.sparql_syntax.specs.declared.clause.Clause.{Clause}
use Rattle.sparql_syntax.specs.declared.clause.Clause.TheVariants as clause
use Rattle.sparql_syntax.specs.BrokenRules.{subject_behind}
use Rattle.sparql_syntax.specs.Clauses.{behind_brace, behind_where, clause_behind}
use Rattle.sparql_syntax.proofs.NameFronts as names
use Rattle.sparql_syntax.proofs.NameFronts.{iri_only, pname_only}
use Rattle.sparql_syntax.proofs.NameGroups.{group_at_gives}
use Rattle.sparql_syntax.proofs.QuadFronts.{block_value, quads_give}
use Rattle.sparql_syntax.proofs.QuestionFronts as question
use Rattle.sparql_syntax.proofs.QuestionFronts.{asked}
use Rattle.sparql_syntax.proofs.RuleDrafts.{operation_breaks, part_breaks}
use Rattle.sparql_syntax.proofs.RuleLexemes.{Rule, Broken, Stays, all_stay, front_broken, front_steady, quiet_front, step_broken}
use Rattle.sparql_syntax.proofs.TripleQuestions.{asks_blocks}

-- ---- groups, in which neither INSERT nor DELETE stands

abbrev no_words : names.Ask
no_words = record { name = λ _. true; variable = true; label = λ _. true; blank = true; literal = true; word = false }

all_stay_in : (f : Lexemes) → names.all_named no_words f ≡ true → Stays clause.Pattern f
all_stay_in [] e = tt
all_stay_in (t ∷ f) e = (let parts = and_parts (names.names no_words t.terminal t.text) (names.all_named no_words f) e in (by t.terminal t.text parts.0, all_stay_in f parts.1))
  where
    by : (k : Terminal) (text : Slice) → names.names no_words k text ≡ true → clause_behind clause.Pattern k ≡ clause.Pattern
    by terminal.Insert text e = absurd (true≢false (sym e))
    by terminal.Delete text e = absurd (true≢false (sym e))
    by _ text e = refl

all_named : (f : Lexemes) → names.all_named (names.of_names (λ _. true)) f ≡ true
all_named [] = refl
all_named (t ∷ f) = ap (λ (b : Bool). b && names.all_named (names.of_names (λ _. true)) f) (by t.terminal t.text) ∙ all_named f
  where
    by : (k : Terminal) (text : Slice) → names.names (names.of_names (λ _. true)) k text ≡ true
    by terminal.Iri text = refl
    by _ text = refl

module _ (r : Rule) where
  abbrev asks : Clause → Bool
  asks = r.asks

  -- of blocks in a clause that the rule asks of
  abbrev pub breaks_in : List Block → Bool
  breaks_in blocks = not (asks_blocks r.question blocks)

  -- so it is from here on, whatever clause they begin in
  abbrev Reads : Lexemes → Bool → Type 0
  Reads us v = (c : Clause) (s : Bool) → Broken r c s us ≡ v

  -- ---- names, in any clause

  unfoldable Named : {A : Type 0} → Derives A → Type 0
  Named {A} P = (ts : Lexemes) (x : A) (us : Lexemes) → P ts x us → (v : Bool) → Reads us v → Reads ts v

  abbrev Mute : Terminal → Type 0
  Mute k = (s : Bool) (text : Slice) (next : Option Terminal) → asked r.question s k text next ≡ true

  lexeme_named : (k : Terminal) (t : Lexeme) (ts us : Lexemes) (v : Bool) → Mute k → ((c : Clause) → clause_behind c k ≡ c) → t.terminal ≡ k → ts ≡ t ∷ us → Reads us v → Reads ts v
  lexeme_named k t ts us v mute stays is at reads c s = step_broken r c c s k t ts us (stays c) (mute s) is at ∙ reads c (subject_behind k)

  then_named : {A B : Type 0} (P : Derives A) (F : A → Derives B) → Named P → ((x : A) → Named (F x)) → Named (Then P F)
  unfolding Named
  then_named P F p f ts x us d v reads = p ts d.first d.mid d.reads v (f d.first d.mid x us d.goes v reads)

  pure_named : {A : Type 0} (x : A) → Named (grammar.pure x)
  unfolding Named
  pure_named x ts y us d v reads = subst (λ (z : Lexemes). Reads z v) (sym d.1) reads

  or_named : {A : Type 0} (P Q : Derives A) → Named P → Named Q → Named (grammar.◌∣◌ P Q)
  unfolding Named
  or_named P Q p q ts x us (inl d) v reads = p ts x us d v reads
  or_named P Q p q ts x us (inr d) v reads = q ts x us d v reads

  map_named : {A B : Type 0} (f : A → B) (P : Derives A) → Named P → Named (grammar.◌<$>◌ f P)
  map_named f P p = then_named P _ p (λ x. pure_named (f x))

  the_named : (k : Terminal) → Mute k → ((c : Clause) → clause_behind c k ≡ c) → Named (grammar.the k)
  unfolding Named
  the_named k mute stays ts x us d v reads = lexeme_named k d.0 ts us v mute stays d.1 d.2 reads

  iri_mute : Mute terminal.Iri
  iri_mute s text next = r.names (Full text)

  pname_mute : Mute terminal.Pname
  pname_mute s text next = r.names (productions.prefixed text)

  reference_named : Named (grammar.value terminal.Iri)
  unfolding Named
  reference_named ts x us d v reads = lexeme_named terminal.Iri d.0 ts us v iri_mute (λ c. refl) d.1 d.3 reads

  iri_word_named : Named (productions.value word w.Iri)
  unfolding Named
  iri_word_named ts x us d v reads = lexeme_named terminal.Iri d.0 ts us v iri_mute (λ c. refl) (iri_only d.0.terminal d.1) d.3 reads

  pname_word_named : Named (productions.value word w.Pname)
  unfolding Named
  pname_word_named ts x us d v reads = lexeme_named terminal.Pname d.0 ts us v pname_mute (λ c. refl) (pname_only d.0.terminal d.1) d.3 reads

  namespace_named : Named (productions.namespace word)
  unfolding Named
  namespace_named ts x us d v reads = lexeme_named terminal.Pname d.0 ts us v pname_mute (λ c. refl) (pname_only d.0.terminal d.1) d.4 reads

  sign_named : (k : Terminal) → Mute k → ((c : Clause) → clause_behind c k ≡ c) → {A : Type 0} (P : Derives A) → Named P → Named (grammar.◌>>◌ (grammar.the k) P)
  sign_named k mute stays P p = then_named (grammar.the k) _ (the_named k mute stays) (λ _. p)

  maybe_named : {A : Type 0} (P : Derives A) → Named P → Named (grammar.maybe P)
  unfolding Named
  maybe_named P p ts None us d v reads = subst (λ (z : Lexemes). Reads z v) (sym d) reads
  maybe_named P p ts (Some x) us d v reads = p ts x us d v reads

  star_named : {A : Type 0} (P : Derives (List A)) → Named P → Named (Star P)
  unfolding Named
  star_named P p ts xs us stop v reads = reads
  star_named P p ts xs us (more {mid = mid} {x = x} {xs = zs} a b) v reads = p ts x mid a v (star_named P p mid zs us b v reads)

  iri_named : Named words.Iri
  iri_named = or_named _ _ (map_named _ _ iri_word_named) (map_named _ _ pname_word_named)

  perhaps_named : (k : Terminal) → Mute k → ((c : Clause) → clause_behind c k ≡ c) → Named (Perhaps k)
  perhaps_named k mute stays = map_named is_some _ (maybe_named _ (the_named k mute stays))

  base_mute : Mute terminal.Base
  base_mute s text next = r.words

  prefix_mute : Mute terminal.Prefix
  prefix_mute s text next = r.words

  prologue_named : Named Prologue
  prologue_named = star_named _ (map_named _ _ (or_named _ _ (sign_named terminal.Base base_mute (λ c. refl) _ (map_named _ _ reference_named))
      (sign_named terminal.Prefix prefix_mute (λ c. refl) _ (map_named _ _ (then_named _ _ namespace_named (λ prefix. then_named _ _ iri_word_named (λ reference. pure_named _)))))))

  graph_ref_named : Named g.GraphRef
  graph_ref_named = sign_named terminal.Graph (λ s text next. refl) (λ c. refl) _ iri_named

  silent_named : Named (Perhaps terminal.Silent)
  silent_named = perhaps_named terminal.Silent (λ s text next. refl) (λ c. refl)

  on_graphs_named : Named g.OnGraphs
  on_graphs_named = then_named _ _ silent_named (λ silent. then_named _ _ (or_named _ _ (map_named _ _ graph_ref_named) (or_named _ _ (sign_named terminal.Default (λ s text next. refl) (λ c. refl) _ (pure_named _))
      (or_named _ _ (sign_named terminal.Named (λ s text next. refl) (λ c. refl) _ (pure_named _)) (sign_named terminal.All (λ s text next. refl) (λ c. refl) _ (pure_named _))))) (λ graphs. pure_named _))

  one_named : Named g.AGraphOrDefault
  one_named = or_named _ _ (sign_named terminal.Default (λ s text next. refl) (λ c. refl) _ (pure_named _)) (then_named _ _ (perhaps_named terminal.Graph (λ s text next. refl) (λ c. refl)) (λ _. map_named _ _ iri_named))

  between_named : Named g.Between
  between_named = then_named _ _ silent_named (λ silent. then_named _ _ one_named (λ from. sign_named terminal.To (λ s text next. refl) (λ c. refl) _ (then_named _ _ one_named (λ to. pure_named _))))

  graph_operation_named : Named g.GraphOperation
  graph_operation_named =
      or_named _ _ (sign_named terminal.Clear (λ s text next. refl) (λ c. refl) _ (map_named _ _ on_graphs_named)) (or_named _ _ (sign_named terminal.Drop (λ s text next. refl) (λ c. refl) _ (map_named _ _ on_graphs_named))
      (or_named _ _ (sign_named terminal.Add (λ s text next. refl) (λ c. refl) _ (map_named _ _ between_named)) (or_named _ _ (sign_named terminal.Move (λ s text next. refl) (λ c. refl) _ (map_named _ _ between_named))
      (or_named _ _ (sign_named terminal.Copy (λ s text next. refl) (λ c. refl) _ (map_named _ _ between_named))
      (sign_named terminal.Create (λ s text next. refl) (λ c. refl) _ (then_named _ _ silent_named (λ silent. then_named _ _ graph_ref_named (λ graph. pure_named _))))))))

  -- ---- quads and groups

  -- behind a clause that the brace makes this one
  quads_broken : (depth : ℕ) (b c : Clause) → behind_brace b ≡ c → behind_brace c ≡ c → (ts : Lexemes) (bs : List Block) (us : Lexemes) → g.QuadPattern (TriplesTemplate (Nodes_at (suc depth))) (TriplesTemplate (Nodes_at depth)) ts bs us
      → (s : Bool) → Broken r b s ts ≡ ((asks c && breaks_in bs) || Broken r c true us)
  unfolding question.Gives
  quads_broken depth b c opens brace ts bs us d s =
      let f = quads_give depth d.mid bs us d.goes in
      let still = front_steady true true (question.lists block_value) d.mid bs us f refl in
      step_broken r b c s terminal.OpenBrace d.reads.0 ts d.mid opens (λ text next. refl) d.reads.1 d.reads.2 ∙ ap (Broken r c true) f.is ∙ front_broken r c true f.front us (all_stay c brace f.front still)
      ∙ ap (λ (z : Bool). (asks c && not z) || Broken r c (question.flag true f.front) us) (f.says r.question) ∙ ap (λ (z : Bool). (asks c && breaks_in bs) || Broken r c z us) f.ends

  -- where the rule doesn't ask
  quads_quiet : (depth : ℕ) (b c : Clause) → behind_brace b ≡ c → behind_brace c ≡ c → asks c ≡ false → (ts : Lexemes) (bs : List Block) (us : Lexemes)
      → g.QuadPattern (TriplesTemplate (Nodes_at (suc depth))) (TriplesTemplate (Nodes_at depth)) ts bs us → (s : Bool) → Broken r b s ts ≡ Broken r c true us
  quads_quiet depth b c opens brace none ts bs us d s = quads_broken depth b c opens brace ts bs us d s ∙ ap (λ (z : Bool). (z && breaks_in bs) || Broken r c true us) none

  group_reads : (depth : ℕ) (ts : Lexemes) (x : Group) (us : Lexemes) → GroupAt depth ts x us → (v : Bool) → Reads us v → (s : Bool) → Broken r clause.Pattern s ts ≡ v
  unfolding names.Gives
  group_reads depth ts x us d v reads s =
      let f = group_at_gives depth ts x us d in
      let named = f.adds.says no_words ∙ sym (f.adds.says (names.of_names (λ _. true))) ∙ all_named f.front in
      ap (Broken r clause.Pattern s) f.is ∙ quiet_front r clause.Pattern r.patterns s f.front us (all_stay_in f.front named) ∙ reads clause.Pattern (question.flag s f.front)

  -- ---- operations

  abbrev Breaks : Operation → Bool
  Breaks = operation_breaks asks breaks_in

  module _ (depth : ℕ) where
    abbrev Template : Derives (List Block)
    Template = g.QuadPattern (TriplesTemplate (Nodes_at (suc depth))) (TriplesTemplate (Nodes_at depth))

    -- two words, and quads in braces
    data_reads : (k l : Terminal) (b c : Clause) (operation : List Block → Operation) → ((s : Bool) (text : Slice) (next : Option Terminal) → asked r.question s k text next ≡ r.question.word) → ((e : Clause) → clause_behind e k ≡ b)
        → ((s : Bool) (text : Slice) (next : Option Terminal) → asked r.question s l text next ≡ r.question.word) → clause_behind b l ≡ c → behind_brace c ≡ c → ((bs : List Block) → Breaks (operation bs) ≡ (asks c && breaks_in bs))
        → (ts : Lexemes) (x : Operation) (us : Lexemes) → grammar.◌>>◌ (grammar.the k) (grammar.◌>>◌ (grammar.the l) (grammar.◌>>=◌ Template (λ blocks. grammar.pure (operation blocks)))) ts x us
        → (v : Bool) → Reads us v → Reads ts (Breaks x || v)
    data_reads k l b c operation ke first le second brace is ts x us d v reads e s =
        let named = d.goes in
        let quads = named.goes in
        step_broken r e b s k d.reads.0 ts d.mid (first e) (λ text next. ke s text next ∙ r.words) d.reads.1 d.reads.2
        ∙ step_broken r b c (subject_behind k) l named.reads.0 d.mid named.mid second (λ text next. le (subject_behind k) text next ∙ r.words) named.reads.1 named.reads.2
        ∙ quads_broken depth c c brace brace named.mid quads.first quads.mid quads.reads (subject_behind l)
        ∙ ap (λ (z : Lexemes). (asks c && breaks_in quads.first) || Broken r c true z) quads.goes.1 ∙ ap (λ (z : Bool). (asks c && breaks_in quads.first) || z) (reads c true)
        ∙ ap (λ (z : Bool). z || v) (sym (is quads.first) ∙ ap Breaks quads.goes.0)

    -- behind the templates, of which the last leaves its clause
    abbrev Left : Lexemes → Bool → Type 0
    Left us v = (c : Clause) → behind_where c ≡ clause.Pattern → (s : Bool) → Broken r c s us ≡ v

    insert_reads : (ts : Lexemes) (bs : List Block) (us : Lexemes) → g.InsertClause (TriplesTemplate (Nodes_at (suc depth))) (TriplesTemplate (Nodes_at depth)) ts bs us → (v : Bool) → Left us v → Reads ts v
    insert_reads ts bs us d v left e s =
        step_broken r e clause.Insert s terminal.Insert d.reads.0 ts d.mid refl (λ text next. r.words) d.reads.1 d.reads.2
        ∙ quads_quiet depth clause.Insert clause.Insert refl refl r.inserts d.mid bs us d.goes false ∙ left clause.Insert refl true

    delete_reads : (ts : Lexemes) (bs : List Block) (us : Lexemes) → g.DeleteClause (TriplesTemplate (Nodes_at (suc depth))) (TriplesTemplate (Nodes_at depth)) ts bs us → (v : Bool) → ((s : Bool) → Broken r clause.DeleteTemplate s us ≡ v)
        → Reads ts ((asks clause.DeleteTemplate && breaks_in bs) || v)
    delete_reads ts bs us d v reads e s =
        step_broken r e clause.Delete s terminal.Delete d.reads.0 ts d.mid refl (λ text next. r.words) d.reads.1 d.reads.2
        ∙ quads_broken depth clause.Delete clause.DeleteTemplate refl refl d.mid bs us d.goes false ∙ ap (λ (z : Bool). (asks clause.DeleteTemplate && breaks_in bs) || z) (reads true)

    maybe_insert_reads : (ts : Lexemes) (x : Option (List Block)) (us : Lexemes) → grammar.maybe (g.InsertClause (TriplesTemplate (Nodes_at (suc depth))) (TriplesTemplate (Nodes_at depth))) ts x us → (v : Bool) → Left us v
        → (s : Bool) → Broken r clause.DeleteTemplate s ts ≡ v
    maybe_insert_reads ts None us d v left s = ap (Broken r clause.DeleteTemplate s) d ∙ left clause.DeleteTemplate refl s
    maybe_insert_reads ts (Some bs) us d v left s = insert_reads ts bs us d v left clause.DeleteTemplate s

    left_same : (ts us : Lexemes) (v : Bool) → ts ≡ us → Left us v → Left ts v
    left_same ts us v at left = subst (λ (z : Lexemes). Left z v) (sym at) left

    templates_read : (ts : Lexemes) (x : List Block × List Block) (us : Lexemes)
        → grammar.◌∣◌ (g.DeleteAndInsert (TriplesTemplate (Nodes_at (suc depth))) (TriplesTemplate (Nodes_at depth))) (g.InsertAlone (TriplesTemplate (Nodes_at (suc depth))) (TriplesTemplate (Nodes_at depth))) ts x us
        → (v : Bool) → Left us v → Reads ts ((asks clause.DeleteTemplate && breaks_in x.0) || v)
    templates_read ts x us (inl d) v left =
        let inserted = d.goes in
        let mapped = inserted.reads in
        subst (λ (z : List Block × List Block). Reads ts ((asks clause.DeleteTemplate && breaks_in z.0) || v)) inserted.goes.0
        (delete_reads ts d.first d.mid d.reads v (maybe_insert_reads d.mid mapped.first mapped.mid mapped.reads v (left_same mapped.mid us v (mapped.goes.1 ∙ inserted.goes.1) left)))
    templates_read ts x us (inr d) v left =
        subst (λ (z : List Block × List Block). Reads ts ((asks clause.DeleteTemplate && breaks_in z.0) || v)) d.goes.0
        (λ c s. insert_reads ts d.first d.mid d.reads v (left_same d.mid us v d.goes.1 left) c s ∙ ap (λ (z : Bool). z || v) (sym (by (asks clause.DeleteTemplate))))
      where
        by : (b : Bool) → (b && false) ≡ false
        by true = refl
        by false = refl

    with_reads : (ts : Lexemes) (x : Option Name) (us : Lexemes) → grammar.maybe (grammar.◌>>◌ (grammar.the terminal.With) words.Iri) ts x us → (v : Bool) → Reads us v → Reads ts v
    unfolding Named
    with_reads = maybe_named _ (sign_named terminal.With (λ s text next. refl) (λ c. refl) _ iri_named)

    modify_reads : (ts : Lexemes) (m : Modify) (us : Lexemes) → g.AModify (TriplesTemplate (Nodes_at (suc depth))) (TriplesTemplate (Nodes_at depth)) (GroupAt (suc depth)) ts m us → (v : Bool) → Reads us v
        → Reads ts ((asks clause.DeleteTemplate && breaks_in m.delete) || v)
    modify_reads ts m us d v reads =
        let templates = d.goes in
        let named = templates.goes in
        let grouped = named.goes in
        let behind : Reads grouped.mid v = subst (λ (z : Lexemes). Reads z v) (sym grouped.goes.1) reads in
        let left : Left templates.mid v = λ c opens s. (
        step_broken r c clause.Pattern s terminal.Where named.reads.0 templates.mid named.mid opens (λ text next. r.words) named.reads.1 named.reads.2
        ∙ group_reads (suc depth) named.mid grouped.first grouped.mid grouped.reads v behind false) in
        subst (λ (z : Modify). Reads ts ((asks clause.DeleteTemplate && breaks_in z.delete) || v)) grouped.goes.0
        (with_reads ts d.first d.mid d.reads ((asks clause.DeleteTemplate && breaks_in templates.first.0) || v) (templates_read d.mid templates.first templates.mid templates.reads v left))

    graph_operation_breaks : (ts : Lexemes) (x : Operation) (us : Lexemes) → g.GraphOperation ts x us → Breaks x ≡ false
    graph_operation_breaks ts x us (inl d) = ap Breaks (sym d.goes.goes.0)
    graph_operation_breaks ts x us (inr (inl d)) = ap Breaks (sym d.goes.goes.0)
    graph_operation_breaks ts x us (inr (inr (inl d))) = ap Breaks (sym d.goes.goes.0)
    graph_operation_breaks ts x us (inr (inr (inr (inl d)))) = ap Breaks (sym d.goes.goes.0)
    graph_operation_breaks ts x us (inr (inr (inr (inr (inl d))))) = ap Breaks (sym d.goes.goes.0)
    graph_operation_breaks ts x us (inr (inr (inr (inr (inr d))))) = ap Breaks (sym d.goes.goes.goes.0)

    operation_reads : (ts : Lexemes) (x : Operation) (us : Lexemes) → g.Update1 (TriplesTemplate (Nodes_at (suc depth))) (TriplesTemplate (Nodes_at depth)) (GroupAt (suc depth)) ts x us → (v : Bool) → Reads us v → Reads ts (Breaks x || v)
    unfolding Named
    operation_reads ts x us (inl d) v reads = subst (λ (z : Bool). Reads ts (z || v)) (sym (graph_operation_breaks ts x us d)) (graph_operation_named ts x us d v reads)
    operation_reads ts x us (inr (inl d)) v reads =
        data_reads terminal.Insert terminal.Data clause.Insert clause.InsertData o.InsertData (λ s text next. refl) (λ e. refl) (λ s text next. refl) refl refl (λ bs. refl) ts x us d v reads
    operation_reads ts x us (inr (inr (inl d))) v reads =
        data_reads terminal.Delete terminal.Data clause.Delete clause.DeleteData o.DeleteData (λ s text next. refl) (λ e. refl) (λ s text next. refl) refl refl (λ bs. refl) ts x us d v reads
    operation_reads ts x us (inr (inr (inr (inl d)))) v reads =
        data_reads terminal.Delete terminal.Where clause.Delete clause.DeleteWhere o.DeleteWhere (λ s text next. refl) (λ e. refl) (λ s text next. refl) refl refl (λ bs. refl) ts x us d v reads
    operation_reads ts x us (inr (inr (inr (inr d)))) v reads =
        subst (λ (z : Operation). Reads ts (Breaks z || v)) d.goes.0 (modify_reads ts d.first d.mid d.reads v (subst (λ (z : Lexemes). Reads z v) (sym d.goes.1) reads))

    -- ---- parts

    abbrev Parts : List Part → Bool
    Parts ps = list_any (part_breaks asks breaks_in) ps

    behind_declared : (xs : List Declaration) (ps : List Part) → Parts (map one_part.Declaration xs ++ ps) ≡ Parts ps
    behind_declared [] ps = refl
    behind_declared (x ∷ xs) ps = behind_declared xs ps

    prologue_reads : (ts : Lexemes) (xs : List Declaration) (us : Lexemes) → Prologue ts xs us → (v : Bool) → Reads us v → Reads ts v
    unfolding Named
    prologue_reads = prologue_named

    update_reads : (ts : Lexemes) (parts : List Part) (us : Lexemes) → Update (g.Update1 (TriplesTemplate (Nodes_at (suc depth))) (TriplesTemplate (Nodes_at depth)) (GroupAt (suc depth))) ts parts us → Reads us false → Reads ts (Parts parts)
    update_reads ts parts us (declared {prologue = xs} h) reads =
        subst (Reads ts) (sym (behind_declared xs []) ∙ ap Parts (append-nil (map one_part.Declaration xs))) (prologue_reads ts xs us h false reads)
    update_reads ts parts us (last {mid = mid} {prologue = xs} {operation = x} h one) reads =
        subst (Reads ts) (sym (behind_declared xs (one_part.Operation x ∷ []))) (prologue_reads ts xs mid h (Breaks x || false) (operation_reads mid x us one false reads))
    update_reads ts parts us (more_parts {mid = mid} {behind = behind} {next = next} {prologue = xs} {others = ps} {operation = x} h one semicolon rest) reads =
        subst (Reads ts) (sym (behind_declared xs (one_part.Operation x ∷ ps)))
        (prologue_reads ts xs mid h (Breaks x || Parts ps)
        (operation_reads mid x behind one (Parts ps) (lexeme_named terminal.Semicolon semicolon.0 behind next (Parts ps) (λ s text next. refl) (λ c. refl) semicolon.1 semicolon.2 (update_reads next ps us rest reads))))

  pub request_broken : (ts : Lexemes) (parts : List Part) → IsRequest ts parts → Broken r clause.Pattern false ts ≡ list_any (part_breaks asks breaks_in) parts
  request_broken ts parts h = update_reads h.0 ts parts [] h.1 (λ c s. refl) clause.Pattern false
