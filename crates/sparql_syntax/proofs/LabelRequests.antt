-- Requests and queries: in how many places a blank node label stands among their lexemes.
use Rattle.std.proofs.Common.{◌≡◌, ◌∙◌, ap, refl, sym, subst, ℕ, suc, ◌+◌, Bool, true, false, List, [], ◌∷◌, ◌++◌, map, Option, Some, None, inl, inr, arith}
use Rattle.rdf_grammar.specs.Derivations as grammar
use Rattle.rdf_grammar.specs.Derivations.{Star, more}
use Rattle.rdf_grammar.specs.declared.tree.Name.{Name}
use Rattle.rdf_grammar.specs.declared.word.Word.TheVariants as w
use Rattle.sparql_terminals.specs.declared.terminal.Terminal.{Terminal}
use Rattle.sparql_terminals.specs.declared.terminal.Terminal.TheVariants as terminal
use Rattle.sparql_terminals.specs.Lexemes.{Lexemes, Derives}
use Rattle.sparql_terminals.specs.WordGrammar as words
use Rattle.sparql_grammar.specs.declared.tree.Block.{Block}
use Rattle.sparql_grammar.specs.declared.tree.Columns.TheVariants as columns
use Rattle.sparql_grammar.specs.declared.tree.Declaration.{Declaration}
use Rattle.sparql_grammar.specs.declared.tree.Declaration.TheVariants as d
use Rattle.sparql_grammar.specs.declared.tree.GraphOrDefault.{GraphOrDefault}
use Rattle.sparql_grammar.specs.declared.tree.GraphOrDefault.TheVariants as one_graph
use Rattle.sparql_grammar.specs.declared.tree.GraphRefAll.{GraphRefAll}
use Rattle.sparql_grammar.specs.declared.tree.GraphRefAll.TheVariants as graphs
use Rattle.sparql_grammar.specs.declared.tree.Group.{Group}
use Rattle.sparql_grammar.specs.declared.tree.Modify.{Modify}
use Rattle.sparql_grammar.specs.declared.tree.Operation.{Operation}
use Rattle.sparql_grammar.specs.declared.tree.Operation.TheVariants as o
use Rattle.sparql_grammar.specs.declared.tree.Part.{Part}
use Rattle.sparql_grammar.specs.declared.tree.Part.TheVariants as one_part
use Rattle.sparql_grammar.specs.declared.tree.Query.{Query}
use Rattle.sparql_grammar.specs.declared.tree.QueryForm.{QueryForm}
use Rattle.sparql_grammar.specs.declared.tree.QueryForm.TheVariants as form
use Rattle.sparql_grammar.specs.declared.tree.Triples.{Triples}
use Rattle.sparql_grammar.specs.Grammar.{Nodes_at, TriplesTemplate}
use Rattle.sparql_grammar.specs.GroupGrammar.{GroupAt}
use Rattle.sparql_grammar.specs.OperationGrammar as g
use Rattle.sparql_grammar.specs.OperationGrammar.{IsRequest, Update, declared, last, more as more_parts}
use Rattle.sparql_grammar.specs.OperationReading.{between_by, on_graphs_by}
use Rattle.sparql_grammar.specs.PrologueGrammar.{Prologue}
use Rattle.sparql_grammar.specs.PrologueReading.{bound}
use Rattle.sparql_grammar.specs.QueryGrammar as queries
use Rattle.sparql_grammar.specs.QueryGrammar.{IsQuery, AQuery}
use Rattle.sparql_syntax.specs.declared.clause.Clause.{Clause}
use Rattle.sparql_syntax.specs.declared.clause.Clause.TheVariants as clause
use Rattle.sparql_syntax.specs.BrokenRules.{ends, is_label}
use Rattle.sparql_syntax.specs.Clauses.{behind_brace, clause_behind}
use Rattle.sparql_syntax.proofs.LabelFronts.{Slices, Gives, Silent, At, has, is_plain, lists, sign_gives, word_gives, namespace_gives, star_silent, one_silent, map_silent, then_silent, or_silent, pure_silent, behind_silent, closed_silent, perhaps_silent}
use Rattle.sparql_syntax.proofs.LabelGroups.{Braced, group_at_braced, group_count, total, turned_none}
use Rattle.sparql_syntax.proofs.LabelMeanings.{block_labels}
use Rattle.sparql_syntax.proofs.LabelNodes.{iri_gives, triples_labels, triples_give}
use Rattle.sparql_syntax.proofs.LabelQuads.{Reads, at_reads, insert_reads, no_has, quads_read, reads_at, step_reads, word_reads}
use Rattle.sparql_syntax.proofs.ReusedLists.{once, run}
use Rattle.sparql_syntax.proofs.SharedLabels.{or_no}

-- ---- in how many places of a tree

module _ (place : Clause) (label : List ℕ) where
  abbrev pub operation_count : Operation → ℕ
  operation_count (o.InsertData blocks) = once (has place label clause.InsertData (lists block_labels blocks)) 0
  operation_count (o.DeleteData blocks) = 0
  operation_count (o.DeleteWhere blocks) = 0
  operation_count (o.Modify m) = group_count place label m.group
  operation_count (o.Create silent graph) = 0
  operation_count (o.Clear silent graphs) = 0
  operation_count (o.Drop silent graphs) = 0
  operation_count (o.Copy silent from to) = 0
  operation_count (o.Move silent from to) = 0
  operation_count (o.Add silent from to) = 0

  abbrev pub part_count : Part → ℕ
  part_count (one_part.Declaration x) = 0
  part_count (one_part.Operation x) = operation_count x

  abbrev pub form_count : QueryForm → ℕ
  form_count (form.Select distinct cs group) = group_count place label group
  form_count (form.Ask group) = group_count place label group

data_stays : (place : Clause) → ends place terminal.Data ≡ false
data_stays clause.InsertData = refl
data_stays clause.Pattern = refl
data_stays _ = refl

-- ---- names, in any clause

module _ (place : Clause) (label : List ℕ) (c : Clause) where
  graph_ref_silent : Silent place label c g.GraphRef
  graph_ref_silent = behind_silent place label c terminal.Graph _ refl (iri_gives place label c)

  graph_ref_all_silent : Silent place label c g.AGraphRefAll
  graph_ref_all_silent = or_silent place label c _ _ (map_silent place label c graphs.Graph _ graph_ref_silent) (or_silent place label c _ _ (closed_silent place label c terminal.Default graphs.Default refl)
      (or_silent place label c _ _ (closed_silent place label c terminal.Named graphs.Named refl) (closed_silent place label c terminal.All graphs.All refl)))

  graph_or_default_silent : Silent place label c g.AGraphOrDefault
  graph_or_default_silent = or_silent place label c _ _ (closed_silent place label c terminal.Default one_graph.Default refl) (then_silent place label c _ _ (perhaps_silent place label c terminal.Graph refl) (λ _. map_silent place label c one_graph.Graph _ (iri_gives place label c)))

  create_silent : Silent place label c g.Create
  create_silent = behind_silent place label c terminal.Create _ refl (then_silent place label c _ _ (perhaps_silent place label c terminal.Silent refl) (λ silent. then_silent place label c _ _ graph_ref_silent (λ graph. pure_silent place label c (o.Create silent graph))))

  on_graphs_silent : Silent place label c g.OnGraphs
  on_graphs_silent = then_silent place label c _ _ (perhaps_silent place label c terminal.Silent refl) (λ silent. then_silent place label c _ _ graph_ref_all_silent (λ all. pure_silent place label c (silent, all)))

  on_silent : (k : Terminal) (operation : Bool → GraphRefAll → Operation) → is_plain k ≡ true → Silent place label c (grammar.◌>>◌ (grammar.the k) (grammar.◌<$>◌ (on_graphs_by operation) g.OnGraphs))
  on_silent k operation plain = behind_silent place label c k _ plain (map_silent place label c (on_graphs_by operation) _ on_graphs_silent)

  between_silent : Silent place label c g.Between
  between_silent = then_silent place label c _ _ (perhaps_silent place label c terminal.Silent refl)
      (λ silent. then_silent place label c _ _ graph_or_default_silent (λ from. behind_silent place label c terminal.To _ refl (then_silent place label c _ _ graph_or_default_silent (λ to. pure_silent place label c (silent, from, to)))))

  from_to_silent : (k : Terminal) (operation : Bool → GraphOrDefault → GraphOrDefault → Operation) → is_plain k ≡ true → Silent place label c (grammar.◌>>◌ (grammar.the k) (grammar.◌<$>◌ (between_by operation) g.Between))
  from_to_silent k operation plain = behind_silent place label c k _ plain (map_silent place label c (between_by operation) _ between_silent)

  graph_operation_silent : Silent place label c g.GraphOperation
  graph_operation_silent = or_silent place label c _ _ (on_silent terminal.Clear o.Clear refl) (or_silent place label c _ _ (on_silent terminal.Drop o.Drop refl) (or_silent place label c _ _ (from_to_silent terminal.Add o.Add refl)
      (or_silent place label c _ _ (from_to_silent terminal.Move o.Move refl) (or_silent place label c _ _ (from_to_silent terminal.Copy o.Copy refl) create_silent))))

  binding_silent : Silent place label c words.Binding
  binding_silent = then_silent place label c _ _ (namespace_gives place label c []) (λ prefix. then_silent place label c _ _ (word_gives place label c w.Iri []) (λ reference. pure_silent place label c (prefix, reference)))

  prologue_silent : Silent place label c Prologue
  prologue_silent = star_silent place label c _ (one_silent place label c _ (or_silent place label c _ _ (behind_silent place label c terminal.Base _ refl (map_silent place label c d.Base _ (sign_gives place label c terminal.Iri [] refl)))
      (behind_silent place label c terminal.Prefix _ refl (map_silent place label c bound _ binding_silent))))

  columns_silent : Silent place label c queries.AColumns
  columns_silent = or_silent place label c _ _ (map_silent place label c columns.Variables _ (then_silent place label c _ _ (sign_gives place label c terminal.Variable [] refl)
      (λ first. then_silent place label c _ _ (star_silent place label c _ (one_silent place label c _ (sign_gives place label c terminal.Variable [] refl))) (λ others. pure_silent place label c (first ∷ others)))))
      (closed_silent place label c terminal.Star columns.All refl)

  -- what has no labels
  quiet : {A : Type 0} (P : Derives A) → Silent place label c P → (ts : Lexemes) (x : A) (us : Lexemes) → P ts x us → (n : ℕ) → Reads place label c false n us → Reads place label c false n ts
  unfolding Gives
  quiet P s ts x us d n reads =
      let r = s ts x us d in
      at_reads place label c n ts (subst (λ (z : Slices). At place label c (z ++ []) n ts) r.is (r.goes [] n (reads_at place label c n us reads)))

-- ---- operations

module _ (place : Clause) (label : List ℕ) where
  -- from here on in any clause, where the label isn't at hand
  unfoldable pub Ready : ℕ → Lexemes → Type 0
  Ready n ts = (c : Clause) → Reads place label c false n ts

  unfoldable Counts : {A : Type 0} → Derives A → (A → ℕ) → Type 0
  Counts {A} P count = (ts : Lexemes) (x : A) (us : Lexemes) → P ts x us → (n : ℕ) → Ready n us → Ready (count x + n) ts

  same_reads : (c : Clause) (f : Bool) (n : ℕ) (ts us : Lexemes) → ts ≡ us → Reads place label c f n us → Reads place label c f n ts
  same_reads c f n ts us e reads = subst (Reads place label c f n) (sym e) reads

  module _ (Template Inner : Derives (List Triples)) (p : (c : Clause) → Gives place label c [] Template (lists triples_labels)) (i : (c : Clause) → Gives place label c [] Inner (lists triples_labels)) where
    -- quads of a clause in which labels aren't told apart
    other_quads : (b c : Clause) → (c ≡ clause.Pattern → ⊥) → behind_brace c ≡ c → behind_brace b ≡ c → ((xs : Slices) → has place label c xs ≡ false)
        → (ts : Lexemes) (blocks : List Block) (us : Lexemes) → g.QuadPattern Template Inner ts blocks us → (n : ℕ) → Reads place label c false n us → Reads place label b false n ts
    other_quads b c other brace opens none ts blocks us d n reads =
        subst (λ (f : Bool). Reads place label b f n ts) (none (lists block_labels blocks)) (quads_read place label c other brace Template Inner (p c) (i c) b opens ts blocks us d n reads)

    insert_data_counts : Counts (g.DataOf Template Inner terminal.Insert o.InsertData) (operation_count place label)
    unfolding Ready Counts
    insert_data_counts ts x us d n ready c =
        let named = d.goes in
        let quads = named.goes in
        let xs = lists block_labels quads.first in
        let f = has place label clause.InsertData xs in
        let end = same_reads clause.InsertData false n quads.mid us quads.goes.1 (ready clause.InsertData) in
        let inside = quads_read place label clause.InsertData (λ e. cc e) refl Template Inner (p clause.InsertData) (i clause.InsertData) clause.InsertData refl named.mid quads.first quads.mid quads.reads n end in
        let word = step_reads place label terminal.Data clause.Insert clause.InsertData f refl refl (λ _. data_stays place) named.reads.0 named.mid n named.reads.1 inside in
        let behind = same_reads clause.Insert f n d.mid (named.reads.0 ∷ named.mid) named.reads.2 word in
        let here = same_reads c false (once f 0 + n) ts (d.reads.0 ∷ d.mid) d.reads.2 (insert_reads place label c xs d.reads.0 d.mid n d.reads.1 behind) in
        subst (λ (z : Operation). Reads place label c false (operation_count place label z + n) ts) quads.goes.0 here

    -- DELETE DATA, and DELETE WHERE
    delete_counts : (k : Terminal) (b : Clause) (operation : List Block → Operation) → (b ≡ clause.Pattern → ⊥) → behind_brace b ≡ b → ((xs : Slices) → has place label b xs ≡ false)
        → clause_behind clause.Delete k ≡ b → is_label place clause.Delete k ≡ false → ((blocks : List Block) → operation_count place label (operation blocks) ≡ 0)
        → Counts (grammar.◌>>◌ (grammar.the terminal.Delete) (grammar.◌>>◌ (grammar.the k) (grammar.◌>>=◌ (g.QuadPattern Template Inner) (λ blocks. grammar.pure (operation blocks))))) (operation_count place label)
    unfolding Ready Counts
    delete_counts k b operation other brace none behind plain counts ts x us d n ready c =
        let named = d.goes in
        let quads = named.goes in
        let end = same_reads b false n quads.mid us quads.goes.1 (ready b) in
        let inside = other_quads b b other brace brace none named.mid quads.first quads.mid quads.reads n end in
        let word = word_reads place label k clause.Delete b behind plain named.reads.0 named.mid n named.reads.1 inside in
        let next = same_reads clause.Delete false n d.mid (named.reads.0 ∷ named.mid) named.reads.2 word in
        let here = same_reads c false n ts (d.reads.0 ∷ d.mid) d.reads.2 (word_reads place label terminal.Delete c clause.Delete refl refl d.reads.0 d.mid n d.reads.1 next) in
        subst (λ (z : Operation). Reads place label c false (operation_count place label z + n) ts) quads.goes.0
        (subst (λ (m : ℕ). Reads place label c false (m + n) ts) (sym (counts quads.first)) (subst (λ (m : ℕ). Reads place label c false m ts) (by n) here))
      where
        by : (n : ℕ) → n ≡ 0 + n
        by n = omega arith

    -- ---- templates, of which the last leaves its clause

    pub record Left (n : ℕ) (ts : Lexemes) : Type 0 where
      pub delete : Reads place label clause.DeleteTemplate false n ts
      pub insert : Reads place label clause.Insert false n ts

    left_same : (n : ℕ) (ts us : Lexemes) → ts ≡ us → Left n us → Left n ts
    left_same n ts us e left = subst (Left n) (sym e) left

    insert_clause_ready : (ts : Lexemes) (blocks : List Block) (us : Lexemes) → g.InsertClause Template Inner ts blocks us → (n : ℕ) → Left n us → Ready n ts
    unfolding Ready
    insert_clause_ready ts blocks us d n left c =
        let inside = other_quads clause.Insert clause.Insert (λ e. cc e) refl refl (λ xs. no_has place label clause.Insert xs refl) d.mid blocks us d.goes n left.insert in
        same_reads c false n ts (d.reads.0 ∷ d.mid) d.reads.2 (word_reads place label terminal.Insert c clause.Insert refl refl d.reads.0 d.mid n d.reads.1 inside)

    delete_clause_ready : (ts : Lexemes) (blocks : List Block) (us : Lexemes) → g.DeleteClause Template Inner ts blocks us → (n : ℕ) → Reads place label clause.DeleteTemplate false n us → Ready n ts
    unfolding Ready
    delete_clause_ready ts blocks us d n reads c =
        let inside = other_quads clause.Delete clause.DeleteTemplate (λ e. cc e) refl refl (λ xs. no_has place label clause.DeleteTemplate xs refl) d.mid blocks us d.goes n reads in
        same_reads c false n ts (d.reads.0 ∷ d.mid) d.reads.2 (word_reads place label terminal.Delete c clause.Delete refl refl d.reads.0 d.mid n d.reads.1 inside)

    maybe_insert_reads : (ts : Lexemes) (x : Option (List Block)) (us : Lexemes) → grammar.maybe (g.InsertClause Template Inner) ts x us → (n : ℕ) → Left n us → Reads place label clause.DeleteTemplate false n ts
    unfolding Ready
    maybe_insert_reads ts None us d n left = same_reads clause.DeleteTemplate false n ts us d left.delete
    maybe_insert_reads ts (Some blocks) us d n left = insert_clause_ready ts blocks us d n left clause.DeleteTemplate

    templates_ready : (ts : Lexemes) (x : List Block × List Block) (us : Lexemes) → grammar.◌∣◌ (g.DeleteAndInsert Template Inner) (g.InsertAlone Template Inner) ts x us → (n : ℕ) → Left n us → Ready n ts
    templates_ready ts x us (inl d) n left =
        let inserted = d.goes in
        let mapped = inserted.reads in
        let last = left_same n mapped.mid us (mapped.goes.1 ∙ inserted.goes.1) left in
        delete_clause_ready ts d.first d.mid d.reads n (maybe_insert_reads d.mid mapped.first mapped.mid mapped.reads n last)
    templates_ready ts x us (inr d) n left = insert_clause_ready ts d.first d.mid d.reads n (left_same n d.mid us d.goes.1 left)

    with_ready : (ts : Lexemes) (x : Option Name) (us : Lexemes) → grammar.maybe (grammar.◌>>◌ (grammar.the terminal.With) words.Iri) ts x us → (n : ℕ) → Ready n us → Ready n ts
    unfolding Ready
    with_ready ts None us d n ready c = same_reads c false n ts us d (ready c)
    with_ready ts (Some name) us d n ready c = quiet place label c _ (behind_silent place label c terminal.With _ refl (iri_gives place label c)) ts name us d n (ready c)

    module _ (Group' : Derives Group) (k : Braced place label Group' (group_count place label)) where
      modify_counts : (ts : Lexemes) (m : Modify) (us : Lexemes) → g.AModify Template Inner Group' ts m us → (n : ℕ) → Ready n us → Ready (group_count place label m.group + n) ts
      unfolding Ready Braced
      modify_counts ts m us d n ready =
          let templates = d.goes in
          let where_word = templates.goes in
          let grouped = where_word.goes in
          let inside = grouped in
          let end = same_reads clause.Pattern false n inside.mid us inside.goes.1 (ready clause.Pattern) in
          let turned = turned_none place label n inside.mid (reads_at place label clause.Pattern n inside.mid end) in
          let total_of = group_count place label inside.first + n in
          let group = at_reads place label clause.Pattern total_of where_word.mid (k where_word.mid inside.first inside.mid inside.reads n turned) in
          let left : Left total_of templates.mid = left_same total_of templates.mid (where_word.reads.0 ∷ where_word.mid) where_word.reads.2 (record {
            delete = word_reads place label terminal.Where clause.DeleteTemplate clause.Pattern refl refl where_word.reads.0 where_word.mid total_of where_word.reads.1 group;
            insert = word_reads place label terminal.Where clause.Insert clause.Pattern refl refl where_word.reads.0 where_word.mid total_of where_word.reads.1 group;
          }) in
          let all = with_ready ts d.first d.mid d.reads total_of (templates_ready d.mid templates.first templates.mid templates.reads total_of left) in
          subst (λ (z : Modify). Ready (group_count place label z.group + n) ts) inside.goes.0 all

      graph_operation_counts : (ts : Lexemes) (x : Operation) (us : Lexemes) → g.GraphOperation ts x us → (n : ℕ) → Ready n us → Ready n ts
      unfolding Ready
      graph_operation_counts ts x us d n ready c = quiet place label c _ (graph_operation_silent place label c) ts x us d n (ready c)

      none_counted : (ts : Lexemes) (x : Operation) (us : Lexemes) → g.GraphOperation ts x us → operation_count place label x ≡ 0
      none_counted ts x us (inl d) = subst (λ (z : Operation). operation_count place label z ≡ 0) d.goes.goes.0 refl
      none_counted ts x us (inr (inl d)) = subst (λ (z : Operation). operation_count place label z ≡ 0) d.goes.goes.0 refl
      none_counted ts x us (inr (inr (inl d))) = subst (λ (z : Operation). operation_count place label z ≡ 0) d.goes.goes.0 refl
      none_counted ts x us (inr (inr (inr (inl d)))) = subst (λ (z : Operation). operation_count place label z ≡ 0) d.goes.goes.0 refl
      none_counted ts x us (inr (inr (inr (inr (inl d))))) = subst (λ (z : Operation). operation_count place label z ≡ 0) d.goes.goes.0 refl
      none_counted ts x us (inr (inr (inr (inr (inr d))))) = subst (λ (z : Operation). operation_count place label z ≡ 0) d.goes.goes.goes.0 refl

      operation_counts : (ts : Lexemes) (x : Operation) (us : Lexemes) → g.Update1 Template Inner Group' ts x us → (n : ℕ) → Ready n us → Ready (operation_count place label x + n) ts
      unfolding Counts
      operation_counts ts x us (inl d) n ready =
          subst (λ (m : ℕ). Ready (m + n) ts) (sym (none_counted ts x us d)) (subst (λ (m : ℕ). Ready m ts) (by n) (graph_operation_counts ts x us d n ready))
        where
          by : (n : ℕ) → n ≡ 0 + n
          by n = omega arith
      operation_counts ts x us (inr (inl d)) n ready = insert_data_counts ts x us d n ready
      operation_counts ts x us (inr (inr (inl d))) n ready =
          delete_counts terminal.Data clause.DeleteData o.DeleteData (λ e. cc e) refl (λ xs. no_has place label clause.DeleteData xs refl) refl refl (λ blocks. refl) ts x us d n ready
      operation_counts ts x us (inr (inr (inr (inl d)))) n ready =
          delete_counts terminal.Where clause.DeleteWhere o.DeleteWhere (λ e. cc e) refl (λ xs. no_has place label clause.DeleteWhere xs refl) refl refl (λ blocks. refl) ts x us d n ready
      operation_counts ts x us (inr (inr (inr (inr d)))) n ready =
          subst (λ (z : Operation). Ready (operation_count place label z + n) ts) d.goes.0
          (modify_counts ts d.first d.mid d.reads n (subst (Ready n) (sym d.goes.1) ready))

      -- ---- parts

      abbrev counts : List Part → ℕ
      counts ps = total (map (part_count place label) ps)

      declared_counts : (xs : List Declaration) (ps : List Part) → counts (map one_part.Declaration xs ++ ps) ≡ counts ps
      declared_counts [] ps = refl
      declared_counts (x ∷ xs) ps = (let e : counts (map one_part.Declaration xs ++ ps) ≡ counts ps = declared_counts xs ps in omega (arith, e))

      only_declared : (xs : List Declaration) → counts (map one_part.Declaration xs) ≡ 0
      only_declared [] = refl
      only_declared (x ∷ xs) = (let e : counts (map one_part.Declaration xs) ≡ 0 = only_declared xs in omega (arith, e))

      prologue_ready : (ts : Lexemes) (xs : List Declaration) (us : Lexemes) → Prologue ts xs us → (n : ℕ) → Ready n us → Ready n ts
      unfolding Ready
      prologue_ready ts xs us d n ready c = quiet place label c _ (prologue_silent place label c) ts xs us d n (ready c)

      semicolon_ready : (ts us : Lexemes) → grammar.the terminal.Semicolon ts tt us → (m : ℕ) → Ready m us → Ready m ts
      unfolding Ready
      semicolon_ready ts us semicolon m ready c =
          quiet place label c _ (behind_silent place label c terminal.Semicolon _ refl (pure_silent place label c (tt {0}))) ts (tt {0}) us (record { first = tt {0}; mid = us; reads = semicolon; goes = (refl, refl) }) m (ready c)

      update_counts : (ts : Lexemes) (parts : List Part) (us : Lexemes) → Update (g.Update1 Template Inner Group') ts parts us → (n : ℕ) → Ready n us → Ready (counts parts + n) ts
      update_counts ts parts us (declared {prologue = xs} h) n ready = subst (λ (m : ℕ). Ready m ts) (by (counts (map one_part.Declaration xs)) (only_declared xs)) (prologue_ready ts xs us h n ready)
        where
          by : (m : ℕ) → m ≡ 0 → n ≡ m + n
          by m e = omega (arith, e)
      update_counts ts parts us (last {mid = mid} {prologue = xs} {operation = x} h one) n ready =
          subst (λ (m : ℕ). Ready m ts) (by (operation_count place label x) (counts (map one_part.Declaration xs ++ one_part.Operation x ∷ [])) (declared_counts xs (one_part.Operation x ∷ [])))
          (prologue_ready ts xs mid h (operation_count place label x + n) (operation_counts mid x us one n ready))
        where
          by : (k m : ℕ) → m ≡ k + 0 → k + n ≡ m + n
          by k m e = omega (arith, e)
      update_counts ts parts us (more_parts {mid = mid} {behind = behind} {next = next} {prologue = xs} {others = ps} {operation = x} h one semicolon rest) n ready =
          subst (λ (m : ℕ). Ready m ts) (by (operation_count place label x) (counts ps) (counts (map one_part.Declaration xs ++ one_part.Operation x ∷ ps)) (declared_counts xs (one_part.Operation x ∷ ps)))
          (prologue_ready ts xs mid h (operation_count place label x + (counts ps + n))
          (operation_counts mid x behind one (counts ps + n) (semicolon_ready behind next semicolon (counts ps + n) (update_counts next ps us rest n ready))))
        where
          by : (k j m : ℕ) → m ≡ k + j → k + (j + n) ≡ m + n
          by k j m e = omega (arith, e)

-- ---- whole texts

nothing_left : (place : Clause) (label : List ℕ) → Ready place label 0 []
unfolding Ready Reads
nothing_left place label = λ c h. ap (λ (b : Bool). once b 0) (sym (or_no h))

pub request_run : (place : Clause) (label : List ℕ) (ts : Lexemes) (parts : List Part) → IsRequest ts parts → run place label clause.Pattern false ts ≡ total (map (part_count place label) parts)
unfolding Ready Reads
request_run place label ts parts h =
    update_counts place label (TriplesTemplate (Nodes_at (suc h.0))) (TriplesTemplate (Nodes_at h.0)) (λ c. triples_give place label c (suc h.0)) (λ c. triples_give place label c h.0) (GroupAt (suc h.0)) (group_at_braced place label (suc h.0))
    ts parts [] h.1 0 (nothing_left place label) clause.Pattern false
    ∙ by (total (map (part_count place label) parts))
  where
    by : (n : ℕ) → n + 0 ≡ n
    by n = omega arith

-- ---- queries

module _ (place : Clause) (label : List ℕ) (Group' : Derives Group) (k : Braced place label Group' (group_count place label)) where
  abbrev Reading : ℕ → Lexemes → Type 0
  Reading n ts = Reads place label clause.Pattern false n ts

  where_counts : (ts : Lexemes) (x : Group) (us : Lexemes) → queries.WhereClause Group' ts x us → (n : ℕ) → Reading n us → Reading (group_count place label x + n) ts
  unfolding Braced
  where_counts ts x us d n reads =
      let group = at_reads place label clause.Pattern _ d.mid (k d.mid x us d.goes n (turned_none place label n us (reads_at place label clause.Pattern n us reads))) in
      subst (λ (z : Lexemes). Reading (group_count place label x + n) z) refl (by d.reads.first d.reads.reads (subst (Reading (group_count place label x + n)) (sym d.reads.goes.1) group))
    where
      by : (o : Option (Unit {0})) → grammar.maybe (grammar.the terminal.Where) ts o d.reads.mid → Reading (group_count place label x + n) d.reads.mid → Reading (group_count place label x + n) ts
      by None at reads = subst (Reading (group_count place label x + n)) (sym at) reads
      by (Some y) at reads =
          subst (Reading (group_count place label x + n)) (sym at.2) (word_reads place label terminal.Where clause.Pattern clause.Pattern refl refl at.0 d.reads.mid (group_count place label x + n) at.1 reads)

  form_counts : (ts : Lexemes) (x : QueryForm) (us : Lexemes) → grammar.◌∣◌ (queries.SelectQuery Group') (queries.AskQuery Group') ts x us → (n : ℕ) → Reading n us → Reading (form_count place label x + n) ts
  form_counts ts x us (inl d) n reads =
      let distinct = d.goes in
      let named = distinct.goes in
      let grouped = named.goes in
      let m = group_count place label grouped.first + n in
      let group = where_counts named.mid grouped.first grouped.mid grouped.reads n (subst (Reading n) (sym grouped.goes.1) reads) in
      let cs = quiet place label clause.Pattern _ (columns_silent place label clause.Pattern) distinct.mid named.first named.mid named.reads m group in
      let word = quiet place label clause.Pattern _ (perhaps_silent place label clause.Pattern terminal.Distinct refl) d.mid distinct.first distinct.mid distinct.reads m cs in
      let here = quiet place label clause.Pattern _ (behind_silent place label clause.Pattern terminal.Select _ refl (pure_silent place label clause.Pattern (tt {0}))) ts (tt {0}) d.mid (record { first = tt {0}; mid = d.mid; reads = d.reads; goes = (refl, refl) }) m word in
      subst (λ (z : QueryForm). Reading (form_count place label z + n) ts) grouped.goes.0 here
  form_counts ts x us (inr d) n reads =
      let grouped = d.goes in
      let m = group_count place label grouped.first + n in
      let group = where_counts d.mid grouped.first grouped.mid grouped.reads n (subst (Reading n) (sym grouped.goes.1) reads) in
      let here = quiet place label clause.Pattern _ (behind_silent place label clause.Pattern terminal.Ask _ refl (pure_silent place label clause.Pattern (tt {0}))) ts (tt {0}) d.mid (record { first = tt {0}; mid = d.mid; reads = d.reads; goes = (refl, refl) }) m group in
      subst (λ (z : QueryForm). Reading (form_count place label z + n) ts) grouped.goes.0 here

  query_counts : (ts : Lexemes) (q : Query) (us : Lexemes) → AQuery Group' ts q us → (n : ℕ) → Reading n us → Reading (form_count place label q.form + n) ts
  query_counts ts q us d n reads =
      let formed = d.goes in
      let at = form_counts d.mid formed.first formed.mid formed.reads n (subst (Reading n) (sym formed.goes.1) reads) in
      let here = quiet place label clause.Pattern _ (prologue_silent place label clause.Pattern) ts d.first d.mid d.reads (form_count place label formed.first + n) at in
      subst (λ (z : Query). Reading (form_count place label z.form + n) ts) formed.goes.0 here

pub query_run : (place : Clause) (label : List ℕ) (ts : Lexemes) (q : Query) → IsQuery ts q → run place label clause.Pattern false ts ≡ form_count place label q.form
unfolding Ready Reads
query_run place label ts q h =
    query_counts place label (GroupAt h.0) (group_at_braced place label h.0) ts q [] h.1 0 (nothing_left place label clause.Pattern) false ∙ by (form_count place label q.form)
  where
    by : (n : ℕ) → n + 0 ≡ n
    by n = omega arith
