-- The drafts of a request: in how many of their lists a blank node label stands, by the parts of its tree.
use Rattle.std.proofs.Common.{◌≡◌, ◌≤◌, ◌∙◌, ap, refl, sym, subst, ℕ, ◌+◌, Bool, true, false, ◌||◌, not, ◌==◌, List, [], ◌∷◌, ◌++◌, map, append-nil, Option, Some, None, arith, true≢false}
use Rattle.std.specs.Prelude.{Ok}
use Rattle.std.proofs.lemmas.Option.{same_Some}
use Rattle.std.proofs.lemmas.List.Folds.{list_any-append}
use Rattle.std.specs.List.{flat_map, list_any}
use Rattle.std.specs.Option.{option_map}
use Rattle.rdf_grammar.specs.Keys.{key_of, same_key}
use Rattle.rdf_grammar.specs.Prologue.{Prologue}
use Rattle.sparql_grammar.specs.QuadGroups.{members_by, quads_group}
use Rattle.sparql_grammar.specs.GroupReading.{together}
use Rattle.sparql_grammar.specs.declared.tree.Block.{Block}
use Rattle.sparql_grammar.specs.declared.tree.Group.{Group}
use Rattle.sparql_grammar.specs.declared.tree.Member.{Member}
use Rattle.sparql_grammar.specs.declared.tree.Member.TheVariants as m
use Rattle.sparql_grammar.specs.declared.tree.Operation.{Operation}
use Rattle.sparql_grammar.specs.declared.tree.Operation.TheVariants as o
use Rattle.sparql_grammar.specs.declared.tree.Part.{Part}
use Rattle.sparql_grammar.specs.declared.tree.Part.TheVariants as w
use Rattle.sparql_grammar.specs.declared.tree.Triples.{Triples}
use Rattle.sparql_grammar.specs.declared.tree.VarOrIri.{VarOrIri}
use Rattle.sparql_drafts.specs.declared.draft.Quads.{Quads}
use Rattle.sparql_drafts.specs.Meaning.{quads_in}
use Rattle.sparql_queries.specs.Groups.{Labels}
use Rattle.sparql_syntax.specs.declared.clause.Clause.TheVariants as clause
use Rattle.sparql_syntax.specs.declared.drafts.Draft.{Draft}
use Rattle.sparql_syntax.specs.declared.drafts.Draft.TheVariants as d
use Rattle.sparql_syntax.specs.Meaning.{answer, operation}
use Rattle.sparql_syntax.specs.RuleLaws.{stands_in}
use Rattle.sparql_syntax.specs.Rules.{has_blank_in_delete, inserted_labels, pattern_labels}
use Rattle.sparql_syntax.proofs.DraftLists.{AreDrafted, Modifies, drafts_are, modifies}
use Rattle.sparql_syntax.proofs.LabelFronts.{lists}
use Rattle.sparql_syntax.proofs.LabelGroupMeanings.{group_says, no_group}
use Rattle.sparql_syntax.proofs.LabelGroups.{group_count, group_count_of, member_count, member_count_of, total}
use Rattle.sparql_syntax.proofs.LabelMeanings.{block_labels, blocks_say}
use Rattle.sparql_syntax.proofs.LabelNodes.{triples_labels}
use Rattle.sparql_syntax.proofs.LabelRequests.{operation_count, part_count}
use Rattle.sparql_syntax.proofs.NameGroups.{by-Triples, by-Graph, by-group}
use Rattle.sparql_syntax.proofs.ReusedLists.{once}
use Rattle.sparql_syntax.proofs.SharedLabels.{times, times-append}

-- ---- quads that have no labels are a group without

no_first : (a b : Bool) → (a || b) ≡ false → a ≡ false
no_first true b e = absurd (true≢false e)
no_first false b e = refl

no_second : (a b : Bool) → (a || b) ≡ false → b ≡ false
no_second true b e = absurd (true≢false e)
no_second false b e = e

module _ (label : List ℕ) where
  abbrev in_member : Member → ℕ
  in_member = member_count clause.Pattern label

  abbrev in_group : Group → ℕ
  in_group = group_count clause.Pattern label

  counts-append : (xs ys : List Member) → total (map in_member (xs ++ ys)) ≡ total (map in_member xs) + total (map in_member ys)
  counts-append [] ys = omega arith
  counts-append (x ∷ xs) ys = (let e : total (map in_member (xs ++ ys)) ≡ total (map in_member xs) + total (map in_member ys) = counts-append xs ys in omega (arith, e))

  none_together : (ts : List Triples) → stands_in label (lists triples_labels ts) ≡ false → total (map in_member (together ts)) ≡ 0
  none_together [] e = refl
  none_together (x ∷ xs) e =
      let one : in_member (m.Triples (x ∷ xs)) ≡ once (stands_in label (lists triples_labels (x ∷ xs))) 0 = by-Triples (member_count_of clause.Pattern label) (group_count_of clause.Pattern label) (x ∷ xs) in
      let none : once (stands_in label (lists triples_labels (x ∷ xs))) 0 ≡ 0 = ap (λ (b : Bool). once b 0) e in
      omega (arith, one, none)

  none_by : (graph : Option VarOrIri) (ts : List Triples) → stands_in label (lists triples_labels ts) ≡ false → total (map in_member (members_by graph ts)) ≡ 0
  none_by None ts e = none_together ts e
  none_by (Some name) ts e =
      let one : in_member (m.Graph name (record { members = together ts; filters = [] })) ≡ in_group (record { members = together ts; filters = [] }) =
      by-Graph (member_count_of clause.Pattern label) (group_count_of clause.Pattern label) name (record { members = together ts; filters = [] }) in
      let all : in_group (record { members = together ts; filters = [] }) ≡ total (map in_member (together ts)) = by-group (member_count_of clause.Pattern label) (group_count_of clause.Pattern label) (together ts) [] in
      let none : total (map in_member (together ts)) ≡ 0 = none_together ts e in
      omega (arith, one, all, none)

  none_of_blocks : (bs : List Block) → stands_in label (lists block_labels bs) ≡ false → total (map in_member (flat_map (λ b. members_by b.graph b.triples) bs)) ≡ 0
  none_of_blocks [] e = refl
  none_of_blocks (b ∷ bs) e =
      let parts : (stands_in label (block_labels b) || stands_in label (lists block_labels bs)) ≡ false =
      sym (list_any-append (λ (l : List ℕ). same_key (key_of label) (key_of l)) (block_labels b) (lists block_labels bs)) ∙ e in
      let one : total (map in_member (members_by b.graph b.triples)) ≡ 0 = none_by b.graph b.triples (no_first (stands_in label (block_labels b)) (stands_in label (lists block_labels bs)) parts) in
      let others : total (map in_member (flat_map (λ b. members_by b.graph b.triples) bs)) ≡ 0 = none_of_blocks bs (no_second (stands_in label (block_labels b)) (stands_in label (lists block_labels bs)) parts) in
      let both = counts-append (members_by b.graph b.triples) (flat_map (λ b. members_by b.graph b.triples) bs) in
      omega (arith, one, others, both)

  no_quads_group : (bs : List Block) → stands_in label (lists block_labels bs) ≡ false → in_group (quads_group bs) ≡ 0
  no_quads_group bs e = by-group (member_count_of clause.Pattern label) (group_count_of clause.Pattern label) (flat_map (λ b. members_by b.graph b.triples) bs) [] ∙ none_of_blocks bs e

  -- ---- drafts

  -- Of the lists of data that are inserted so many have the label, and of those of patterns no fewer than so many, and just as many where no
  -- blank node is deleted.
  pub record Whole (ds : List Draft) (k n : ℕ) : Type 0 where
    pub inserted : times label (flat_map inserted_labels ds) ≡ k
    pub most : n ≤ times label (flat_map pattern_labels ds)
    pub same : list_any has_blank_in_delete ds ≡ false → times label (flat_map pattern_labels ds) ≡ n

  record One (d : Draft) (k n : ℕ) : Type 0 where
    inserted : times label (inserted_labels d) ≡ k
    most : n ≤ times label (pattern_labels d)
    same : has_blank_in_delete d ≡ false → times label (pattern_labels d) ≡ n

  none_whole : Whole [] 0 0
  unfolding times
  none_whole = record { inserted = refl; most = omega arith; same = λ e. refl }

  one_times : (f : Draft → Labels) (d : Draft) → times label (flat_map f (d ∷ [])) ≡ times label (f d)
  one_times f d = ap (λ (z : Labels). times label z) (append-nil (f d))

  one_whole : (d : Draft) (k n : ℕ) → One d k n → Whole (d ∷ []) k n
  one_whole d k n h = record {
    inserted = one_times inserted_labels d ∙ h.inserted;
    most = subst (λ (m : ℕ). n ≤ m) (sym (one_times pattern_labels d)) h.most;
    same = λ e. one_times pattern_labels d ∙ h.same (no_first (has_blank_in_delete d) false e);
  }

  more_times : (f : Draft → Labels) (ds es : List Draft) → times label (flat_map f (ds ++ es)) ≡ times label (flat_map f ds) + times label (flat_map f es)
  unfolding times
  more_times f [] es = omega arith
  more_times f (d ∷ ds) es =
      let rest : times label (flat_map f (ds ++ es)) ≡ times label (flat_map f ds) + times label (flat_map f es) = more_times f ds es in
      let all : times label (f d ++ flat_map f (ds ++ es)) ≡ times label (f d) + times label (flat_map f (ds ++ es)) = times-append label (f d) (flat_map f (ds ++ es)) in
      let one : times label (f d ++ flat_map f ds) ≡ times label (f d) + times label (flat_map f ds) = times-append label (f d) (flat_map f ds) in
      omega (arith, rest, all, one)

  more_whole : (ds es : List Draft) (k n j m : ℕ) → Whole ds k n → Whole es j m → Whole (ds ++ es) (k + j) (n + m)
  more_whole ds es k n j m h i =
      let data_too : times label (flat_map inserted_labels (ds ++ es)) ≡ times label (flat_map inserted_labels ds) + times label (flat_map inserted_labels es) = more_times inserted_labels ds es in
      let patterns_too : times label (flat_map pattern_labels (ds ++ es)) ≡ times label (flat_map pattern_labels ds) + times label (flat_map pattern_labels es) = more_times pattern_labels ds es in
      let a : times label (flat_map inserted_labels ds) ≡ k = h.inserted in
      let b : times label (flat_map inserted_labels es) ≡ j = i.inserted in
      let c : n ≤ times label (flat_map pattern_labels ds) = h.most in
      let e : m ≤ times label (flat_map pattern_labels es) = i.most in
      record {
        inserted = omega (arith, data_too, a, b);
        most = omega (arith, patterns_too, c, e);
        same = λ none. (
            let parts : (list_any has_blank_in_delete ds || list_any has_blank_in_delete es) ≡ false = sym (list_any-append has_blank_in_delete ds es) ∙ none in
            let f : times label (flat_map pattern_labels ds) ≡ n = h.same (no_first (list_any has_blank_in_delete ds) (list_any has_blank_in_delete es) parts) in
            let g : times label (flat_map pattern_labels es) ≡ m = i.same (no_second (list_any has_blank_in_delete ds) (list_any has_blank_in_delete es) parts) in
            omega (arith, patterns_too, f, g)
            );
      }

  -- ---- operations

  abbrev data_count : Operation → ℕ
  data_count = operation_count clause.InsertData label

  abbrev pattern_count : Operation → ℕ
  pattern_count = operation_count clause.Pattern label

  other_one : (d : Draft) → inserted_labels d ≡ [] → pattern_labels d ≡ [] → One d 0 0
  unfolding times
  other_one d e f = record {
    inserted = ap (λ (z : Labels). times label z) e;
    most = omega arith;
    same = λ none. ap (λ (z : Labels). times label z) f;
  }

  nothing_one : {A : Type 0} (f : A → Draft) (r : Option A) (draft : Draft) → ((y : A) → (inserted_labels (f y) ≡ []) × (pattern_labels (f y) ≡ [])) → option_map f r ≡ Some draft → One draft 0 0
  nothing_one f None draft h e = absurd (cc e)
  nothing_one f (Some y) draft h e = subst (λ (z : Draft). One z 0 0) (same_Some _ _ e) (other_one (f y) (h y).0 (h y).1)

  inserted_one : (blocks : List Block) (p : Prologue) (r : Option Quads) (draft : Draft) → quads_in blocks p ≡ r → option_map d.InsertData r ≡ Some draft
      → One draft (once (stands_in label (lists block_labels blocks)) 0) 0
  unfolding times
  inserted_one blocks p None draft is e = absurd (cc e)
  inserted_one blocks p (Some q) draft is e =
      let said = (blocks_say label blocks p q is).says in
      subst (λ (z : Draft). One z (once (stands_in label (lists block_labels blocks)) 0) 0) (same_Some _ _ e)
      (record { inserted = ap (λ (b : Bool). once b 0) said; most = omega arith; same = λ none. refl })

  -- the lists of a group's basic graph patterns
  listed_in : (p : Prologue) (delete insert : List Block) (g : Group) (draft : Draft) (m : Modifies p delete insert g draft) → times label m.change.labels ≡ in_group g
  listed_in p delete insert g draft m = group_says p label g (m.change.pattern, m.change.labels) m.asked

  modified_one : (p : Prologue) (delete insert : List Block) (g : Group) (draft : Draft) → Modifies p delete insert g draft → One draft 0 (in_group g)
  unfolding times
  modified_one p delete insert g draft h =
      subst (λ (z : Draft). One z 0 (in_group g)) h.is
      (record { inserted = refl; most = (let e : times label h.change.labels ≡ in_group g = listed_in p delete insert g draft h in omega (arith, e)); same = λ none. listed_in p delete insert g draft h })

  not_zero : (n : ℕ) → not (n == 0) ≡ false → n ≡ 0
  not_zero n e = grind arith

  -- what DELETE WHERE deletes is its group, which has no labels where no blank node is deleted
  deleted_one : (p : Prologue) (blocks : List Block) (draft : Draft) → Modifies p blocks [] (quads_group blocks) draft → One draft 0 0
  unfolding times
  deleted_one p blocks draft h =
      subst (λ (z : Draft). One z 0 0) h.is
      (record {
        inserted = refl;
        most = omega arith;
        same = λ none. (
            let said = blocks_say label blocks p h.change.delete h.deleted in
            let empty = said.few (not_zero h.change.delete.blanks none) in
            listed_in p blocks [] (quads_group blocks) draft h ∙ no_quads_group blocks (sym said.says ∙ ap (stands_in label) empty)
            );
      })

  operation_one : (written : Operation) (p : Prologue) (draft : Draft) → operation written p ≡ Some draft → One draft (data_count written) (pattern_count written)
  unfolding operation
  operation_one (o.InsertData blocks) p draft e = inserted_one blocks p (quads_in blocks p) draft refl e
  operation_one (o.DeleteData blocks) p draft e = nothing_one d.DeleteData (quads_in blocks p) draft (λ q. (refl, refl)) e
  operation_one (o.DeleteWhere blocks) p draft e = deleted_one p blocks draft (modifies None blocks [] (quads_group blocks) p draft e)
  operation_one (o.Modify m) p draft e =
      subst (λ (k : ℕ). One draft k (pattern_count (o.Modify m))) (sym (no_group label m.group)) (modified_one p m.delete m.insert m.group draft (modifies m.with m.delete m.insert m.group p draft e))
  operation_one (o.Create silent name) p draft e = nothing_one _ _ draft (λ _. (refl, refl)) e
  operation_one (o.Clear silent graphs) p draft e = nothing_one _ _ draft (λ _. (refl, refl)) e
  operation_one (o.Drop silent graphs) p draft e = nothing_one _ _ draft (λ _. (refl, refl)) e
  operation_one (o.Copy silent from to) p draft e = nothing_one _ _ draft (λ _. (refl, refl)) e
  operation_one (o.Move silent from to) p draft e = nothing_one _ _ draft (λ _. (refl, refl)) e
  operation_one (o.Add silent from to) p draft e = nothing_one _ _ draft (λ _. (refl, refl)) e

  -- ---- parts

  abbrev data_of : Part → ℕ
  data_of = part_count clause.InsertData label

  abbrev patterns_of : Part → ℕ
  patterns_of = part_count clause.Pattern label

  zero_more : (n : ℕ) → n ≡ 0 + n
  zero_more n = omega arith

  all_whole : (ps : List Part) (ds : List Draft) → AreDrafted ps ds → Whole ds (total (map data_of ps)) (total (map patterns_of ps))
  all_whole [] ds are = subst (λ (z : List Draft). Whole z 0 0) (sym are) none_whole
  all_whole (w.Declaration it ∷ ps) ds are =
      subst (λ (k : ℕ). Whole ds k (0 + total (map patterns_of ps))) (zero_more (total (map data_of ps)))
      (subst (λ (n : ℕ). Whole ds (total (map data_of ps)) n) (zero_more (total (map patterns_of ps))) (all_whole ps ds are))
  all_whole (w.Operation it ∷ ps) ds are =
      subst (λ (z : List Draft). Whole z (data_count it + total (map data_of ps)) (pattern_count it + total (map patterns_of ps))) (sym are.4)
      (more_whole (are.1 ∷ []) are.2 (data_count it) (pattern_count it) (total (map data_of ps)) (total (map patterns_of ps))
      (one_whole are.1 (data_count it) (pattern_count it) (operation_one it are.0 are.1 are.3)) (all_whole ps are.2 are.5))

  pub drafts_whole : (base : Option (List ℕ)) (ps : List Part) (ds : List Draft) → answer base ps ≡ Ok ds → Whole ds (total (map data_of ps)) (total (map patterns_of ps))
  drafts_whole base ps ds e = all_whole ps ds (drafts_are base ps ds e)
