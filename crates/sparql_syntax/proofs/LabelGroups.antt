-- Groups, and in how many of their basic graph patterns a blank node label stands.
use Rattle.std.proofs.Common.{◌≡◌, ◌∙◌, ap, refl, sym, subst, ℕ, zero, suc, ◌+◌, Bool, true, false, cond, ◌&&◌, ◌||◌, List, [], ◌∷◌, ◌++◌, map, append_assoc, append-nil, Option, Some, None, inl, inr, arith}
use Rattle.std.specs.Prelude.{option_to_list}
use Rattle.std.specs.List.{list_any}
use Rattle.rdf_grammar.specs.Derivations as grammar
use Rattle.rdf_grammar.specs.Derivations.{Star, stop, more}
use Rattle.sparql_terminals.specs.declared.terminal.Terminal.{Terminal}
use Rattle.sparql_terminals.specs.declared.terminal.Terminal.TheVariants as terminal
use Rattle.sparql_terminals.specs.Lexemes.{Lexeme, Lexemes, Derives}
use Rattle.sparql_expressions.specs.declared.tree.Expression.{Expression}
use Rattle.sparql_expressions.specs.ExpressionGrammar.{Constraint, Expressions_at}
use Rattle.sparql_grammar.specs.declared.tree.Element.{Element}
use Rattle.sparql_grammar.specs.declared.tree.Element.TheVariants as e
use Rattle.sparql_grammar.specs.declared.tree.Group.{Group}
use Rattle.sparql_grammar.specs.declared.tree.Member.{Member}
use Rattle.sparql_grammar.specs.declared.tree.Member.TheVariants as m
use Rattle.sparql_grammar.specs.declared.tree.Member.TheOpen.{Group-F, Member-F}
use Rattle.sparql_grammar.specs.declared.tree.Member.TheFolds.{fold-Group, fold-Member}
use Rattle.sparql_grammar.specs.declared.tree.Triples.{Triples}
use Rattle.sparql_grammar.specs.Grammar.{Nodes_at, TriplesTemplate}
use Rattle.sparql_grammar.specs.GroupGrammar as groups
use Rattle.sparql_grammar.specs.GroupReading.{filters_of, group_with, members_behind, together}
use Rattle.sparql_syntax.specs.declared.clause.Clause.{Clause}
use Rattle.sparql_syntax.specs.declared.clause.Clause.TheVariants as clause
use Rattle.sparql_syntax.specs.BrokenRules.{ends, is_label}
use Rattle.sparql_syntax.specs.Clauses.{clause_behind, is_same}
use Rattle.sparql_syntax.proofs.LabelExpressions.{constraint_silent}
use Rattle.sparql_syntax.proofs.LabelFronts.{Slices, Gives, At, at_plain, at_same, has, has_none, hits, is_plain, lists, lists-append, perhaps_silent}
use Rattle.sparql_syntax.proofs.LabelNodes.{triples_labels, place_gives, triples_give}
use Rattle.sparql_syntax.proofs.NameGroups.{by-Triples, by-Union, by-Optional, by-Graph, by-Minus, by-group}
use Rattle.sparql_syntax.proofs.ReusedLists.{once, run}
use Rattle.sparql_syntax.proofs.SharedLabels.{or_no}

-- ---- in how many basic graph patterns of a tree

abbrev pub total : List ℕ → ℕ
total [] = 0
total (n ∷ ns) = n + total ns

pub total-append : (xs ys : List ℕ) → total (xs ++ ys) ≡ total xs + total ys
total-append [] ys = omega arith
total-append (x ∷ xs) ys = (let e : total (xs ++ ys) ≡ total xs + total ys = total-append xs ys in omega (arith, e))

module _ (place : Clause) (label : List ℕ) where
  abbrev Has : Slices → Bool
  Has = has place label clause.Pattern

  abbrev pub group_count_of : Group-F ℕ ℕ → ℕ
  group_count_of g = total g.members

  abbrev pub member_count_of : Member-F ℕ ℕ → ℕ
  member_count_of (Member-F.Triples ts) = once (Has (lists triples_labels ts)) 0
  member_count_of (Member-F.Union groups) = total groups
  member_count_of (Member-F.Optional group) = group
  member_count_of (Member-F.Graph name group) = group
  member_count_of (Member-F.Minus group) = group

  abbrev pub group_count : Group → ℕ
  group_count = fold-Group ℕ ℕ member_count_of group_count_of

  abbrev pub member_count : Member → ℕ
  member_count = fold-Member ℕ ℕ member_count_of group_count_of

  counts : List Member → ℕ
  counts ms = total (map member_count ms)

  counts-append : (xs ys : List Member) → counts (xs ++ ys) ≡ counts xs + counts ys
  unfolding counts
  counts-append [] ys = omega arith
  counts-append (x ∷ xs) ys = (let e : total (map member_count (xs ++ ys)) ≡ total (map member_count xs) + total (map member_count ys) = counts-append xs ys in omega (arith, e))

  counts-cons : (x : Member) (xs : List Member) → counts (x ∷ xs) ≡ member_count x + counts xs
  unfolding counts
  counts-cons x xs = refl

  -- ---- elements, from the last one on: the labels of the pattern at hand, and how many patterns behind it have the label

  abbrev State : Type 0
  State = Slices × ℕ

  abbrev one_more : Element → State → State
  one_more (e.Block triples) r = (lists triples_labels triples ++ r.0, r.1)
  one_more (e.Filter expression) r = r
  one_more (e.Pattern member) r = ([], member_count member + once (Has r.0) r.1)

  abbrev state : List Element → State → State
  state [] r = r
  state (x ∷ xs) r = one_more x (state xs r)

  state-append : (xs ys : List Element) (r : State) → state (xs ++ ys) r ≡ state xs (state ys r)
  state-append [] ys r = refl
  state-append (x ∷ xs) ys r = ap (λ (z : State). one_more x z) (state-append xs ys r)

  once_more : (b : Bool) (k n : ℕ) → k ≡ once b 0 → once b n ≡ (k + 0) + n
  once_more true k n e = omega (arith, e)
  once_more false k n e = omega (arith, e)

  none_more : (n : ℕ) → n ≡ 0 + n
  none_more n = omega arith

  together_counts : (block : List Triples) (n : ℕ) → once (Has (lists triples_labels block ++ [])) n ≡ counts (together block) + n
  unfolding counts
  together_counts [] n = ap (λ (b : Bool). once b n) (has_none place label clause.Pattern) ∙ none_more n
  together_counts (x ∷ xs) n =
      ap (λ (z : Slices). once (Has z) n) (append-nil (lists triples_labels (x ∷ xs)))
      ∙ once_more (Has (lists triples_labels (x ∷ xs))) (member_count (m.Triples (x ∷ xs))) n (by-Triples member_count_of group_count_of (x ∷ xs))

  members_count : (block : List Triples) (es : List Element) (n : ℕ)
      → once (Has (lists triples_labels block ++ (state es ([], n)).0)) (state es ([], n)).1 ≡ counts (members_behind block es) + n
  unfolding members_behind
  members_count block [] n = together_counts block n
  members_count block (e.Block triples ∷ es) n =
      ap (λ (z : Slices). once (Has z) (state es ([], n)).1)
      (sym (append_assoc (lists triples_labels block) (lists triples_labels triples) (state es ([], n)).0)
      ∙ ap (λ (z : Slices). z ++ (state es ([], n)).0) (sym (lists-append triples_labels block triples)))
      ∙ members_count (block ++ triples) es n
  members_count block (e.Filter expression ∷ es) n = members_count block es n
  members_count block (e.Pattern member ∷ es) n =
      let rest : once (Has (state es ([], n)).0) (state es ([], n)).1 ≡ counts (members_behind [] es) + n = members_count [] es n in
      together_counts block (member_count member + once (Has (state es ([], n)).0) (state es ([], n)).1) ∙ summed (counts (together block)) (member_count member) (counts (members_behind [] es)) _ (counts (together block ++ member ∷ members_behind [] es)) n rest
      (counts-append (together block) (member ∷ members_behind [] es)) (counts-cons member (members_behind [] es))
    where
      summed : (a b c k all n : ℕ) → k ≡ c + n → all ≡ a + counts (member ∷ members_behind [] es) → counts (member ∷ members_behind [] es) ≡ b + c → a + (b + k) ≡ all + n
      summed a b c k all n e f g = omega (arith, e, f, g)

  group_counts : (es : List Element) (n : ℕ) → once (Has (state es ([], n)).0) (state es ([], n)).1 ≡ group_count (group_with es) + n
  unfolding counts
  group_counts es n = members_count [] es n ∙ ap (λ (k : ℕ). k + n) (sym (by-group member_count_of group_count_of (members_behind [] es) (filters_of es)))

  -- ---- lexemes

  abbrev Now : Slices → ℕ → Lexemes → Type 0
  Now = At place label clause.Pattern

  -- a place may end here, and the label stands in so many from here on
  pub record Turned (ts : Lexemes) (n : ℕ) : Type 0 where
    pub labels : Slices
    pub behind : ℕ
    pub at : Now labels behind ts
    pub is : once (Has labels) behind ≡ n

  turned_at : (ys : Slices) (k : ℕ) (ts : Lexemes) → Now ys k ts → Turned ts (once (Has ys) k)
  turned_at ys k ts at = record { labels = ys; behind = k; at = at; is = refl }

  pub turned_none : (k : ℕ) (ts : Lexemes) → Now [] k ts → Turned ts k
  turned_none k ts at = record { labels = []; behind = k; at = at; is = ap (λ (b : Bool). once b k) (has_none place label clause.Pattern) }

  -- a tree without labels
  abbrev Silent : {A : Type 0} → Derives A → Type 0
  Silent P = Gives place label clause.Pattern [] P (λ _. [])

  pub still : {A : Type 0} (P : Derives A) → Silent P → (ts : Lexemes) (x : A) (us : Lexemes) → P ts x us → (ys : Slices) (n : ℕ) → Now ys n us → Now ys n ts
  unfolding Gives
  still P p ts x us d ys n at = (let r = p ts x us d in subst (λ (z : Slices). Now (z ++ ys) n ts) r.is (r.goes ys n at))

  -- a brace
  brace_at : (k : Terminal) → clause_behind clause.Pattern k ≡ clause.Pattern → is_label place clause.Pattern k ≡ false → ends place k ≡ is_same place clause.Pattern
      → (t : Lexeme) (us : Lexemes) (n : ℕ) → t.terminal ≡ k → Turned us n → Now [] n (t ∷ us)
  unfolding At
  brace_at k steady none ending t us n is turned = λ h.
      ap (λ (j : Terminal). cond (ends place j) (once h (run place label (clause_behind clause.Pattern j) false us)) (run place label (clause_behind clause.Pattern j) (h || (is_label place clause.Pattern j && hits place label t.text)) us)) is
      ∙ ap (λ (d : Clause). cond (ends place k) (once h (run place label d false us)) (run place label d (h || (is_label place clause.Pattern k && hits place label t.text)) us)) steady
      ∙ ap (λ (b : Bool). cond (ends place k) (once h (run place label clause.Pattern false us)) (run place label clause.Pattern (h || (b && hits place label t.text)) us)) none
      ∙ ap (λ (b : Bool). cond b (once h (run place label clause.Pattern false us)) (run place label clause.Pattern (h || false) us)) ending
      ∙ by h (is_same place clause.Pattern) (list_any (hits place label) turned.labels) turned.behind turned.at turned.is
    where
      by : (h b a : Bool) (k : ℕ) → ((g : Bool) → run place label clause.Pattern g us ≡ once (g || (b && a)) k) → once (b && a) k ≡ n
          → cond b (once h (run place label clause.Pattern false us)) (run place label clause.Pattern (h || false) us) ≡ once (h || (b && false)) n
      by h true a k at same = ap (λ (j : ℕ). once h j) (at false ∙ same) ∙ ap (λ (g : Bool). once g n) (sym (or_no h))
      by h false a k at same = ap (λ (g : Bool). run place label clause.Pattern g us) (or_no h) ∙ at h ∙ ap (λ (j : ℕ). once (h || false) j) same

-- a brace ends just a pattern
open_ends : (place : Clause) → ends place terminal.OpenBrace ≡ is_same place clause.Pattern
open_ends clause.InsertData = refl
open_ends clause.Pattern = refl
open_ends _ = refl

close_ends : (place : Clause) → ends place terminal.CloseBrace ≡ is_same place clause.Pattern
close_ends clause.InsertData = refl
close_ends clause.Pattern = refl
close_ends _ = refl

module _ (place : Clause) (label : List ℕ) where
  abbrev Stands : Slices → ℕ → Lexemes → Type 0
  Stands = At place label clause.Pattern

  abbrev Ends : Lexemes → ℕ → Type 0
  Ends = Turned place label

  abbrev after : List Element → Slices × ℕ → Slices × ℕ
  after = state place label

  -- behind a tree a place may end, and at its front one begins
  unfoldable pub Braced : {A : Type 0} → Derives A → (A → ℕ) → Type 0
  Braced {A} P count = (ts : Lexemes) (x : A) (us : Lexemes) → P ts x us → (n : ℕ) → Ends us n → Stands [] (count x + n) ts

  -- and the same where it is one of several, or of none
  unfoldable Turns : {A : Type 0} → Derives A → (A → ℕ) → Type 0
  Turns {A} P count = (ts : Lexemes) (x : A) (us : Lexemes) → P ts x us → (n : ℕ) → Ends us n → Ends ts (count x + n)

  all_counts : List Group → ℕ
  all_counts gs = total (map (group_count place label) gs)

  -- ---- members, over a grammar of the groups inside

  module _ (Group' : Derives Group) (i : Braced Group' (group_count place label)) where
    plain_turned : (k : Terminal) (t : Lexeme) (us : Lexemes) (n : ℕ) → is_plain k ≡ true → t.terminal ≡ k → Stands [] n us → Stands [] n (t ∷ us)
    plain_turned k t us n plain is at = at_plain place label clause.Pattern k t us [] n plain is at

    other_group : Turns (grammar.one (grammar.◌>>◌ (grammar.the terminal.Union) Group')) all_counts
    unfolding Braced Turns all_counts
    other_group ts xs us d n turned =
        let inner = d.reads in
        let group = inner.goes in
        let last = subst (λ (z : Lexemes). Ends z n) (sym d.goes.1) turned in
        let at = i inner.mid d.first d.mid group n last in
        let here = at_same place label clause.Pattern [] _ ts (inner.reads.0 ∷ inner.mid) inner.reads.2 (plain_turned terminal.Union inner.reads.0 inner.mid _ refl inner.reads.1 at) in
        let done : Ends ts (group_count place label d.first + n) = turned_none place label _ ts here in
        subst (λ (z : List Group). Ends ts (total (map (group_count place label) z) + n)) d.goes.0 (subst (Ends ts) (by (group_count place label d.first)) done)
      where
        by : (k : ℕ) → k + n ≡ (k + 0) + n
        by k = omega arith

    other_groups : Turns (grammar.EachBehind terminal.Union Group') all_counts
    unfolding Turns all_counts
    other_groups ts xs us stop n turned = subst (Ends ts) (none_more place label n) turned
    other_groups ts xs us (more {mid = mid} {x = x} {xs = ys} r s) n turned =
        let rest = other_groups mid ys us s n turned in
        let one = other_group ts x mid r _ rest in
        let parts : total (map (group_count place label) (x ++ ys)) ≡ total (map (group_count place label) x) + total (map (group_count place label) ys) = appended x ys in
        subst (Ends ts) (by (total (map (group_count place label) x)) (total (map (group_count place label) ys)) (total (map (group_count place label) (x ++ ys))) parts) one
      where
        by : (a b c : ℕ) → c ≡ a + b → a + (b + n) ≡ c + n
        by a b c e = omega (arith, e)

        appended : (gs hs : List Group) → total (map (group_count place label) (gs ++ hs)) ≡ total (map (group_count place label) gs) + total (map (group_count place label) hs)
        appended [] hs = omega arith
        appended (g ∷ gs) hs = (let e : total (map (group_count place label) (gs ++ hs)) ≡ total (map (group_count place label) gs) + total (map (group_count place label) hs) = appended gs hs in omega (arith, e))

    union_braced : Braced (groups.GroupOrUnionGraphPattern Group') (member_count place label)
    unfolding Braced Turns all_counts
    union_braced ts x us d n turned =
        let last = subst (λ (z : Lexemes). Ends z n) (sym d.goes.goes.1) turned in
        let rest = other_groups d.mid d.goes.first d.goes.mid d.goes.reads n last in
        let at = i ts d.first d.mid d.reads _ rest in
        subst (λ (z : Member). Stands [] (member_count place label z + n) ts) d.goes.goes.0
        (subst (λ (k : ℕ). Stands [] k ts) (by (group_count place label d.first) (total (map (group_count place label) d.goes.first)) (member_count place label (m.Union (d.first ∷ d.goes.first)))
        (by-Union (member_count_of place label) (group_count_of place label) (d.first ∷ d.goes.first))) at)
      where
        by : (a b c : ℕ) → c ≡ a + b → a + (b + n) ≡ c + n
        by a b c e = omega (arith, e)

    -- a word, and a group behind it
    word_braced : (k : Terminal) (node : Group → Member) → is_plain k ≡ true → ((g : Group) → member_count place label (node g) ≡ group_count place label g)
        → Braced (grammar.◌>>◌ (grammar.the k) (grammar.◌<$>◌ node Group')) (member_count place label)
    unfolding Braced
    word_braced k node plain same ts x us d n turned =
        let inner = d.goes in
        let last = subst (λ (z : Lexemes). Ends z n) (sym inner.goes.1) turned in
        let at = i d.mid inner.first inner.mid inner.reads n last in
        let here = at_same place label clause.Pattern [] _ ts (d.reads.0 ∷ d.mid) d.reads.2 (plain_turned k d.reads.0 d.mid _ plain d.reads.1 at) in
        subst (λ (z : Member). Stands [] (member_count place label z + n) ts) inner.goes.0 (subst (λ (j : ℕ). Stands [] (j + n) ts) (sym (same inner.first)) here)

    graph_braced : Braced (groups.GraphGraphPattern Group') (member_count place label)
    unfolding Braced
    graph_braced ts x us d n turned =
        let named = d.goes in
        let grouped = named.goes in
        let last = subst (λ (z : Lexemes). Ends z n) (sym grouped.goes.1) turned in
        let at = i named.mid grouped.first grouped.mid grouped.reads n last in
        let name = still place label _ (place_gives place label clause.Pattern) d.mid named.first named.mid named.reads [] _ at in
        let here = at_same place label clause.Pattern [] _ ts (d.reads.0 ∷ d.mid) d.reads.2 (plain_turned terminal.Graph d.reads.0 d.mid _ refl d.reads.1 name) in
        subst (λ (z : Member). Stands [] (member_count place label z + n) ts) grouped.goes.0
        (subst (λ (j : ℕ). Stands [] (j + n) ts) (sym (by-Graph (member_count_of place label) (group_count_of place label) named.first grouped.first)) here)

    pattern_braced : Braced (groups.APattern Group') (member_count place label)
    unfolding Braced
    pattern_braced ts x us (inl d) n turned = union_braced ts x us d n turned
    pattern_braced ts x us (inr (inl d)) n turned = word_braced terminal.Optional m.Optional refl (by-Optional (member_count_of place label) (group_count_of place label)) ts x us d n turned
    pattern_braced ts x us (inr (inr (inl d))) n turned = word_braced terminal.MinusWord m.Minus refl (by-Minus (member_count_of place label) (group_count_of place label)) ts x us d n turned
    pattern_braced ts x us (inr (inr (inr d))) n turned = graph_braced ts x us d n turned

  -- ---- groups, over grammars of triples, of constraints and of the groups inside

  module _ (Block : Derives (List Triples)) (Constraint' : Derives Expression) (Group' : Derives Group)
      (p : Gives place label clause.Pattern [] Block (lists triples_labels)) (asks : Gives place label clause.Pattern [] Constraint' (λ _. [])) (i : Braced Group' (group_count place label)) where
    either_at : (ts : Lexemes) (x : Element) (us : Lexemes) → groups.GraphPatternNotTriples Constraint' Group' ts x us → (ys : Slices) (n : ℕ) → Stands ys n us
        → Stands (after (x ∷ []) (ys, n)).0 (after (x ∷ []) (ys, n)).1 ts
    unfolding Braced
    either_at ts x us (inl d) ys n at =
        let last = at_same place label clause.Pattern ys n d.mid us d.goes.1 at in
        let here = pattern_braced Group' i ts d.first d.mid d.reads _ (turned_at place label ys n d.mid last) in
        subst (λ (z : Element). Stands (after (z ∷ []) (ys, n)).0 (after (z ∷ []) (ys, n)).1 ts) d.goes.0 here
    either_at ts x us (inr d) ys n at =
        let inner = d.goes in
        let last = at_same place label clause.Pattern ys n inner.mid us inner.goes.1 at in
        let asked = still place label _ asks d.mid inner.first inner.mid inner.reads ys n last in
        let here = at_same place label clause.Pattern ys n ts (d.reads.0 ∷ d.mid) d.reads.2 (at_plain place label clause.Pattern terminal.Filter d.reads.0 d.mid ys n refl d.reads.1 asked) in
        subst (λ (z : Element). Stands (after (z ∷ []) (ys, n)).0 (after (z ∷ []) (ys, n)).1 ts) inner.goes.0 here

    maybe_block_at : (ts : Lexemes) (o : Option Element) (us : Lexemes) → groups.MaybeBlock Block ts o us → (ys : Slices) (n : ℕ) → Stands ys n us
        → Stands (after (option_to_list o) (ys, n)).0 (after (option_to_list o) (ys, n)).1 ts
    unfolding Gives
    maybe_block_at ts None us d ys n at = at_same place label clause.Pattern ys n ts us d at
    maybe_block_at ts (Some x) us d ys n at =
        let r = p ts d.first d.mid d.reads in
        let last = at_same place label clause.Pattern ys n d.mid us d.goes.1 at in
        let here = subst (λ (z : Slices). Stands (z ++ ys) n ts) r.is (r.goes ys n last) in
        subst (λ (z : Element). Stands (after (z ∷ []) (ys, n)).0 (after (z ∷ []) (ys, n)).1 ts) d.goes.0 here

    turn_block_at : (ts : Lexemes) (xs : List Element) (us : Lexemes) → groups.PatternAndBlock Block Constraint' Group' ts xs us → (ys : Slices) (n : ℕ) → Stands ys n us
        → Stands (after xs (ys, n)).0 (after xs (ys, n)).1 ts
    turn_block_at ts xs us d ys n at =
        let dotted = d.goes in
        let blocked = dotted.goes in
        let last = at_same place label clause.Pattern ys n blocked.mid us blocked.goes.1 at in
        let block = maybe_block_at dotted.mid blocked.first blocked.mid blocked.reads ys n last in
        let dot = still place label _ (perhaps_silent place label clause.Pattern terminal.Dot refl) d.mid dotted.first dotted.mid dotted.reads _ _ block in
        let here = either_at ts d.first d.mid d.reads _ _ dot in
        let is = state-append place label (d.first ∷ []) (option_to_list blocked.first) (ys, n) in
        subst (λ (z : List Element). Stands (after z (ys, n)).0 (after z (ys, n)).1 ts) blocked.goes.0
        (subst (λ (z : Slices × ℕ). Stands z.0 z.1 ts) (sym is) here)

    turns_at : (ts : Lexemes) (xs : List Element) (us : Lexemes) → Star (groups.PatternAndBlock Block Constraint' Group') ts xs us → (ys : Slices) (n : ℕ) → Stands ys n us
        → Stands (after xs (ys, n)).0 (after xs (ys, n)).1 ts
    turns_at ts xs us stop ys n at = at
    turns_at ts xs us (more {mid = mid} {x = x} {xs = zs} r s) ys n at =
        let rest = turns_at mid zs us s ys n at in
        subst (λ (z : Slices × ℕ). Stands z.0 z.1 ts) (sym (state-append place label x zs (ys, n))) (turn_block_at ts x mid r _ _ rest)

    group_braced : Braced (groups.GroupGraphPattern Block Constraint' Group') (group_count place label)
    unfolding Braced
    group_braced ts x us d n turned =
        let inside = d.goes in
        let closed = inside.goes in
        let last = subst (λ (z : Lexemes). Ends z n) (sym closed.goes.1) turned in
        let ended = at_same place label clause.Pattern [] n inside.mid (closed.reads.0 ∷ closed.mid) closed.reads.2
        (brace_at place label terminal.CloseBrace refl refl (close_ends place) closed.reads.0 closed.mid n closed.reads.1 last) in
        let contents = inside.reads in
        let others = contents.goes in
        let end = at_same place label clause.Pattern [] n others.mid inside.mid others.goes.1 ended in
        let turns = turns_at contents.mid others.first others.mid others.reads [] n end in
        let first = maybe_block_at d.mid contents.first contents.mid contents.reads _ _ turns in
        let es = option_to_list contents.first ++ others.first in
        let all = subst (λ (z : Slices × ℕ). Stands z.0 z.1 d.mid) (sym (state-append place label (option_to_list contents.first) others.first ([], n))) first in
        let begun = at_same place label clause.Pattern [] _ ts (d.reads.0 ∷ d.mid) d.reads.2
        (brace_at place label terminal.OpenBrace refl refl (open_ends place) d.reads.0 d.mid _ d.reads.1 (turned_at place label _ _ d.mid all)) in
        let counted = subst (λ (k : ℕ). Stands [] k ts) (group_counts place label es n) begun in
        subst (λ (z : Group). Stands [] (group_count place label z + n) ts) (others.goes.0 ∙ closed.goes.0) counted

  groups_braced : (Block : Derives (List Triples)) (Constraint' : Derives Expression) → Gives place label clause.Pattern [] Block (lists triples_labels) → Gives place label clause.Pattern [] Constraint' (λ _. [])
      → (depth : ℕ) → Braced (groups.Groups_at Block Constraint' depth) (group_count place label)
  unfolding Braced
  groups_braced Block Constraint' p asks zero ts x us d = absurd d
  groups_braced Block Constraint' p asks (suc depth) ts x us d =
      group_braced Block Constraint' (groups.Groups_at Block Constraint' depth) p asks (groups_braced Block Constraint' p asks depth) ts x us d

  pub group_at_braced : (depth : ℕ) → Braced (groups.GroupAt depth) (group_count place label)
  group_at_braced depth = groups_braced (TriplesTemplate (Nodes_at depth)) (Constraint (Expressions_at depth)) (triples_give place label clause.Pattern depth) (constraint_silent place label clause.Pattern depth) (suc depth)
