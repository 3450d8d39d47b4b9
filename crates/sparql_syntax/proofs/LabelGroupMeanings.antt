-- What a group says: of the basic graph patterns whose labels are listed as many have a label as in its tree.
use Rattle.std.proofs.Common.{◌≡◌, ◌∙◌, ap, refl, sym, subst, ℕ, ◌+◌, Bool, cond, List, [], ◌∷◌, ◌++◌, map, Option, Some, None, arith}
use Rattle.std.specs.List.{AllByRecursion}
use Rattle.std.specs.Option.{option_map}
use Rattle.rdf_grammar.specs.Prologue.{Prologue}
use Rattle.rdf_grammar.specs.Steps.{Outcome, and_then}
use Rattle.sparql_expressions.specs.declared.tree.Expression as written_expression
use Rattle.sparql_grammar.specs.declared.tree.Group.{Group}
use Rattle.sparql_grammar.specs.declared.tree.Member as written_member
use Rattle.sparql_grammar.specs.declared.tree.Member.TheOpen.{Group-F, Member-F}
use Rattle.sparql_grammar.specs.declared.tree.Member.TheFolds.{fold-roll-Group, fold-roll-Member, map-Group, map-Member, ind-Group}
use Rattle.sparql_grammar.specs.declared.tree.Member.TheViews.{roll-Group, roll-Member}
use Rattle.sparql_grammar.specs.declared.tree.Triples.{Triples}
use Rattle.sparql_grammar.specs.declared.tree.VarOrIri as written_name
use Rattle.sparql_drafts.specs.Meaning.{pattern_in}
use Rattle.sparql_drafts.specs.declared.draft.Quads.{Quads}
use Rattle.sparql_queries.specs.Collected.{collected, collected_behind}
use Rattle.sparql_queries.specs.Expressions.{all, expression_in}
use Rattle.sparql_queries.specs.Groups.{Does, Labels, asked, basic, basic_graph_pattern, graph_name, group, group_of, member_in, member_of, named, pattern_with}
use Rattle.sparql_trees.specs.declared.pattern.BasicGraphPattern.{BasicGraphPattern}
use Rattle.sparql_trees.specs.declared.pattern.Member.{Member}
use Rattle.sparql_trees.specs.declared.pattern.Member.TheVariants as member
use Rattle.sparql_trees.specs.declared.pattern.Pattern.{Pattern}
use Rattle.sparql_syntax.specs.declared.clause.Clause.TheVariants as clause
use Rattle.sparql_syntax.specs.RuleLaws.{stands_in}
use Rattle.sparql_syntax.proofs.LabelFronts.{lists}
use Rattle.sparql_syntax.proofs.LabelGroups.{group_count, group_count_of, member_count, member_count_of, total}
use Rattle.sparql_syntax.proofs.LabelMeanings.{pattern_says}
use Rattle.sparql_syntax.proofs.LabelNodes.{triples_labels}
use Rattle.sparql_syntax.proofs.ReusedLists.{once}
use Rattle.sparql_syntax.proofs.SharedLabels.{times, times-append}

module _ (p : Prologue) (label : List ℕ) where
  abbrev in_group : Group → ℕ
  in_group = group_count clause.Pattern label

  abbrev in_member : written_member.Member → ℕ
  in_member = member_count clause.Pattern label

  -- so many more of the lists have the label
  abbrev Comes : {A : Type 0} → ℕ → Labels → Outcome Labels A → Type 0
  Comes n s None = Unit {0}
  Comes n s (Some r) = times label r.1 ≡ times label s + n

  abbrev Goes : {A : Type 0} → ℕ → Does A → Type 0
  Goes n f = (s : Labels) → Comes n s (f s)

  shifted : {B : Type 0} (k n : ℕ) (s u : Labels) (o : Outcome Labels B) → times label u ≡ times label s + k → Comes n u o → Comes (k + n) s o
  shifted k n s u None e c = tt
  shifted k n s u (Some r) e c = (let f : times label r.1 ≡ times label u + n = c in omega (arith, e, f))

  then_comes : {A B : Type 0} (k n : ℕ) (s : Labels) (o : Outcome Labels A) (g : A → Does B) → Comes k s o → ((y : A) → Goes n (g y)) → Comes (k + n) s (and_then o g)
  then_comes k n s None g c q = tt
  then_comes k n s (Some r) g c q = shifted k n s r.1 (g r.0 r.1) c (q r.0 r.1)

  then_goes : {A B : Type 0} (k n : ℕ) (f : Does A) (g : A → Does B) → Goes k f → ((y : A) → Goes n (g y)) → Goes (k + n) (λ s. and_then (f s) g)
  then_goes k n f g h q = λ s. then_comes k n s (f s) g (h s) q

  same_goes : {A : Type 0} (k n : ℕ) (f : Does A) → k ≡ n → Goes k f → Goes n f
  same_goes k n f e h = subst (λ (z : ℕ). Goes z f) e h

  pure_goes : {A : Type 0} (y : A) → Goes 0 (λ s. Some (y, s))
  pure_goes y = λ s. omega arith

  map_goes : {A B : Type 0} (n : ℕ) (f : Does A) (g : A → B) → Goes n f → Goes n (λ s. and_then (f s) (λ y u. Some (g y, u)))
  map_goes n f g h = same_goes (n + 0) n _ (omega arith) (then_goes n 0 f (λ y u. Some (g y, u)) h (λ y. pure_goes (g y)))

  -- ---- the parts of groups

  kept : {A : Type 0} (o : Option A) → Goes 0 (λ labels. option_map {U = A × Labels} (λ y. (y, labels)) o)
  kept None = λ s. tt
  kept (Some y) = λ s. omega arith

  last_list : (labels : List (List ℕ)) (b : Bool) → stands_in label labels ≡ b → times label (labels ∷ []) ≡ once b 0
  unfolding times
  last_list labels b e = ap (λ (c : Bool). cond c (1 + 0) 0) e

  one_more : (labels : Labels) (q : Quads) (b : Bool) → stands_in label q.labels ≡ b → times label (labels ++ q.labels ∷ []) ≡ times label labels + once b 0
  one_more labels q b e = times-append label labels (q.labels ∷ []) ∙ ap (λ (n : ℕ). times label labels + n) (last_list q.labels b e)

  basic_comes : (ts : List Triples) (labels : Labels) (o : Option Quads) → pattern_in ts p ≡ o
      → Comes (once (stands_in label (lists triples_labels ts)) 0) labels (option_map {U = BasicGraphPattern × Labels} (λ q. (basic_graph_pattern q, labels ++ q.labels ∷ [])) o)
  basic_comes ts labels None e = tt
  basic_comes ts labels (Some q) e = one_more labels q (stands_in label (lists triples_labels ts)) (pattern_says label ts p q e).says

  basic_goes : (ts : List Triples) → Goes (once (stands_in label (lists triples_labels ts)) 0) (basic p ts)
  unfolding basic
  basic_goes ts = λ s. basic_comes ts s (pattern_in ts p) refl

  named_goes : (w : written_name.VarOrIri) → Goes 0 (named p w)
  unfolding named
  named_goes w = kept (graph_name p w)

  asked_goes : (es : List written_expression.Expression) → Goes 0 (asked p es)
  unfolding asked
  asked_goes es = kept (all (map (expression_in p) es))

  collected_goes : {A D : Type 0} (f : D → Does A) (value : D → ℕ) (ds : List D) (found : List A) → AllByRecursion (λ d. Goes (value d) (f d)) ds → Goes (total (map value ds)) (collected_behind found (map f ds))
  collected_goes f value [] found h = pure_goes found
  collected_goes f value (d ∷ ds) found h =
      then_goes (value d) (total (map value ds)) (f d) (λ a. collected_behind (found ++ a ∷ []) (map f ds)) h.0 (λ a. collected_goes f value ds (found ++ a ∷ []) h.1)

  -- ---- trees

  abbrev GroupMeans : Group → Type 0
  GroupMeans g = Goes (in_group g) (group p g)

  abbrev MemberMeans : written_member.Member → Type 0
  MemberMeans m = Goes (in_member m) (member_in p m)

  abbrev GoodGroup : Type 0
  GoodGroup = (g : Group) × GroupMeans g

  abbrev GoodMember : Type 0
  GoodMember = (m : written_member.Member) × MemberMeans m

  abbrev plain_member : Member-F GoodMember GoodGroup → Member-F written_member.Member Group
  plain_member = map-Member GoodMember GoodGroup written_member.Member Group (λ e. e.0) (λ e. e.0)

  abbrev plain_group : Group-F GoodMember GoodGroup → Group-F written_member.Member Group
  plain_group = map-Group GoodMember GoodGroup written_member.Member Group (λ e. e.0) (λ e. e.0)

  all_groups : (gs : List GoodGroup) → AllByRecursion GroupMeans (map (λ e. e.0) gs)
  all_groups [] = tt
  all_groups (g ∷ gs) = (g.1, all_groups gs)

  all_members : (ms : List GoodMember) → AllByRecursion MemberMeans (map (λ e. e.0) ms)
  all_members [] = tt
  all_members (m ∷ ms) = (m.1, all_members ms)

  good_member : (y : Member-F GoodMember GoodGroup)
      → Goes (member_count_of clause.Pattern label (map-Member written_member.Member Group ℕ ℕ in_member in_group (plain_member y)))
      (member_of p (map-Member written_member.Member Group (Does Member) (Does Pattern) (member_in p) (group p) (plain_member y)))
  good_member (Member-F.Triples ts) = map_goes (once (stands_in label (lists triples_labels ts)) 0) (basic p ts) member.Basic (basic_goes ts)
  good_member (Member-F.Union gs) =
      map_goes (total (map in_group (map (λ e. e.0) gs))) (collected (map (group p) (map (λ e. e.0) gs))) member.Union (collected_goes (group p) in_group (map (λ e. e.0) gs) [] (all_groups gs))
  good_member (Member-F.Optional g) = map_goes (in_group g.0) (group p g.0) member.Optional g.1
  good_member (Member-F.Graph w g) =
      same_goes (0 + in_group g.0) (in_group g.0) _ (omega arith)
      (then_goes 0 (in_group g.0) (named p w) (λ name s. and_then (group p g.0 s) (λ pattern u. Some (member.Graph name pattern, u))) (named_goes w)
      (λ name. map_goes (in_group g.0) (group p g.0) (λ pattern. member.Graph name pattern) g.1))
  good_member (Member-F.Minus g) = map_goes (in_group g.0) (group p g.0) member.Minus g.1

  good_group : (y : Group-F GoodMember GoodGroup)
      → Goes (group_count_of clause.Pattern label (map-Group written_member.Member Group ℕ ℕ in_member in_group (plain_group y)))
      (group_of p (map-Group written_member.Member Group (Does Member) (Does Pattern) (member_in p) (group p) (plain_group y)))
  good_group y =
      let ms : List written_member.Member = map (λ e. e.0) y.members in
      same_goes (total (map in_member ms) + 0) (total (map in_member ms)) _ (omega arith)
      (then_goes (total (map in_member ms)) 0 (collected (map (member_in p) ms)) (λ members s. and_then (asked p y.filters s) (λ filters u. Some (pattern_with members filters, u)))
      (collected_goes (member_in p) in_member ms [] (all_members y.members)) (λ members. map_goes 0 (asked p y.filters) (λ filters. pattern_with members filters) (asked_goes y.filters)))

  rolled_member : (y : Member-F GoodMember GoodGroup) → MemberMeans (roll-Member (plain_member y))
  rolled_member y =
      let z : Member-F written_member.Member Group = plain_member y in
      subst (λ (f : Does Member). Goes (in_member (roll-Member z)) f) (sym (fold-roll-Member (Does Member) (Does Pattern) (member_of p) (group_of p) z))
      (subst (λ (n : ℕ). Goes n (member_of p (map-Member written_member.Member Group (Does Member) (Does Pattern) (member_in p) (group p) z)))
      (sym (fold-roll-Member ℕ ℕ (member_count_of clause.Pattern label) (group_count_of clause.Pattern label) z)) (good_member y))

  rolled_group : (y : Group-F GoodMember GoodGroup) → GroupMeans (roll-Group (plain_group y))
  rolled_group y =
      let z : Group-F written_member.Member Group = plain_group y in
      subst (λ (f : Does Pattern). Goes (in_group (roll-Group z)) f) (sym (fold-roll-Group (Does Member) (Does Pattern) (member_of p) (group_of p) z))
      (subst (λ (n : ℕ). Goes n (group_of p (map-Group written_member.Member Group (Does Member) (Does Pattern) (member_in p) (group p) z)))
      (sym (fold-roll-Group ℕ ℕ (member_count_of clause.Pattern label) (group_count_of clause.Pattern label) z)) (good_group y))

  member_step : (z : Member-F written_member.Member Group) (y : Member-F GoodMember GoodGroup) → plain_member y ≡ z → MemberMeans (roll-Member z)
  member_step z y is = subst (λ (a : Member-F written_member.Member Group). MemberMeans (roll-Member a)) is (rolled_member y)

  group_step : (z : Group-F written_member.Member Group) (y : Group-F GoodMember GoodGroup) → plain_group y ≡ z → GroupMeans (roll-Group z)
  group_step z y is = subst (λ (a : Group-F written_member.Member Group). GroupMeans (roll-Group a)) is (rolled_group y)

  group_goes : (g : Group) → GroupMeans g
  group_goes = ind-Group MemberMeans GroupMeans member_step group_step

  none_before : (m n : ℕ) → m ≡ 0 + n → m ≡ n
  none_before m n e = omega (arith, e)

  -- the lists of a group, from none on
  pub group_says : (g : Group) (said : Pattern × Labels) → group p g [] ≡ Some said → times label said.1 ≡ in_group g
  unfolding times
  group_says g said e = none_before (times label said.1) (in_group g) (subst (Comes (in_group g) []) e (group_goes g []))

-- ---- where only INSERT DATA is looked at, none

module _ (label : List ℕ) where
  abbrev NoGroup : Group → Type 0
  NoGroup g = group_count clause.InsertData label g ≡ 0

  abbrev NoMember : written_member.Member → Type 0
  NoMember m = member_count clause.InsertData label m ≡ 0

  abbrev EmptyGroup : Type 0
  EmptyGroup = (g : Group) × NoGroup g

  abbrev EmptyMember : Type 0
  EmptyMember = (m : written_member.Member) × NoMember m

  abbrev bare_member : Member-F EmptyMember EmptyGroup → Member-F written_member.Member Group
  bare_member = map-Member EmptyMember EmptyGroup written_member.Member Group (λ e. e.0) (λ e. e.0)

  abbrev bare_group : Group-F EmptyMember EmptyGroup → Group-F written_member.Member Group
  bare_group = map-Group EmptyMember EmptyGroup written_member.Member Group (λ e. e.0) (λ e. e.0)

  no_groups : (gs : List EmptyGroup) → total (map (group_count clause.InsertData label) (map (λ e. e.0) gs)) ≡ 0
  no_groups [] = refl
  no_groups (g ∷ gs) = (let e : group_count clause.InsertData label g.0 ≡ 0 = g.1 in let f : total (map (group_count clause.InsertData label) (map (λ e. e.0) gs)) ≡ 0 = no_groups gs in omega (arith, e, f))

  no_members : (ms : List EmptyMember) → total (map (member_count clause.InsertData label) (map (λ e. e.0) ms)) ≡ 0
  no_members [] = refl
  no_members (m ∷ ms) = (let e : member_count clause.InsertData label m.0 ≡ 0 = m.1 in let f : total (map (member_count clause.InsertData label) (map (λ e. e.0) ms)) ≡ 0 = no_members ms in omega (arith, e, f))

  empty_member : (y : Member-F EmptyMember EmptyGroup)
      → member_count_of clause.InsertData label (map-Member written_member.Member Group ℕ ℕ (member_count clause.InsertData label) (group_count clause.InsertData label) (bare_member y)) ≡ 0
  empty_member (Member-F.Triples ts) = refl
  empty_member (Member-F.Union gs) = no_groups gs
  empty_member (Member-F.Optional g) = g.1
  empty_member (Member-F.Graph w g) = g.1
  empty_member (Member-F.Minus g) = g.1

  empty_member_step : (z : Member-F written_member.Member Group) (y : Member-F EmptyMember EmptyGroup) → bare_member y ≡ z → NoMember (roll-Member z)
  empty_member_step z y is = subst (λ (a : Member-F written_member.Member Group). NoMember (roll-Member a)) is
      (fold-roll-Member ℕ ℕ (member_count_of clause.InsertData label) (group_count_of clause.InsertData label) (bare_member y) ∙ empty_member y)

  empty_group_step : (z : Group-F written_member.Member Group) (y : Group-F EmptyMember EmptyGroup) → bare_group y ≡ z → NoGroup (roll-Group z)
  empty_group_step z y is = subst (λ (a : Group-F written_member.Member Group). NoGroup (roll-Group a)) is
      (fold-roll-Group ℕ ℕ (member_count_of clause.InsertData label) (group_count_of clause.InsertData label) (bare_group y) ∙ no_members y.members)

  pub no_group : (g : Group) → NoGroup g
  no_group = ind-Group NoMember NoGroup empty_member_step empty_group_step
