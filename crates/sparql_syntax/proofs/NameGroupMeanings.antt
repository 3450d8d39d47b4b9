-- Proper groups say something just where each of their names has an IRI.
use Rattle.std.proofs.Common.{◌≡◌, ◌∙◌, refl, sym, subst, Bool, true, List, [], ◌∷◌, ◌++◌, map, Option, Some, None}
use Rattle.std.proofs.lemmas.Bool.{and_parts}
use Rattle.std.specs.Prelude.{is_some}
use Rattle.std.specs.List.{list_all, AllByRecursion}
use Rattle.std.specs.Option.{option_map}
use Rattle.rdf_grammar.specs.Holds.{holds}
use Rattle.rdf_grammar.specs.Prologue.{Prologue, iri_of}
use Rattle.rdf_grammar.specs.Steps.{and_then}
use Rattle.sparql_expressions.specs.declared.tree.Expression as written_expression
use Rattle.sparql_expressions.specs.ProperExpressions.{proper_expression}
use Rattle.sparql_grammar.specs.Proper.{is_filled, proper_group, proper_group_of, proper_member, proper_member_of, proper_triples, proper_var_or_iri}
use Rattle.sparql_grammar.specs.declared.tree.Group.{Group}
use Rattle.sparql_grammar.specs.declared.tree.Member as written_member
use Rattle.sparql_grammar.specs.declared.tree.Member.TheOpen.{Group-F, Member-F}
use Rattle.sparql_grammar.specs.declared.tree.Member.TheFolds.{fold-roll-Group, fold-roll-Member, map-Group, map-Member, ind-Group}
use Rattle.sparql_grammar.specs.declared.tree.Member.TheViews.{roll-Group, roll-Member}
use Rattle.sparql_grammar.specs.declared.tree.Triples.{Triples}
use Rattle.sparql_grammar.specs.declared.tree.VarOrIri as written_name
use Rattle.sparql_grammar.specs.declared.tree.VarOrIri.TheVariants as n
use Rattle.sparql_drafts.specs.Meaning.{pattern_in}
use Rattle.sparql_queries.specs.Collected.{collected, collected_behind}
use Rattle.sparql_queries.specs.Expressions.{all, expression_in}
use Rattle.sparql_queries.specs.Groups.{Does, Labels, asked, basic, graph_name, group, group_of, member_in, member_of, named, pattern_with}
use Rattle.sparql_trees.specs.declared.pattern.Member.{Member}
use Rattle.sparql_trees.specs.declared.pattern.Member.TheVariants as member
use Rattle.sparql_trees.specs.declared.pattern.Pattern.{Pattern}
use Rattle.sparql_syntax.proofs.NameFronts.{Ask, of_names}
use Rattle.sparql_syntax.proofs.NameExpressions.{each_expression}
use Rattle.sparql_syntax.proofs.NameNodes.{each_triples, each_var_or_iri}
use Rattle.sparql_syntax.proofs.NameGroups.{each_group, each_group_of, each_member, each_member_of, passed}
use Rattle.sparql_syntax.proofs.NameMeanings.{Comes, Goes, by_flag, has_iri, map_goes, pattern_there, pure_goes, then_goes}
use Rattle.sparql_syntax.proofs.TriplesSaid.{some_map}
use Rattle.sparql_syntax.proofs.NameExpressionMeanings.{all_there, expression_there}

module _ (p : Prologue) where
  abbrev q : Ask
  q = of_names (has_iri p)

  abbrev Given : Labels → Type 0
  Given labels = Unit {0}

  abbrev DoesGo : {A : Type 0} → Bool → Does A → Type 0
  DoesGo flag f = Goes Given flag f

  kept : {A B : Type 0} (f : A → B) (u : A → Labels) (o : Option A) → Comes Given (is_some o) (option_map {U = B × Labels} (λ a. (f a, u a)) o)
  kept f u None = refl
  kept f u (Some a) = (f a, u a, refl, tt)

  -- ---- the parts of groups

  basic_goes : (ts : List Triples) → list_all holds (map proper_triples ts) ≡ true → DoesGo (list_all holds (map (each_triples q) ts)) (basic p ts)
  unfolding basic
  basic_goes ts h = by_flag Given (is_some (pattern_in ts p)) (list_all holds (map (each_triples q) ts)) _ (pattern_there p ts h) (λ labels tt. kept _ _ (pattern_in ts p))

  name_there : (w : written_name.VarOrIri) → is_some (graph_name p w) ≡ each_var_or_iri q w
  name_there (n.Variable variable) = refl
  name_there (n.Name name) = some_map _ (iri_of name p)

  named_goes : (w : written_name.VarOrIri) → DoesGo (each_var_or_iri q w) (named p w)
  unfolding named
  named_goes w = by_flag Given (is_some (graph_name p w)) (each_var_or_iri q w) _ (name_there w) (λ labels tt. kept _ _ (graph_name p w))

  all_proper : (es : List written_expression.Expression) → list_all proper_expression es ≡ true → AllByRecursion (λ e. is_some (expression_in p e) ≡ each_expression q e) es
  all_proper [] h = tt
  all_proper (e ∷ es) h = let both = and_parts (proper_expression e) (list_all proper_expression es) h in (expression_there p e both.0, all_proper es both.1)

  filters_there : (es : List written_expression.Expression) → list_all proper_expression es ≡ true → is_some (all (map (expression_in p) es)) ≡ list_all (each_expression q) es
  filters_there es h = all_there (expression_in p) (each_expression q) es (all_proper es h) ∙ sym (passed (each_expression q) es)

  asked_goes : (es : List written_expression.Expression) → list_all proper_expression es ≡ true → DoesGo (list_all (each_expression q) es) (asked p es)
  unfolding asked
  asked_goes es h = by_flag Given (is_some (all (map (expression_in p) es))) (list_all (each_expression q) es) _ (filters_there es h) (λ labels tt. kept _ _ (all (map (expression_in p) es)))

  collected_goes : {A D : Type 0} (f : D → Does A) (flag : D → Bool) (ds : List D) (found : List A) → AllByRecursion (λ d. DoesGo (flag d) (f d)) ds
      → DoesGo (list_all holds (map flag ds)) (collected_behind found (map f ds))
  collected_goes f flag [] found h = pure_goes Given found
  collected_goes f flag (d ∷ ds) found h =
      then_goes Given (flag d) (list_all holds (map flag ds)) (f d) (λ a. collected_behind (found ++ a ∷ []) (map f ds)) h.0 (λ a. collected_goes f flag ds (found ++ a ∷ []) h.1)

  -- ---- trees

  abbrev GroupSays : Group → Type 0
  GroupSays g = DoesGo (each_group q g) (group p g)

  abbrev MemberSays : written_member.Member → Type 0
  MemberSays m = DoesGo (each_member q m) (member_in p m)

  abbrev GroupMeans : Group → Type 0
  GroupMeans g = proper_group g ≡ true → GroupSays g

  abbrev MemberMeans : written_member.Member → Type 0
  MemberMeans m = proper_member m ≡ true → MemberSays m

  abbrev GoodGroup : Type 0
  GoodGroup = (g : Group) × GroupMeans g

  abbrev GoodMember : Type 0
  GoodMember = (m : written_member.Member) × MemberMeans m

  abbrev plain_member : Member-F GoodMember GoodGroup → Member-F written_member.Member Group
  plain_member = map-Member GoodMember GoodGroup written_member.Member Group (λ e. e.0) (λ e. e.0)

  abbrev plain_group : Group-F GoodMember GoodGroup → Group-F written_member.Member Group
  plain_group = map-Group GoodMember GoodGroup written_member.Member Group (λ e. e.0) (λ e. e.0)

  all_groups : (gs : List GoodGroup) → list_all holds (map proper_group (map (λ e. e.0) gs)) ≡ true → AllByRecursion GroupSays (map (λ e. e.0) gs)
  all_groups [] h = tt
  all_groups (g ∷ gs) h = let both = and_parts (proper_group g.0) (list_all holds (map proper_group (map (λ e. e.0) gs))) h in (g.1 both.0, all_groups gs both.1)

  all_members : (ms : List GoodMember) → list_all holds (map proper_member (map (λ e. e.0) ms)) ≡ true → AllByRecursion MemberSays (map (λ e. e.0) ms)
  all_members [] h = tt
  all_members (m ∷ ms) h = let both = and_parts (proper_member m.0) (list_all holds (map proper_member (map (λ e. e.0) ms))) h in (m.1 both.0, all_members ms both.1)

  good_member : (y : Member-F GoodMember GoodGroup) → proper_member_of (map-Member written_member.Member Group Bool Bool proper_member proper_group (plain_member y)) ≡ true
      → DoesGo (each_member_of q (map-Member written_member.Member Group Bool Bool (each_member q) (each_group q) (plain_member y)))
      (member_of p (map-Member written_member.Member Group (Does Member) (Does Pattern) (member_in p) (group p) (plain_member y)))
  good_member (Member-F.Triples ts) h =
      let both = and_parts (is_filled ts) (list_all holds (map proper_triples ts)) h in
      map_goes Given (list_all holds (map (each_triples q) ts)) (basic p ts) member.Basic (basic_goes ts both.1)
  good_member (Member-F.Union gs) h =
      let both = and_parts _ (list_all holds (map proper_group (map (λ e. e.0) gs))) h in
      map_goes Given (list_all holds (map (each_group q) (map (λ e. e.0) gs))) (collected (map (group p) (map (λ e. e.0) gs))) member.Union
      (collected_goes (group p) (each_group q) (map (λ e. e.0) gs) [] (all_groups gs both.1))
  good_member (Member-F.Optional g) h = map_goes Given (each_group q g.0) (group p g.0) member.Optional (g.1 h)
  good_member (Member-F.Graph w g) h =
      let both = and_parts (proper_var_or_iri w) (proper_group g.0) h in
      then_goes Given (each_var_or_iri q w) (each_group q g.0) (named p w) (λ name s. and_then (group p g.0 s) (λ pattern u. Some (member.Graph name pattern, u))) (named_goes w)
      (λ name. map_goes Given (each_group q g.0) (group p g.0) (λ pattern. member.Graph name pattern) (g.1 both.1))
  good_member (Member-F.Minus g) h = map_goes Given (each_group q g.0) (group p g.0) member.Minus (g.1 h)

  good_group : (y : Group-F GoodMember GoodGroup) → proper_group_of (map-Group written_member.Member Group Bool Bool proper_member proper_group (plain_group y)) ≡ true
      → DoesGo (each_group_of q (map-Group written_member.Member Group Bool Bool (each_member q) (each_group q) (plain_group y)))
      (group_of p (map-Group written_member.Member Group (Does Member) (Does Pattern) (member_in p) (group p) (plain_group y)))
  good_group y h =
      let ms : List written_member.Member = map (λ e. e.0) y.members in
      let both = and_parts (list_all holds (map proper_member ms)) (list_all proper_expression y.filters) h in
      then_goes Given (list_all holds (map (each_member q) ms)) (list_all (each_expression q) y.filters) (collected (map (member_in p) ms))
      (λ members s. and_then (asked p y.filters s) (λ filters u. Some (pattern_with members filters, u)))
      (collected_goes (member_in p) (each_member q) ms [] (all_members y.members both.0))
      (λ members. map_goes Given (list_all (each_expression q) y.filters) (asked p y.filters) (λ filters. pattern_with members filters) (asked_goes y.filters both.1))

  rolled_member : (y : Member-F GoodMember GoodGroup) → MemberMeans (roll-Member (plain_member y))
  rolled_member y h =
      let z : Member-F written_member.Member Group = plain_member y in
      let good = good_member y (sym (fold-roll-Member Bool Bool proper_member_of proper_group_of z) ∙ h) in
      subst (λ (f : Does Member). DoesGo (each_member q (roll-Member z)) f) (sym (fold-roll-Member (Does Member) (Does Pattern) (member_of p) (group_of p) z))
      (subst (λ (b : Bool). DoesGo b (member_of p (map-Member written_member.Member Group (Does Member) (Does Pattern) (member_in p) (group p) z)))
      (sym (fold-roll-Member Bool Bool (each_member_of q) (each_group_of q) z)) good)

  rolled_group : (y : Group-F GoodMember GoodGroup) → GroupMeans (roll-Group (plain_group y))
  rolled_group y h =
      let z : Group-F written_member.Member Group = plain_group y in
      let good = good_group y (sym (fold-roll-Group Bool Bool proper_member_of proper_group_of z) ∙ h) in
      subst (λ (f : Does Pattern). DoesGo (each_group q (roll-Group z)) f) (sym (fold-roll-Group (Does Member) (Does Pattern) (member_of p) (group_of p) z))
      (subst (λ (b : Bool). DoesGo b (group_of p (map-Group written_member.Member Group (Does Member) (Does Pattern) (member_in p) (group p) z)))
      (sym (fold-roll-Group Bool Bool (each_member_of q) (each_group_of q) z)) good)

  member_step : (z : Member-F written_member.Member Group) (y : Member-F GoodMember GoodGroup) → plain_member y ≡ z → MemberMeans (roll-Member z)
  member_step z y is = subst (λ (a : Member-F written_member.Member Group). MemberMeans (roll-Member a)) is (rolled_member y)

  group_step : (z : Group-F written_member.Member Group) (y : Group-F GoodMember GoodGroup) → plain_group y ≡ z → GroupMeans (roll-Group z)
  group_step z y is = subst (λ (a : Group-F written_member.Member Group). GroupMeans (roll-Group a)) is (rolled_group y)

  pub group_goes : (g : Group) → GroupMeans g
  group_goes = ind-Group MemberMeans GroupMeans member_step group_step
