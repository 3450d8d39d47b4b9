-- Groups that are derived of formed lexemes are proper.
use Rattle.std.proofs.Common.{◌≡◌, ◌∙◌, ap, refl, sym, ℕ, zero, suc, Bool, true, List, [], ◌∷◌, ◌++◌, map, Option, Some, None}
use Rattle.std.proofs.lemmas.Bool.{and_from}
use Rattle.std.specs.Prelude.{option_to_list}
use Rattle.std.specs.List.{list_all, AllByRecursion}
use Rattle.sparql_terminals.specs.declared.terminal.Terminal.TheVariants as terminal
use Rattle.sparql_expressions.proofs.CallerLemmas.{constraint_gives}
use Rattle.sparql_expressions.specs.declared.tree.Expression.{Expression}
use Rattle.sparql_expressions.specs.ExpressionGrammar.{Constraint, Expressions_at}
use Rattle.sparql_expressions.specs.ProperExpressions.{proper_expression}
use Rattle.sparql_grammar.specs.declared.tree.Element.{Element}
use Rattle.sparql_grammar.specs.declared.tree.Element.TheVariants as e
use Rattle.sparql_grammar.specs.declared.tree.Group.{Group}
use Rattle.sparql_grammar.specs.declared.tree.Member.{Member}
use Rattle.sparql_grammar.specs.declared.tree.Member.TheVariants as m
use Rattle.sparql_grammar.specs.declared.tree.Member.TheOpen.{Group-F, Member-F}
use Rattle.sparql_grammar.specs.declared.tree.Member.TheFolds.{fold-Group, fold-Member, fold-roll-Group, fold-roll-Member}
use Rattle.sparql_grammar.specs.declared.tree.Triples.{Triples}
use Rattle.sparql_grammar.specs.declared.tree.VarOrIri.{VarOrIri}
use Rattle.sparql_grammar.specs.Grammar.{Nodes_at, TriplesTemplate}
use Rattle.sparql_grammar.specs.GroupGrammar as groups
use Rattle.sparql_grammar.specs.GroupReading.{filters_of, group_with, members_behind, together}
use Rattle.sparql_terminals.specs.Lexemes.{Derives}
use Rattle.sparql_grammar.specs.Proper.{holds, is_filled, proper_triples, proper_var_or_iri, proper_group_of, proper_member_of, proper_group, proper_member}
use Rattle.sparql_terminals.proofs.CallerLemmas.{Yields, Any, IsGoodOption, good_joined, then_gives, pure_gives, or_gives, also_gives, map_gives, behind_gives, closed_gives, maybe_gives, star_gives, one_gives, Passes}
use Rattle.sparql_grammar.proofs.GrammarProper.{Some_pass, all_pass, perhaps_gives, var_or_iri_gives, triples_give}
use Rattle.sparql_grammar.proofs.Trees.{filled_map}

-- ---- members by what they are

module _ {A B : Type 0} (f : Member-F A B → A) (h : Group-F A B → B) where
  by-Triples : (triples : List Triples) → fold-Member A B f h (m.Triples triples) ≡ f (Member-F.Triples triples)
  by-Triples triples = ap (fold-Member A B f h) (sym (m.rolls-Triples triples)) ∙ fold-roll-Member A B f h (Member-F.Triples triples)

  by-Union : (xs : List Group) → fold-Member A B f h (m.Union xs) ≡ f (Member-F.Union (map (fold-Group A B f h) xs))
  by-Union xs = ap (fold-Member A B f h) (sym (m.rolls-Union xs)) ∙ fold-roll-Member A B f h (Member-F.Union xs)

  by-Optional : (x : Group) → fold-Member A B f h (m.Optional x) ≡ f (Member-F.Optional (fold-Group A B f h x))
  by-Optional x = ap (fold-Member A B f h) (sym (m.rolls-Optional x)) ∙ fold-roll-Member A B f h (Member-F.Optional x)

  by-Graph : (place : VarOrIri) (x : Group) → fold-Member A B f h (m.Graph place x) ≡ f (Member-F.Graph place (fold-Group A B f h x))
  by-Graph place x = ap (fold-Member A B f h) (sym (m.rolls-Graph place x)) ∙ fold-roll-Member A B f h (Member-F.Graph place x)

  by-Minus : (x : Group) → fold-Member A B f h (m.Minus x) ≡ f (Member-F.Minus (fold-Group A B f h x))
  by-Minus x = ap (fold-Member A B f h) (sym (m.rolls-Minus x)) ∙ fold-roll-Member A B f h (Member-F.Minus x)

  by-group : (xs : List Member) (filters : List Expression) → fold-Group A B f h (record { members = xs; filters = filters }) ≡ h (record { members = map (fold-Member A B f h) xs; filters = filters })
  by-group xs filters = fold-roll-Group A B f h (record { members = xs; filters = filters })

good_block : (triples : List Triples) → Some_pass proper_triples triples → proper_member (m.Triples triples) ≡ true
good_block triples h = by-Triples proper_member_of proper_group_of triples ∙ and_from (is_filled triples) (list_all holds (map proper_triples triples)) h.1 (all_pass proper_triples triples h.0)

good_union : (xs : List Group) → Some_pass proper_group xs → proper_member (m.Union xs) ≡ true
good_union xs h = by-Union proper_member_of proper_group_of xs
    ∙ and_from (is_filled (map proper_group xs)) (list_all holds (map proper_group xs)) (filled_map proper_group xs ∙ h.1) (all_pass proper_group xs h.0)

good_optional : (x : Group) → proper_group x ≡ true → proper_member (m.Optional x) ≡ true
good_optional x h = by-Optional proper_member_of proper_group_of x ∙ h

good_graph : (place : VarOrIri) (x : Group) → proper_var_or_iri place ≡ true → proper_group x ≡ true → proper_member (m.Graph place x) ≡ true
good_graph place x p h = by-Graph proper_member_of proper_group_of place x ∙ and_from (proper_var_or_iri place) (proper_group x) p h

good_minus : (x : Group) → proper_group x ≡ true → proper_member (m.Minus x) ≡ true
good_minus x h = by-Minus proper_member_of proper_group_of x ∙ h

-- ---- groups by what is written in them

abbrev Good : Element → Type 0
Good (e.Block triples) = Some_pass proper_triples triples
Good (e.Filter expression) = proper_expression expression ≡ true
Good (e.Pattern member) = proper_member member ≡ true

passing : {A : Type 0} (test : A → Bool) (xs : List A) → AllByRecursion (Passes test) xs → list_all test xs ≡ true
passing test [] h = refl
passing test (x ∷ xs) h = and_from (test x) (list_all test xs) h.0 (passing test xs h.1)

good_filters : (elements : List Element) → AllByRecursion Good elements → AllByRecursion (Passes proper_expression) (filters_of elements)
unfolding filters_of
good_filters [] h = tt
good_filters (e.Block triples ∷ elements) h = good_filters elements h.1
good_filters (e.Filter expression ∷ elements) h = (h.0, good_filters elements h.1)
good_filters (e.Pattern member ∷ elements) h = good_filters elements h.1

good_together : (triples : List Triples) → AllByRecursion (Passes proper_triples) triples → AllByRecursion (Passes proper_member) (together triples)
good_together [] h = tt
good_together (x ∷ xs) h = (good_block (x ∷ xs) (h, refl), tt)

good_members : (block : List Triples) (elements : List Element) → AllByRecursion (Passes proper_triples) block → AllByRecursion Good elements
    → AllByRecursion (Passes proper_member) (members_behind block elements)
unfolding members_behind
good_members block [] o h = good_together block o
good_members block (e.Block triples ∷ elements) o h = good_members (block ++ triples) elements (good_joined (Passes proper_triples) block triples o h.0.0) h.1
good_members block (e.Filter expression ∷ elements) o h = good_members block elements o h.1
good_members block (e.Pattern member ∷ elements) o h =
    good_joined (Passes proper_member) (together block) (member ∷ members_behind [] elements) (good_together block o) (h.0, good_members [] elements tt h.1)

good_group : (elements : List Element) → AllByRecursion Good elements → proper_group (group_with elements) ≡ true
good_group elements h =
    let members = members_behind [] elements in
    by-group proper_member_of proper_group_of members (filters_of elements)
    ∙ and_from (list_all holds (map proper_member members)) (list_all proper_expression (filters_of elements))
    (all_pass proper_member members (good_members [] elements tt h)) (passing proper_expression (filters_of elements) (good_filters elements h))

some_block : (o : Option Element) → IsGoodOption Good o → AllByRecursion Good (option_to_list o)
some_block None h = tt
some_block (Some x) h = (h, tt)

-- ---- groups, over grammars of triples, of constraints and of the groups inside

module _ (Group' : Derives Group) (i : Yields Group' (Passes proper_group)) where
  union_gives : Yields (groups.GroupOrUnionGraphPattern Group') (Passes proper_member)
  union_gives = then_gives _ _ (Passes proper_group) (Passes proper_member) i (λ first h. then_gives _ _ (AllByRecursion (Passes proper_group)) (Passes proper_member)
      (star_gives _ (Passes proper_group) (one_gives _ (Passes proper_group) (behind_gives terminal.Union Group' (Passes proper_group) i)))
      (λ others hs. pure_gives (m.Union (first ∷ others)) (Passes proper_member) (good_union (first ∷ others) ((h, hs), refl))))

  graph_gives : Yields (groups.GraphGraphPattern Group') (Passes proper_member)
  graph_gives = behind_gives terminal.Graph _ (Passes proper_member) (then_gives _ _ (Passes proper_var_or_iri) (Passes proper_member) var_or_iri_gives
      (λ place h. then_gives _ _ (Passes proper_group) (Passes proper_member) i (λ x k. pure_gives (m.Graph place x) (Passes proper_member) (good_graph place x h k))))

  pattern_gives : Yields (groups.APattern Group') (Passes proper_member)
  pattern_gives = or_gives _ _ (Passes proper_member) union_gives
      (or_gives _ _ (Passes proper_member) (behind_gives terminal.Optional _ (Passes proper_member) (map_gives m.Optional _ (Passes proper_group) (Passes proper_member) i good_optional))
      (or_gives _ _ (Passes proper_member) (behind_gives terminal.MinusWord _ (Passes proper_member) (map_gives m.Minus _ (Passes proper_group) (Passes proper_member) i good_minus)) graph_gives))

module _ (Block : Derives (List Triples)) (Constraint' : Derives Expression) (Group' : Derives Group)
    (p : Yields Block (Some_pass proper_triples)) (asks : Yields Constraint' (Passes proper_expression)) (i : Yields Group' (Passes proper_group)) where
  either_gives : Yields (groups.GraphPatternNotTriples Constraint' Group') Good
  either_gives = or_gives _ _ Good (map_gives e.Pattern _ (Passes proper_member) Good (pattern_gives Group' i) (λ member h. h))
      (behind_gives terminal.Filter _ Good (map_gives e.Filter _ (Passes proper_expression) Good asks (λ expression h. h)))

  maybe_block_gives : Yields (groups.MaybeBlock Block) (IsGoodOption Good)
  maybe_block_gives = maybe_gives _ Good (map_gives e.Block _ (Some_pass proper_triples) Good p (λ triples h. h))

  pattern_and_block_give : Yields (groups.PatternAndBlock Block Constraint' Group') (AllByRecursion Good)
  pattern_and_block_give = then_gives _ _ Good (AllByRecursion Good) either_gives
      (λ pattern h. then_gives _ _ Any (AllByRecursion Good) (perhaps_gives terminal.Dot)
      (λ _ _. then_gives _ _ (IsGoodOption Good) (AllByRecursion Good) maybe_block_gives
      (λ block k. pure_gives (pattern ∷ option_to_list block) (AllByRecursion Good) (h, some_block block k))))

  contents_give : Yields (groups.GroupGraphPatternSub Block Constraint' Group') (Passes proper_group)
  contents_give = then_gives _ _ (IsGoodOption Good) (Passes proper_group) maybe_block_gives
      (λ first h. then_gives _ _ (AllByRecursion Good) (Passes proper_group) (star_gives _ Good pattern_and_block_give)
      (λ others k. pure_gives (group_with (option_to_list first ++ others)) (Passes proper_group)
      (good_group (option_to_list first ++ others) (good_joined Good (option_to_list first) others (some_block first h) k))))

  group_gives : Yields (groups.GroupGraphPattern Block Constraint' Group') (Passes proper_group)
  group_gives = behind_gives terminal.OpenBrace _ (Passes proper_group) (then_gives _ _ (Passes proper_group) (Passes proper_group) contents_give
      (λ inside h. closed_gives terminal.CloseBrace inside (Passes proper_group) h))

groups_give : (Block : Derives (List Triples)) (Constraint' : Derives Expression) → Yields Block (Some_pass proper_triples) → Yields Constraint' (Passes proper_expression)
    → (depth : ℕ) → Yields (groups.Groups_at Block Constraint' depth) (Passes proper_group)
unfolding Yields
groups_give Block Constraint' p asks zero ts x us d w = absurd d
groups_give Block Constraint' p asks (suc depth) ts x us d w = group_gives Block Constraint' (groups.Groups_at Block Constraint' depth) p asks (groups_give Block Constraint' p asks depth) ts x us d w

block_gives : (depth : ℕ) → Yields (TriplesTemplate (Nodes_at depth)) (Some_pass proper_triples)
block_gives depth = also_gives _ (AllByRecursion (Passes proper_triples)) (Passes is_filled) (triples_give depth) (λ ts x us d. ap is_filled (sym d.goes.goes.goes.0))

pub group_at_gives : (depth : ℕ) → Yields (groups.GroupAt depth) (Passes proper_group)
group_at_gives depth = groups_give (TriplesTemplate (Nodes_at depth)) (Constraint (Expressions_at depth)) (block_gives depth) (constraint_gives depth) (suc depth)
