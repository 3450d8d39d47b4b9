-- Groups, and the names that their lexemes carry.
use Rattle.std.proofs.Common.{◌≡◌, ◌∙◌, ap, refl, sym, ℕ, zero, suc, Bool, true, false, ◌&&◌, List, [], ◌∷◌, ◌++◌, map, Option}
use Rattle.std.proofs.Math.Bool.{and_assoc}
use Rattle.std.specs.Prelude.{option_to_list}
use Rattle.std.specs.List.{list_all}
use Rattle.rdf_grammar.specs.Holds.{holds}
use Rattle.sparql_terminals.specs.declared.terminal.Terminal.TheVariants as terminal
use Rattle.sparql_terminals.specs.Lexemes.{Derives}
use Rattle.sparql_expressions.specs.declared.tree.Expression.{Expression}
use Rattle.sparql_expressions.specs.ExpressionGrammar.{Constraint, Expressions_at}
use Rattle.sparql_grammar.specs.declared.tree.Element.{Element}
use Rattle.sparql_grammar.specs.declared.tree.Element.TheVariants as e
use Rattle.sparql_grammar.specs.declared.tree.Group.{Group}
use Rattle.sparql_grammar.specs.declared.tree.Member.{Member}
use Rattle.sparql_grammar.specs.declared.tree.Member.TheVariants as m
use Rattle.sparql_grammar.specs.declared.tree.Member.TheOpen.{Group-F, Member-F}
use Rattle.sparql_grammar.specs.declared.tree.Member.TheFolds.{fold-Group, fold-Member, fold-roll-Group, fold-roll-Member}
use Rattle.sparql_grammar.specs.declared.tree.Triples.{Triples}
use Rattle.sparql_grammar.specs.declared.tree.VarOrIri.{VarOrIri}
use Rattle.sparql_grammar.specs.Grammar.{Nodes_at, TriplesTemplate}
use Rattle.sparql_grammar.specs.GroupGrammar as groups
use Rattle.sparql_grammar.specs.GroupReading.{filters_of, group_with, members_behind, together}
use Rattle.sparql_syntax.proofs.NameFronts.{Ask, Value, Gives, start, then_gives, pure_gives, or_gives, map_gives, behind_gives, closed_gives, maybe_gives, perhaps_gives, later_gives, lists, lists-append, star_gives, each_gives, and_true}
use Rattle.sparql_syntax.proofs.NameExpressions.{each_expression, expression_value, constraint_gives}
use Rattle.sparql_syntax.proofs.NameNodes.{each_triples, each_var_or_iri, triples_value, place_value, place_gives}
use Rattle.sparql_syntax.proofs.NameTriples.{triples_give}

-- of each name in a group
module _ (q : Ask) where
  abbrev pub each_group_of : Group-F Bool Bool → Bool
  each_group_of g = list_all holds g.members && list_all (each_expression q) g.filters

  abbrev pub each_member_of : Member-F Bool Bool → Bool
  each_member_of (Member-F.Triples ts) = list_all holds (map (each_triples q) ts)
  each_member_of (Member-F.Union groups) = list_all holds groups
  each_member_of (Member-F.Optional group) = group
  each_member_of (Member-F.Graph name group) = each_var_or_iri q name && group
  each_member_of (Member-F.Minus group) = group

  abbrev pub each_group : Group → Bool
  each_group = fold-Group Bool Bool each_member_of each_group_of

  abbrev pub each_member : Member → Bool
  each_member = fold-Member Bool Bool each_member_of each_group_of

-- ---- members by what they are

module _ {A B : Type 0} (f : Member-F A B → A) (h : Group-F A B → B) where
  pub by-Triples : (triples : List Triples) → fold-Member A B f h (m.Triples triples) ≡ f (Member-F.Triples triples)
  by-Triples triples = ap (fold-Member A B f h) (sym (m.rolls-Triples triples)) ∙ fold-roll-Member A B f h (Member-F.Triples triples)

  pub by-Union : (xs : List Group) → fold-Member A B f h (m.Union xs) ≡ f (Member-F.Union (map (fold-Group A B f h) xs))
  by-Union xs = ap (fold-Member A B f h) (sym (m.rolls-Union xs)) ∙ fold-roll-Member A B f h (Member-F.Union xs)

  pub by-Optional : (x : Group) → fold-Member A B f h (m.Optional x) ≡ f (Member-F.Optional (fold-Group A B f h x))
  by-Optional x = ap (fold-Member A B f h) (sym (m.rolls-Optional x)) ∙ fold-roll-Member A B f h (Member-F.Optional x)

  pub by-Graph : (place : VarOrIri) (x : Group) → fold-Member A B f h (m.Graph place x) ≡ f (Member-F.Graph place (fold-Group A B f h x))
  by-Graph place x = ap (fold-Member A B f h) (sym (m.rolls-Graph place x)) ∙ fold-roll-Member A B f h (Member-F.Graph place x)

  pub by-Minus : (x : Group) → fold-Member A B f h (m.Minus x) ≡ f (Member-F.Minus (fold-Group A B f h x))
  by-Minus x = ap (fold-Member A B f h) (sym (m.rolls-Minus x)) ∙ fold-roll-Member A B f h (Member-F.Minus x)

  pub by-group : (xs : List Member) (filters : List Expression) → fold-Group A B f h (record { members = xs; filters = filters }) ≡ h (record { members = map (fold-Member A B f h) xs; filters = filters })
  by-group xs filters = fold-roll-Group A B f h (record { members = xs; filters = filters })

abbrev pub group_value : Group → Value
group_value x q = each_group q x

abbrev pub member_value : Member → Value
member_value x q = each_member q x

triples_are : (triples : List Triples) (q : Ask) → lists triples_value triples q ≡ each_member q (m.Triples triples)
triples_are triples q = sym (by-Triples (each_member_of q) (each_group_of q) triples)

union_is : (xs : List Group) (q : Ask) → lists group_value xs q ≡ each_member q (m.Union xs)
union_is xs q = sym (by-Union (each_member_of q) (each_group_of q) xs)

optional_is : (x : Group) (q : Ask) → each_group q x ≡ each_member q (m.Optional x)
optional_is x q = sym (by-Optional (each_member_of q) (each_group_of q) x)

graph_is : (place : VarOrIri) (x : Group) (q : Ask) → each_var_or_iri q place && each_group q x ≡ each_member q (m.Graph place x)
graph_is place x q = sym (by-Graph (each_member_of q) (each_group_of q) place x)

minus_is : (x : Group) (q : Ask) → each_group q x ≡ each_member q (m.Minus x)
minus_is x q = sym (by-Minus (each_member_of q) (each_group_of q) x)

-- ---- groups by what is written in them

abbrev element_value : Element → Value
element_value (e.Block triples) q = lists triples_value triples q
element_value (e.Filter expression) q = each_expression q expression
element_value (e.Pattern member) q = each_member q member

together_is : (triples : List Triples) (q : Ask) → lists member_value (together triples) q ≡ lists triples_value triples q
together_is [] q = refl
together_is (x ∷ xs) q = and_true (each_member q (m.Triples (x ∷ xs))) ∙ sym (triples_are (x ∷ xs) q)

pub passed : {A : Type 0} (test : A → Bool) (xs : List A) → list_all test xs ≡ list_all holds (map test xs)
passed test [] = refl
passed test (x ∷ xs) = ap (λ (b : Bool). test x && b) (passed test xs)

turned : (a b c : Bool) → a && (b && c) ≡ b && (a && c)
turned true b c = refl
turned false true c = refl
turned false false c = refl

grouped : (a b c d : Bool) → (a && (b && c)) && d ≡ a && (b && (c && d))
grouped true true c d = refl
grouped true false c d = refl
grouped false b c d = refl

-- the members and the FILTERs of what is written, behind triples that stand together
members_are : (block : List Triples) (elements : List Element) (q : Ask)
    → lists member_value (members_behind block elements) q && lists expression_value (filters_of elements) q ≡ lists triples_value block q && lists element_value elements q
unfolding members_behind filters_of
members_are block [] q = ap (λ (b : Bool). b && true) (together_is block q)
members_are block (e.Block triples ∷ elements) q =
    members_are (block ++ triples) elements q ∙ ap (λ (b : Bool). b && lists element_value elements q) (lists-append triples_value block triples q)
    ∙ and_assoc (lists triples_value block q) (lists triples_value triples q) (lists element_value elements q)
members_are block (e.Filter expression ∷ elements) q =
    turned (lists member_value (members_behind block elements) q) (each_expression q expression) (lists expression_value (filters_of elements) q)
    ∙ ap (λ (b : Bool). each_expression q expression && b) (members_are block elements q)
    ∙ turned (each_expression q expression) (lists triples_value block q) (lists element_value elements q)
members_are block (e.Pattern member ∷ elements) q =
    ap (λ (b : Bool). b && lists expression_value (filters_of elements) q) (lists-append member_value (together block) (member ∷ members_behind [] elements) q)
    ∙ ap (λ (b : Bool). (b && (each_member q member && lists member_value (members_behind [] elements) q)) && lists expression_value (filters_of elements) q) (together_is block q)
    ∙ grouped (lists triples_value block q) (each_member q member) (lists member_value (members_behind [] elements) q) (lists expression_value (filters_of elements) q)
    ∙ ap (λ (b : Bool). lists triples_value block q && (each_member q member && b)) (members_are [] elements q)

group_is : (elements : List Element) (q : Ask) → lists element_value elements q ≡ each_group q (group_with elements)
group_is elements q =
    sym (members_are [] elements q) ∙ ap (λ (b : Bool). lists member_value (members_behind [] elements) q && b) (sym (passed (each_expression q) (filters_of elements)))
    ∙ sym (by-group (each_member_of q) (each_group_of q) (members_behind [] elements) (filters_of elements))

-- ---- groups, over grammars of triples, of constraints and of the groups inside

module _ (Group' : Derives Group) (i : Gives start Group' group_value) where
  union_gives : Gives start (groups.GroupOrUnionGraphPattern Group') member_value
  union_gives = then_gives _ _ start group_value member_value i
      (λ first. then_gives _ _ (group_value first) (λ xs q. each_group q first && lists group_value xs q) member_value
      (later_gives _ (group_value first) (lists group_value) (each_gives terminal.Union Group' group_value (refl, λ q text. refl) i))
      (λ others. pure_gives (m.Union (first ∷ others)) _ member_value (union_is (first ∷ others))))

  graph_gives : Gives start (groups.GraphGraphPattern Group') member_value
  graph_gives = behind_gives terminal.Graph _ start member_value (refl, λ q text. refl) (then_gives _ _ start place_value member_value place_gives
      (λ place. then_gives _ _ (place_value place) (λ x q. each_var_or_iri q place && each_group q x) member_value (later_gives _ (place_value place) group_value i)
      (λ x. pure_gives (m.Graph place x) _ member_value (graph_is place x))))

  pattern_gives : Gives start (groups.APattern Group') member_value
  pattern_gives = or_gives _ _ start member_value union_gives
      (or_gives _ _ start member_value (behind_gives terminal.Optional _ start member_value (refl, λ q text. refl) (map_gives m.Optional _ start group_value member_value i optional_is))
      (or_gives _ _ start member_value (behind_gives terminal.MinusWord _ start member_value (refl, λ q text. refl) (map_gives m.Minus _ start group_value member_value i minus_is)) graph_gives))

module _ (Block : Derives (List Triples)) (Constraint' : Derives Expression) (Group' : Derives Group)
    (p : Gives start Block (lists triples_value)) (asks : Gives start Constraint' expression_value) (i : Gives start Group' group_value) where
  either_gives : Gives start (groups.GraphPatternNotTriples Constraint' Group') element_value
  either_gives = or_gives _ _ start element_value (map_gives e.Pattern _ start member_value element_value (pattern_gives Group' i) (λ a q. refl))
      (behind_gives terminal.Filter _ start element_value (refl, λ q text. refl) (map_gives e.Filter _ start expression_value element_value asks (λ a q. refl)))

  abbrev some_block : Option Element → Value
  some_block o q = lists element_value (option_to_list o) q

  maybe_block_gives : Gives start (groups.MaybeBlock Block) some_block
  maybe_block_gives = maybe_gives _ start element_value some_block (map_gives e.Block _ start (lists triples_value) element_value p (λ a q. refl)) (λ q. refl) (λ x q. sym (and_true (element_value x q)))

  pattern_and_block_give : Gives start (groups.PatternAndBlock Block Constraint' Group') (lists element_value)
  pattern_and_block_give = then_gives _ _ start element_value (lists element_value) either_gives
      (λ pattern. then_gives _ _ (element_value pattern) (λ _. element_value pattern) (lists element_value) (perhaps_gives terminal.Dot (element_value pattern) (refl, λ q text. refl))
      (λ _. then_gives _ _ (element_value pattern) (λ o q. element_value pattern q && some_block o q) (lists element_value) (later_gives _ (element_value pattern) some_block maybe_block_gives)
      (λ block. pure_gives (pattern ∷ option_to_list block) _ (lists element_value) (λ q. refl))))

  contents_give : Gives start (groups.GroupGraphPatternSub Block Constraint' Group') group_value
  contents_give = then_gives _ _ start some_block group_value maybe_block_gives
      (λ first. then_gives _ _ (some_block first) (λ xs q. some_block first q && lists element_value xs q) group_value
      (later_gives _ (some_block first) (lists element_value) (star_gives _ element_value pattern_and_block_give))
      (λ others. pure_gives (group_with (option_to_list first ++ others)) _ group_value
      (λ q. sym (lists-append element_value (option_to_list first) others q) ∙ group_is (option_to_list first ++ others) q)))

  group_gives : Gives start (groups.GroupGraphPattern Block Constraint' Group') group_value
  group_gives = behind_gives terminal.OpenBrace _ start group_value (refl, λ q text. refl) (then_gives _ _ start group_value group_value contents_give
      (λ inside. closed_gives terminal.CloseBrace inside (group_value inside) group_value (refl, λ q text. refl) (λ q. refl)))

groups_give : (Block : Derives (List Triples)) (Constraint' : Derives Expression) → Gives start Block (lists triples_value) → Gives start Constraint' expression_value
    → (depth : ℕ) → Gives start (groups.Groups_at Block Constraint' depth) group_value
unfolding Gives
groups_give Block Constraint' p asks zero ts x us d = absurd d
groups_give Block Constraint' p asks (suc depth) ts x us d = group_gives Block Constraint' (groups.Groups_at Block Constraint' depth) p asks (groups_give Block Constraint' p asks depth) ts x us d

pub group_at_gives : (depth : ℕ) → Gives start (groups.GroupAt depth) group_value
group_at_gives depth = groups_give (TriplesTemplate (Nodes_at depth)) (Constraint (Expressions_at depth)) (triples_give depth) (constraint_gives depth) (suc depth)
