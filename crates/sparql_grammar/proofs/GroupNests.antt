-- Where no more than so many brackets are open at once, no group nests deeper.
use Rattle.std.proofs.Common.{◌≡◌, ℕ, zero, suc, ◌+◌, ◌-◌, ◌≤◌, List, ◌∷◌, ◌++◌, refl, ◌∙◌, ap, arith}
use Rattle.std.specs.Prelude.{option_to_list}
use Rattle.rdf_grammar.specs.Nesting.{open_behind}
use Rattle.rdf_grammar.specs.Derivations as grammar
use Rattle.rdf_grammar.proofs.CallerLemmas.{Keeps, Below, after, then_keeps, pure_keeps, or_keeps, the_keeps, map_keeps, behind_keeps, maybe_keeps, star_keeps, one_keeps, enclosed}
use Rattle.sparql_terminals.specs.declared.terminal.Terminal.TheVariants as terminal
use Rattle.sparql_expressions.specs.declared.tree.Expression.{Expression}
use Rattle.sparql_expressions.specs.ExpressionGrammar.{Constraint, Expressions_at}
use Rattle.sparql_expressions.proofs.CallerLemmas.{constraint_keeps}
use Rattle.sparql_grammar.specs.declared.tree.Element.TheVariants as e
use Rattle.sparql_grammar.specs.declared.tree.Group.{Group}
use Rattle.sparql_grammar.specs.declared.tree.Member.TheVariants as m
use Rattle.sparql_grammar.specs.declared.tree.Triples.{Triples}
use Rattle.sparql_grammar.specs.Grammar.{Nodes_at, TriplesTemplate}
use Rattle.sparql_grammar.specs.GroupGrammar as g
use Rattle.sparql_grammar.specs.GroupReading as read
use Rattle.sparql_terminals.specs.Lexemes.{Derives}
use Rattle.sparql_terminals.specs.Terminals.{bracket}
use Rattle.sparql_grammar.proofs.GrammarNests.{perhaps_keeps, var_or_iri_keeps, triples_keep}

-- what stands where so many brackets are open
module _ (limit b : ℕ) (I J : Derives Group) (i : Keeps bracket limit b I J) where
  union_keeps : Keeps bracket limit b (g.GroupOrUnionGraphPattern I) (g.GroupOrUnionGraphPattern J)
  union_keeps = then_keeps bracket limit b _ _ _ _ i (λ first. then_keeps bracket limit b _ _ _ _
      (star_keeps bracket limit b _ _ (one_keeps bracket limit b _ _ (behind_keeps bracket limit b terminal.Union I J refl i))) (λ others. pure_keeps bracket limit b (m.Union (first ∷ others))))

  graph_keeps : Keeps bracket limit b (g.GraphGraphPattern I) (g.GraphGraphPattern J)
  graph_keeps = behind_keeps bracket limit b terminal.Graph _ _ refl (then_keeps bracket limit b _ _ _ _ (var_or_iri_keeps limit b)
      (λ graph. then_keeps bracket limit b _ _ _ _ i (λ inside. pure_keeps bracket limit b (m.Graph graph inside))))

  pattern_keeps : Keeps bracket limit b (g.APattern I) (g.APattern J)
  pattern_keeps = or_keeps bracket limit b _ _ _ _ union_keeps
      (or_keeps bracket limit b _ _ _ _ (behind_keeps bracket limit b terminal.Optional _ _ refl (map_keeps bracket limit b m.Optional _ _ i))
      (or_keeps bracket limit b _ _ _ _ (behind_keeps bracket limit b terminal.MinusWord _ _ refl (map_keeps bracket limit b m.Minus _ _ i)) graph_keeps))

module _ (limit b : ℕ) (P Q : Derives (List Triples)) (C D : Derives Expression) (I J : Derives Group)
    (p : Keeps bracket limit b P Q) (c : Keeps bracket limit b C D) (i : Keeps bracket limit b I J) where
  either_keeps : Keeps bracket limit b (g.GraphPatternNotTriples C I) (g.GraphPatternNotTriples D J)
  either_keeps = or_keeps bracket limit b _ _ _ _ (map_keeps bracket limit b e.Pattern _ _ (pattern_keeps limit b I J i))
      (behind_keeps bracket limit b terminal.Filter _ _ refl (map_keeps bracket limit b e.Filter _ _ c))

  maybe_block_keeps : Keeps bracket limit b (g.MaybeBlock P) (g.MaybeBlock Q)
  maybe_block_keeps = maybe_keeps bracket limit b _ _ (map_keeps bracket limit b e.Block _ _ p)

  pattern_and_block_keeps : Keeps bracket limit b (g.PatternAndBlock P C I) (g.PatternAndBlock Q D J)
  pattern_and_block_keeps = then_keeps bracket limit b _ _ _ _ either_keeps (λ pattern. then_keeps bracket limit b _ _ _ _
      (perhaps_keeps limit b terminal.Dot (the_keeps bracket limit b terminal.Dot refl))
      (λ _. then_keeps bracket limit b _ _ _ _ maybe_block_keeps (λ block. pure_keeps bracket limit b (pattern ∷ option_to_list block))))

  pub contents_keep : Keeps bracket limit b (g.GroupGraphPatternSub P C I) (g.GroupGraphPatternSub Q D J)
  contents_keep = then_keeps bracket limit b _ _ _ _ maybe_block_keeps (λ first. then_keeps bracket limit b _ _ _ _
      (star_keeps bracket limit b _ _ pattern_and_block_keeps) (λ others. pure_keeps bracket limit b (read.group_with (option_to_list first ++ others))))

-- a group, which stands where b brackets are open
module _ (limit b : ℕ) (P Q : Derives (List Triples)) (C D : Derives Expression) (I J : Derives Group)
    (p : Keeps bracket limit (b + 1) P Q) (c : Keeps bracket limit (b + 1) C D) (i : Keeps bracket limit (b + 1) I J) where
  pub braces_keep : Keeps bracket limit b (g.GroupGraphPattern P C I) (g.GroupGraphPattern Q D J)
  braces_keep = enclosed bracket limit b terminal.OpenBrace terminal.CloseBrace _ _ (λ inside. grammar.pure inside) refl (omega arith)
      (contents_keep limit (b + 1) P Q C D I J p c i) (λ a ts x us d. d.1)

-- Groups behind b brackets, derived at any depth, are derived at the depth that the limit leaves.
groups_keep : (limit : ℕ) (P Q : Derives (List Triples)) (C D : Derives Expression) → ((b : ℕ) → Keeps bracket limit (b + 1) P Q) → ((b : ℕ) → Keeps bracket limit (b + 1) C D)
    → (d b : ℕ) → Keeps bracket limit b (g.Groups_at P C d) (g.Groups_at Q D (limit - b))
unfolding Keeps
groups_keep limit P Q C D p c zero b ts x us h below = absurd h
groups_keep limit P Q C D p c (suc d) b ts x us h below =
    let t = h.reads in
    let a = after bracket limit b t.0 h.mid (rw t.2 at below) in
    let opens : open_behind bracket b terminal.OpenBrace ≡ b + 1 = refl in
    let inside : Below bracket limit (b + 1) h.mid = rw (ap (open_behind bracket b) t.1 ∙ opens) at a in
    let some : b + 1 ≤ limit = inside.at 0 in
    let e : limit - b ≡ suc (limit - (b + 1)) = omega arith in
    rw e (braces_keep limit b P Q C D (g.Groups_at P C d) (g.Groups_at Q D (limit - (b + 1))) (p b) (c b) (groups_keep limit P Q C D p c d (b + 1)) ts x us h below)

-- Triples in braces, derived at any depth, are derived at the depth that the limit leaves inside one brace.
pub block_keeps : (depth d b : ℕ) → Keeps bracket (suc depth) (b + 1) (TriplesTemplate (Nodes_at d)) (TriplesTemplate (Nodes_at depth))
unfolding Keeps
block_keeps depth d b ts x us h below =
    let wide : Below bracket (suc depth + b) (b + 1) ts = record { at = λ n. let l = below.at n in omega arith } in
    let i : suc depth + b - (b + 1) ≡ depth = omega arith in
    let there = triples_keep (suc depth + b) d (b + 1) ts x us h wide in
    let here = triples_keep (suc depth) d (b + 1) ts x us h below in
    (rw i at there.0, here.1)

-- And so are constraints.
pub filter_keeps : (depth d b : ℕ) → Keeps bracket (suc depth) (b + 1) (Constraint (Expressions_at d)) (Constraint (Expressions_at depth))
unfolding Keeps
filter_keeps depth d b ts x us h below =
    let wide : Below bracket (suc depth + b) (b + 1) ts = record { at = λ n. let l = below.at n in omega arith } in
    let i : suc depth + b - (b + 1) ≡ depth = omega arith in
    let there = constraint_keeps (suc depth + b) d (b + 1) ts x us h wide in
    let here = constraint_keeps (suc depth) d (b + 1) ts x us h below in
    (rw i at there.0, here.1)

-- Groups that are derived at any depth are derived at the limit.
pub group_at_keeps : (depth d : ℕ) → Keeps bracket (suc depth) 0 (g.GroupAt d) (g.GroupAt depth)
group_at_keeps depth d =
    let all : suc depth - 0 ≡ suc depth = omega arith in
    rw all at (groups_keep (suc depth) (TriplesTemplate (Nodes_at d)) (TriplesTemplate (Nodes_at depth))
    (Constraint (Expressions_at d)) (Constraint (Expressions_at depth)) (block_keeps depth d) (filter_keeps depth d) (suc d) 0)
