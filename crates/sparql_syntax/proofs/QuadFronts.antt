-- Quads in braces, and what is asked of their lexemes.
use Rattle.std.proofs.Common.{ap, refl, sym, ℕ, suc, Bool, true, false, ◌&&◌, List, [], ◌∷◌, Option, Some, None}
use Rattle.rdf_grammar.specs.Derivations as grammar
use Rattle.sparql_terminals.specs.declared.terminal.Terminal.TheVariants as terminal
use Rattle.sparql_terminals.specs.Lexemes.{Derives}
use Rattle.sparql_grammar.specs.declared.tree.Block.{Block}
use Rattle.sparql_grammar.specs.declared.tree.Triples.{Triples}
use Rattle.sparql_grammar.specs.Grammar as g
use Rattle.sparql_grammar.specs.OperationGrammar as operations
use Rattle.sparql_grammar.specs.OperationReading.{block}
use Rattle.sparql_grammar.specs.Reading.{all_of}
use Rattle.sparql_syntax.proofs.NameFronts.{and_true}
use Rattle.sparql_syntax.proofs.QuestionFronts.{Value, Gives, Ends, start, then_gives, then_ends, any_gives, any_ends, pure_ends, map_gives, map_ends, the_gives, behind_gives, closed_gives, maybe_gives, maybe_ends, later_ends, lists, star_ends}
use Rattle.sparql_syntax.proofs.TripleFronts.{triples_value, place_value, place_gives, triples_end}
use Rattle.sparql_syntax.proofs.TripleQuestions.{asks_block, asks_name}

abbrev pub block_value : Block → Value
block_value x q = asks_block q x

module _ (Template : Derives (List Triples)) (p : Ends true start Template (lists triples_value)) where
  abbrev some_triples : Option (List Triples) → Value
  some_triples x q = lists triples_value (all_of x) q

  maybe_triples_end : Ends true start (operations.MaybeTriples Template) (lists triples_value)
  maybe_triples_end = map_ends true all_of _ start some_triples (lists triples_value) (maybe_ends true _ start (lists triples_value) some_triples p (λ q. refl) (λ x q. refl)) (λ a q. refl)

  default_ends : Ends true start (operations.DefaultBlock Template) block_value
  default_ends = map_ends true (block None) _ start (lists triples_value) block_value maybe_triples_end (λ a q. refl)

  named_gives : (s : Bool) → Gives s true start (operations.QuadsNotTriples Template) block_value
  named_gives s = behind_gives s false true terminal.Graph _ start block_value refl (λ q s text next. refl)
      (then_gives false false true _ _ start place_value block_value (place_gives false)
      (λ graph. behind_gives false true true terminal.OpenBrace _ (place_value graph) block_value refl (λ q s text next. refl)
      (any_gives true true _ _ (place_value graph) (λ xs q. asks_name q graph && lists triples_value xs q) block_value (later_ends true _ (place_value graph) (lists triples_value) maybe_triples_end)
      (λ triples m. closed_gives m true terminal.CloseBrace (block (Some graph) triples) _ block_value refl (λ q s text next. refl) (λ q. refl)))))

module _ (Template Inner : Derives (List Triples)) (p : Ends true start Template (lists triples_value)) (i : Ends true start Inner (lists triples_value)) where
  pair_ends : (s : Bool) → Ends s start (operations.NamedAndDefault Template Inner) (lists block_value)
  pair_ends s = then_ends s true _ _ start block_value (lists block_value) (named_gives Inner i s)
      (λ named. then_ends true true _ _ (block_value named) (λ _. block_value named) (lists block_value)
      (map_gives true true _ _ (block_value named) (λ _. block_value named) (λ _. block_value named)
      (maybe_gives true _ (block_value named) (λ _. block_value named) (λ _. block_value named) (the_gives true true terminal.Dot (block_value named) refl (λ q s text next. refl)) (λ q. refl) (λ x q. refl)) (λ a q. refl))
      (λ _. any_ends true _ _ (block_value named) (λ x q. asks_block q named && asks_block q x) (lists block_value) (later_ends true _ (block_value named) block_value (default_ends Template p))
      (λ default m. pure_ends m (named ∷ default ∷ []) _ (lists block_value) (λ q. ap (λ (b : Bool). asks_block q named && b) (sym (and_true (asks_block q default)))))))

  quads_end : Ends true start (operations.Quads Template Inner) (lists block_value)
  quads_end = any_ends true _ _ start block_value (lists block_value) (default_ends Template p)
      (λ first m. any_ends m _ _ (block_value first) (λ xs q. asks_block q first && lists block_value xs q) (lists block_value)
      (later_ends m _ (block_value first) (lists block_value) (star_ends _ block_value pair_ends m))
      (λ others e. pure_ends e (first ∷ others) _ (lists block_value) (λ q. refl)))

  -- behind the brace that opens them
  braced_give : Gives true true start (grammar.◌>>=◌ (operations.Quads Template Inner) (λ blocks. grammar.◌>>◌ (grammar.the terminal.CloseBrace) (grammar.pure blocks))) (lists block_value)
  braced_give = any_gives true true _ _ start (lists block_value) (lists block_value) quads_end
      (λ blocks m. closed_gives m true terminal.CloseBrace blocks (lists block_value blocks) (lists block_value) refl (λ q s text next. refl) (λ q. refl))

-- over the triples of data
abbrev pub Braced : ℕ → Derives (List Block)
Braced depth = grammar.◌>>=◌ (operations.Quads (g.TriplesTemplate (g.Nodes_at (suc depth))) (g.TriplesTemplate (g.Nodes_at depth))) (λ blocks. grammar.◌>>◌ (grammar.the terminal.CloseBrace) (grammar.pure blocks))

pub quads_give : (depth : ℕ) → Gives true true start (Braced depth) (lists block_value)
quads_give depth = braced_give (g.TriplesTemplate (g.Nodes_at (suc depth))) (g.TriplesTemplate (g.Nodes_at depth)) (triples_end (suc depth)) (triples_end depth)
