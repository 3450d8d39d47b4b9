-- The rules for triples and groups at a depth.
use Rattle.std.proofs.Common.{◌≡◌, ℕ, suc, true, Option, Some, refl}
use Rattle.rdf_grammar.specs.Terminals.{next_terminal}
use Rattle.sparql_terminals.specs.declared.terminal.Terminal.{Terminal}
use Rattle.sparql_terminals.specs.declared.terminal.Terminal.TheVariants as terminal
use Rattle.sparql_expressions.proofs.CallerLemmas.{constraint_decides, constraint_strict}
use Rattle.sparql_expressions.specs.ExpressionGrammar.{Constraint, Expressions_at}
use Rattle.sparql_expressions.specs.ExpressionReading.{constraint}
use Rattle.sparql_grammar.specs.Grammar.{Nodes_at, TriplesTemplate}
use Rattle.sparql_grammar.specs.GroupGrammar.{GroupAt}
use Rattle.sparql_grammar.specs.GroupReading.{group_at}
use Rattle.sparql_grammar.specs.Reading.{node, triples_template}
use Rattle.sparql_grammar.proofs.GrammarTriples.{triples_decides, triples_begin, closes_template}
use Rattle.sparql_grammar.proofs.GroupProductions.{closes_block, IsBlockRule, IsConstraintRule, IsGroupRule, group_rule}

closes_there : (k : Option Terminal) → closes_block k ≡ true → closes_template k ≡ true
closes_there (Some terminal.CloseBrace) h = refl
closes_there (Some terminal.OpenBrace) h = refl
closes_there (Some terminal.Optional) h = refl
closes_there (Some terminal.MinusWord) h = refl
closes_there (Some terminal.Graph) h = refl
closes_there (Some terminal.Filter) h = refl
closes_there _ h = absurd (cc)

block_rule : (depth : ℕ) → IsBlockRule (triples_template (node (suc depth))) (TriplesTemplate (Nodes_at depth))
block_rule depth =
    let d = triples_decides depth in
    record {
      decides = record { sound = d.sound; complete = λ ts x us h e. d.complete ts x us h (closes_there (next_terminal us) e); shorter = d.shorter };
      begins = triples_begin depth;
    }

constraint_rule : (depth : ℕ) → IsConstraintRule (constraint depth) (Constraint (Expressions_at depth))
constraint_rule depth = record { decides = constraint_decides depth; strict = constraint_strict depth }

pub group_at_rule : (depth : ℕ) → IsGroupRule (group_at depth) (GroupAt depth)
group_at_rule depth =
    group_rule (triples_template (node (suc depth))) (constraint depth) (TriplesTemplate (Nodes_at depth)) (Constraint (Expressions_at depth))
    (block_rule depth) (constraint_rule depth) (suc depth)
