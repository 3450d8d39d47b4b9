-- A turn of the loop over GRAPH blocks.
use Rattle.std.proofs.Common.{◌≡◌, ◌<◌, ◌≤◌, Bool, true, false, cond, List, [], ◌∷◌, ◌++◌, length, Some, None, refl, sym, ◌∙◌, ap, arith, append_assoc}
use Rattle.rdf_grammar.specs.Readings.{next}
use Rattle.sparql_terminals.specs.declared.terminal.Terminal.TheVariants as terminal
use Rattle.sparql_grammar.specs.declared.tree.Block.{Block}
use Rattle.sparql_grammar.specs.declared.tree.Triples.{Triples}
use Rattle.sparql_terminals.specs.Lexemes.{Lexemes, Reading, sees}
use Rattle.sparql_grammar.specs.OperationReading.{default_block, named_block, named_and_default}

-- what is left where a lexeme may be taken
left_shorter : (b : Bool) (mid behind : Lexemes) → behind ≡ cond b (next mid) mid → length behind ≤ length mid
left_shorter false mid behind e = omega (arith, ap length e)
left_shorter true [] behind e = omega (arith, ap length e)
left_shorter true (t ∷ mid) behind e = omega (arith, ap length e)

-- behind a block, perhaps a dot and the default block
pub turn_shorter : (now mid behind then : Lexemes) (b : Bool) → length mid < length now → behind ≡ cond b (next mid) mid → length then ≤ length behind → length then < length now
turn_shorter now mid behind then b less e more = let l = left_shorter b mid behind e in omega arith

pub two_pushed : {A : Type 0} (all more last : List A) (x y : A) → more ≡ all ++ x ∷ [] → last ≡ more ++ y ∷ [] → last ≡ all ++ x ∷ y ∷ []
two_pushed all more last x y a b = rw (b, a) (append_assoc all (x ∷ []) (y ∷ []))

module _ (template inner : Reading (List Triples)) where
  behind_dot : (mid behind : Lexemes) (dot : Bool) → dot ≡ sees terminal.Dot mid → behind ≡ cond dot (next mid) mid → behind ≡ cond (sees terminal.Dot mid) (next mid) mid
  behind_dot mid behind dot d e = rw (← d) e

  pub turn_reads : (now mid behind then : Lexemes) (dot : Bool) (x y : Block) → named_block inner now ≡ Some (x, mid) → dot ≡ sees terminal.Dot mid → behind ≡ cond dot (next mid) mid
      → default_block template behind ≡ Some (y, then) → named_and_default template inner now ≡ Some (x ∷ y ∷ [], then)
  unfolding named_and_default
  turn_reads now mid behind then dot x y a d e c =
      let f : default_block template (cond (sees terminal.Dot mid) (next mid) mid) ≡ Some (y, then) = ap (default_block template) (sym (behind_dot mid behind dot d e)) ∙ c in
      rw (a, f) refl

  pub named_fails : (now : Lexemes) → named_block inner now ≡ None → named_and_default template inner now ≡ None
  unfolding named_and_default
  named_fails now h = rw h refl

  pub default_fails : (now mid behind : Lexemes) (dot : Bool) (x : Block) → named_block inner now ≡ Some (x, mid) → dot ≡ sees terminal.Dot mid → behind ≡ cond dot (next mid) mid
      → default_block template behind ≡ None → named_and_default template inner now ≡ None
  unfolding named_and_default
  default_fails now mid behind dot x a d e c =
      let f : default_block template (cond (sees terminal.Dot mid) (next mid) mid) ≡ None = ap (default_block template) (sym (behind_dot mid behind dot d e)) ∙ c in
      rw (a, f) refl
