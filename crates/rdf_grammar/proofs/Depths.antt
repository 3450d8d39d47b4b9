-- How many brackets are open behind lexemes, at most.
use Rattle.std.proofs.Common.{ℕ, zero, suc, ◌+◌, ◌≤◌, [], ◌∷◌, length, take, arith}
use Rattle.rdf_grammar.specs.declared.bracket.Bracket.{Bracket}
use Rattle.rdf_grammar.specs.declared.bracket.Bracket.TheVariants.{Opens, Closes, Neither}
use Rattle.rdf_grammar.specs.Terminals.{Lexemes}
use Rattle.rdf_grammar.specs.Nesting.{behind_bracket, open_after, open_behind}

-- a bracket opens one at most
pub one_bracket : (n : ℕ) (b : Bracket) → behind_bracket n b ≤ suc n
one_bracket n Opens = omega arith
one_bracket n Closes = omega arith
one_bracket n Neither = omega arith

module _ {T : Type 0} (bracket : T → Bracket) where
  -- a lexeme opens one bracket at most
  pub one_behind : (b : ℕ) (k : T) → open_behind bracket b k ≤ suc b
  one_behind b k = one_bracket b (bracket k)

  -- so many lexemes open no more brackets
  pub never_more : (ts : Lexemes T) (b n : ℕ) → open_after bracket b (take n ts) ≤ b + length ts
  never_more ts b zero = omega arith
  never_more [] b (suc n) = omega arith
  never_more (t ∷ ts) b (suc n) = let i = one_behind b t.terminal in let r = never_more ts (open_behind bracket b t.terminal) n in omega arith
