use Rattle.std.proofs.Common.{◌≡◌, ℕ, List, subst, IfOk}
use Rattle.rdf_grammar.proofs.ScopeTexts.{bytes_of}
use Rattle.rdf_grammar.proofs.literals.as_written.Goals as goal

pub returns : goal.returns
returns c = subst (λ (b : List ℕ). IfOk c.new.result (λ text. text ≡ b)) (bytes_of _ _ c.as_str.utf8 c.as_str.ensures) c.new.ensures
