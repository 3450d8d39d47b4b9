-- All of the lexemes.
use Rattle.std.proofs.Common.{◌≡◌, ℕ, ◌<◌, ◌≤◌, List, [], take, length, Some, None, refl, ap, sym, ◌∙◌, arith, inl, inr, ◌⊎◌}
use Rattle.rdf_turtle.specs.declared.tree.Statement.{Statement}
use Rattle.rdf_turtle.specs.Lexemes.{Lexemes}
use Rattle.rdf_turtle.specs.Nesting.{open_after, IsTooDeep}
use Rattle.rdf_turtle.specs.Inside.Reading.{document}
use Rattle.rdf_turtle.specs.Grammar.{Document, IsDocument}
use Rattle.rdf_turtle.proofs.GrammarStatements.{document_decides}
use Rattle.rdf_grammar.proofs.CallerLemmas.{some_pair, never_more}
use Rattle.rdf_turtle.proofs.GrammarNests.{document_within}
use Rattle.rdf_turtle.specs.Terminals.{bracket}

pub document_found : (ts : Lexemes) (ss : List Statement) → document 100 ts ≡ Some (ss, []) → IsDocument ts ss
document_found ts ss h = (100, (document_decides 100).sound ts ss [] h)

low_or_high : (n : ℕ) → (n ≤ 100) ⊎ (100 < n)
low_or_high n = grind arith

never_high : (ts : Lexemes) → (IsTooDeep ts → ⊥) → (n : ℕ) → open_after 0 (take n ts) ≤ 100
never_high ts h n = elim (low_or_high (open_after 0 (take n ts))) [ inl low ↦ low | inr high ↦ absurd (h (n, high)) ]

pub document_read : (ts : Lexemes) (ss : List Statement) → (IsTooDeep ts → ⊥) → IsDocument ts ss → document 100 ts ≡ Some (ss, [])
document_read ts ss h d = (document_decides 100).complete ts ss [] (document_within 100 d.0 ts ss (never_high ts h) d.1) refl

-- each document is one at a depth that its lexemes determine
document_at : (ts : Lexemes) (ss : List Statement) → IsDocument ts ss → document (length ts) ts ≡ Some (ss, [])
document_at ts ss d = (document_decides (length ts)).complete ts ss [] (document_within (length ts) d.0 ts ss (λ n. let h = never_more bracket ts 0 n in omega arith) d.1) refl

pub document_unique : (ts : Lexemes) (ss us : List Statement) → IsDocument ts ss → IsDocument ts us → ss ≡ us
document_unique ts ss us d e = (some_pair ss us [] [] (sym (document_at ts ss d) ∙ document_at ts us e)).0

-- what is not read is no document, where brackets don't nest too deep
pub none_read : (ts : Lexemes) → (IsTooDeep ts → ⊥) → document 100 ts ≡ None → (d : List Statement) → IsDocument ts d → ⊥
none_read ts shallow none d is = let read = document_read ts d shallow is in cc

pub found_within : (depth : ℕ) (ts : Lexemes) (ss : List Statement) (us : Lexemes) → document depth ts ≡ Some (ss, us) → us ≡ [] → Document depth ts ss []
found_within depth ts ss us h e = (document_decides depth).sound ts ss [] (h ∙ ap (λ l. Some (ss, l)) e)
