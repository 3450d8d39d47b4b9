-- What is answered to a literal where a refusal is a fault.
use Rattle.std.proofs.Common.{◌≡◌, ap, sym, subst, Some, Result, Ok, Err, IfOk}
use Rattle.std.specs.Prelude.{IfErr}
use Rattle.rdf_terms.specs.Literal.{LiteralParts}
use Rattle.rdf_terms.specs.declared.fault.NoMemory.{NoMemory}
use Rattle.rdf_grammar.specs.Literals.{ExplainsLiteral}
use Rattle.rdf_grammar.specs.Prologue.{Prologue}
use Rattle.rdf_grammar.specs.declared.prologue.PrologueFault.{PrologueFault}
use Rattle.rdf_grammar.specs.declared.prologue.PrologueFault.TheVariants.{NoMemory as WantsMemory}
use Rattle.rdf_grammar.specs.declared.tree.Literal.{Literal}

pub told : (x : LiteralParts) (literal : Result LiteralParts NoMemory) (result : Result LiteralParts PrologueFault)
    → IfOk literal (λ l. l ≡ x) → IfOk result (λ l. literal ≡ Ok l) → IfOk result (λ l. Some x ≡ Some l)
told x literal (Ok l) is same = ap Some (sym (subst (λ (r : Result LiteralParts NoMemory). IfOk r (λ l. l ≡ x)) same is))
told x literal (Err e) is same = tt

pub wants : (prologue : Prologue) (w : Literal) (result : Result LiteralParts PrologueFault)
    → IfErr result (λ fault. (e : NoMemory) × (fault ≡ WantsMemory e)) → IfErr result (λ fault. ExplainsLiteral prologue w fault)
wants prologue w (Ok l) h = tt
wants prologue w (Err e) h = subst (λ (fault : PrologueFault). ExplainsLiteral prologue w fault) (sym h.1) tt
