-- Each text says something: it is a request, or it has a fault.
use Rattle.std.proofs.Common.{◌≡◌, ◌⊎◌, inl, inr, ℕ, Bool, true, false, cond, List, map, Option, Result, Ok, Err, refl, sym, ap, subst, ◌∙◌}
use Rattle.std.specs.List.{list_any}
use Rattle.sparql_grammar.specs.declared.tree.Part.{Part}
use Rattle.sparql_grammar.specs.OperationGrammar.{IsRequest}
use Rattle.sparql_syntax.specs.declared.drafts.Draft.{Draft}
use Rattle.sparql_syntax.specs.declared.fault.SyntaxFault.{SyntaxFault}
use Rattle.sparql_syntax.specs.declared.fault.SyntaxFaultKind.{SyntaxFaultKind}
use Rattle.sparql_syntax.specs.declared.fault.SyntaxFaultKind.TheVariants as fault
use Rattle.sparql_syntax.specs.Rules.{judged, has_blank_in_delete, has_variable_in_data, has_literal_subject, reuses_label, operation_of}
use Rattle.sparql_syntax.specs.Meaning.{answer}
use Rattle.sparql_syntax.specs.Readers.{IsOfTree, TellsMeaning}
use Rattle.sparql_syntax.specs.Update.{meaning, ruled, IsUpdate, IsFaulty}
use Rattle.sparql_syntax.specs.UpdateLaws.{SomeMeaning}
use Rattle.sparql_trees.specs.declared.operation.Operation.{Operation}
use Rattle.sparql_trees.specs.declared.operation.Request.{Request}
use Rattle.sparql_syntax.proofs.RequestLemmas.{request_or_not, answer_kind}
use Rattle.sparql_syntax.proofs.SayLemmas as language
use Rattle.sparql_syntax.proofs.TellLemmas.{tells_fault}

-- ---- why a tree has no operations

err_same : {A E : Type 0} (a b : E) → ◌≡◌ {A = Result A E} (Err a) (Err b) → a ≡ b
err_same a b e = cc

ok_err : {A E : Type 0} (a : A) (b : E) → ◌≡◌ {A = Result A E} (Ok a) (Err b) → ⊥
ok_err a b e = cc

rule_of_tree : (a b c d : Bool) (operations : List Operation) (k : SyntaxFaultKind)
    → ◌≡◌ {A = Result (List Operation) SyntaxFaultKind}
    (cond a (Err fault.BlankInDelete) (cond b (Err fault.VariableInData) (cond c (Err fault.LiteralSubject) (cond d (Err fault.BlankReused) (Ok operations))))) (Err k)
    → IsOfTree k
rule_of_tree true b c d operations k e = subst IsOfTree (err_same fault.BlankInDelete k e) tt
rule_of_tree false true c d operations k e = subst IsOfTree (err_same fault.VariableInData k e) tt
rule_of_tree false false true d operations k e = subst IsOfTree (err_same fault.LiteralSubject k e) tt
rule_of_tree false false false true operations k e = subst IsOfTree (err_same fault.BlankReused k e) tt
rule_of_tree false false false false operations k e = absurd (ok_err operations k e)

judged_of_tree : (drafts : List Draft) (k : SyntaxFaultKind) → judged drafts ≡ Err k → IsOfTree k
judged_of_tree drafts k e =
    rule_of_tree (list_any has_blank_in_delete drafts) (list_any has_variable_in_data drafts) (list_any has_literal_subject drafts) (reuses_label drafts) (map operation_of drafts) k e

-- what is answered where a rule is broken
pub rule_told : (drafts : List Draft) (rule : SyntaxFaultKind) → judged drafts ≡ Err rule → TellsMeaning (judged drafts) (Err rule)
rule_told drafts rule e = tells_fault (judged drafts) rule e (judged_of_tree drafts rule e)

name_of_tree : (k : SyntaxFaultKind) → (k ≡ fault.UnknownPrefix) ⊎ (k ≡ fault.Relative) → IsOfTree k
name_of_tree k (inl e) = subst IsOfTree (sym e) tt
name_of_tree k (inr e) = subst IsOfTree (sym e) tt

ruled_of_tree : (base : Option (List ℕ)) (tree : List Part) (r : Result (List Draft) SyntaxFaultKind) (k : SyntaxFaultKind) → answer base tree ≡ r → ruled r ≡ Err k → IsOfTree k
ruled_of_tree base tree (Ok drafts) k is e = judged_of_tree drafts k e
ruled_of_tree base tree (Err other) k is e =
    let same : ◌≡◌ {A = Result (List Draft) SyntaxFaultKind} (Err other) (Err k) = ap (λ (x : SyntaxFaultKind). Err x) (err_same other k e) in
    name_of_tree k (answer_kind base tree k (is ∙ same))

of_tree : (base : Option (List ℕ)) (tree : List Part) (k : SyntaxFaultKind) → meaning base tree ≡ Err k → IsOfTree k
of_tree base tree k e = ruled_of_tree base tree (answer base tree) k refl e

-- ---- what a text says

request_said : (base : Option (List ℕ)) (text : List ℕ) → language.Meant IsRequest meaning request_or_not of_tree base text → ((request : Request) × IsUpdate base text request) ⊎ ((f : SyntaxFault) × IsFaulty base text f)
request_said base text (inl said) = inl (record { operations = said.0 }, said.1)
request_said base text (inr f) = inr f

pub some_meaning : SomeMeaning
some_meaning base text = request_said base text (language.some_meaning IsRequest meaning request_or_not of_tree base text)
