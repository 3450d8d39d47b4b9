-- What the grammar says of lexemes, and what a tree answers.
use Rattle.std.proofs.Common.{◌≡◌, ◌⊎◌, inl, inr, ℕ, Bool, true, false, cond, ok_or, List, [], ◌∷◌, Option, Some, None, Result, Ok, Err, refl, sym, ◌∙◌}
use Rattle.std.specs.List.{AllByRecursion}
use Rattle.std.specs.Option.{option_map}
use Rattle.rdf_grammar.proofs.CallerLemmas.{some_pair}
use Rattle.rdf_grammar.specs.Prologue as prologue
use Rattle.rdf_grammar.specs.declared.fault.GrammarFault.TheVariants.{Syntax}
use Rattle.sparql_drafts.specs.Kept.{Tells}
use Rattle.sparql_drafts.specs.declared.fault.DraftFault.{DraftFault}
use Rattle.sparql_grammar.specs.declared.tree.Part.{Part}
use Rattle.sparql_terminals.specs.Lexemes.{Lexeme, Lexemes, Outcome}
use Rattle.sparql_grammar.specs.Nesting.{IsTooDeep}
use Rattle.sparql_grammar.specs.OperationGrammar.{IsRequest}
use Rattle.sparql_grammar.specs.OperationReading.{request}
use Rattle.sparql_grammar.proofs.CallerLemmas.{found_alone, request_read, stop_explained}
use Rattle.sparql_syntax.specs.Blanks.{IsDraftNumbered}
use Rattle.sparql_syntax.specs.declared.drafts.Draft.{Draft}
use Rattle.sparql_syntax.specs.declared.drafts.Draft.TheVariants as draft
use Rattle.sparql_syntax.specs.declared.fault.SyntaxFaultKind.{SyntaxFaultKind}
use Rattle.sparql_syntax.specs.declared.fault.SyntaxFaultKind.TheVariants as fault
use Rattle.sparql_syntax.specs.Drafts.{IsDraftBelow}
use Rattle.sparql_syntax.specs.Known.{declares_first}
use Rattle.sparql_syntax.specs.Meaning.{answer, drafts, drafts_of}
use Rattle.sparql_drafts.proofs.CallerLemmas.{numbered_below}
use Rattle.sparql_syntax.proofs.DraftLists.{said_drafts}
use Rattle.sparql_syntax.proofs.DraftsNumbered.{operation_numbered}

-- ---- lexemes that aren't too deep are a request, or none

abbrev RequestOrNot : Lexemes → Type 0
RequestOrNot lexemes = ((tree : List Part) × IsRequest lexemes tree) ⊎ ((tree : List Part) → ¬ (IsRequest lexemes tree))

more_left : (a b : List Part) (l : Lexeme) (ls : Lexemes) → ◌≡◌ {A = Outcome (List Part)} (Some (a, l ∷ ls)) (Some (b, [])) → ⊥
more_left a b l ls e = let none : l ∷ ls ≡ [] = (some_pair a b (l ∷ ls) [] e).1 in cc

by_reading : (lexemes : Lexemes) → ¬ (IsTooDeep lexemes) → (o : Outcome (List Part)) → request 99 lexemes ≡ o → RequestOrNot lexemes
by_reading lexemes shallow None e = inr (stop_explained lexemes Syntax e shallow)
by_reading lexemes shallow (Some (tree, [])) e = inl (tree, found_alone lexemes tree [] e refl)
by_reading lexemes shallow (Some (tree, l ∷ ls)) e = inr (λ other is. more_left tree other l ls (sym e ∙ request_read lexemes other shallow is))

pub request_or_not : (lexemes : Lexemes) → ¬ (IsTooDeep lexemes) → RequestOrNot lexemes
request_or_not lexemes shallow = by_reading lexemes shallow (request 99 lexemes) refl

-- ---- a tree has drafts, or a name without an IRI

err_same : {A E : Type 0} (a b : E) → ◌≡◌ {A = Result A E} (Err a) (Err b) → a ≡ b
err_same a b e = cc

ok_err : {A E : Type 0} (a : A) (b : E) → ◌≡◌ {A = Result A E} (Ok a) (Err b) → ⊥
ok_err a b e = cc

kind_by : (b : Bool) (o : Option (List Draft)) (k : SyntaxFaultKind) → ◌≡◌ {A = Result (List Draft) SyntaxFaultKind} (cond b (ok_or o fault.Relative) (Err fault.UnknownPrefix)) (Err k)
    → (k ≡ fault.UnknownPrefix) ⊎ (k ≡ fault.Relative)
kind_by true None k e = inr (err_same k fault.Relative (sym e))
kind_by true (Some x) k e = absurd (ok_err x k e)
kind_by false o k e = inl (err_same k fault.UnknownPrefix (sym e))

pub answer_kind : (base : Option (List ℕ)) (tree : List Part) (k : SyntaxFaultKind) → answer base tree ≡ Err k → (k ≡ fault.UnknownPrefix) ⊎ (k ≡ fault.Relative)
answer_kind base tree k e = kind_by (declares_first [] tree) (drafts_of base tree) k e

-- ---- the blank nodes of drafts

draft_below : (d : Draft) → IsDraftNumbered d → IsDraftBelow d
draft_below (draft.InsertData quads) h = numbered_below quads h
draft_below (draft.DeleteData quads) h = numbered_below quads h
draft_below (draft.Modify m) h = tt
draft_below (draft.Other operation) h = tt

all_below : (drafts : List Draft) → AllByRecursion IsDraftNumbered drafts → AllByRecursion IsDraftBelow drafts
all_below [] h = tt
all_below (d ∷ ds) h = (draft_below d h.0, all_below ds h.1)

pub drafts_below : (base : Option (List ℕ)) (tree : List Part) (drafts : List Draft) → drafts_of base tree ≡ Some drafts → AllByRecursion IsDraftBelow drafts
drafts_below base tree drafts e = all_below drafts (said_drafts IsDraftNumbered operation_numbered base tree drafts e)

-- ---- what is told of them from the start

pub drafts_told : (base : Option (List ℕ)) (tree : List Part) (r : Result (List Draft) DraftFault) → Tells (option_map (λ z. z.0) (drafts tree (prologue.start base))) r → Tells (drafts_of base tree) r
unfolding drafts_of
drafts_told base tree r h = h
