-- What the tree of an update means by its drafts.
use Rattle.std.proofs.Common.{◌≡◌, ℕ, true, false, List, [], Option, Some, None, Result, Ok, Err, IfOk, ok_or, IsTrue, map, refl, subst, sym}
use Rattle.std.specs.Prelude.{IfErr}
use Rattle.std.specs.List.{list_all}
use Rattle.std.specs.Str.{chars}
use Rattle.rdf_grammar.specs.declared.fault.GrammarFault.{GrammarFault}
use Rattle.rdf_grammar.specs.declared.fault.GrammarFault.TheVariants as grammar
use Rattle.sparql_drafts.specs.Kept.{Fails}
use Rattle.sparql_drafts.specs.declared.fault.DraftFault.{DraftFault}
use Rattle.sparql_drafts.specs.declared.fault.DraftFault.TheVariants as draft
use Rattle.sparql_grammar.specs.OperationGrammar.{IsRequest}
use Rattle.sparql_grammar.specs.Proper.{holds, proper_part}
use Rattle.sparql_grammar.specs.Stops as stops
use Rattle.sparql_grammar.specs.declared.tree.Part.{Part}
use Rattle.sparql_grammar.proofs.CallerLemmas.{requests_proper, requests_useful}
use Rattle.sparql_terminals.specs.Lexemes.{Lexemes}
use Rattle.sparql_terminals.specs.Useful.{AreUseful}
use Rattle.sparql_syntax.specs.declared.drafts.Draft.{Draft}
use Rattle.sparql_syntax.specs.declared.fault.SyntaxFaultKind.{SyntaxFaultKind}
use Rattle.sparql_syntax.specs.declared.fault.SyntaxFaultKind.TheVariants as fault
use Rattle.sparql_syntax.specs.Known.{declares_first}
use Rattle.sparql_syntax.specs.Meaning.{drafts_of}
use Rattle.sparql_syntax.specs.Readers.{Explains, TellsMeaning, kind_of}
use Rattle.sparql_syntax.specs.Rules.{judged}
use Rattle.sparql_syntax.specs.Update.{HasTree, meaning, ruled}
use Rattle.sparql_trees.specs.declared.operation.Operation.{Operation}

-- ---- lexemes and their tree

pub parse_useful : (ls : Lexemes) (r : Result (List Part) GrammarFault) → IfOk r (λ tree. IsRequest ls tree) → IfOk r (λ tree. AreUseful ls)
parse_useful ls (Ok tree) h = requests_useful ls tree h
parse_useful ls (Err k) h = tt

pub parse_explained : (ls : Lexemes) (r : Result (List Part) GrammarFault) → IfErr r (λ k. stops.Explains ls k) → IfErr r (λ k. Explains IsRequest ls k)
parse_explained ls (Ok tree) h = tt
parse_explained ls (Err grammar.Syntax) h = h
parse_explained ls (Err (grammar.NoMemory refused)) h = tt

pub tree_proper : (text : List ℕ) (tree : List Part) → HasTree text tree → IsTrue (list_all holds (map proper_part tree))
tree_proper text tree h =
    requests_proper (chars text) (chars text) h.list.list.0 h.tokens h.lexemes tree h.list.list.1 h.list.slices h.reads

-- ---- what it means

pub unknown_means : (base : Option (List ℕ)) (tree : List Part) → declares_first [] tree ≡ false → meaning base tree ≡ Err fault.UnknownPrefix
unknown_means base tree h = rw h refl

known_means : (base : Option (List ℕ)) (tree : List Part) (said : Option (List Draft)) → declares_first [] tree ≡ true → drafts_of base tree ≡ said → meaning base tree ≡ ruled (ok_or said fault.Relative)
known_means base tree said h k = rw (h, k) refl

-- by its drafts, or for want of them
pub lacks_drafts : (base : Option (List ℕ)) (tree : List Part) (e : DraftFault) → declares_first [] tree ≡ true → Fails (drafts_of base tree) e → TellsMeaning (meaning base tree) (Err (kind_of e))
lacks_drafts base tree (draft.NoMemory refused) h fails = tt
lacks_drafts base tree draft.NoIri h fails = (known_means base tree None h fails, tt)

pub drafts_judged : (base : Option (List ℕ)) (tree : List Part) (drafts : List Draft) (r : Result (List Operation) SyntaxFaultKind) → declares_first [] tree ≡ true → drafts_of base tree ≡ Some drafts
    → TellsMeaning (judged drafts) r → TellsMeaning (meaning base tree) r
drafts_judged base tree drafts r h k told =
    subst (λ (m : Result (List Operation) SyntaxFaultKind). TellsMeaning m r) (sym (known_means base tree (Some drafts) h k)) told
