-- What the tree of a query means by what it says.
use Rattle.std.proofs.Common.{◌≡◌, ℕ, true, false, List, Option, Some, None, Result, Ok, Err, IfOk, IsTrue, refl, subst, sym}
use Rattle.std.specs.Prelude.{IfErr}
use Rattle.std.specs.Str.{chars}
use Rattle.rdf_grammar.specs.declared.fault.GrammarFault.{GrammarFault}
use Rattle.rdf_grammar.specs.declared.fault.GrammarFault.TheVariants as grammar
use Rattle.sparql_drafts.specs.Kept.{Fails}
use Rattle.sparql_drafts.specs.declared.fault.DraftFault.{DraftFault}
use Rattle.sparql_drafts.specs.declared.fault.DraftFault.TheVariants as draft
use Rattle.sparql_grammar.specs.Proper.{proper_query}
use Rattle.sparql_grammar.specs.QueryGrammar as language
use Rattle.sparql_grammar.specs.Stops as stops
use Rattle.sparql_grammar.specs.declared.tree.Query as written
use Rattle.sparql_grammar.proofs.CallerLemmas.{queries_proper, queries_useful}
use Rattle.sparql_queries.specs.Groups.{Labels}
use Rattle.sparql_queries.specs.Known.{known_query}
use Rattle.sparql_queries.specs.Queries.{query_in}
use Rattle.sparql_terminals.specs.Lexemes.{Lexemes}
use Rattle.sparql_terminals.specs.Useful.{AreUseful}
use Rattle.sparql_trees.specs.declared.query.Query.{Query}
use Rattle.sparql_syntax.specs.declared.fault.SyntaxFaultKind.{SyntaxFaultKind}
use Rattle.sparql_syntax.specs.declared.fault.SyntaxFaultKind.TheVariants as fault
use Rattle.sparql_syntax.specs.Readers.{Explains, TellsMeaning, kind_of}
use Rattle.sparql_syntax.specs.Query.{HasTree, meaning, ruled}

-- ---- lexemes and their tree

pub parse_useful : (ls : Lexemes) (r : Result written.Query GrammarFault) → IfOk r (λ tree. language.IsQuery ls tree) → IfOk r (λ tree. AreUseful ls)
parse_useful ls (Ok tree) h = queries_useful ls tree h
parse_useful ls (Err k) h = tt

pub parse_explained : (ls : Lexemes) (r : Result written.Query GrammarFault) → IfErr r (λ k. stops.ExplainsQuery ls k) → IfErr r (λ k. Explains language.IsQuery ls k)
parse_explained ls (Ok tree) h = tt
parse_explained ls (Err grammar.Syntax) h = h
parse_explained ls (Err (grammar.NoMemory refused)) h = tt

pub tree_proper : (text : List ℕ) (tree : written.Query) → HasTree text tree → IsTrue (proper_query tree)
tree_proper text tree h =
    queries_proper (chars text) (chars text) h.list.list.0 h.tokens h.lexemes tree h.list.list.1 h.list.slices h.reads

-- ---- what it means

pub unknown_means : (base : Option (List ℕ)) (tree : written.Query) → known_query tree ≡ false → meaning base tree ≡ Err fault.UnknownPrefix
unknown_means base tree h = rw h refl

known_means : (base : Option (List ℕ)) (tree : written.Query) (said : Option (Query × Labels)) → known_query tree ≡ true → query_in base tree ≡ said → meaning base tree ≡ ruled said
known_means base tree said h k = rw (h, k) refl

-- by what it says, or for want of that
pub says_nothing : (base : Option (List ℕ)) (tree : written.Query) (e : DraftFault) → known_query tree ≡ true → Fails (query_in base tree) e → TellsMeaning (meaning base tree) (Err (kind_of e))
says_nothing base tree (draft.NoMemory refused) h fails = tt
says_nothing base tree draft.NoIri h fails = (known_means base tree None h fails, tt)

pub said_judged : (base : Option (List ℕ)) (tree : written.Query) (said : Query × Labels) (r : Result Query SyntaxFaultKind) → known_query tree ≡ true → query_in base tree ≡ Some said
    → TellsMeaning (ruled (Some said)) r → TellsMeaning (meaning base tree) r
said_judged base tree said r h k told = subst (λ (m : Result Query SyntaxFaultKind). TellsMeaning m r) (sym (known_means base tree (Some said) h k)) told
