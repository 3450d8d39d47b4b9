-- Each text says one thing: it is a query, or it has a fault.
use Rattle.std.proofs.Common.{◌≡◌, ◌⊎◌, inl, inr, ℕ, Bool, true, false, cond, List, [], ◌∷◌, Option, Some, None, Result, Ok, Err, refl, sym, subst}
use Rattle.rdf_grammar.proofs.CallerLemmas.{some_pair}
use Rattle.rdf_grammar.specs.declared.fault.GrammarFault.TheVariants.{Syntax}
use Rattle.rdf_grammar.specs.Steps.{◌>>=◌, ◌>>◌, and_then, pure}
use Rattle.sparql_grammar.specs.declared.tree.Declaration.{Declaration}
use Rattle.sparql_grammar.specs.declared.tree.Query as written
use Rattle.sparql_grammar.specs.declared.tree.QueryForm.{QueryForm}
use Rattle.sparql_terminals.specs.Lexemes.{Lexeme, Lexemes, Outcome}
use Rattle.sparql_grammar.specs.Nesting.{IsTooDeep}
use Rattle.sparql_grammar.specs.QueryGrammar as grammar
use Rattle.sparql_grammar.specs.GroupReading.{whole_group}
use Rattle.sparql_grammar.specs.PrologueReading.{prologue}
use Rattle.sparql_grammar.specs.QueryReading.{at_end, query, query_form, query_with, whole_query}
use Rattle.sparql_grammar.proofs.CallerLemmas.{query_found, query_stop_explained, query_unique}
use Rattle.sparql_queries.specs.Groups.{Labels}
use Rattle.sparql_queries.specs.Known.{known_query}
use Rattle.sparql_queries.specs.Queries.{query_in}
use Rattle.sparql_syntax.specs.declared.fault.SyntaxFaultKind.{SyntaxFaultKind}
use Rattle.sparql_syntax.specs.declared.fault.SyntaxFaultKind.TheVariants as fault
use Rattle.sparql_syntax.specs.Labels.{repeats_label}
use Rattle.sparql_syntax.specs.Query.{meaning, ruled}
use Rattle.sparql_syntax.specs.Readers.{IsOfTree}
use Rattle.sparql_syntax.specs.QueryLaws.{SomeMeaning, OneQuery, NeverBoth, OneFault}
use Rattle.sparql_trees.specs.declared.query.Query.{Query}
use Rattle.sparql_syntax.proofs.PhaseLemmas as phases
use Rattle.sparql_syntax.proofs.SayLemmas as language

-- ---- why a tree says nothing

err_same : {A E : Type 0} (a b : E) → ◌≡◌ {A = Result A E} (Err a) (Err b) → a ≡ b
err_same a b e = cc

ok_err : {A E : Type 0} (a : A) (b : E) → ◌≡◌ {A = Result A E} (Ok a) (Err b) → ⊥
ok_err a b e = cc

label_of_tree : (b : Bool) (said : Query) (k : SyntaxFaultKind) → ◌≡◌ {A = Result Query SyntaxFaultKind} (cond b (Err fault.BlankReused) (Ok said)) (Err k) → IsOfTree k
label_of_tree true said k e = subst IsOfTree (err_same fault.BlankReused k e) tt
label_of_tree false said k e = absurd (ok_err said k e)

ruled_of_tree : (o : Option (Query × Labels)) (k : SyntaxFaultKind) → ruled o ≡ Err k → IsOfTree k
ruled_of_tree None k e = subst IsOfTree (err_same fault.Relative k e) tt
ruled_of_tree (Some said) k e = label_of_tree (repeats_label [] said.1) said.0 k e

known_of_tree : (b : Bool) (o : Option (Query × Labels)) (k : SyntaxFaultKind) → ◌≡◌ {A = Result Query SyntaxFaultKind} (cond b (ruled o) (Err fault.UnknownPrefix)) (Err k) → IsOfTree k
known_of_tree true o k e = ruled_of_tree o k e
known_of_tree false o k e = subst IsOfTree (err_same fault.UnknownPrefix k e) tt

of_tree : (base : Option (List ℕ)) (tree : written.Query) (k : SyntaxFaultKind) → meaning base tree ≡ Err k → IsOfTree k
of_tree base tree k e = known_of_tree (known_query tree) (query_in base tree) k e

-- ---- lexemes that aren't too deep are a query, or none

abbrev QueryOrNot : Lexemes → Type 0
QueryOrNot lexemes = ((tree : written.Query) × grammar.IsQuery lexemes tree) ⊎ ((tree : written.Query) → ¬ (grammar.IsQuery lexemes tree))

-- a query is read up to the last lexeme
at_last : (declarations : List Declaration) (form : QueryForm) (rest : Lexemes) (tree : written.Query) (us : Lexemes) → (at_end >> pure (query_with declarations form)) rest ≡ Some (tree, us) → us ≡ []
at_last declarations form [] tree us e = sym (some_pair (query_with declarations form) tree [] us e).1
at_last declarations form (l ∷ ls) tree us e = absurd (cc e)

from_form : (declarations : List Declaration) (o : Outcome QueryForm) (tree : written.Query) (us : Lexemes) → and_then o (λ form. at_end >> pure (query_with declarations form)) ≡ Some (tree, us) → us ≡ []
from_form declarations None tree us e = absurd (cc e)
from_form declarations (Some (form, rest)) tree us e = at_last declarations form rest tree us e

from_prologue : (o : Outcome (List Declaration)) (tree : written.Query) (us : Lexemes)
    → and_then o (λ declarations. query_form whole_group >>= (λ form. at_end >> pure (query_with declarations form))) ≡ Some (tree, us) → us ≡ []
from_prologue None tree us e = absurd (cc e)
from_prologue (Some (declarations, rest)) tree us e = from_form declarations (query_form whole_group rest) tree us e

nothing_left : (lexemes : Lexemes) (tree : written.Query) (us : Lexemes) → whole_query lexemes ≡ Some (tree, us) → us ≡ []
unfolding query
nothing_left lexemes tree us e = from_prologue (prologue lexemes) tree us e

some_left : (l : Lexeme) (ls : Lexemes) → ◌≡◌ {A = Lexemes} (l ∷ ls) [] → ⊥
some_left l ls e = cc

by_reading : (lexemes : Lexemes) → ¬ (IsTooDeep lexemes) → (o : Outcome written.Query) → whole_query lexemes ≡ o → QueryOrNot lexemes
by_reading lexemes shallow None e = inr (query_stop_explained lexemes Syntax e shallow)
by_reading lexemes shallow (Some (tree, [])) e = inl (tree, query_found lexemes tree [] e refl)
by_reading lexemes shallow (Some (tree, l ∷ ls)) e = absurd (some_left l ls (nothing_left lexemes tree (l ∷ ls) e))

query_or_not : (lexemes : Lexemes) → ¬ (IsTooDeep lexemes) → QueryOrNot lexemes
query_or_not lexemes shallow = by_reading lexemes shallow (whole_query lexemes) refl

-- ---- what a text says

pub some_meaning : SomeMeaning
some_meaning base text = language.some_meaning grammar.IsQuery meaning query_or_not of_tree base text

pub one_query : OneQuery
one_query base text a b h k = phases.one_said grammar.IsQuery meaning query_unique base text a b h k

pub never_both : NeverBoth
never_both base text query f h i = phases.never_both grammar.IsQuery meaning query_unique base text query f h i

pub one_fault : OneFault
one_fault base text a b h i = phases.one_fault grammar.IsQuery meaning query_unique base text a b h i
