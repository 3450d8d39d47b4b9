-- A static rule is broken just where a lexeme shows it.
use Rattle.std.proofs.Common.{◌≡◌, ◌<◌, ◌+◌, ◌∙◌, ap, refl, sym, ℕ, suc, Bool, true, false, cond, ◌&&◌, ◌||◌, not, ◌==◌, List, [], ◌∷◌, ◌++◌, map, length, Option, Some, None, Result, Ok, Err, inl, inr, arith, true≢false}
use Rattle.std.proofs.lemmas.Bool.{and_parts}
use Rattle.std.specs.List.{list_all, list_any}
use Rattle.rdf_terms.specs.Term.{is_literal_term}
use Rattle.rdf_grammar.specs.Prologue.{Prologue, start as begin}
use Rattle.rdf_grammar.specs.Terminals.{Slice, next_terminal}
use Rattle.sparql_grammar.specs.OperationGrammar.{IsRequest}
use Rattle.sparql_grammar.specs.declared.tree.Block.{Block}
use Rattle.sparql_grammar.specs.declared.tree.Part.{Part}
use Rattle.sparql_terminals.specs.Lexemes.{Lexeme, Lexemes}
use Rattle.sparql_terminals.specs.declared.terminal.Terminal.{Terminal}
use Rattle.sparql_terminals.specs.declared.terminal.Terminal.TheVariants as terminal
use Rattle.sparql_drafts.specs.Meaning.{quads_in}
use Rattle.sparql_drafts.specs.declared.draft.QuadPattern.{QuadPattern}
use Rattle.sparql_drafts.specs.declared.draft.Quads.{Quads}
use Rattle.sparql_drafts.specs.declared.draft.VarOrIri.{VarOrIri}
use Rattle.sparql_drafts.specs.declared.draft.VarOrIri.TheVariants as name
use Rattle.sparql_drafts.specs.declared.draft.VarOrTerm.{VarOrTerm}
use Rattle.sparql_drafts.specs.declared.draft.VarOrTerm.TheVariants as place
use Rattle.sparql_syntax.specs.declared.clause.Clause.{Clause}
use Rattle.sparql_syntax.specs.declared.clause.Clause.TheVariants as clause
use Rattle.sparql_syntax.specs.declared.drafts.Draft.{Draft}
use Rattle.sparql_syntax.specs.declared.drafts.Draft.TheVariants as draft
use Rattle.sparql_syntax.specs.declared.fault.SyntaxFaultKind.{SyntaxFaultKind}
use Rattle.sparql_syntax.specs.declared.fault.SyntaxFaultKind.TheVariants as fault
use Rattle.sparql_syntax.specs.BrokenRuleLaws.{BlankIsFound, VariableIsFound, LiteralIsFound, BlankIsOfKind, VariableIsOfKind, LiteralIsOfKind, BlankIsBroken, VariableIsBroken, LiteralIsBroken}
use Rattle.sparql_syntax.specs.BrokenRules.{breaks, breaking_from, first_breaking, is_blank, is_literal, is_variable, subject_behind}
use Rattle.sparql_syntax.specs.Clauses.{clause_behind, is_data, is_deleted}
use Rattle.sparql_syntax.specs.Meaning.{answer}
use Rattle.sparql_syntax.specs.Rules as rules
use Rattle.sparql_syntax.specs.Update.{ruled}
use Rattle.sparql_trees.specs.declared.operation.Operation.{Operation}
use Rattle.sparql_syntax.proofs.QuestionFronts.{asked, opened}
use Rattle.sparql_syntax.proofs.RequestLemmas.{answer_kind}
use Rattle.sparql_syntax.proofs.RuleDrafts.{drafts_tested, test_by}
use Rattle.sparql_syntax.proofs.RuleLexemes.{Rule, Broken, opened_yes, searched}
use Rattle.sparql_syntax.proofs.RuleRequests.{breaks_in, request_broken}
use Rattle.sparql_syntax.proofs.SharedLabels.{or_no, or_yes}
use Rattle.sparql_syntax.proofs.TripleQuestions.{Question}
use Rattle.sparql_syntax.proofs.TriplesSaid.{Sound, blocks_say, every, fits_around, fits_iri, fits_pattern, fits_place, fits_quads, fits_subject, iri_fits, pattern_by_subject}

-- ---- which lexeme it comes to

record There (rule : SyntaxFaultKind) (kind : Terminal → Option Terminal → Bool) (c : Clause) (subject : Bool) (ts : Lexemes) : Type 0 where
  front : Lexemes
  one : Lexeme
  others : Lexemes
  is : ts ≡ front ++ one ∷ others
  number : length front ≡ breaking_from rule c subject ts
  kinds : kind one.terminal (next_terminal others) ≡ true

module _ (rule : SyntaxFaultKind) (kind : Terminal → Option Terminal → Bool)
    (tells : (c : Clause) (subject : Bool) (k : Terminal) (next : Option Terminal) → breaks rule c subject k next ≡ true → kind k next ≡ true) where
  step_there : (t : Lexeme) (ts : Lexemes) (c : Clause) (subject : Bool) (b : Bool) → breaks rule c subject t.terminal (next_terminal ts) ≡ b
      → (breaking_from rule (clause_behind c t.terminal) (subject_behind t.terminal) ts < length ts → There rule kind (clause_behind c t.terminal) (subject_behind t.terminal) ts)
      → cond b 0 (breaking_from rule (clause_behind c t.terminal) (subject_behind t.terminal) ts + 1) < suc (length ts) → There rule kind c subject (t ∷ ts)
  step_there t ts c subject true e others short = record {
    front = [];
    one = t;
    others = ts;
    is = refl;
    number = sym (ap (λ (b : Bool). cond b 0 (breaking_from rule (clause_behind c t.terminal) (subject_behind t.terminal) ts + 1)) e);
    kinds = tells c subject t.terminal (next_terminal ts) e;
  }
  step_there t ts c subject false e others short =
      let r = others (omega (arith, short)) in
      record {
        front = t ∷ r.front;
        one = r.one;
        others = r.others;
        is = ap (λ (z : Lexemes). t ∷ z) r.is;
        number = (let n : length r.front ≡ breaking_from rule (clause_behind c t.terminal) (subject_behind t.terminal) ts = r.number in omega (arith, n)) ∙ sym (ap (λ (b : Bool). cond b 0 (breaking_from rule (clause_behind c t.terminal) (subject_behind t.terminal) ts + 1)) e);
        kinds = r.kinds;
      }

  one_there : (ts : Lexemes) (c : Clause) (subject : Bool) → breaking_from rule c subject ts < length ts → There rule kind c subject ts
  one_there [] c subject lt = absurd (omega (arith, lt))
  one_there (t ∷ ts) c subject lt =
      step_there t ts c subject (breaks rule c subject t.terminal (next_terminal ts)) refl (one_there ts (clause_behind c t.terminal) (subject_behind t.terminal)) lt

  of_kind : (lexemes : Lexemes) → first_breaking rule lexemes < length lexemes
      → (front : Lexemes) × (one : Lexeme) × (others : Lexemes)
      × (lexemes ≡ front ++ one ∷ others) × (length front ≡ first_breaking rule lexemes) × (kind one.terminal (next_terminal others) ≡ true)
  of_kind lexemes lt = (let r = one_there lexemes clause.Pattern false lt in (r.front, r.one, r.others, r.is, r.number, r.kinds))

pub blank_is_of_kind : BlankIsOfKind
blank_is_of_kind = of_kind fault.BlankInDelete is_blank (λ c subject k next e. (and_parts (is_deleted c) (is_blank k next) e).1)

pub variable_is_of_kind : VariableIsOfKind
variable_is_of_kind = of_kind fault.VariableInData (λ k _. is_variable k) (λ c subject k next e. (and_parts (is_data c) (is_variable k) e).1)

pub literal_is_of_kind : LiteralIsOfKind
literal_is_of_kind = of_kind fault.LiteralSubject (λ k _. is_literal k)
    (λ c subject k next e. (and_parts subject (is_literal k) (and_parts (is_data c) (subject && is_literal k) e).1).1)

-- ---- the rules

abbrev blank_question : Question
blank_question = record { name = λ _. true; variable = true; label = λ _. false; blank = false; literal = true; word = true }

abbrev variable_question : Question
variable_question = record { name = λ _. true; variable = false; label = λ _. true; blank = true; literal = true; word = true }

abbrev literal_question : Question
literal_question = record { name = λ _. true; variable = true; label = λ _. true; blank = true; literal = false; word = true }

abbrev blank_sound : Sound blank_question
blank_sound = record { strict = false; against = begin None; names = λ e n. refl; there = λ e n. absurd (true≢false (sym e)); alike = λ l o e. refl; labels = λ l e. e }

abbrev variable_sound : Sound variable_question
variable_sound = record { strict = false; against = begin None; names = λ e n. refl; there = λ e n. absurd (true≢false (sym e)); alike = λ l o e. refl; labels = λ l e. refl }

abbrev literal_sound : Sound literal_question
literal_sound = record { strict = false; against = begin None; names = λ e n. refl; there = λ e n. absurd (true≢false (sym e)); alike = λ l o e. refl; labels = λ l e. refl }

open_blank : (next : Option Terminal) → is_blank terminal.Open next ≡ not (opened false next)
open_blank None = refl
open_blank (Some terminal.Close) = refl
open_blank (Some _) = refl

blank_shows : (s : Bool) (k : Terminal) (text : Slice) (next : Option Terminal) → is_blank k next ≡ not (asked blank_question s k text next)
blank_shows s terminal.Open text next = open_blank next
blank_shows s _ text next = refl

variable_shows : (s : Bool) (k : Terminal) (text : Slice) (next : Option Terminal) → is_variable k ≡ not (asked variable_question s k text next)
variable_shows s terminal.Open text next = ap not (sym (opened_yes next))
variable_shows s _ text next = refl

literal_shows : (s : Bool) (k : Terminal) (text : Slice) (next : Option Terminal) → (s && is_literal k) ≡ not (asked literal_question s k text next)
literal_shows true terminal.Open text next = ap not (sym (opened_yes next))
literal_shows true _ text next = refl
literal_shows false terminal.Open text next = ap not (sym (opened_yes next))
literal_shows false _ text next = refl

abbrev blank_rule : Rule
blank_rule = record {
  kind = fault.BlankInDelete;
  asks = is_deleted;
  question = blank_question;
  sound = blank_sound;
  lax = refl;
  names = λ n. refl;
  words = refl;
  inserts = refl;
  patterns = refl;
  deletes = refl;
  is = λ c s k text next. ap (λ (b : Bool). is_deleted c && b) (blank_shows s k text next);
}

abbrev variable_rule : Rule
variable_rule = record {
  kind = fault.VariableInData;
  asks = is_data;
  question = variable_question;
  sound = variable_sound;
  lax = refl;
  names = λ n. refl;
  words = refl;
  inserts = refl;
  patterns = refl;
  deletes = refl;
  is = λ c s k text next. ap (λ (b : Bool). is_data c && b) (variable_shows s k text next);
}

abbrev literal_rule : Rule
literal_rule = record {
  kind = fault.LiteralSubject;
  asks = is_data;
  question = literal_question;
  sound = literal_sound;
  lax = refl;
  names = λ n. refl;
  words = refl;
  inserts = refl;
  patterns = refl;
  deletes = refl;
  is = λ c s k text next. ap (λ (b : Bool). is_data c && b) (literal_shows s k text next);
}

-- ---- quads that fit a rule

none_of : (a b x y : Bool) → a ≡ not x → b ≡ not y → (a || b) ≡ not (x && y)
none_of a b x y e f = ap (λ (z : Bool). z || b) e ∙ ap (λ (z : Bool). not x || z) f ∙ by x
  where
    by : (x : Bool) → (not x || not y) ≡ not (x && y)
    by true = refl
    by false = refl

any_not_all : {A : Type 0} (f g : A → Bool) → ((x : A) → f x ≡ not (g x)) → (xs : List A) → list_any f xs ≡ not (list_all g xs)
any_not_all f g h [] = refl
any_not_all f g h (x ∷ xs) = none_of (f x) (list_any f xs) (g x) (list_all g xs) (h x) (any_not_all f g h xs)

zero_is : (n : ℕ) → (n == 0) ≡ true → n ≡ 0
zero_is n e = grind arith

-- no blank node
blank_said : (d : Quads) → (d.blanks ≡ 0 → d.labels ≡ []) → not (d.blanks == 0) ≡ not (fits_quads blank_question d)
blank_said d few = ap not (by (d.blanks == 0) refl)
  where
    all : (list_all (fits_pattern blank_question) d.patterns && list_all (fits_iri blank_question) d.graphs) ≡ true
    all =
        ap (λ (b : Bool). b && list_all (fits_iri blank_question) d.graphs) (every (fits_pattern blank_question) (λ p. pattern_by_subject blank_question refl p ∙ or_yes (not (rules.is_literal p.subject))) d.patterns)
        ∙ every (fits_iri blank_question) (iri_fits blank_question refl) d.graphs

    by : (b : Bool) → (d.blanks == 0) ≡ b → b ≡ ((b || false) && (list_all (λ _. false) d.labels && (list_all (fits_pattern blank_question) d.patterns && list_all (fits_iri blank_question) d.graphs)))
    by true e = sym (ap (λ (ls : List Slice). list_all (λ _. false) ls && (list_all (fits_pattern blank_question) d.patterns && list_all (fits_iri blank_question) d.graphs)) (few (zero_is d.blanks e)) ∙ all)
    by false e = refl

-- no variable
iri_said : (n : VarOrIri) → rules.is_variable n ≡ not (fits_iri variable_question n)
iri_said (name.Variable v) = refl
iri_said (name.Iri iri) = refl

around_said : (g : Option VarOrIri) → rules.is_variable_graph g ≡ not (fits_around variable_question g)
around_said None = refl
around_said (Some n) = iri_said n

place_said : (y : VarOrTerm) → rules.is_variable_place y ≡ not (fits_place variable_question y)
place_said (place.Variable v) = refl
place_said (place.Term t) = refl

subject_said : (y : VarOrTerm) → rules.is_variable_place y ≡ not (fits_subject variable_question y)
subject_said (place.Variable v) = refl
subject_said (place.Term t) = ap not (sym (or_yes (not (is_literal_term t))))

pattern_said : (p : QuadPattern) → rules.has_variable p ≡ not (fits_pattern variable_question p)
pattern_said p =
    none_of (rules.is_variable_graph p.graph) _ (fits_around variable_question p.graph) _ (around_said p.graph)
    (none_of (rules.is_variable_place p.subject) _ (fits_subject variable_question p.subject) _ (subject_said p.subject)
    (none_of (rules.is_variable p.predicate) (rules.is_variable_place p.object) (fits_iri variable_question p.predicate) (fits_place variable_question p.object) (iri_said p.predicate) (place_said p.object)))

or_turned : (a b : Bool) → (a || b) ≡ (b || a)
or_turned true b = sym (or_yes b)
or_turned false b = sym (or_no b)

variable_said : (d : Quads) → rules.quads_have_variable d ≡ not (fits_quads variable_question d)
variable_said d =
    or_turned (list_any rules.is_variable d.graphs) (list_any rules.has_variable d.patterns)
    ∙ none_of (list_any rules.has_variable d.patterns) (list_any rules.is_variable d.graphs) (list_all (fits_pattern variable_question) d.patterns) (list_all (fits_iri variable_question) d.graphs)
    (any_not_all rules.has_variable (fits_pattern variable_question) pattern_said d.patterns) (any_not_all rules.is_variable (fits_iri variable_question) iri_said d.graphs)
    ∙ ap (λ (b : Bool). not (b && (list_all (fits_pattern variable_question) d.patterns && list_all (fits_iri variable_question) d.graphs))) (sym (every (λ (l : Slice). true) (λ l. refl) d.labels))
    ∙ ap (λ (b : Bool). not (b && (list_all (λ (l : Slice). true) d.labels && (list_all (fits_pattern variable_question) d.patterns && list_all (fits_iri variable_question) d.graphs)))) (sym (or_yes (d.blanks == 0)))

-- no literal as a subject
literal_said : (d : Quads) → list_any (λ p. rules.is_literal p.subject) d.patterns ≡ not (fits_quads literal_question d)
literal_said d =
    any_not_all (λ p. rules.is_literal p.subject) (fits_pattern literal_question) (λ p. (back (rules.is_literal p.subject) ∙ ap not (sym (pattern_by_subject literal_question refl p)))) d.patterns
    ∙ ap not (sym (by (list_all (fits_pattern literal_question) d.patterns)))
    ∙ ap (λ (b : Bool). not (list_all (fits_pattern literal_question) d.patterns && b)) (sym (every (fits_iri literal_question) (iri_fits literal_question refl) d.graphs))
    ∙ ap (λ (b : Bool). not (b && (list_all (fits_pattern literal_question) d.patterns && list_all (fits_iri literal_question) d.graphs))) (sym (every (λ (l : Slice). true) (λ l. refl) d.labels))
    ∙ ap (λ (b : Bool). not (b && (list_all (λ (l : Slice). true) d.labels && (list_all (fits_pattern literal_question) d.patterns && list_all (fits_iri literal_question) d.graphs)))) (sym (or_yes (d.blanks == 0)))
  where
    back : (b : Bool) → b ≡ not (not b || false)
    back true = refl
    back false = refl

    by : (b : Bool) → (b && true) ≡ b
    by true = refl
    by false = refl

-- ---- a rule that is broken

pub err_same : {A E : Type 0} (a b : E) → ◌≡◌ {A = Result A E} (Err a) (Err b) → a ≡ b
err_same a b e = cc

abbrev pub Judgement : Bool → Bool → Bool → Bool → List Operation → Result (List Operation) SyntaxFaultKind
Judgement a b c d operations =
    cond a (Err fault.BlankInDelete) (cond b (Err fault.VariableInData) (cond c (Err fault.LiteralSubject) (cond d (Err fault.BlankReused) (Ok operations))))

blank_first : (a b c d : Bool) (operations : List Operation) → Judgement a b c d operations ≡ Err fault.BlankInDelete → a ≡ true
blank_first true b c d operations e = refl
blank_first false true c d operations e = absurd (cc e)
blank_first false false true d operations e = absurd (cc e)
blank_first false false false true operations e = absurd (cc e)
blank_first false false false false operations e = absurd (cc e)

variable_second : (a b c d : Bool) (operations : List Operation) → Judgement a b c d operations ≡ Err fault.VariableInData → b ≡ true
variable_second true b c d operations e = absurd (cc e)
variable_second false true c d operations e = refl
variable_second false false true d operations e = absurd (cc e)
variable_second false false false true operations e = absurd (cc e)
variable_second false false false false operations e = absurd (cc e)

literal_third : (a b c d : Bool) (operations : List Operation) → Judgement a b c d operations ≡ Err fault.LiteralSubject → c ≡ true
literal_third true b c d operations e = absurd (cc e)
literal_third false true c d operations e = absurd (cc e)
literal_third false false true d operations e = refl
literal_third false false false true operations e = absurd (cc e)
literal_third false false false false operations e = absurd (cc e)

same_any : {A : Type 0} (f g : A → Bool) → ((x : A) → f x ≡ g x) → (xs : List A) → list_any f xs ≡ list_any g xs
same_any f g h [] = refl
same_any f g h (x ∷ xs) = ap (λ (b : Bool). b || list_any f xs) (h x) ∙ ap (λ (b : Bool). g x || b) (same_any f g h xs)

-- a rule by its test on drafts, and on quads
module _ (r : Rule) (test : Draft → Bool) (said : Quads → Bool) (alike : (d : Draft) → test d ≡ test_by r.asks said d)
    (fits : (d : Quads) → (d.blanks ≡ 0 → d.labels ≡ []) → said d ≡ not (fits_quads r.question d)) where
  quads_tested : (bs : List Block) (p : Prologue) (d : Quads) → quads_in bs p ≡ Some d → said d ≡ breaks_in r bs
  quads_tested bs p d e = (let a = blocks_say r.question r.sound r.lax bs p d e in fits d a.few ∙ ap not a.is)

  -- some draft breaks it just where a lexeme does
  same_broken : (base : Option (List ℕ)) (ts : Lexemes) (tree : List Part) (drafts : List Draft) → IsRequest ts tree → answer base tree ≡ Ok drafts → list_any test drafts ≡ Broken r clause.Pattern false ts
  same_broken base ts tree drafts reads is =
      same_any test (test_by r.asks said) alike drafts ∙ drafts_tested r.asks r.deletes (breaks_in r) said quads_tested base tree drafts is ∙ sym (request_broken r ts tree reads)

  is_broken : (base : Option (List ℕ)) (ts : Lexemes) (tree : List Part) (drafts : List Draft) → IsRequest ts tree → answer base tree ≡ Ok drafts → first_breaking r.kind ts < length ts → list_any test drafts ≡ true
  is_broken base ts tree drafts reads is lt = same_broken base ts tree drafts reads is ∙ (searched r.kind ts clause.Pattern false).comes lt

  -- an answer that breaks it is of drafts
  by_answer : (r.kind ≡ fault.UnknownPrefix → ⊥) → (r.kind ≡ fault.Relative → ⊥) → ((drafts : List Draft) → rules.judged drafts ≡ Err r.kind → list_any test drafts ≡ true)
      → (base : Option (List ℕ)) (ts : Lexemes) (tree : List Part) (a : Result (List Draft) SyntaxFaultKind) → IsRequest ts tree → answer base tree ≡ a → ruled a ≡ Err r.kind → first_breaking r.kind ts < length ts
  by_answer known based judged base ts tree (Ok drafts) reads is e = (searched r.kind ts clause.Pattern false).goes (sym (same_broken base ts tree drafts reads is) ∙ judged drafts e)
  by_answer known based judged base ts tree (Err kind) reads is e = elim (answer_kind base tree kind is) [
    | inl unknown ↦ absurd (known (sym (err_same kind r.kind e) ∙ unknown))
    | inr relative ↦ absurd (based (sym (err_same kind r.kind e) ∙ relative))
  ]

-- ---- each rule

blank_test : (d : Draft) → rules.has_blank_in_delete d ≡ test_by is_deleted (λ q. not (q.blanks == 0)) d
blank_test (draft.InsertData quads) = refl
blank_test (draft.DeleteData quads) = refl
blank_test (draft.Modify m) = refl
blank_test (draft.Other other) = refl

variable_test : (d : Draft) → rules.has_variable_in_data d ≡ test_by is_data rules.quads_have_variable d
variable_test (draft.InsertData quads) = refl
variable_test (draft.DeleteData quads) = refl
variable_test (draft.Modify m) = refl
variable_test (draft.Other other) = refl

literal_test : (d : Draft) → rules.has_literal_subject d ≡ test_by is_data (λ q. list_any (λ p. rules.is_literal p.subject) q.patterns) d
literal_test (draft.InsertData quads) = refl
literal_test (draft.DeleteData quads) = refl
literal_test (draft.Modify m) = refl
literal_test (draft.Other other) = refl

pub blank_is_found : BlankIsFound
blank_is_found base text tree has e =
    by_answer blank_rule rules.has_blank_in_delete (λ q. not (q.blanks == 0)) blank_test blank_said (λ x. cc x) (λ x. cc x)
    (λ drafts broken. blank_first (list_any rules.has_blank_in_delete drafts) (list_any rules.has_variable_in_data drafts) (list_any rules.has_literal_subject drafts) (rules.reuses_label drafts) (map rules.operation_of drafts) broken)
    base has.lexemes tree (answer base tree) has.reads refl e

pub variable_is_found : VariableIsFound
variable_is_found base text tree has e =
    by_answer variable_rule rules.has_variable_in_data rules.quads_have_variable variable_test (λ d few. variable_said d) (λ x. cc x) (λ x. cc x)
    (λ drafts broken. variable_second (list_any rules.has_blank_in_delete drafts) (list_any rules.has_variable_in_data drafts) (list_any rules.has_literal_subject drafts) (rules.reuses_label drafts) (map rules.operation_of drafts) broken)
    base has.lexemes tree (answer base tree) has.reads refl e

pub literal_is_found : LiteralIsFound
literal_is_found base text tree has e =
    by_answer literal_rule rules.has_literal_subject (λ q. list_any (λ p. rules.is_literal p.subject) q.patterns) literal_test (λ d few. literal_said d) (λ x. cc x) (λ x. cc x)
    (λ drafts broken. literal_third (list_any rules.has_blank_in_delete drafts) (list_any rules.has_variable_in_data drafts) (list_any rules.has_literal_subject drafts) (rules.reuses_label drafts) (map rules.operation_of drafts) broken)
    base has.lexemes tree (answer base tree) has.reads refl e

pub blank_is_broken : BlankIsBroken
blank_is_broken base text tree has drafts is lt = is_broken blank_rule rules.has_blank_in_delete (λ q. not (q.blanks == 0)) blank_test blank_said base has.lexemes tree drafts has.reads is lt

pub variable_is_broken : VariableIsBroken
variable_is_broken base text tree has drafts is lt = is_broken variable_rule rules.has_variable_in_data rules.quads_have_variable variable_test (λ d few. variable_said d) base has.lexemes tree drafts has.reads is lt

pub literal_is_broken : LiteralIsBroken
literal_is_broken base text tree has drafts is lt =
    is_broken literal_rule rules.has_literal_subject (λ q. list_any (λ p. rules.is_literal p.subject) q.patterns) literal_test (λ d few. literal_said d) base has.lexemes tree drafts has.reads is lt
