-- All of the lexemes.
use Rattle.std.proofs.Common.{◌≡◌, ℕ, suc, ◌<◌, ◌≤◌, true, List, [], take, length, Option, Some, refl, ap, sym, ◌∙◌, arith, inl, inr, ◌⊎◌}
use Rattle.std.specs.Prelude.{Result, Ok, Err, IfErr, IfOk, OnOk}
use Rattle.rdf_grammar.specs.declared.fault.GrammarFault.{GrammarFault}
use Rattle.rdf_grammar.specs.declared.fault.GrammarFault.TheVariants.{Syntax, NoMemory}
use Rattle.rdf_grammar.specs.Readings.{Fails, Reads}
use Rattle.rdf_grammar.specs.Terminals.{next_terminal}
use Rattle.rdf_grammar.proofs.CallerLemmas.{some_pair, never_more}
use Rattle.sparql_terminals.specs.declared.terminal.Terminal.{Terminal}
use Rattle.sparql_terminals.specs.declared.terminal.Terminal.TheVariants as terminal
use Rattle.sparql_grammar.specs.declared.tree.Operation.{Operation}
use Rattle.sparql_grammar.specs.declared.tree.Part.{Part}
use Rattle.sparql_grammar.specs.declared.tree.Triples.{Triples}
use Rattle.sparql_grammar.specs.Grammar.{Nodes_at, TriplesTemplate}
use Rattle.sparql_grammar.specs.GroupGrammar.{GroupAt}
use Rattle.sparql_grammar.specs.GroupReading.{group_at}
use Rattle.sparql_terminals.specs.Lexemes.{Lexemes, Reading, Derives}
use Rattle.sparql_grammar.specs.Nesting.{open_after, IsTooDeep}
use Rattle.sparql_grammar.specs.OperationGrammar.{IsRequest, Update1}
use Rattle.sparql_grammar.specs.OperationReading.{request}
use Rattle.sparql_grammar.specs.Reading.{node, triples_template}
use Rattle.sparql_grammar.specs.RequestLaws.{OneRequest}
use Rattle.sparql_grammar.specs.Stops.{Explains}
use Rattle.sparql_terminals.specs.Terminals.{bracket}
use Rattle.sparql_grammar.proofs.GrammarTriples.{triples_decides, triples_begin, closes_template}
use Rattle.sparql_grammar.proofs.GroupWhole.{group_at_rule}
use Rattle.sparql_grammar.proofs.OperationData.{closes_triples, IsTemplateRule}
use Rattle.sparql_grammar.proofs.OperationNests.{PartsAt, parts_within}
use Rattle.sparql_grammar.proofs.OperationParts.{parts_sound, parts_complete, parts_of, update_of}
use Rattle.sparql_grammar.proofs.OperationTemplates.{operation_strict}

closes_there : (k : Option Terminal) → closes_triples k ≡ true → closes_template k ≡ true
closes_there (Some terminal.CloseBrace) h = refl
closes_there (Some terminal.Graph) h = refl
closes_there _ h = absurd (cc)

template_rule : (depth : ℕ) → IsTemplateRule (triples_template (node (suc depth))) (TriplesTemplate (Nodes_at depth))
template_rule depth =
    let d = triples_decides depth in
    record {
      decides = record { sound = d.sound; complete = λ ts x us h e. d.complete ts x us h (closes_there (next_terminal us) e); shorter = d.shorter };
      begins = triples_begin depth;
    }

-- the readings of triples in the braces of data and of GRAPH, and what they read
module _ (depth : ℕ) where
  abbrev template : Reading (List Triples)
  template = triples_template (node (suc (suc depth)))

  abbrev inner : Reading (List Triples)
  inner = triples_template (node (suc depth))

  abbrev Template : Derives (List Triples)
  Template = TriplesTemplate (Nodes_at (suc depth))

  abbrev Inner : Derives (List Triples)
  Inner = TriplesTemplate (Nodes_at depth)

  abbrev Op : Derives Operation
  Op = Update1 Template Inner (GroupAt (suc depth))

strict : (depth : ℕ) (ts : Lexemes) (x : Operation) (us : Lexemes) → Op depth ts x us → length us < length ts
strict depth = operation_strict (template depth) (inner depth) (group_at (suc depth)) (Template depth) (Inner depth) (GroupAt (suc depth)) (template_rule (suc depth)) (template_rule depth) (group_at_rule (suc depth))

request_sound : (depth : ℕ) (ts : Lexemes) (parts : List Part) → request (suc depth) ts ≡ Some (parts, []) → IsRequest ts parts
unfolding request
request_sound depth ts parts h =
    let read = parts_sound (template depth) (inner depth) (group_at (suc depth)) (Template depth) (Inner depth) (GroupAt (suc depth)) (template_rule (suc depth)) (template_rule depth) (group_at_rule (suc depth)) ts parts [] h in
    (depth, update_of (Op depth) (strict depth) ts [] parts refl read)

request_complete : (depth : ℕ) (ts : Lexemes) (parts : List Part) → PartsAt depth ts parts [] → request (suc depth) ts ≡ Some (parts, [])
unfolding request
request_complete depth ts parts h = parts_complete (template depth) (inner depth) (group_at (suc depth)) (Template depth) (Inner depth) (GroupAt (suc depth)) (template_rule (suc depth)) (template_rule depth) (group_at_rule (suc depth)) ts parts h

pub parts_are : (ts : Lexemes) (parts : List Part) → (d : IsRequest ts parts) → PartsAt d.0 ts parts []
parts_are ts parts d = parts_of (Op d.0) (strict d.0) ts [] parts refl d.1

-- where so many brackets are open at most
request_read_at : (depth : ℕ) (ts : Lexemes) (parts : List Part) → ((n : ℕ) → open_after 0 (take n ts) ≤ suc (suc depth)) → IsRequest ts parts → request (suc depth) ts ≡ Some (parts, [])
request_read_at depth ts parts below d = request_complete depth ts parts (parts_within depth d.0 ts parts below (parts_are ts parts d))

low_or_high : (n : ℕ) → (n ≤ 100) ⊎ (100 < n)
low_or_high n = grind arith

pub never_high : (ts : Lexemes) → (IsTooDeep ts → ⊥) → (n : ℕ) → open_after 0 (take n ts) ≤ 100
never_high ts h n = elim (low_or_high (open_after 0 (take n ts))) [ inl low ↦ low | inr high ↦ absurd (h (n, high)) ]

pub request_read : (ts : Lexemes) (parts : List Part) → (IsTooDeep ts → ⊥) → IsRequest ts parts → request 99 ts ≡ Some (parts, [])
request_read ts parts h d = request_read_at 98 ts parts (never_high ts h) d

-- each request is one at a depth that its lexemes determine
request_at : (ts : Lexemes) (parts : List Part) → IsRequest ts parts → request (suc (length ts)) ts ≡ Some (parts, [])
request_at ts parts d = request_read_at (length ts) ts parts (λ n. let h = never_more bracket ts 0 n in omega arith) d

pub request_unique : OneRequest
request_unique ts one other d e = (some_pair one other [] [] (sym (request_at ts one d) ∙ request_at ts other e)).0

-- why a request is not read
pub stop_explained : (ts : Lexemes) (fault : GrammarFault) → Fails (request 99 ts) fault → Explains ts fault
stop_explained ts Syntax fails = λ shallow parts is. let read = request_read ts parts shallow is in absurd (cc)
stop_explained ts (NoMemory refusal) fails = tt

pub found_alone : (ts : Lexemes) (parts : List Part) (us : Lexemes) → request 99 ts ≡ Some (parts, us) → us ≡ [] → IsRequest ts parts
found_alone ts parts us h e = request_sound 98 ts parts (h ∙ ap (λ l. Some (parts, l)) e)

pub found_only : (ts : Lexemes) (parts : List Part) (us : Lexemes) → request 99 ts ≡ Some (parts, us) → us ≡ [] → (other : List Part) → IsRequest ts other → parts ≡ other
found_only ts parts us h e other is = request_unique ts parts other (found_alone ts parts us h e) is

-- ---- what is answered

pub answer_found : (ts us : Lexemes) (r : Result (List Part) GrammarFault) → Reads (request 99 ts) r us → OnOk r (us ≡ []) → IfOk r (λ parts. IsRequest ts parts)
answer_found ts us (Ok parts) h e = found_alone ts parts us h e
answer_found ts us (Err fault) h e = tt

pub answer_only : (ts us : Lexemes) (r : Result (List Part) GrammarFault) → Reads (request 99 ts) r us → OnOk r (us ≡ []) → (parts : List Part) → IsRequest ts parts → IfOk r (λ found. found ≡ parts)
answer_only ts us (Ok parts) h e = found_only ts parts us h e
answer_only ts us (Err fault) h e = λ parts is. tt

pub answer_explained : (ts us : Lexemes) (r : Result (List Part) GrammarFault) → Reads (request 99 ts) r us → IfErr r (λ fault. Explains ts fault)
answer_explained ts us (Ok parts) h = tt
answer_explained ts us (Err fault) h = stop_explained ts fault h
