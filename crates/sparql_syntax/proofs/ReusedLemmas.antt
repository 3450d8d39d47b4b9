-- The first label that is reused stands in front of itself too.
use Rattle.std.proofs.Common.{◌≡◌, ◌<◌, ◌+◌, ◌∙◌, ap, refl, sym, ℕ, suc, Bool, true, false, cond, ◌&&◌, ◌||◌, List, [], ◌∷◌, ◌++◌, length, append_assoc, arith, true≢false}
use Rattle.std.proofs.lemmas.Bool.{and_parts}
use Rattle.std.proofs.lemmas.List.Folds.{list_any-append}
use Rattle.rdf_grammar.specs.Keys.{key_of, same_key}
use Rattle.rdf_grammar.specs.Terminals.{Slice}
use Rattle.sparql_terminals.specs.Lexemes.{Lexeme, Lexemes}
use Rattle.sparql_terminals.specs.declared.terminal.Terminal.{Terminal}
use Rattle.sparql_terminals.specs.declared.terminal.Terminal.TheVariants as terminal
use Rattle.sparql_syntax.specs.declared.clause.Clause.{Clause}
use Rattle.sparql_syntax.specs.declared.clause.Clause.TheVariants as clause
use Rattle.sparql_syntax.specs.BrokenRuleLaws.{is_blank_label, has_label, LabelIsReused}
use Rattle.sparql_syntax.specs.BrokenRules.{ends, is_label, is_reused, is_shared, reused_from, seen_behind}
use Rattle.sparql_syntax.specs.Clauses.{clause_behind}
use Rattle.sparql_syntax.specs.Labels.{is_among}
use Rattle.sparql_syntax.specs.SeenLabels.{Seen, moved_on, none_seen, with_label}
use Rattle.sparql_syntax.proofs.SharedLabels.{known_grows, stands}

or_parts : {P : Type 0} (a b : Bool) → (a ≡ true → P) → (b ≡ true → P) → (a || b) ≡ true → P
or_parts true b p q e = p refl
or_parts false b p q e = q e

or_first : (a b : Bool) → a ≡ true → (a || b) ≡ true
or_first true b e = refl
or_first false b e = absurd (true≢false (sym e))

or_second : (a b : Bool) → b ≡ true → (a || b) ≡ true
or_second true b e = refl
or_second false b e = e

-- ---- labels that were seen stand among the lexemes

label_grows : (label : Slice) (f h : Lexemes) → has_label label (f ++ h) ≡ (has_label label f || has_label label h)
label_grows label f h = list_any-append (λ (t : Lexeme). is_blank_label t.terminal && same_key (key_of label) (key_of t.text)) f h

stays : (label : Slice) (f h : Lexemes) → has_label label f ≡ true → has_label label (f ++ h) ≡ true
stays label f h e = label_grows label f h ∙ or_first (has_label label f) (has_label label h) e

comes : (label : Slice) (f h : Lexemes) → has_label label h ≡ true → has_label label (f ++ h) ≡ true
comes label f h e = label_grows label f h ∙ or_second (has_label label f) (has_label label h) e

record Within (f : Lexemes) (s : Seen) : Type 0 where
  before : (label : Slice) → is_among s.before label ≡ true → has_label label f ≡ true
  here : (label : Slice) → stands (key_of label) s.here ≡ true → has_label label f ≡ true

more_within : (f h : Lexemes) (s : Seen) → Within f s → Within (f ++ h) s
more_within f h s w = record { before = λ label e. stays label f h (w.before label e); here = λ label e. stays label f h (w.here label e) }

moved_within : (f : Lexemes) (s : Seen) → Within f s → Within f (moved_on s)
moved_within f s w = record {
  before = λ label e. or_parts (is_among s.before label) (stands (key_of label) s.here) (w.before label) (w.here label) (sym (known_grows (key_of label) s.here s.before) ∙ e);
  here = λ label e. absurd (true≢false (sym e));
}

label_within : (f : Lexemes) (t : Lexeme) (s : Seen) → is_blank_label t.terminal ≡ true → Within f s → Within (f ++ t ∷ []) (with_label s t.text)
label_within f t s is w = record {
  before = λ label e. stays label f (t ∷ []) (w.before label e);
  here = λ label e. or_parts (stands (key_of label) s.here) (stands (key_of label) (t.text ∷ [])) (λ old. stays label f (t ∷ []) (w.here label old))
      (λ new. comes label f (t ∷ []) (one label new)) (sym (list_any-append (λ (l : List ℕ). same_key (key_of label) (key_of l)) s.here (t.text ∷ [])) ∙ e);
}
  where
    one : (label : Slice) → stands (key_of label) (t.text ∷ []) ≡ true → has_label label (t ∷ []) ≡ true
    one label new = ap (λ (b : Bool). (b && same_key (key_of label) (key_of t.text)) || false) is ∙ new

is_a_label : (place c : Clause) (k : Terminal) → is_label place c k ≡ true → is_blank_label k ≡ true
is_a_label place c terminal.BlankLabel e = refl
is_a_label place c _ e = absurd (true≢false (sym e))

seen_within : (place c : Clause) (f : Lexemes) (t : Lexeme) (s : Seen) → Within f s → Within (f ++ t ∷ []) (seen_behind place c s t.terminal t.text)
seen_within place c f t s w = by (ends place t.terminal) (is_label place c t.terminal) refl
  where
    by : (a b : Bool) → is_label place c t.terminal ≡ b → Within (f ++ t ∷ []) (cond a (moved_on s) (cond b (with_label s t.text) s))
    by true b e = more_within f (t ∷ []) (moved_on s) (moved_within f s w)
    by false true e = label_within f t s (is_a_label place c t.terminal e) w
    by false false e = more_within f (t ∷ []) s w

-- ---- the label that the search comes to

record There (f : Lexemes) (c : Clause) (inserted patterns : Seen) (ts : Lexemes) : Type 0 where
  front : Lexemes
  one : Lexeme
  others : Lexemes
  is : ts ≡ front ++ one ∷ others
  number : length front ≡ reused_from c inserted patterns ts
  label : is_blank_label one.terminal ≡ true
  again : has_label one.text (f ++ front) ≡ true

shared_there : (place c : Clause) (f : Lexemes) (t : Lexeme) (s : Seen) → Within f s → is_shared place c s t.terminal t.text ≡ true → (is_blank_label t.terminal ≡ true) × (has_label t.text f ≡ true)
shared_there place c f t s w e =
    let both = and_parts (is_label place c t.terminal) (is_among s.before t.text) e in
    (is_a_label place c t.terminal both.0, w.before t.text both.1)

step_there : (t : Lexeme) (ts f : Lexemes) (c : Clause) (inserted patterns : Seen) → Within f inserted → Within f patterns → (b : Bool) → is_reused c inserted patterns t.terminal t.text ≡ b
    → (reused_from (clause_behind c t.terminal) (seen_behind clause.InsertData c inserted t.terminal t.text) (seen_behind clause.Pattern c patterns t.terminal t.text) ts < length ts
    → There (f ++ t ∷ []) (clause_behind c t.terminal) (seen_behind clause.InsertData c inserted t.terminal t.text) (seen_behind clause.Pattern c patterns t.terminal t.text) ts)
    → cond b 0 (reused_from (clause_behind c t.terminal) (seen_behind clause.InsertData c inserted t.terminal t.text) (seen_behind clause.Pattern c patterns t.terminal t.text) ts + 1) < suc (length ts) → There f c inserted patterns (t ∷ ts)
step_there t ts f c inserted patterns v w true e others short =
    let found = or_parts (is_shared clause.InsertData c inserted t.terminal t.text) (is_shared clause.Pattern c patterns t.terminal t.text)
    (shared_there clause.InsertData c f t inserted v) (shared_there clause.Pattern c f t patterns w) e in
    record {
      front = [];
      one = t;
      others = ts;
      is = refl;
      number = sym (ap (λ (b : Bool). cond b 0 (reused_from (clause_behind c t.terminal) (seen_behind clause.InsertData c inserted t.terminal t.text) (seen_behind clause.Pattern c patterns t.terminal t.text) ts + 1)) e);
      label = found.0;
      again = stays t.text f [] found.1;
    }
step_there t ts f c inserted patterns v w false e others short =
    let r = others (omega (arith, short)) in
    record {
      front = t ∷ r.front;
      one = r.one;
      others = r.others;
      is = ap (λ (z : Lexemes). t ∷ z) r.is;
      number = (let n : length r.front ≡ reused_from (clause_behind c t.terminal) (seen_behind clause.InsertData c inserted t.terminal t.text) (seen_behind clause.Pattern c patterns t.terminal t.text) ts = r.number in omega (arith, n))
          ∙ sym (ap (λ (b : Bool). cond b 0 (reused_from (clause_behind c t.terminal) (seen_behind clause.InsertData c inserted t.terminal t.text) (seen_behind clause.Pattern c patterns t.terminal t.text) ts + 1)) e);
      label = r.label;
      again = ap (has_label r.one.text) (sym (append_assoc f (t ∷ []) r.front)) ∙ r.again;
    }

one_there : (ts f : Lexemes) (c : Clause) (inserted patterns : Seen) → Within f inserted → Within f patterns → reused_from c inserted patterns ts < length ts → There f c inserted patterns ts
one_there [] f c inserted patterns v w lt = absurd (omega (arith, lt))
one_there (t ∷ ts) f c inserted patterns v w lt =
    step_there t ts f c inserted patterns v w (is_reused c inserted patterns t.terminal t.text) refl
    (one_there ts (f ++ t ∷ []) (clause_behind c t.terminal) (seen_behind clause.InsertData c inserted t.terminal t.text) (seen_behind clause.Pattern c patterns t.terminal t.text)
    (seen_within clause.InsertData c f t inserted v) (seen_within clause.Pattern c f t patterns w)) lt

nothing_within : Within [] none_seen
nothing_within = record { before = λ label e. absurd (true≢false (sym e)); here = λ label e. absurd (true≢false (sym e)) }

pub label_is_reused : LabelIsReused
label_is_reused lexemes lt =
    let r = one_there lexemes [] clause.Pattern none_seen none_seen nothing_within nothing_within lt in
    (r.front, r.one, r.others, r.is, r.number, r.label, r.again)
