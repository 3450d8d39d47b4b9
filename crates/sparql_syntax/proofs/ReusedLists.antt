-- The labels of a text in lists, place by place: the search for a reused label finds one just where some list repeats one.
use Rattle.std.proofs.Common.{◌≡◌, ◌<◌, ◌+◌, ◌∙◌, ap, refl, sym, ℕ, suc, Bool, true, false, cond, ◌&&◌, ◌||◌, List, [], ◌∷◌, ◌++◌, length, arith, true≢false}
use Rattle.std.proofs.lemmas.List.Folds.{list_any-append}
use Rattle.std.specs.List.{list_any}
use Rattle.rdf_grammar.specs.Keys.{key_of, same_key}
use Rattle.sparql_terminals.specs.Lexemes.{Lexeme, Lexemes}
use Rattle.sparql_terminals.specs.declared.terminal.Terminal.{Terminal}
use Rattle.sparql_terminals.specs.declared.terminal.Terminal.TheVariants as terminal
use Rattle.sparql_queries.specs.Groups.{Labels}
use Rattle.sparql_syntax.specs.declared.clause.Clause.{Clause}
use Rattle.sparql_syntax.specs.declared.clause.Clause.TheVariants as clause
use Rattle.sparql_syntax.specs.BrokenRules.{ends, first_reused, is_label, is_reused, is_shared, reused_from, seen_behind}
use Rattle.sparql_syntax.specs.Clauses.{clause_behind}
use Rattle.sparql_syntax.specs.Labels.{is_among, repeats_label}
use Rattle.sparql_syntax.specs.RuleLaws.{stands_in}
use Rattle.sparql_syntax.specs.SeenLabels.{Seen, moved_on, none_seen, with_label}
use Rattle.sparql_syntax.proofs.SharedLabels.{Keys, or_no, or_assoc, times}

-- ---- the lists

-- those of the place at hand, with these so far, and of the places behind it
abbrev pub parted : Clause → Clause → Keys → Lexemes → Labels
parted place c here [] = here ∷ []
parted place c here (t ∷ ts) =
    cond (ends place t.terminal) (here ∷ parted place (clause_behind c t.terminal) [] ts)
    (parted place (clause_behind c t.terminal) (cond (is_label place c t.terminal) (here ++ t.text ∷ []) here) ts)

-- a lexeme is a label of a place before its own
abbrev pub is_found : Clause → Clause → Seen → Lexemes → Bool
is_found place c s [] = false
is_found place c s (t ∷ ts) = is_shared place c s t.terminal t.text || is_found place (clause_behind c t.terminal) (seen_behind place c s t.terminal t.text) ts

-- no label ends a place
never_both : (place c : Clause) (k : Terminal) → ends place k ≡ true → is_label place c k ≡ true → true ≡ false
never_both clause.InsertData c terminal.BlankLabel e f = sym e
never_both clause.Pattern c terminal.BlankLabel e f = sym e
never_both _ c terminal.BlankLabel e f = sym e
never_both place c _ e f = sym f

-- the lists repeat a label just where one of the place at hand is known, or one is found
repeats : (place : Clause) (ts : Lexemes) (c : Clause) (s : Seen) → repeats_label s.before (parted place c s.here ts) ≡ (list_any (is_among s.before) s.here || is_found place c s ts)
repeats place [] c s = refl
repeats place (t ∷ ts) c s = by (ends place t.terminal) (is_label place c t.terminal) refl refl (repeats place ts (clause_behind c t.terminal))
  where
    by : (a b : Bool) → ends place t.terminal ≡ a → is_label place c t.terminal ≡ b
        → ((u : Seen) → repeats_label u.before (parted place (clause_behind c t.terminal) u.here ts) ≡ (list_any (is_among u.before) u.here || is_found place (clause_behind c t.terminal) u ts))
        → repeats_label s.before (cond a (s.here ∷ parted place (clause_behind c t.terminal) [] ts) (parted place (clause_behind c t.terminal) (cond b (s.here ++ t.text ∷ []) s.here) ts))
        ≡ (list_any (is_among s.before) s.here || ((b && is_among s.before t.text) || is_found place (clause_behind c t.terminal) (cond a (moved_on s) (cond b (with_label s t.text) s)) ts))
    by true true e f rest = absurd (true≢false (never_both place c t.terminal e f))
    by true false e f rest = ap (λ (b : Bool). list_any (is_among s.before) s.here || b) (rest (moved_on s))
    by false true e f rest =
        rest (with_label s t.text)
        ∙ ap (λ (b : Bool). b || is_found place (clause_behind c t.terminal) (with_label s t.text) ts) (list_any-append (is_among s.before) s.here (t.text ∷ []))
        ∙ ap (λ (b : Bool). (list_any (is_among s.before) s.here || b) || is_found place (clause_behind c t.terminal) (with_label s t.text) ts) (or_no (is_among s.before t.text))
        ∙ or_assoc (list_any (is_among s.before) s.here) (is_among s.before t.text) (is_found place (clause_behind c t.terminal) (with_label s t.text) ts)
    by false false e f rest = rest s

-- ---- the search

abbrev Either : Clause → Seen → Seen → Lexemes → Bool
Either c inserted patterns ts = is_found clause.InsertData c inserted ts || is_found clause.Pattern c patterns ts

swapped : (a b f g : Bool) → ((a || f) || (b || g)) ≡ ((a || b) || (f || g))
swapped true b f g = refl
swapped false true true g = refl
swapped false true false g = refl
swapped false false f g = refl

-- the search ends early just where one is found
record Same (n size : ℕ) (b : Bool) : Type 0 where
  comes : n < size → b ≡ true
  goes : b ≡ true → n < size

-- behind one lexeme
abbrev Rest : Clause → Seen → Seen → Lexeme → Lexemes → Bool
Rest c inserted patterns t ts = Either (clause_behind c t.terminal) (seen_behind clause.InsertData c inserted t.terminal t.text) (seen_behind clause.Pattern c patterns t.terminal t.text) ts

abbrev number : Clause → Seen → Seen → Lexeme → Lexemes → ℕ
number c inserted patterns t ts = reused_from (clause_behind c t.terminal) (seen_behind clause.InsertData c inserted t.terminal t.text) (seen_behind clause.Pattern c patterns t.terminal t.text) ts

turned : (c : Clause) (inserted patterns : Seen) (t : Lexeme) (ts : Lexemes) → Either c inserted patterns (t ∷ ts) ≡ (is_reused c inserted patterns t.terminal t.text || Rest c inserted patterns t ts)
turned c inserted patterns t ts =
    swapped (is_shared clause.InsertData c inserted t.terminal t.text) (is_shared clause.Pattern c patterns t.terminal t.text)
    (is_found clause.InsertData (clause_behind c t.terminal) (seen_behind clause.InsertData c inserted t.terminal t.text) ts)
    (is_found clause.Pattern (clause_behind c t.terminal) (seen_behind clause.Pattern c patterns t.terminal t.text) ts)

one_more : (c : Clause) (inserted patterns : Seen) (t : Lexeme) (ts : Lexemes) (b : Bool) → is_reused c inserted patterns t.terminal t.text ≡ b → Same (number c inserted patterns t ts) (length ts) (Rest c inserted patterns t ts)
    → Same (cond b 0 (number c inserted patterns t ts + 1)) (suc (length ts)) (Either c inserted patterns (t ∷ ts))
one_more c inserted patterns t ts true e rest = record {
  comes = λ lt. turned c inserted patterns t ts ∙ ap (λ (b : Bool). b || Rest c inserted patterns t ts) e;
  goes = λ f. omega arith;
}
one_more c inserted patterns t ts false e rest = record {
  comes = λ lt. turned c inserted patterns t ts ∙ ap (λ (b : Bool). b || Rest c inserted patterns t ts) e ∙ rest.comes (omega (arith, lt));
  goes = λ f. (
      let short = rest.goes (ap (λ (b : Bool). b || Rest c inserted patterns t ts) (sym e) ∙ sym (turned c inserted patterns t ts) ∙ f) in
      omega (arith, short)
      );
}

searched : (ts : Lexemes) (c : Clause) (inserted patterns : Seen) → Same (reused_from c inserted patterns ts) (length ts) (Either c inserted patterns ts)
searched [] c inserted patterns = record { comes = λ lt. absurd (omega (arith, lt)); goes = λ e. absurd (true≢false (sym e)) }
searched (t ∷ ts) c inserted patterns =
    one_more c inserted patterns t ts (is_reused c inserted patterns t.terminal t.text) refl
    (searched ts (clause_behind c t.terminal) (seen_behind clause.InsertData c inserted t.terminal t.text) (seen_behind clause.Pattern c patterns t.terminal t.text))

abbrev pub Inserted : Lexemes → Labels
Inserted ts = parted clause.InsertData clause.Pattern [] ts

abbrev pub Stated : Lexemes → Labels
Stated ts = parted clause.Pattern clause.Pattern [] ts

lists_are : (ts : Lexemes) → Either clause.Pattern none_seen none_seen ts ≡ (repeats_label [] (Inserted ts) || repeats_label [] (Stated ts))
lists_are ts =
    ap (λ (b : Bool). b || is_found clause.Pattern clause.Pattern none_seen ts) (sym (repeats clause.InsertData ts clause.Pattern none_seen))
    ∙ ap (λ (b : Bool). repeats_label [] (Inserted ts) || b) (sym (repeats clause.Pattern ts clause.Pattern none_seen))

pub found_repeats : (ts : Lexemes) → first_reused ts < length ts → (repeats_label [] (Inserted ts) || repeats_label [] (Stated ts)) ≡ true
found_repeats ts lt = sym (lists_are ts) ∙ (searched ts clause.Pattern none_seen none_seen).comes lt

pub repeats_found : (ts : Lexemes) → (repeats_label [] (Inserted ts) || repeats_label [] (Stated ts)) ≡ true → first_reused ts < length ts
repeats_found ts e = (searched ts clause.Pattern none_seen none_seen).goes (lists_are ts ∙ e)

-- ---- in how many of them a label stands

abbrev pub once : Bool → ℕ → ℕ
once h n = cond h (1 + n) n

-- the label stands among those of the place at hand so far, or doesn't
abbrev pub run : Clause → List ℕ → Clause → Bool → Lexemes → ℕ
run place label c h [] = once h 0
run place label c h (t ∷ ts) =
    cond (ends place t.terminal) (once h (run place label (clause_behind c t.terminal) false ts))
    (run place label (clause_behind c t.terminal) (h || (is_label place c t.terminal && same_key (key_of label) (key_of t.text))) ts)

pub times_run : (place : Clause) (label : List ℕ) (ts : Lexemes) (c : Clause) (here : Keys) → times label (parted place c here ts) ≡ run place label c (stands_in label here) ts
unfolding times
times_run place label [] c here = refl
times_run place label (t ∷ ts) c here = by (ends place t.terminal) (is_label place c t.terminal) (times_run place label ts (clause_behind c t.terminal))
  where
    by : (a b : Bool) → ((labels : Keys) → times label (parted place (clause_behind c t.terminal) labels ts) ≡ run place label (clause_behind c t.terminal) (stands_in label labels) ts)
        → times label (cond a (here ∷ parted place (clause_behind c t.terminal) [] ts) (parted place (clause_behind c t.terminal) (cond b (here ++ t.text ∷ []) here) ts))
        ≡ cond a (once (stands_in label here) (run place label (clause_behind c t.terminal) false ts))
        (run place label (clause_behind c t.terminal) (stands_in label here || (b && same_key (key_of label) (key_of t.text))) ts)
    by true b rest = ap (λ (n : ℕ). once (stands_in label here) n) (rest [])
    by false true rest =
        rest (here ++ t.text ∷ [])
        ∙ ap (λ (b : Bool). run place label (clause_behind c t.terminal) b ts) (list_any-append (λ (l : List ℕ). same_key (key_of label) (key_of l)) here (t.text ∷ []))
        ∙ ap (λ (b : Bool). run place label (clause_behind c t.terminal) (stands_in label here || b) ts) (or_no (same_key (key_of label) (key_of t.text)))
    by false false rest = rest here ∙ ap (λ (b : Bool). run place label (clause_behind c t.terminal) b ts) (sym (or_no (stands_in label here)))
