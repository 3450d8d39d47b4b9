-- Literals whose lexical form stands in a field as it is.
use Rattle.std.proofs.Common.{◌≡◌, ◌∙◌, ap, refl, sym, ℕ, ◌+◌, ◌<◌, arith, Bool, true, false, ◌==◌, ◌||◌, List, [], ◌∷◌, ◌++◌, codes, get_or, length, take, drop, take-append-drop}
use Rattle.std.specs.List.{flat_map, list_any}
use Rattle.std.proofs.lemmas.Bool.{or_parts, or_from}
use Rattle.std.proofs.lemmas.Bool.Decides.{nat_tests}
use Rattle.std.proofs.lemmas.List.{take_more}
use Rattle.std.proofs.lemmas.List.Folds.{list_any-append}
use Rattle.rdf_terms.specs.Literal.{LiteralParts, is_literal}
use Rattle.rdf_terms.specs.TermText.{escaped, literal_text, suffix_text}
use Rattle.rdf_terms.proofs.CallerLemmas.{literal_parts}
use Rattle.sparql_results.specs.Plain.{is_special}
use Rattle.sparql_results.specs.ResultsText.{without_tab}
use Rattle.sparql_results.proofs.FieldLemmas.{stays_both, suffix_stays}

-- ---- texts part by part

pub plain_parts : (n : ℕ) (text : List ℕ) → list_any is_special (take n text) ≡ false → list_any is_special (drop n text) ≡ false → list_any is_special text ≡ false
plain_parts n text front back =
    ap (list_any is_special) (sym (take-append-drop n text)) ∙ list_any-append is_special (take n text) (drop n text)
    ∙ or_from (list_any is_special (take n text)) (list_any is_special (drop n text)) front back

or_last : (b : Bool) → (b || false) ≡ b
or_last true = refl
or_last false = refl

pub special_more : (text : List ℕ) (i d : ℕ) → i < length text → list_any is_special (take (i + 1) text) ≡ (list_any is_special (take i text) || is_special (get_or text i d))
special_more text i d within =
    ap (list_any is_special) (take_more text i d within) ∙ list_any-append is_special (take i text) (get_or text i d ∷ [])
    ∙ ap (λ b. list_any is_special (take i text) || b) (or_last (is_special (get_or text i d)))

-- ---- what is written as it is

not_tab : (c : ℕ) → is_special c ≡ false → (c == 9) ≡ false
not_tab c h = grind (arith, nat_tests)

not_quote : (c : ℕ) → is_special c ≡ false → (c == 34) ≡ false
not_quote c h = grind (arith, nat_tests)

not_backslash : (c : ℕ) → is_special c ≡ false → (c == 92) ≡ false
not_backslash c h = grind (arith, nat_tests)

not_feed : (c : ℕ) → is_special c ≡ false → (c == 10) ≡ false
not_feed c h = grind (arith, nat_tests)

not_return : (c : ℕ) → is_special c ≡ false → (c == 13) ≡ false
not_return c h = grind (arith, nat_tests)

plain_escaped : (text : List ℕ) → list_any is_special text ≡ false → flat_map escaped text ≡ text
plain_escaped [] h = refl
plain_escaped (c ∷ text) h =
    let parts = or_parts (is_special c) (list_any is_special text) h in
    let quote = not_quote c parts.0 in
    let backslash = not_backslash c parts.0 in
    let feed = not_feed c parts.0 in
    let return = not_return c parts.0 in
    rw (quote, backslash, feed, return) (ap (λ (t : List ℕ). c ∷ t) (plain_escaped text parts.1))

plain_without_tab : (text : List ℕ) → list_any is_special text ≡ false → flat_map without_tab text ≡ text
plain_without_tab [] h = refl
plain_without_tab (c ∷ text) h =
    let parts = or_parts (is_special c) (list_any is_special text) h in
    let tab = not_tab c parts.0 in
    rw tab (ap (λ (t : List ℕ). c ∷ t) (plain_without_tab text parts.1))

pub plain_field : (l : LiteralParts) → is_literal l ≡ true → list_any is_special l.lexical ≡ false →
    flat_map without_tab (literal_text l) ≡ codes "\"" ++ l.lexical ++ codes "\"" ++ suffix_text l.datatype l.tag
plain_field l sound plain =
    let parts = literal_parts l sound in
    let suffix = suffix_text l.datatype l.tag in
    ap (λ (t : List ℕ). flat_map without_tab (34 ∷ ((t ++ 34 ∷ []) ++ suffix))) (plain_escaped l.lexical plain)
    ∙ stays_both (34 ∷ []) ((l.lexical ++ 34 ∷ []) ++ suffix) refl
    (stays_both (l.lexical ++ 34 ∷ []) suffix (stays_both l.lexical (34 ∷ []) (plain_without_tab l.lexical plain) refl) (suffix_stays l.datatype l.tag parts.1 parts.2))
