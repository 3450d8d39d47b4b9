-- The tokens of written terms: each is read where it stands.
use Rattle.std.proofs.Common.{◌≡◌, ◌∙◌, ap, refl, sym, subst, ℕ, ◌<◌, arith, Bool, true, false, ◌==◌, List, [], ◌∷◌, ◌++◌, length, map, append_assoc, Option, Some, None}
use Rattle.std.specs.Prelude.{option_map}
use Rattle.std.specs.Char.{is_ascii_alphabetic, is_ascii_alphanumeric}
use Rattle.std.specs.List.{flat_map}
use Rattle.rdf_terms.specs.Characters.{is_pn_chars_base, is_pn_chars_u, is_pn_chars}
use Rattle.rdf_terms.specs.Dotted.{skip_dots, dotted_at}
use Rattle.rdf_terms.specs.Quoted.{IsIriRef, IsQuoted}
use Rattle.rdf_terms.specs.Reading.{expect}
use Rattle.rdf_terms.specs.Skips.{skip, some_of, one_of}
use Rattle.rdf_terms.proofs.CallerLemmas.{ones_dotted, dotted_over, dotted_stop, expect_complete, iri_complete, quoted_complete, AllPass, some_complete, skip_stop, is_digit, digit_part, by_escape}
use Rattle.rdf_terms.specs.Tags.{IsGroups, IsTagName, begins_group, skip_groups, tag_end_at}
use Rattle.rdf_terms.specs.TermText.{escaped}
use Rattle.rdf_tokens.specs.declared.token.Kind.TheVariants as kind
use Rattle.rdf_tokens.specs.Characters.{is_name_start}
use Rattle.rdf_tokens.specs.Inside.TokenReading.{as_kind, or_else, iri_end_at, quoted_end_at, two_at, three_at, long_at, text_at, digits_at, skip_sign, fraction_at, unsigned_at, number_at, symbol_at, name_part_at, label_at, blank_at, number_or_symbol_at, token_at}
use Rattle.rdf_tokens.proofs.CallerLemmas.{name_unit}

-- ---- IRIs

at_angle : (cs : List ℕ) → token_at (60 ∷ cs) ≡ or_else (as_kind kind.Iri (iri_end_at (60 ∷ cs))) (number_or_symbol_at (60 ∷ cs))
unfolding token_at
at_angle cs = refl

pub iri_token : (body text rest : List ℕ) → IsIriRef (60 ∷ body) text → token_at ((60 ∷ body) ++ rest) ≡ Some (kind.Iri, rest)
iri_token body text rest h =
    let read : iri_end_at ((60 ∷ body) ++ rest) ≡ Some rest = ap (option_map (λ read. read.1)) (iri_complete (60 ∷ body) text rest h) in
    at_angle (body ++ rest) ∙ ap (λ (o : Option (List ℕ)). or_else (as_kind kind.Iri o) (number_or_symbol_at ((60 ∷ body) ++ rest))) read

-- ---- symbols

pub caret_token : (rest : List ℕ) → token_at (94 ∷ 94 ∷ rest) ≡ Some (kind.Symbol, rest)
unfolding token_at is_pn_chars_base number_or_symbol_at number_at skip_sign unsigned_at digits_at some_of fraction_at expect symbol_at
caret_token rest = refl

pub dot_token : (rest : List ℕ) → token_at (46 ∷ 10 ∷ rest) ≡ Some (kind.Symbol, 10 ∷ rest)
unfolding token_at is_pn_chars_base number_or_symbol_at number_at skip_sign unsigned_at digits_at some_of fraction_at expect symbol_at
dot_token rest = refl

-- ---- strings

not_here : (c wanted : ℕ) (cs : List ℕ) → (c == wanted) ≡ false → expect wanted (c ∷ cs) ≡ None
unfolding expect
not_here c wanted cs h = rw h refl

expect_here : (wanted : ℕ) (cs : List ℕ) → expect wanted (wanted ∷ cs) ≡ Some cs
expect_here wanted cs = expect_complete wanted cs

-- no third quote stands behind an empty string, and no second one where another begins
no_escape : (c : ℕ) (cs : List ℕ) → expect 34 (escaped c ++ cs) ≡ None
no_escape c cs = by_escape (λ x unit. expect 34 (unit ++ cs) ≡ None) (not_here 92 34 _ refl) (not_here 92 34 _ refl) (not_here 92 34 _ refl) (not_here 92 34 _ refl) (λ x q b f r. not_here x 34 cs q) c

no_three : (cs : List ℕ) (d : ℕ) (rest : List ℕ) → (d == 34) ≡ false → three_at 34 (34 ∷ (flat_map escaped cs ++ 34 ∷ d ∷ rest)) ≡ None
unfolding three_at two_at
no_three [] d rest h = rw (expect_here 34 (34 ∷ d ∷ rest), expect_here 34 (d ∷ rest), not_here d 34 rest h) refl
no_three (c ∷ cs) d rest h =
    let none : expect 34 ((escaped c ++ flat_map escaped cs) ++ 34 ∷ d ∷ rest) ≡ None =
    ap (expect 34) (append_assoc (escaped c) (flat_map escaped cs) (34 ∷ d ∷ rest)) ∙ no_escape c (flat_map escaped cs ++ 34 ∷ d ∷ rest) in
    rw (expect_here 34 ((escaped c ++ flat_map escaped cs) ++ 34 ∷ d ∷ rest), none) refl

at_quote : (cs : List ℕ) → token_at (34 ∷ cs) ≡ as_kind kind.Text (text_at 34 (34 ∷ cs))
unfolding token_at
at_quote cs = refl

short_text : (cs rest : List ℕ) → three_at 34 cs ≡ None → quoted_end_at 34 cs ≡ Some rest → text_at 34 cs ≡ Some rest
unfolding text_at long_at
short_text cs rest none read = rw (none, read) refl

pub text_token : (cs : List ℕ) (text : List ℕ) (d : ℕ) (rest : List ℕ) → (d == 34) ≡ false → IsQuoted 34 (34 ∷ (flat_map escaped cs ++ 34 ∷ [])) text
    → token_at ((34 ∷ (flat_map escaped cs ++ 34 ∷ [])) ++ d ∷ rest) ≡ Some (kind.Text, d ∷ rest)
text_token cs text d rest h form =
    let whole = (34 ∷ (flat_map escaped cs ++ 34 ∷ [])) ++ d ∷ rest in
    let none : three_at 34 whole ≡ None = ap (λ (t : List ℕ). three_at 34 (34 ∷ t)) (append_assoc (flat_map escaped cs) (34 ∷ []) (d ∷ rest)) ∙ no_three cs d rest h in
    let read : quoted_end_at 34 whole ≡ Some (d ∷ rest) =
    ap (option_map (λ read. read.1)) (quoted_complete 34 (λ e. omega (arith, e)) (34 ∷ (flat_map escaped cs ++ 34 ∷ [])) text (d ∷ rest) form) in
    at_quote ((flat_map escaped cs ++ 34 ∷ []) ++ d ∷ rest) ∙ ap (as_kind kind.Text) (short_text whole (d ∷ rest) none read)

-- ---- blank labels

digits_parts : (ds : List ℕ) → AllPass is_digit ds → AllPass is_pn_chars ds
digits_parts [] h = tt
digits_parts (d ∷ ds) h = (digit_part d h.0, digits_parts ds h.1)

space_stops : (rest : List ℕ) → name_part_at (skip_dots (32 ∷ rest)) ≡ None
unfolding one_of skip is_pn_chars is_pn_chars_u is_pn_chars_base
space_stops rest = refl

b_starts : is_name_start 98 ≡ true
unfolding is_name_start is_pn_chars_u is_pn_chars_base
b_starts = refl

label_here : (ds rest : List ℕ) → AllPass is_digit ds → label_at (98 ∷ (ds ++ 32 ∷ rest)) ≡ Some (32 ∷ rest)
unfolding label_at
label_here ds rest h =
    let over : dotted_at name_part_at (ds ++ 32 ∷ rest) ≡ 32 ∷ rest =
    dotted_over name_part_at name_unit (map (λ d. d ∷ []) ds) ds (32 ∷ rest) (ones_dotted is_pn_chars ds (digits_parts ds h)) ∙ dotted_stop name_part_at (32 ∷ rest) (space_stops rest) in
    rw (b_starts, over) refl

blank_here : (cs rest : List ℕ) → label_at cs ≡ Some rest → blank_at (58 ∷ cs) ≡ Some rest
unfolding blank_at
blank_here cs rest e = rw (expect_here 58 cs) e

at_underscore : (cs : List ℕ) → token_at (95 ∷ cs) ≡ as_kind kind.BlankLabel (blank_at cs)
unfolding token_at
at_underscore cs = refl

pub label_token : (ds rest : List ℕ) → AllPass is_digit ds → token_at ((95 ∷ 58 ∷ 98 ∷ ds) ++ 32 ∷ rest) ≡ Some (kind.BlankLabel, 32 ∷ rest)
label_token ds rest h =
    at_underscore (58 ∷ 98 ∷ (ds ++ 32 ∷ rest)) ∙ ap (as_kind kind.BlankLabel) (blank_here (98 ∷ (ds ++ 32 ∷ rest)) (32 ∷ rest) (label_here ds rest h))

-- ---- tags

in_group : (group cs : List ℕ) → AllPass is_ascii_alphanumeric group → skip_groups true (group ++ cs) ≡ skip_groups true cs
unfolding skip_groups
in_group [] cs h = refl
in_group (c ∷ group) cs h = rw h.0 (in_group group cs h.1)

begin_group : (b : Bool) (group cs : List ℕ) → 0 < length group → AllPass is_ascii_alphanumeric group → skip_groups b (45 ∷ (group ++ cs)) ≡ skip_groups true cs
unfolding skip_groups begins_group
begin_group b [] cs some h = absurd (omega (arith, some))
begin_group true (c ∷ group) cs some h = rw h.0 (in_group group cs h.1)
begin_group false (c ∷ group) cs some h = rw h.0 (in_group group cs h.1)

space_ends : (b : Bool) (rest : List ℕ) → skip_groups b (32 ∷ rest) ≡ 32 ∷ rest
unfolding skip_groups
space_ends true rest = refl
space_ends false rest = refl

over_groups : (b : Bool) (groups : List (List ℕ)) (slice rest : List ℕ) → IsGroups slice groups → skip_groups b (slice ++ 32 ∷ rest) ≡ 32 ∷ rest
over_groups b [] slice rest h = ap (λ (t : List ℕ). skip_groups b (t ++ 32 ∷ rest)) h ∙ space_ends b rest
over_groups b (group ∷ groups) slice rest h =
    ap (λ (t : List ℕ). skip_groups b (t ++ 32 ∷ rest)) h.1
    ∙ ap (λ (t : List ℕ). skip_groups b (45 ∷ t)) (append_assoc group h.0 (32 ∷ rest))
    ∙ begin_group b group (h.0 ++ 32 ∷ rest) h.2 h.3
    ∙ over_groups true groups h.0 rest h.4

letters_stop : (groups : List (List ℕ)) (slice rest : List ℕ) → IsGroups slice groups → skip is_ascii_alphabetic (slice ++ 32 ∷ rest) ≡ slice ++ 32 ∷ rest
letters_stop [] slice rest h = subst (λ (t : List ℕ). skip is_ascii_alphabetic (t ++ 32 ∷ rest) ≡ t ++ 32 ∷ rest) (sym h) (skip_stop is_ascii_alphabetic 32 rest refl)
letters_stop (group ∷ groups) slice rest h =
    subst (λ (t : List ℕ). skip is_ascii_alphabetic (t ++ 32 ∷ rest) ≡ t ++ 32 ∷ rest) (sym h.1) (skip_stop is_ascii_alphabetic 45 ((group ++ h.0) ++ 32 ∷ rest) refl)

tag_here : (tag rest : List ℕ) → IsTagName tag → tag_end_at (tag ++ 32 ∷ rest) ≡ Some (32 ∷ rest)
unfolding tag_end_at
tag_here tag rest h =
    let whole : tag ++ 32 ∷ rest ≡ h.0 ∷ (h.1 ++ (h.2 ++ 32 ∷ rest)) =
    ap (λ (t : List ℕ). t ++ 32 ∷ rest) h.4 ∙ ap (λ (t : List ℕ). h.0 ∷ t) (append_assoc h.1 h.2 (32 ∷ rest)) in
    let letters : some_of is_ascii_alphabetic is_ascii_alphabetic (tag ++ 32 ∷ rest) ≡ Some (h.2 ++ 32 ∷ rest) =
    ap (some_of is_ascii_alphabetic is_ascii_alphabetic) whole ∙ some_complete is_ascii_alphabetic is_ascii_alphabetic h.0 h.1 (h.2 ++ 32 ∷ rest) h.5 h.6
    ∙ ap (λ (t : List ℕ). Some t) (letters_stop h.3 h.2 rest h.7) in
    ap (option_map (skip_groups false)) letters ∙ ap (λ (t : List ℕ). Some t) (over_groups false h.3 h.2 rest h.7)

at_sign : (cs : List ℕ) → token_at (64 ∷ cs) ≡ as_kind kind.AtWord (tag_end_at cs)
unfolding token_at
at_sign cs = refl

pub tag_token : (tag rest : List ℕ) → IsTagName tag → token_at ((64 ∷ tag) ++ 32 ∷ rest) ≡ Some (kind.AtWord, 32 ∷ rest)
tag_token tag rest h = at_sign (tag ++ 32 ∷ rest) ∙ ap (as_kind kind.AtWord) (tag_here tag rest h)
