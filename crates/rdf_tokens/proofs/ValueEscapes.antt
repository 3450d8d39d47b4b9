-- The characters that texts with escapes write.
use Rattle.std.proofs.Common.{◌≡◌, ◌≤◌, ℕ, zero, suc, List, [], ◌∷◌, length, Option, Some, None, refl, sym, ap, subst, ◌∙◌, inl, arith, MatchOption}
use Rattle.std.proofs.lemmas.Bool.{eqb-false}
use Rattle.std.proofs.lemmas.Str.{encodes-chars}
use Rattle.std.specs.Prelude.{option_map, ◌==◌}
use Rattle.std.specs.Str.{chars, encode_utf8_all, IsUtf8, NonePass, NoCharPasses}
use Rattle.rdf_terms.specs.Reading.{character_at}
use Rattle.rdf_terms.specs.Escapes.{IsCharacter, Writes, Unescapes}
use Rattle.rdf_terms.proofs.CallerLemmas.{bind_some, some_is, none_is, character_sound, character_complete, shorter}
use Rattle.rdf_tokens.specs.Values.{written_within, unescaped, text_body, text_value}
use Rattle.rdf_tokens.proofs.ValuePlaces.{none_pass}

character-none : character_at [] ≡ None
unfolding character_at
character-none = refl

first_is : (cs : List ℕ) (d : ℕ) (ds : List ℕ) (w : Writes IsCharacter cs (d ∷ ds)) → character_at cs ≡ Some (d, w.1)
first_is cs d ds w = ap character_at w.2 ∙ character_complete w.0 d w.1 w.3

pub written_complete : (n : ℕ) (cs ds : List ℕ) → length cs ≤ n → Writes IsCharacter cs ds → written_within n cs ≡ Some ds
unfolding written_within
written_complete zero [] [] le w = refl
written_complete zero [] (d ∷ ds) le w = none_is (d, w.1) (sym character-none ∙ first_is [] d ds w)
written_complete zero (c ∷ cs) ds le w = absurd (omega arith)
written_complete (suc n) [] [] le w = refl
written_complete (suc n) [] (d ∷ ds) le w = none_is (d, w.1) (sym character-none ∙ first_is [] d ds w)
written_complete (suc n) (c ∷ cs) [] le w = absurd (let bad : ⊥ = cc in bad)
written_complete (suc n) (c ∷ cs) (d ∷ ds) le w =
    let here = first_is (c ∷ cs) d ds w in
    let short = shorter (c ∷ cs) w.1 d here in
    let others : written_within n w.1 ≡ Some ds = written_complete n w.1 ds (omega arith) w.4 in
    rw here (rw others refl)

written_sound : (n : ℕ) (cs ds : List ℕ) → written_within n cs ≡ Some ds → Writes IsCharacter cs ds
unfolding written_within
written_sound zero [] ds e = subst (Writes IsCharacter []) (some_is [] ds e) refl
written_sound zero (c ∷ cs) ds e = none_is ds e
written_sound (suc n) [] ds e = subst (Writes IsCharacter []) (some_is [] ds e) refl
written_sound (suc n) (c ∷ cs) ds e =
    let a = bind_some (character_at (c ∷ cs)) _ ds e in
    let b = bind_some (written_within n a.0.1) _ ds a.2 in
    let s = character_sound (c ∷ cs) a.0.0 a.0.1 a.1 in
    subst (Writes IsCharacter (c ∷ cs)) (some_is (a.0.0 ∷ b.0) ds b.2) (s.0, a.0.1, s.1, s.2, written_sound n a.0.1 b.0 b.1)

pub unescaped_is : (cs ds : List ℕ) → Writes IsCharacter cs ds → unescaped cs ≡ ds
unfolding unescaped
unescaped_is cs ds w = rw (written_complete (length cs) cs ds (omega arith) w) refl

no_written : (cs : List ℕ) (o : Option (List ℕ)) → ((ds : List ℕ) → ¬ Writes IsCharacter cs ds) → written_within (length cs) cs ≡ o → o ≡ None
no_written cs None none e = refl
no_written cs (Some ds) none e = absurd (none ds (written_sound (length cs) cs ds e))

no_unescaped : (cs : List ℕ) → ((ds : List ℕ) → ¬ Writes IsCharacter cs ds) → unescaped cs ≡ []
unfolding unescaped
no_unescaped cs none = rw (no_written cs (written_within (length cs) cs) none refl) refl

-- what `unescape` answers
pub unescaped_by : {S : Type 0} (bytes : S → List ℕ) (text : List ℕ) (o : Option S) → Unescapes text (option_map bytes o)
    → MatchOption o (encode_utf8_all (unescaped (chars text)) ≡ []) (λ s. encode_utf8_all (unescaped (chars text)) ≡ bytes s)
unescaped_by bytes text None h = ap encode_utf8_all (no_unescaped (chars text) h)
unescaped_by bytes text (Some s) h = ap encode_utf8_all (unescaped_is (chars text) h.0 h.1) ∙ sym h.2

-- ---- a text with no backslash

writes_itself : (cs : List ℕ) → NonePass (λ d. d == 92) cs → Writes IsCharacter cs cs
writes_itself [] none = refl
writes_itself (c ∷ cs) none = (c ∷ [], cs, refl, inl (refl, eqb-false c 92 none.0), writes_itself cs none.1)

pub unescaped_plain : (text : List ℕ) → IsUtf8 text → NoCharPasses (λ d. d == 92) text → encode_utf8_all (unescaped (chars text)) ≡ text
unescaped_plain text u none =
    ap encode_utf8_all (unescaped_is (chars text) (chars text) (writes_itself (chars text) (none_pass (λ d. d == 92) text u none))) ∙ encodes-chars text u

-- ---- a string

pub text_value_by : (slice body : List ℕ) → text_body slice ≡ Some body → text_value slice ≡ encode_utf8_all (unescaped body)
unfolding text_value
text_value_by slice body e = rw e refl

chars_nil : chars [] ≡ []
unfolding chars
chars_nil = refl

pub no_text : (slice : List ℕ) → text_body slice ≡ None → text_value slice ≡ encode_utf8_all (unescaped (chars []))
unfolding text_value
no_text slice e = rw e (ap (λ (t : List ℕ). encode_utf8_all (unescaped t)) (sym chars_nil))
