-- The characters of a text with escapes, and the texts that they write.
use Rattle.std.proofs.Common.{◌≡◌, ◌≢◌, ℕ, ◌<◌, true, false, eqb, List, [], ◌∷◌, ◌++◌, length, Option, Some, None, refl, sym, ap, subst, ◌∙◌, inl, inr, append_assoc, length-append, arith, MatchOption, is_some}
use Rattle.std.specs.Char.{encode_utf8}
use Rattle.std.specs.Str.{encode_utf8_all}
use Rattle.std.proofs.lemmas.Bool.{cases_Bool, eqb-true, eqb-false, ne_eqb}
use Rattle.std.proofs.lemmas.List.{append-nil}
use Rattle.rdf_terms.specs.Reading.{escape_at, character_at}
use Rattle.rdf_terms.specs.Escapes.{IsNumericEscape, IsCharacter, Writes}
use Rattle.rdf_terms.proofs.OptionLemmas.{some_pair, none_is}
use Rattle.rdf_terms.proofs.QuotedLemmas.{numeric_begins, escape_sound, escape-short, escape-numeric}

pub character_sound : (cs : List ℕ) (c : ℕ) (rest : List ℕ) → character_at cs ≡ Some (c, rest) → (unit : List ℕ) × (cs ≡ unit ++ rest) × IsCharacter unit c
unfolding character_at
character_sound [] c rest e = none_is (c, rest) e
character_sound (d ∷ cs) c rest e =
    elim (cases_Bool (eqb d 92)) [
      | inl is ↦
          let s = escape_sound cs c rest (rw is at e) in
          (92 ∷ s.0, ap (λ (x : ℕ). x ∷ cs) (eqb-true d 92 is) ∙ ap (λ (t : List ℕ). 92 ∷ t) s.1, inr s.2)
      | inr not ↦
          let p = some_pair d c cs rest (rw not at e) in
          (d ∷ [], ap (λ (t : List ℕ). d ∷ t) p.1, subst (IsCharacter (d ∷ [])) p.0 (inl (refl, eqb-false d 92 not)))
    ]

character-plain : (c : ℕ) (rest : List ℕ) → c ≢ 92 → character_at (c ∷ rest) ≡ Some (c, rest)
unfolding character_at
character-plain c rest q = rw (ne_eqb c 92 q) refl

character-escape : (rest : List ℕ) → character_at (92 ∷ rest) ≡ escape_at rest
unfolding character_at
character-escape rest = refl

pub character_complete : (unit : List ℕ) (c : ℕ) (rest : List ℕ) → IsCharacter unit c → character_at (unit ++ rest) ≡ Some (c, rest)
character_complete unit c rest (inl h) = ap (λ (t : List ℕ). character_at (t ++ rest)) h.0 ∙ character-plain c rest h.1
character_complete unit c rest (inr (inl n)) =
    let b = numeric_begins unit c n in
    ap (λ (t : List ℕ). character_at (t ++ rest)) b.1 ∙ character-escape (b.0 ++ rest)
    ∙ escape-numeric b.0 c rest (subst (λ (t : List ℕ). IsNumericEscape t c) b.1 n)
character_complete unit c rest (inr (inr s)) =
    ap (λ (t : List ℕ). character_at (t ++ rest)) s.1 ∙ character-escape (s.0 ∷ rest) ∙ escape-short s.0 c rest s.2

character_some : (unit : List ℕ) (c : ℕ) → IsCharacter unit c → 0 < length unit
character_some unit c (inl h) = omega (arith, ap length h.0)
character_some unit c (inr (inl n)) = let b = numeric_begins unit c n in omega (arith, ap length b.1)
character_some unit c (inr (inr s)) = omega (arith, ap length s.1)

pub shorter : (cs rest : List ℕ) (c : ℕ) → character_at cs ≡ Some (c, rest) → length rest < length cs
shorter cs rest c e = let s = character_sound cs c rest e in let some = character_some s.0 c s.2 in omega (arith, ap length s.1, length-append s.0 rest)

-- ---- the loop

-- what the text writes is what was read so far and what the rest writes
pub record ReadSoFar (all rest value : List ℕ) : Type 0 where
  pub front : List ℕ
  pub value_is : value ≡ encode_utf8_all front
  pub joins : (cs : List ℕ) → Writes IsCharacter rest cs → Writes IsCharacter all (front ++ cs)
  pub parts : (whole : List ℕ) → Writes IsCharacter all whole → (cs : List ℕ) × (whole ≡ front ++ cs) × Writes IsCharacter rest cs

pub read_start : (all : List ℕ) → ReadSoFar all all []
read_start all = record { front = []; value_is = refl; joins = λ cs w. w; parts = λ whole w. (whole, refl, w) }

push_encodes : (front : List ℕ) (c : ℕ) → encode_utf8_all front ++ encode_utf8 c ≡ encode_utf8_all (front ++ c ∷ [])
push_encodes [] c = sym (append-nil (encode_utf8 c))
push_encodes (d ∷ front) c = append_assoc (encode_utf8 d) (encode_utf8_all front) (encode_utf8 c) ∙ ap (λ (t : List ℕ). encode_utf8 d ++ t) (push_encodes front c)

nothing_at : character_at [] ≡ None
unfolding character_at
nothing_at = refl

-- what a text writes begins with the character at its front
first_of : (rest next : List ℕ) (c : ℕ) (cs : List ℕ) → character_at rest ≡ Some (c, next) → Writes IsCharacter rest cs → (others : List ℕ) × (cs ≡ c ∷ others) × Writes IsCharacter next others
first_of rest next c [] e w = none_is (c, next) (sym (ap character_at w ∙ nothing_at) ∙ e)
first_of rest next c (d ∷ cs) e w =
    let here : character_at rest ≡ Some (d, w.1) = ap character_at w.2 ∙ character_complete w.0 d w.1 w.3 in
    let p = some_pair d c w.1 next (sym here ∙ e) in
    (cs, ap (λ (x : ℕ). x ∷ cs) p.0, subst (λ (t : List ℕ). Writes IsCharacter t cs) p.1 w.4)

pub read_next : (all rest next value : List ℕ) (c : ℕ) → character_at rest ≡ Some (c, next) → ReadSoFar all rest value → ReadSoFar all next (value ++ encode_utf8 c)
read_next all rest next value c e so_far =
    let s = character_sound rest c next e in record {
      front = so_far.front ++ c ∷ [];
      value_is = ap (λ (t : List ℕ). t ++ encode_utf8 c) so_far.value_is ∙ push_encodes so_far.front c;
      joins = λ cs w. subst (λ (t : List ℕ). Writes IsCharacter all t) (sym (append_assoc so_far.front (c ∷ []) cs)) (so_far.joins (c ∷ cs) (s.0, next, s.1, s.2, w));
      parts = λ whole w.
          let p = so_far.parts whole w in
          let f = first_of rest next c p.0 e p.2 in
          (f.0, p.1 ∙ ap (λ (t : List ℕ). so_far.front ++ t) f.1 ∙ sym (append_assoc so_far.front (c ∷ []) f.0), f.2);
    }

pub read_end : (all rest value : List ℕ) → rest ≡ [] → ReadSoFar all rest value → (cs : List ℕ) × Writes IsCharacter all cs × (value ≡ encode_utf8_all cs)
read_end all rest value e so_far =
    (so_far.front ++ [], so_far.joins [] e, so_far.value_is ∙ ap encode_utf8_all (sym (append-nil so_far.front)))

-- no character at the front of a text that isn't empty: it writes nothing
none_of : (rest cs : List ℕ) → character_at rest ≡ None → (rest ≡ [] → ⊥) → Writes IsCharacter rest cs → ⊥
none_of rest [] e some w = some w
none_of rest (d ∷ cs) e some w =
    let here : character_at rest ≡ Some (d, w.1) = ap character_at w.2 ∙ character_complete w.0 d w.1 w.3 in none_is (d, w.1) (sym e ∙ here)

pub read_fails : (all rest value : List ℕ) → character_at rest ≡ None → (rest ≡ [] → ⊥) → ReadSoFar all rest value → (cs : List ℕ) → ¬ Writes IsCharacter all cs
read_fails all rest value e some so_far cs = λ w. let p = so_far.parts cs w in none_of rest p.0 e some p.2

pub peek_some : (o : Option ℕ) (cs : List ℕ) → MatchOption o (cs ≡ []) (λ c. (others : List ℕ) × (cs ≡ c ∷ others)) → is_some o ≡ true → cs ≡ [] → ⊥
peek_some None cs h e = absurd (let bad : ⊥ = cc in bad)
peek_some (Some c) cs h e = λ empty. omega (arith, ap length h.1, ap length empty)

pub peek_none : (o : Option ℕ) (cs : List ℕ) → MatchOption o (cs ≡ []) (λ c. (others : List ℕ) × (cs ≡ c ∷ others)) → is_some o ≡ false → cs ≡ []
peek_none None cs h e = h
peek_none (Some c) cs h e = absurd (let bad : ⊥ = cc in bad)

pub writes_once : (text cs ds : List ℕ) → Writes IsCharacter text cs → Writes IsCharacter text ds → cs ≡ ds
writes_once text [] [] w v = refl
writes_once text [] (d ∷ ds) w v = none_is (d, v.1) (sym (ap character_at w ∙ nothing_at) ∙ ap character_at v.2 ∙ character_complete v.0 d v.1 v.3)
writes_once text (c ∷ cs) ds w v =
    let here : character_at text ≡ Some (c, w.1) = ap character_at w.2 ∙ character_complete w.0 c w.1 w.3 in
    let f = first_of text w.1 c ds here v in
    ap (λ (t : List ℕ). c ∷ t) (writes_once w.1 cs f.0 w.4 f.2) ∙ sym f.1
