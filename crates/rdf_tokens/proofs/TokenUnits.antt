-- The units of names: one of each is read.
use Rattle.std.proofs.Common.{◌≡◌, ◌≢◌, ◌⊎◌, ℕ, Bool, true, false, eqb, ◌==◌, ◌||◌, List, [], ◌∷◌, ◌++◌, length, Option, Some, refl, sym, ap, ◌∙◌, inl, inr, length-append, arith}
use Rattle.std.proofs.lemmas.Bool.{cases_Bool, eqb-true, true≢false}
use Rattle.rdf_tokens.specs.declared.token.Kind.{Kind}
use Rattle.rdf_terms.specs.Characters.{is_pn_chars_base, is_pn_chars, is_pn_chars_u}
use Rattle.rdf_tokens.specs.Characters.{is_name_start, is_local_escape}
use Rattle.rdf_tokens.specs.Forms.{IsNamePart, IsPlx, IsLocalFirst, IsLocalPart}
use Rattle.rdf_terms.specs.Dotted.{dotted_at}
use Rattle.rdf_terms.specs.Reading.{hex_at}
use Rattle.rdf_terms.specs.Skips.{one_of}
use Rattle.rdf_tokens.specs.Inside.TokenReading.{name_part_at, local_escape_at, plx_at, local_part_at, local_first_at}
use Rattle.rdf_terms.proofs.CallerLemmas.{IsUnit, dotted_front, one_unit, one_sound, bind_some, some_is, none_is, guard_some, hex_sound, hex_complete}
use Rattle.rdf_tokens.proofs.TokenClaims.{Beats}

-- ---- the run

pub beats_dotted : {Form : List ℕ → Type 0} (k : Kind) (one : List ℕ → Option (List ℕ)) → IsUnit Form one → (rest : List ℕ) → Beats k rest (Some (k, dotted_at one rest))
beats_dotted k one is rest =
    let f = dotted_front one is rest in
    by_front f.0 f.2
  where
    by_front : (xs : List ℕ) → rest ≡ xs ++ dotted_at one rest → Beats k rest (Some (k, dotted_at one rest))
    by_front [] e = inl (ap (λ (t : List ℕ). (k, t)) (sym e))
    by_front (x ∷ xs) e = inr (omega (arith, ap length e, length-append xs (dotted_at one rest)))

-- ---- the units

differs_from : (p : ℕ → Bool) (c d : ℕ) → p c ≡ true → p d ≡ false → c ≢ d
differs_from p c d h k e = true≢false (sym h ∙ ap p e ∙ k)

dot_no_part : is_pn_chars 46 ≡ false
unfolding is_pn_chars is_name_start is_pn_chars_u is_pn_chars_base
dot_no_part = refl

pub name_unit : IsUnit IsNamePart name_part_at
name_unit = one_unit is_pn_chars dot_no_part

plx_sound : (cs rest : List ℕ) → plx_at cs ≡ Some rest → (unit : List ℕ) × (cs ≡ unit ++ rest) × IsPlx unit
unfolding plx_at one_of
plx_sound [] rest e = none_is rest e
plx_sound (c ∷ cs) rest e =
    elim (cases_Bool (eqb c 37)) [
      | inl percent ↦
          let a = bind_some (hex_at cs) _ rest (rw percent at e) in
          let b = bind_some (hex_at a.0.1) _ rest a.2 in
          let x = hex_sound cs a.0.0 a.0.1 a.1 in
          let y = hex_sound a.0.1 b.0.0 b.0.1 b.1 in (
            c ∷ x.0 ∷ y.0 ∷ [],
            ap (λ (t : List ℕ). c ∷ t) (x.1 ∙ ap (λ (t : List ℕ). x.0 ∷ t) (y.1 ∙ ap (λ (t : List ℕ). y.0 ∷ t) (some_is b.0.1 rest b.2))),
            inl (x.0, y.0, ap (λ (d : ℕ). d ∷ x.0 ∷ y.0 ∷ []) (eqb-true c 37 percent), x.3, y.3),
          )
      | inr not_percent ↦
          let g = guard_some (eqb c 92) (local_escape_at cs) rest (rw not_percent at e) in
          let s = one_sound is_local_escape cs rest g.1 in
          let e = s.2 in
          (c ∷ s.0, ap (λ (t : List ℕ). c ∷ t) s.1, inr (e.0, λ i. eqb-true c 92 g.0 i ∷ e.1 i, e.2))
    ]

plx_complete : (unit rest : List ℕ) → IsPlx unit → plx_at (unit ++ rest) ≡ Some rest
unfolding plx_at one_of
plx_complete unit rest (inl h) = rw (h.2, hex_complete h.0 (h.1 ∷ rest) h.3, hex_complete h.1 rest h.4) refl
plx_complete unit rest (inr h) = rw (h.1, h.2) refl

pub plx_begins : (unit : List ℕ) → IsPlx unit → (b : ℕ) × (bs : List ℕ) × (unit ≡ b ∷ bs) × ((b ≡ 37) ⊎ (b ≡ 92))
plx_begins unit (inl h) = (37, h.0 ∷ h.1 ∷ [], h.2, inl refl)
plx_begins unit (inr h) = (92, h.0 ∷ [], h.1, inr refl)

abbrev part : ℕ → Bool
part c = is_pn_chars c || (c == 58)

abbrev first : ℕ → Bool
first c = is_name_start c || (c == 58)

plx_no_part : (b : ℕ) → (b ≡ 37) ⊎ (b ≡ 92) → (part b ≡ false) × (first b ≡ false)
unfolding is_pn_chars is_name_start is_pn_chars_u is_pn_chars_base
plx_no_part b (inl e) = rw e (refl, refl)
plx_no_part b (inr e) = rw e (refl, refl)

local_sound : (cs rest : List ℕ) → local_part_at cs ≡ Some rest → (unit : List ℕ) × (cs ≡ unit ++ rest) × IsLocalPart unit
unfolding local_part_at
local_sound [] rest e = none_is rest e
local_sound (c ∷ cs) rest e =
    elim (cases_Bool (part c)) [
      | inl is ↦ (c ∷ [], ap (λ (t : List ℕ). c ∷ t) (some_is cs rest (rw is at e)), inl (c, refl, is))
      | inr not ↦ let s = plx_sound (c ∷ cs) rest (rw not at e) in (s.0, s.1, inr s.2)
    ]

at_plx : (b : ℕ) (bs : List ℕ) → (b ≡ 37) ⊎ (b ≡ 92) → (local_part_at (b ∷ bs) ≡ plx_at (b ∷ bs)) × (local_first_at (b ∷ bs) ≡ plx_at (b ∷ bs))
unfolding local_part_at local_first_at
at_plx b bs h = let n = plx_no_part b h in (rw n.0 refl, rw n.1 refl)

local_complete : (unit rest : List ℕ) → IsLocalPart unit → local_part_at (unit ++ rest) ≡ Some rest
unfolding local_part_at
local_complete unit rest (inl h) = rw (h.1, h.2) refl
local_complete unit rest (inr h) =
    let b = plx_begins unit h in
    ap (λ (t : List ℕ). local_part_at (t ++ rest)) b.2 ∙ (at_plx b.0 (b.1 ++ rest) b.3).0 ∙ ap (λ (t : List ℕ). plx_at (t ++ rest)) (sym b.2) ∙ plx_complete unit rest h

dot_no_local : part 46 ≡ false
unfolding is_pn_chars is_name_start is_pn_chars_u is_pn_chars_base
dot_no_local = refl

plx_no_dot : (b : ℕ) → (b ≡ 37) ⊎ (b ≡ 92) → b ≢ 46
plx_no_dot b (inl e) same = omega (arith, e, same)
plx_no_dot b (inr e) same = omega (arith, e, same)

local_begins : (unit : List ℕ) → IsLocalPart unit → (b : ℕ) × (bs : List ℕ) × (unit ≡ b ∷ bs) × (b ≢ 46)
local_begins unit (inl h) = (h.0, [], h.1, differs_from part h.0 46 h.2 dot_no_local)
local_begins unit (inr h) = let b = plx_begins unit h in (b.0, b.1, b.2, plx_no_dot b.0 b.3)

pub local_unit : IsUnit IsLocalPart local_part_at
local_unit = record { sound = local_sound; complete = local_complete; begins = local_begins }

pub first_sound : (cs rest : List ℕ) → local_first_at cs ≡ Some rest → (unit : List ℕ) × (cs ≡ unit ++ rest) × IsLocalFirst unit
unfolding local_first_at
first_sound [] rest e = none_is rest e
first_sound (c ∷ cs) rest e =
    elim (cases_Bool (first c)) [
      | inl is ↦ (c ∷ [], ap (λ (t : List ℕ). c ∷ t) (some_is cs rest (rw is at e)), inl (c, refl, is))
      | inr not ↦ let s = plx_sound (c ∷ cs) rest (rw not at e) in (s.0, s.1, inr s.2)
    ]

pub first_complete : (unit rest : List ℕ) → IsLocalFirst unit → local_first_at (unit ++ rest) ≡ Some rest
unfolding local_first_at
first_complete unit rest (inl h) = rw (h.1, h.2) refl
first_complete unit rest (inr h) =
    let b = plx_begins unit h in
    ap (λ (t : List ℕ). local_first_at (t ++ rest)) b.2 ∙ (at_plx b.0 (b.1 ++ rest) b.3).1 ∙ ap (λ (t : List ℕ). plx_at (t ++ rest)) (sym b.2) ∙ plx_complete unit rest h
