-- Language tags: the longest one is read, and it has the form of a tag.
use Rattle.std.proofs.Common.{◌≡◌, ◌⊎◌, ◌<◌, ◌≤◌, ℕ, Bool, true, false, ◌==◌, ◌&&◌, List, [], ◌∷◌, ◌++◌, length, option_map, Some, refl, sym, ap, subst, ◌∙◌, inl, inr, append_assoc, length-append, arith}
use Rattle.std.specs.Char.{is_ascii_alphabetic, is_ascii_alphanumeric}
use Rattle.std.proofs.lemmas.Bool.{cases_Bool, eqb-true, and_parts, true≢false}
use Rattle.rdf_terms.specs.ReadingLaws.{IsGreedy}
use Rattle.rdf_terms.specs.Skips.{skip, some_of}
use Rattle.rdf_terms.specs.Tags.{IsGroups, IsTagName, begins_group, skip_groups, tag_end_at}
use Rattle.rdf_terms.proofs.OptionLemmas.{map_some}
use Rattle.rdf_terms.proofs.SkipLemmas.{AllPass, skip_stop, skip_no_longer, some_sound, some_complete}

-- ---- groups

step_within : (c : ℕ) (cs : List ℕ) → is_ascii_alphanumeric c ≡ true → skip_groups true (c ∷ cs) ≡ skip_groups true cs
unfolding skip_groups
step_within c cs h = rw h refl

step_dash : (b : Bool) (d : ℕ) (cs : List ℕ) → is_ascii_alphanumeric d ≡ true → skip_groups b (45 ∷ d ∷ cs) ≡ skip_groups true cs
unfolding skip_groups begins_group
step_dash false d cs h = rw h refl
step_dash true d cs h = rw h refl

-- the rest of a group, and more groups
abbrev Front : Bool → List ℕ → Type 0
Front b cs =
    (tail others : List ℕ) × (groups : List (List ℕ)) × (cs ≡ tail ++ (others ++ skip_groups b cs)) × AllPass is_ascii_alphanumeric tail
    × IsGroups others groups × ((b ≡ false) → tail ≡ [])

nothing : (b : Bool) (cs : List ℕ) → skip_groups b cs ≡ cs → Front b cs
nothing b cs e = ([], [], [], sym e, tt, refl, λ _. refl)

skip_nil : (b : Bool) → skip_groups b [] ≡ []
unfolding skip_groups
skip_nil b = refl

in_group : (c : ℕ) (cs : List ℕ) → is_ascii_alphanumeric c ≡ true → Front true cs → Front true (c ∷ cs)
in_group c cs h f =
    let e = step_within c cs h in
    rw e (c ∷ f.0, f.1, f.2, ap (λ (t : List ℕ). c ∷ t) f.3, (h, f.4), f.5, λ no_way. absurd (true≢false no_way))

in_dash : (b : Bool) (d : ℕ) (ds : List ℕ) → is_ascii_alphanumeric d ≡ true → Front true ds → Front b (45 ∷ d ∷ ds)
in_dash b d ds h f =
    let e = step_dash b d ds h in
    rw e (
      [],
      45 ∷ ((d ∷ f.0) ++ f.1),
      (d ∷ f.0) ∷ f.2,
      ap (λ (t : List ℕ). 45 ∷ d ∷ t) (f.3 ∙ sym (append_assoc f.0 f.1 (skip_groups true ds))),
      tt,
      (f.1, refl, omega arith, (h, f.4), f.5),
      λ _. refl,
    )

stops : (b : Bool) (c : ℕ) (cs : List ℕ) → (b && is_ascii_alphanumeric c) ≡ false → ((c == 45) && begins_group cs) ≡ false → skip_groups b (c ∷ cs) ≡ c ∷ cs
unfolding skip_groups
stops b c cs h k = rw (h, k) refl

step_case : (b : Bool) (c : ℕ) (cs : List ℕ) → ((b && is_ascii_alphanumeric c) ≡ true) ⊎ ((((c == 45) && begins_group cs) ≡ true) ⊎ (skip_groups b (c ∷ cs) ≡ c ∷ cs))
step_case b c cs =
    elim (cases_Bool (b && is_ascii_alphanumeric c)) [
      | inl goes ↦ inl goes
      | inr not_within ↦
          elim (cases_Bool ((c == 45) && begins_group cs)) [
            | inl dash ↦ inr (inl dash)
            | inr not_dash ↦ inr (inr (stops b c cs not_within not_dash))
          ]
    ]

no_begin : begins_group [] ≡ false
unfolding begins_group
no_begin = refl

begins_is : (d : ℕ) (ds : List ℕ) → begins_group (d ∷ ds) ≡ is_ascii_alphanumeric d
unfolding begins_group
begins_is d ds = refl

within_first : (b : Bool) (c : ℕ) (cs : List ℕ) → (b && is_ascii_alphanumeric c) ≡ true → Front true cs → Front b (c ∷ cs)
within_first true c cs h f = in_group c cs h f
within_first false c cs h f = absurd (true≢false (sym h))

front : (b : Bool) (cs : List ℕ) → Front b cs
front b [] = nothing b [] (skip_nil b)
front b (c ∷ []) =
    elim (step_case b c []) [
      | inl goes ↦ within_first b c [] goes (front true [])
      | inr (inl dash) ↦ absurd (true≢false (sym (and_parts (c == 45) (begins_group []) dash).1 ∙ no_begin))
      | inr (inr stop) ↦ nothing b (c ∷ []) stop
    ]
front b (c ∷ d ∷ ds) =
    elim (step_case b c (d ∷ ds)) [
      | inl goes ↦ within_first b c (d ∷ ds) goes (front true (d ∷ ds))
      | inr (inl dash) ↦
          let parts = and_parts (c == 45) (begins_group (d ∷ ds)) dash in
          subst (λ (x : ℕ). Front b (x ∷ d ∷ ds)) (sym (eqb-true c 45 parts.0)) (in_dash b d ds (sym (begins_is d ds) ∙ parts.1) (front true ds))
      | inr (inr stop) ↦ nothing b (c ∷ d ∷ ds) stop
    ]

-- ---- every group is skipped

over_group : (group cs : List ℕ) → AllPass is_ascii_alphanumeric group → skip_groups true (group ++ cs) ≡ skip_groups true cs
over_group [] cs h = refl
over_group (c ∷ group) cs h = step_within c (group ++ cs) h.0 ∙ over_group group cs h.1

over_dash : (b : Bool) (group cs : List ℕ) → 0 < length group → AllPass is_ascii_alphanumeric group → skip_groups b (45 ∷ (group ++ cs)) ≡ skip_groups true cs
over_dash b [] cs lt h = absurd (omega arith)
over_dash b (d ∷ group) cs lt h = step_dash b d (group ++ cs) h.0 ∙ over_group group cs h.1

dash_stops : (cs : List ℕ) → skip is_ascii_alphabetic (45 ∷ cs) ≡ 45 ∷ cs
dash_stops cs = skip_stop is_ascii_alphabetic 45 cs refl

groups_less : (b : Bool) (cs : List ℕ) → length (skip_groups b cs) ≤ length cs
groups_less b cs =
    let f = front b cs in
    omega (arith, ap length f.3, length-append f.0 (f.1 ++ skip_groups b cs), length-append f.1 (skip_groups b cs))

over_groups : (b : Bool) (groups : List (List ℕ)) (slice rest : List ℕ) → IsGroups slice groups → length (skip_groups b (slice ++ rest)) ≤ length rest
over_groups b [] slice rest h = subst (λ (t : List ℕ). length (skip_groups b (t ++ rest)) ≤ length rest) (sym h) (groups_less b rest)
over_groups b (group ∷ groups) slice rest h =
    let e : skip_groups b (slice ++ rest) ≡ skip_groups true (h.0 ++ rest) =
    ap (λ (t : List ℕ). skip_groups b (t ++ rest)) h.1 ∙ ap (λ (t : List ℕ). skip_groups b (45 ∷ t)) (append_assoc group h.0 rest) ∙ over_dash b group (h.0 ++ rest) h.2 h.3 in
    rw e (over_groups true groups h.0 rest h.4)

-- letters that follow the slice may be taken too, but then it has no groups
letters_stop : (groups : List (List ℕ)) (slice rest : List ℕ) → IsGroups slice groups → length (skip_groups false (skip is_ascii_alphabetic (slice ++ rest))) ≤ length rest
letters_stop [] slice rest h =
    subst (λ (t : List ℕ). length (skip_groups false (skip is_ascii_alphabetic (t ++ rest))) ≤ length rest) (sym h)
    (omega (arith, groups_less false (skip is_ascii_alphabetic rest), skip_no_longer is_ascii_alphabetic rest))
letters_stop (group ∷ groups) slice rest h =
    let e : skip is_ascii_alphabetic (slice ++ rest) ≡ slice ++ rest =
    ap (λ (t : List ℕ). skip is_ascii_alphabetic (t ++ rest)) h.1 ∙ dash_stops ((group ++ h.0) ++ rest) ∙ ap (λ (t : List ℕ). t ++ rest) (sym h.1) in
    rw e (over_groups false (group ∷ groups) slice rest h)

-- ---- tags

end_sound : (cs rest : List ℕ) → tag_end_at cs ≡ Some rest → (name : List ℕ) × (cs ≡ name ++ rest) × IsTagName name
unfolding tag_end_at
end_sound cs rest e =
    let o = map_some (skip_groups false) (some_of is_ascii_alphabetic is_ascii_alphabetic cs) rest e in
    let s = some_sound is_ascii_alphabetic is_ascii_alphabetic cs o.0 o.1 in
    let f = front false o.0 in
    let after : o.0 ≡ f.1 ++ rest = f.3 ∙ ap (λ (t : List ℕ). t ++ (f.1 ++ skip_groups false o.0)) (f.6 refl) ∙ ap (λ (t : List ℕ). f.1 ++ t) o.2 in (
      s.0 ∷ (s.1 ++ f.1),
      s.2 ∙ ap (λ (t : List ℕ). s.0 ∷ t) (ap (λ (t : List ℕ). s.1 ++ t) after ∙ sym (append_assoc s.1 f.1 rest)),
      (s.0, s.1, f.1, f.2, refl, s.3, s.4, f.5),
    )

end_here : (c : ℕ) (letters others after : List ℕ) (groups : List (List ℕ)) → is_ascii_alphabetic c ≡ true → AllPass is_ascii_alphabetic letters → IsGroups others groups
    → (rest : List ℕ) × (tag_end_at (c ∷ ((letters ++ others) ++ after)) ≡ Some rest) × (length rest ≤ length after)
unfolding tag_end_at
end_here c letters others after groups h all g =
    let e : some_of is_ascii_alphabetic is_ascii_alphabetic (c ∷ ((letters ++ others) ++ after)) ≡ Some (skip is_ascii_alphabetic (others ++ after)) =
    ap (λ (t : List ℕ). some_of is_ascii_alphabetic is_ascii_alphabetic (c ∷ t)) (append_assoc letters others after)
    ∙ some_complete is_ascii_alphabetic is_ascii_alphabetic c letters (others ++ after) h all in
    (skip_groups false (skip is_ascii_alphabetic (others ++ after)), ap (option_map (skip_groups false)) e, letters_stop groups others after g)

end_claims : (name after : List ℕ) → IsTagName name → (rest : List ℕ) × (tag_end_at (name ++ after) ≡ Some rest) × (length rest ≤ length after)
end_claims name after h =
    let c = end_here h.0 h.1 h.2 after h.3 h.5 h.6 h.7 in
    (c.0, ap (λ (t : List ℕ). tag_end_at (t ++ after)) h.4 ∙ c.1, c.2)

pub tag_greedy : IsGreedy IsTagName tag_end_at
tag_greedy = record { sound = end_sound; claims = end_claims }
