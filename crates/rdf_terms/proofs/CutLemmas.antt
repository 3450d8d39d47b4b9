-- Where a text is cut.
use Rattle.std.proofs.Common.{◌≡◌, ℕ, ◌+◌, ◌-◌, ◌<◌, ◌≤◌, ◌⊎◌, Bool, true, false, eqb, ltb, suc, List, [], ◌∷◌, ◌++◌, Option, Some, None, length, take, drop, get_or, refl, sym, ap, ◌∙◌, inl, inr, arith, append_assoc, add-one, IfSome}
use Rattle.std.specs.List.{list_any, position_or_len, position}
use Rattle.std.proofs.lemmas.Bool.{cases_Bool, eqb-true, eq-eqb, ne_eqb, or_from, or_right, cond-true, cond-false, le-ltb, cases_lt, lt-ltb}
use Rattle.std.proofs.lemmas.List.{append-nil, take_all, take_rest, take_more, take_at, drop_at, length-append}
use Rattle.rdf_terms.specs.Cuts.{before, after, up_to_slash}
use Rattle.rdf_terms.specs.Reference.{Lacks, marked}

abbrev pub place : ℕ → List ℕ → ℕ
place mark cs = position_or_len (λ c. eqb c mark) cs

one_more : (n : ℕ) → 1 + n ≡ suc n
one_more n = omega arith

take_place : (mark : ℕ) (cs : List ℕ) → take (place mark cs) cs ≡ before mark cs
take_place mark [] = refl
take_place mark (c ∷ cs) =
    elim (cases_Bool (eqb c mark)) [
      | inl is ↦ rw is refl
      | inr not ↦ rw (not, one_more (place mark cs)) (ap (λ (t : List ℕ). c ∷ t) (take_place mark cs))
    ]

after_some : (mark : ℕ) (cs : List ℕ) → place mark cs < length cs → Some (drop (suc (place mark cs)) cs) ≡ after mark cs
after_some mark [] h = absurd (omega arith)
after_some mark (c ∷ cs) h =
    elim (cases_Bool (eqb c mark)) [
      | inl is ↦ rw is refl
      | inr not ↦ let g = rw not at h in let below : place mark cs < length cs = omega arith in rw (not, one_more (place mark cs)) (after_some mark cs below)
    ]

after_none : (mark : ℕ) (cs : List ℕ) → length cs ≤ place mark cs → after mark cs ≡ None
after_none mark [] h = refl
after_none mark (c ∷ cs) h =
    elim (cases_Bool (eqb c mark)) [
      | inl is ↦ let g = rw is at h in absurd (omega arith)
      | inr not ↦ let g = rw not at h in let past : length cs ≤ place mark cs = omega arith in rw not (after_none mark cs past)
    ]

pub some_place : (mark : ℕ) (cs : List ℕ) (n : ℕ) → Some n ≡ position (λ c. eqb c mark) cs → (take n cs ≡ before mark cs) × (Some (drop (n + 1) cs) ≡ after mark cs)
some_place mark cs n e =
    elim (cases_lt (place mark cs) (length cs)) [
      | inl below ↦
          let whole : Some n ≡ Some (place mark cs) = e ∙ cond-true (ltb (place mark cs) (length cs)) (Some (place mark cs)) None (lt-ltb (place mark cs) (length cs) below) in
          let same : n ≡ place mark cs = cc in
          (rw same (take_place mark cs), rw (same, add-one) (after_some mark cs below))
      | inr past ↦
          let whole : Some n ≡ None = e ∙ cond-false (ltb (place mark cs) (length cs)) (Some (place mark cs)) None (le-ltb (place mark cs) (length cs) past) in
          absurd (let bad : ⊥ = cc in bad)
    ]

pub none_place : (mark : ℕ) (cs : List ℕ) → None ≡ position (λ c. eqb c mark) cs → (cs ≡ before mark cs) × (None ≡ after mark cs)
none_place mark cs e =
    elim (cases_lt (place mark cs) (length cs)) [
      | inl below ↦
          let whole : None ≡ Some (place mark cs) = e ∙ cond-true (ltb (place mark cs) (length cs)) (Some (place mark cs)) None (lt-ltb (place mark cs) (length cs) below) in
          absurd (let bad : ⊥ = cc in bad)
      | inr past ↦ (sym (take_all (place mark cs) cs past) ∙ take_place mark cs, sym (after_none mark cs past))
    ]

pub take_rest_of : (cs : List ℕ) (n : ℕ) → Some (take (length cs - (n + 1)) (drop (n + 1) cs)) ≡ Some (drop (n + 1) cs)
take_rest_of cs n = ap (λ (t : List ℕ). Some t) (take_rest cs (n + 1))

-- ---- a text that lacks the mark, and then the mark or the end

pub before_lacks : (mark : ℕ) (front : List ℕ) → Lacks mark front → before mark front ≡ front
before_lacks mark [] h = refl
before_lacks mark (c ∷ cs) h = let e : eqb c mark ≡ false = h.0 in rw e (ap (λ (t : List ℕ). c ∷ t) (before_lacks mark cs h.1))

pub after_lacks : (mark : ℕ) (front : List ℕ) → Lacks mark front → after mark front ≡ None
after_lacks mark [] h = refl
after_lacks mark (c ∷ cs) h = let e : eqb c mark ≡ false = h.0 in rw e (after_lacks mark cs h.1)

pub before_joined : (mark : ℕ) (front rest : List ℕ) → Lacks mark front → before mark (front ++ mark ∷ rest) ≡ front
before_joined mark [] rest h = let e : eqb mark mark ≡ true = eq-eqb mark mark refl in rw e refl
before_joined mark (c ∷ cs) rest h = let e : eqb c mark ≡ false = h.0 in rw e (ap (λ (t : List ℕ). c ∷ t) (before_joined mark cs rest h.1))

pub after_joined : (mark : ℕ) (front rest : List ℕ) → Lacks mark front → after mark (front ++ mark ∷ rest) ≡ Some rest
after_joined mark [] rest h = let e : eqb mark mark ≡ true = eq-eqb mark mark refl in rw e refl
after_joined mark (c ∷ cs) rest h = let e : eqb c mark ≡ false = h.0 in rw e (after_joined mark cs rest h.1)

pub before_marked : (mark : ℕ) (front : List ℕ) (rest : Option (List ℕ)) → Lacks mark front → before mark (front ++ marked (mark ∷ []) rest) ≡ front
before_marked mark front None h = rw append-nil (before_lacks mark front h)
before_marked mark front (Some rest) h = before_joined mark front rest h

pub after_marked : (mark : ℕ) (front : List ℕ) (rest : Option (List ℕ)) → Lacks mark front → after mark (front ++ marked (mark ∷ []) rest) ≡ rest
after_marked mark front None h = rw append-nil (after_lacks mark front h)
after_marked mark front (Some rest) h = after_joined mark front rest h

-- the two parts joined are the text
pub cut_joins : (mark : ℕ) (cs : List ℕ) → cs ≡ before mark cs ++ marked (mark ∷ []) (after mark cs)
cut_joins mark [] = refl
cut_joins mark (c ∷ cs) =
    elim (cases_Bool (eqb c mark)) [
      | inl is ↦ rw is (ap (λ (x : ℕ). x ∷ cs) (eqb-true c mark is))
      | inr not ↦ rw not (ap (λ (t : List ℕ). c ∷ t) (cut_joins mark cs))
    ]

pub before_lacks_mark : (mark : ℕ) (cs : List ℕ) → Lacks mark (before mark cs)
before_lacks_mark mark [] = tt
before_lacks_mark mark (c ∷ cs) =
    elim (cases_Bool (eqb c mark)) [
      | inl is ↦ rw is tt
      | inr not ↦ rw not (not, before_lacks_mark mark cs)
    ]

pub Lacks-before : (other mark : ℕ) (cs : List ℕ) → Lacks other cs → Lacks other (before mark cs)
Lacks-before other mark [] h = tt
Lacks-before other mark (c ∷ cs) h =
    elim (cases_Bool (eqb c mark)) [
      | inl is ↦ rw is tt
      | inr not ↦ rw not (h.0, Lacks-before other mark cs h.1)
    ]

pub Lacks-after : (other mark : ℕ) (cs : List ℕ) → Lacks other cs → IfSome (after mark cs) (λ t. Lacks other t)
Lacks-after other mark [] h = tt
Lacks-after other mark (c ∷ cs) h =
    elim (cases_Bool (eqb c mark)) [
      | inl is ↦ rw is h.1
      | inr not ↦ rw not (Lacks-after other mark cs h.1)
    ]

pub Lacks-append : (mark : ℕ) (xs ys : List ℕ) → Lacks mark xs → Lacks mark ys → Lacks mark (xs ++ ys)
Lacks-append mark [] ys h g = g
Lacks-append mark (c ∷ cs) ys h g = (h.0, Lacks-append mark cs ys h.1 g)

pub Lacks-parts : (mark : ℕ) (xs ys : List ℕ) → Lacks mark (xs ++ ys) → Lacks mark xs × Lacks mark ys
Lacks-parts mark [] ys h = (tt, h)
Lacks-parts mark (c ∷ cs) ys h = let r = Lacks-parts mark cs ys h.1 in ((h.0, r.0), r.1)

-- ---- the last slash

abbrev pub has_slash : List ℕ → Bool
has_slash cs = list_any (λ d. eqb d 47) cs

no_slash : (cs : List ℕ) → Lacks 47 cs → has_slash cs ≡ false
no_slash [] h = refl
no_slash (c ∷ cs) h = or_from (eqb c 47) (has_slash cs) h.0 (no_slash cs h.1)

pub a_slash : (xs ys : List ℕ) → has_slash (xs ++ 47 ∷ ys) ≡ true
a_slash [] ys = refl
a_slash (x ∷ xs) ys = or_right (eqb x 47) (has_slash (xs ++ 47 ∷ ys)) (a_slash xs ys)

pub up_lacks : (cs : List ℕ) → Lacks 47 cs → up_to_slash cs ≡ []
up_lacks [] h = refl
up_lacks (c ∷ cs) h = cond-false (has_slash (c ∷ cs)) (c ∷ up_to_slash cs) [] (no_slash (c ∷ cs) h)

pub up_joined : (xs s : List ℕ) → Lacks 47 s → up_to_slash (xs ++ 47 ∷ s) ≡ xs ++ 47 ∷ []
up_joined [] s h = ap (λ (t : List ℕ). 47 ∷ t) (up_lacks s h)
up_joined (x ∷ xs) s h =
    cond-true (has_slash (x ∷ xs ++ 47 ∷ s)) (x ∷ up_to_slash (xs ++ 47 ∷ s)) [] (a_slash (x ∷ xs) s) ∙ ap (λ (t : List ℕ). x ∷ t) (up_joined xs s h)

-- a text lacks the slash, or has a last one
pub last_slash : (cs : List ℕ) → Lacks 47 cs ⊎ ((xs s : List ℕ) × (cs ≡ xs ++ 47 ∷ s) × Lacks 47 s)
last_slash [] = inl tt
last_slash (c ∷ cs) =
    elim (last_slash cs) [
      | inr found ↦ inr (c ∷ found.0, found.1, ap (λ (t : List ℕ). c ∷ t) found.2, found.3)
      | inl lacks ↦ elim (cases_Bool (eqb c 47)) [
        | inl is ↦ inr ([], cs, ap (λ (x : ℕ). x ∷ cs) (eqb-true c 47 is), lacks)
        | inr not ↦ inl (not, lacks)
      ]
    ]

-- one character that is no slash, at the end
up_push : (xs : List ℕ) (c : ℕ) → eqb c 47 ≡ false → up_to_slash (xs ++ c ∷ []) ≡ up_to_slash xs
up_push xs c e =
    elim (last_slash xs) [
      | inl lacks ↦ up_lacks (xs ++ c ∷ []) (Lacks-append 47 xs (c ∷ []) lacks (e, tt)) ∙ sym (up_lacks xs lacks)
      | inr found ↦
          ap (λ (t : List ℕ). up_to_slash (t ++ c ∷ [])) found.2 ∙ ap up_to_slash (append_assoc found.0 (47 ∷ found.1) (c ∷ []))
          ∙ up_joined found.0 (found.1 ++ c ∷ []) (Lacks-append 47 found.1 (c ∷ []) found.3 (e, tt)) ∙ sym (ap up_to_slash found.2 ∙ up_joined found.0 found.1 found.3)
    ]

pub end_step : (xs : List ℕ) (n : ℕ) → n < length xs → eqb (get_or xs n 0) 47 ≡ false → up_to_slash (take (n + 1) xs) ≡ up_to_slash xs → up_to_slash (take n xs) ≡ up_to_slash xs
end_step xs n below other e = sym (ap up_to_slash (take_more xs n 0 below) ∙ up_push (take n xs) (get_or xs n 0) other) ∙ e

pub end_stop : (xs : List ℕ) (n : ℕ) → n < length xs → get_or xs n 0 ≡ 47 → up_to_slash (take (n + 1) xs) ≡ take (n + 1) xs
end_stop xs n below is =
    let e : take (n + 1) xs ≡ take n xs ++ 47 ∷ [] = take_more xs n 0 below ∙ ap (λ (x : ℕ). take n xs ++ x ∷ []) is in
    ap up_to_slash e ∙ up_joined (take n xs) [] tt ∙ sym e

pub end_back : (xs : List ℕ) (n m : ℕ) → n + 1 ≡ m → m ≤ length xs → (get_or xs n 0 ≡ 47 → ⊥) → up_to_slash (take m xs) ≡ up_to_slash xs → up_to_slash (take n xs) ≡ up_to_slash xs
end_back xs n m next within other e =
    let below : n < length xs = omega arith in
    end_step xs n below (ne_eqb (get_or xs n 0) 47 other) (ap (λ (k : ℕ). up_to_slash (take k xs)) next ∙ e)

pub end_found : (xs : List ℕ) (n m : ℕ) → n + 1 ≡ m → m ≤ length xs → get_or xs n 0 ≡ 47 → up_to_slash (take m xs) ≡ up_to_slash xs → take m xs ≡ up_to_slash xs
end_found xs n m next within is e =
    let below : n < length xs = omega arith in
    let whole : up_to_slash (take m xs) ≡ take m xs = rw (← next) (end_stop xs n below is) in
    sym whole ∙ e

-- without its last segment and the slash before it
pub pop_joined : (xs s : List ℕ) → Lacks 47 s → take (length (up_to_slash (xs ++ 47 ∷ s)) - 1) (xs ++ 47 ∷ s) ≡ xs
pop_joined xs s h = rw (up_joined xs s h) (take_at xs (47 ∷ s) (length (xs ++ 47 ∷ []) - 1) (let e = length-append xs (47 ∷ []) in omega arith))

pub pop_lacks : (s : List ℕ) → Lacks 47 s → take (length (up_to_slash s) - 1) s ≡ []
pop_lacks s h = rw (up_lacks s h) refl

pub length-before : (mark : ℕ) (cs : List ℕ) → length (before mark cs) ≤ length cs
length-before mark [] = omega arith
length-before mark (c ∷ cs) =
    elim (cases_Bool (eqb c mark)) [
      | inl is ↦ rw is (omega arith)
      | inr not ↦ let more = length-before mark cs in rw not (omega arith)
    ]

pub first_within : (mark : ℕ) (input front : List ℕ) → (input ≡ [] → ⊥) → front ≡ before mark (drop 1 input) → length front + 1 ≤ length input
first_within mark [] front some e = absurd (some refl)
first_within mark (c ∷ cs) front some e = let h = length-before mark cs in let same = ap length e in omega arith

-- a text cut at the length of its front
pub drop_before : (mark : ℕ) (cs front : List ℕ) → front ≡ before mark cs → drop (length front) cs ≡ marked (mark ∷ []) (after mark cs)
drop_before mark cs front e =
    rw e (ap (drop (length (before mark cs))) (cut_joins mark cs) ∙ drop_at (before mark cs) (marked (mark ∷ []) (after mark cs)) (length (before mark cs)) refl)

pub take_before : (mark : ℕ) (cs front : List ℕ) → front ≡ before mark cs → take (length front) cs ≡ before mark cs
take_before mark cs front e =
    rw e (ap (take (length (before mark cs))) (cut_joins mark cs) ∙ take_at (before mark cs) (marked (mark ∷ []) (after mark cs)) (length (before mark cs)) refl)

pub front_within : (mark : ℕ) (cs front : List ℕ) → front ≡ before mark cs → length front ≤ length cs
front_within mark cs front e = rw e (length-before mark cs)
