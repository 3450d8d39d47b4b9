-- The nets from one place of a chain to another.
use Rattle.std.proofs.Common.{length-append, ◌≡◌, ℕ, zero, suc, ◌+◌, ◌-◌, ◌<◌, ◌≤◌, List, [], ◌∷◌, ◌++◌, length, take, drop, get_or, refl, sym, ap, ◌∙◌, subst, arith}
use Rattle.rdf_dataset.specs.Chains.{Leads}
use Rattle.rdf_dataset.specs.State.{State, Change, applied, net_between}
use Rattle.rdf_session.specs.Inside.Kept.{AreNets}
use Rattle.rdf_session.proofs.KeptLemmas.{at}

leads_to : (base : State) (ns : List Change) (k : ℕ) (d : State) → AreNets base ns → k ≤ length ns → Leads base (take k ns) (at base ns k d)
leads_to base ns zero d c h = refl
leads_to base [] (suc k) d c h = absurd (omega (arith, h))
leads_to base (n ∷ ns) (suc k) d c h = (applied n base, c.0, leads_to (applied n base) ns k d c.1.1 (omega (arith, h)))

minus_nothing : (a : ℕ) → a - 0 ≡ a
minus_nothing a = omega arith

one_less : (a b : ℕ) → suc a - suc b ≡ a - b
one_less a b = omega arith

pub leads_between : (base : State) (ns : List Change) (from to : ℕ) (d : State) → AreNets base ns → from ≤ to → to ≤ length ns → Leads (at base ns from d) (take (to - from) (drop from ns)) (at base ns to d)
leads_between base [] zero to d c h k = subst (λ m. Leads base (take m []) (at base [] to d)) (sym (minus_nothing to)) (leads_to base [] to d c k)
leads_between base (n ∷ ns) zero to d c h k = subst (λ m. Leads base (take m (n ∷ ns)) (at base (n ∷ ns) to d)) (sym (minus_nothing to)) (leads_to base (n ∷ ns) to d c k)
leads_between base ns (suc from) zero d c h k = absurd (omega (arith, h))
leads_between base [] (suc from) (suc to) d c h k = absurd (omega (arith, k))
leads_between base (n ∷ ns) (suc from) (suc to) d c h k =
    subst (λ m. Leads (at (applied n base) ns from d) (take m (drop from ns)) (at (applied n base) ns to d)) (sym (one_less to from))
    (leads_between (applied n base) ns from to d c.1.1 (omega (arith, h)) (omega (arith, k)))

-- ---- a chain in two runs

-- where a chain ends
abbrev pub end : State → List Change → State
end base [] = base
end base (n ∷ ns) = end (applied n base) ns

pub nets_front : (base : State) (xs ys : List Change) → AreNets base (xs ++ ys) → AreNets base xs
nets_front base [] ys c = tt
nets_front base (x ∷ xs) ys c = (c.0, (c.1.0, nets_front (applied x base) xs ys c.1.1))

pub nets_back : (base : State) (xs ys : List Change) → AreNets base (xs ++ ys) → AreNets (end base xs) ys
nets_back base [] ys c = c
nets_back base (x ∷ xs) ys c = nets_back (applied x base) xs ys c.1.1

at_front : (base : State) (xs ys : List Change) (k : ℕ) (d : State) → k ≤ length xs → at base xs k d ≡ at base (xs ++ ys) k d
at_front base xs ys zero d h = refl
at_front base [] ys (suc k) d h = absurd (omega (arith, h))
at_front base (x ∷ xs) ys (suc k) d h = at_front (applied x base) xs ys k d (omega (arith, h))

at_back : (base : State) (xs ys : List Change) (j k : ℕ) (d : State) → k ≡ length xs + j → at (end base xs) ys j d ≡ at base (xs ++ ys) k d
at_back base [] ys j k d e = ap (λ m. at base ys m d) (omega (arith, e))
at_back base (x ∷ xs) ys j zero d e = absurd (omega (arith, e))
at_back base (x ∷ xs) ys j (suc k) d e = at_back (applied x base) xs ys j k d (omega (arith, e))

at_end : (base : State) (ns : List Change) (d : State) → at base ns (length ns) d ≡ end base ns
at_end base [] d = refl
at_end base (n ∷ ns) d = at_end (applied n base) ns d

module _ (base : State) (xs ys : List Change) (from to : ℕ) (d : State) (c : AreNets base (xs ++ ys)) where
  -- in the first run
  pub leads_in_front : from ≤ to → to ≤ length xs → Leads (at base (xs ++ ys) from d) (take (to - from) (drop from xs)) (at base (xs ++ ys) to d)
  leads_in_front h k =
      subst (λ s. Leads s (take (to - from) (drop from xs)) (at base (xs ++ ys) to d)) (at_front base xs ys from d (omega (arith, h, k)))
      (subst (Leads (at base xs from d) (take (to - from) (drop from xs))) (at_front base xs ys to d k)
      (leads_between base xs from to d (nets_front base xs ys c) h k))

  -- in the second
  pub leads_in_back : length xs ≤ from → from ≤ to → to ≤ length (xs ++ ys) → Leads (at base (xs ++ ys) from d) (take ((to - length xs) - (from - length xs)) (drop (from - length xs) ys)) (at base (xs ++ ys) to d)
  leads_in_back l h k =
      let n = length-append xs ys in
      let i = from - length xs in
      let j = to - length xs in
      let p : at (end base xs) ys i d ≡ at base (xs ++ ys) from d = at_back base xs ys i from d (omega (arith, l)) in
      let q : at (end base xs) ys j d ≡ at base (xs ++ ys) to d = at_back base xs ys j to d (omega (arith, l, h)) in
      subst (λ s. Leads s (take (j - i) (drop i ys)) (at base (xs ++ ys) to d)) p
      (subst (Leads (at (end base xs) ys i d) (take (j - i) (drop i ys))) q
      (leads_between (end base xs) ys i j d (nets_back base xs ys c) (omega (arith, l, h)) (omega (arith, l, h, k, n))))

  -- from the first on
  pub leads_to_seam : from ≤ length xs → Leads (at base (xs ++ ys) from d) (take (length xs - from) (drop from xs)) (end base xs)
  leads_to_seam h =
      subst (λ s. Leads s (take (length xs - from) (drop from xs)) (end base xs)) (at_front base xs ys from d h)
      (subst (Leads (at base xs from d) (take (length xs - from) (drop from xs))) (at_end base xs d)
      (leads_between base xs from (length xs) d (nets_front base xs ys c) h (omega arith)))

  -- up to a place in the second
  pub leads_from_seam : length xs ≤ to → to ≤ length (xs ++ ys) → Leads (end base xs) (take (to - length xs) ys) (at base (xs ++ ys) to d)
  leads_from_seam l k =
      let n = length-append xs ys in
      subst (Leads (end base xs) (take (to - length xs) ys)) (at_back base xs ys (to - length xs) to d (omega (arith, l)))
      (leads_to (end base xs) ys (to - length xs) d (nets_back base xs ys c) (omega (arith, l, k, n)))

  -- the counter at the seam
  pub seam_counter : (e : Change) → 0 < length ys → e ≡ get_or ys 0 e → e.before ≡ (end base xs).next
  seam_counter e h is = first ys (nets_back base xs ys c) h is
    where
      first : (zs : List Change) → AreNets (end base xs) zs → 0 < length zs → e ≡ get_or zs 0 e → e.before ≡ (end base xs).next
      first [] nets h is = absurd (omega (arith, h))
      first (z ∷ zs) nets h is = ap (λ (x : Change). x.before) (is ∙ nets.0)

-- ---- the net of a chain in two runs

-- the net between two places of a chain; the counter is that of the last
abbrev pub IsComposed : ℕ → ℕ → ℕ → List Change → Change → Type 0
IsComposed from to counter ns net =
    (base : State) → AreNets base ns → counter ≡ (at base ns to base).next → net ≡ net_between (at base ns from base) (at base ns to base)

-- the net of these, from where they begin to where they end
abbrev pub IsWhole : List Change → ℕ → Change → Type 0
IsWhole ns counter net = (s t : State) → Leads s ns t → counter ≡ t.next → net ≡ net_between s t

module _ (xs ys ns : List Change) (runs : xs ++ ys ≡ ns) (from to counter : ℕ) where
  pub composed_in_front : (net : Change) → from ≤ to → to ≤ length xs → IsWhole (take (to - from) (drop from xs)) counter net → IsComposed from to counter ns net
  composed_in_front net h k whole =
      subst (λ ms. IsComposed from to counter ms net) runs (λ base nets is. whole _ _ (leads_in_front base xs ys from to base nets h k) is)

  pub composed_in_back : (net : Change) → length xs ≤ from → from ≤ to → to ≤ length ns → IsWhole (take ((to - length xs) - (from - length xs)) (drop (from - length xs) ys)) counter net → IsComposed from to counter ns net
  composed_in_back net l h k whole =
      subst (λ ms. IsComposed from to counter ms net) runs
      (λ base nets is. whole _ _ (leads_in_back base xs ys from to base nets l h (subst (λ ms. to ≤ length ms) (sym runs) k)) is)

  -- over the seam
  pub composed_over : (earlier later both first : Change) → from ≤ length xs → length xs < to → to ≤ length ns → first ≡ get_or ys 0 first
      → IsWhole (take (length xs - from) (drop from xs)) first.before earlier → IsWhole (take (to - length xs) ys) counter later
      → ((s t u : State) → earlier ≡ net_between s t → later ≡ net_between t u → both ≡ net_between s u) → IsComposed from to counter ns both
  composed_over earlier later both first h l k is_first one other join =
      subst (λ ms. IsComposed from to counter ms both) runs
      (λ base nets is.
      let reach = subst (λ ms. to ≤ length ms) (sym runs) k in
      let some : 0 < length ys = omega (arith, l, reach, length-append xs ys) in
      join _ _ _
      (one _ _ (leads_to_seam base xs ys from to base nets h) (seam_counter base xs ys from to base nets first some is_first))
      (other _ _ (leads_from_seam base xs ys from to base nets (omega (arith, l)) reach) is))
