-- As many quads came and went as an answer tells.
use Rattle.std.proofs.Common.{◌≡◌, ◌∙◌, ◌⊎◌, ap, refl, sym, subst, inl, inr, zero, suc, ◌+◌, ◌<◌, Bool, true, false, cond, List, [], ◌∷◌, length, Contains, arith}
use mathlib.Core.Bool.{true≢false}
use Rattle.std.proofs.lemmas.List.Elements.{Contains-append_right}
use Rattle.std.proofs.lemmas.Map.Views.{Contains-from_any, list_any-from_Contains}
use Rattle.std.specs.Cmp.{Equal-is, IsTotalOrder, eq_by_cmp_equiv}
use Rattle.std.specs.FinSet as set
use Rattle.std.specs.FinSet.{IsAntisymmetric, contains, contains-from_list, contains-items, from_list, len-empty, len-insert, same_set}
use Rattle.std.specs.Ordering.{eq_by_cmp}
use Rattle.std.specs.declared.cmp.Ordering.{Ordering}
use Rattle.rdf_terms.specs.Order.{quad_cmp}
use Rattle.rdf_terms.specs.OrderLaws.{quad_cmp_total, quad_cmp-IsAntisymmetric}
use Rattle.rdf_terms.specs.Quad.{QuadParts}
use Rattle.rdf_dataset.specs.ChangeLaws.{NetLaws}
use Rattle.rdf_dataset.specs.State.{State, net_between}
use Rattle.rdf_session.proofs.ForgettingLemmas.{now_accepted}
use Rattle.rdf_session.specs.Counted.{AreNew, CountsAreTold, StandOnce}
use Rattle.rdf_session.specs.GivesBack.{IsPlaced}
use Rattle.rdf_session.specs.Session.{Session, Command, Do, Undo, Redo, Mark, Rollback, Commit, Changed, Transition, counts_between, now}
use Rattle.rdf_session.specs.declared.fault.Counts.{Counts}

-- ---- lists

nowhere : {A : Type 0} (q : A) → Contains [] q → ⊥
nowhere {A} q (i, l, e) = let z : i < length {A = A} [] = l in omega (arith, z)

which : {A : Type 0} (y q : A) (ys : List A) → Contains (y ∷ ys) q → (y ≡ q) ⊎ Contains ys q
which y q ys (zero, l, e) = inl e
which y q ys (suc i, l, e) = inr (i, (let z : suc i < length (y ∷ ys) = l in omega (arith, z)), e)

here : {A : Type 0} (x q : A) (xs : List A) → x ≡ q → Contains (x ∷ xs) q
here x q xs e = (0, (let z : 0 < length (x ∷ xs) = omega arith in z), e)

there : {A : Type 0} (y q : A) (ys : List A) → Contains ys q → Contains (y ∷ ys) q
there y q ys h = Contains-append_right (y ∷ []) ys q h

same_test : (a b : Bool) → (a ≡ true → b ≡ true) → (b ≡ true → a ≡ true) → a ≡ b
same_test true b to from = sym (to refl)
same_test false true to from = from refl
same_test false false to from = refl

-- ---- the members of a set, each once

module _ {K : Type 0} (R : K → K → Ordering) (o : IsTotalOrder R) (apart : IsAntisymmetric R) where
  tied_is : (x y : K) → eq_by_cmp R x y ≡ true → x ≡ y
  tied_is x y h = apart x y ((Equal-is (R x y)).0 h)

  listed_has : (xs : List K) (q : K) → contains (from_list {R = R} xs) q ≡ true → Contains xs q
  listed_has xs q h = Contains-from_any tied_is q xs (sym (contains-from_list o xs q) ∙ h)

  has_listed : (xs : List K) (q : K) → Contains xs q → contains (from_list {R = R} xs) q ≡ true
  has_listed xs q h = contains-from_list o xs q ∙ list_any-from_Contains (eq_by_cmp_equiv o) q xs h

  -- without what stands again further on
  thin : List K → List K
  thin [] = []
  thin (x ∷ xs) = cond (contains (from_list {R = R} xs) x) (thin xs) (x ∷ thin xs)

  thin_within : (xs : List K) (q : K) → Contains (thin xs) q → Contains xs q
  unfolding thin
  thin_within [] q h = h
  thin_within (x ∷ xs) q h = by (thin_within xs) (contains (from_list {R = R} xs) x) h
    where
      by : ((p : K) → Contains (thin xs) p → Contains xs p) → (b : Bool) → Contains (cond b (thin xs) (x ∷ thin xs)) q → Contains (x ∷ xs) q
      by more true k = there x q xs (more q k)
      by more false k = elim (which x q (thin xs) k) [ inl e ↦ here x q xs e | inr t ↦ there x q xs (more q t) ]

  thin_whole : (xs : List K) (q : K) → Contains xs q → Contains (thin xs) q
  unfolding thin
  thin_whole [] q h = h
  thin_whole (x ∷ xs) q h = by (thin_whole xs) (contains (from_list {R = R} xs) x) refl
    where
      by : ((p : K) → Contains xs p → Contains (thin xs) p) → (b : Bool) → contains (from_list {R = R} xs) x ≡ b → Contains (cond b (thin xs) (x ∷ thin xs)) q
      by more true e = elim (which x q xs h) [ inl is ↦ more q (subst (λ (z : K). Contains xs z) is (listed_has xs x e)) | inr t ↦ more q t ]
      by more false e = elim (which x q xs h) [ inl is ↦ here x q (thin xs) is | inr t ↦ there x q (thin xs) (more q t) ]

  thin_once : (xs : List K) → StandOnce (thin xs)
  unfolding thin
  thin_once [] = tt
  thin_once (x ∷ xs) = by (thin_once xs) (contains (from_list {R = R} xs) x) refl
    where
      by : StandOnce (thin xs) → (b : Bool) → contains (from_list {R = R} xs) x ≡ b → StandOnce (cond b (thin xs) (x ∷ thin xs))
      by more true e = more
      by more false e = ((λ h. true≢false (sym (has_listed xs x (thin_within xs x h)) ∙ e)), more)

  -- a list without repeats is as long as its set
  absent : (x : K) (xs : List K) → ¬ Contains xs x → contains (from_list {R = R} xs) x ≡ false
  absent x xs lacks = by (contains (from_list {R = R} xs) x) refl
    where
      by : (b : Bool) → contains (from_list {R = R} xs) x ≡ b → contains (from_list {R = R} xs) x ≡ false
      by true e = absurd (lacks (listed_has xs x e))
      by false e = e

  as_long : (xs : List K) → StandOnce xs → set.len (from_list {R = R} xs) ≡ length xs
  as_long [] once = len-empty R
  as_long (x ∷ xs) once =
      let rest : set.len (from_list {R = R} xs) ≡ length xs = as_long xs once.1 in
      let one_more : set.len (from_list {R = R} (x ∷ xs)) ≡ set.len (from_list {R = R} xs) + 1 =
      len-insert o (from_list {R = R} xs) x
      ∙ ap (λ (b : Bool). cond b (set.len (from_list {R = R} xs)) (set.len (from_list {R = R} xs) + 1)) (absent x xs once.0) in
      omega (arith, rest, one_more)

  members : set.FinSet R → List K
  members s = thin (set.items s)

  member_is : (s : set.FinSet R) (q : K) → Contains (members s) q → contains s q ≡ true
  unfolding members
  member_is s q h = contains-items s q ∙ list_any-from_Contains (eq_by_cmp_equiv o) q (set.items s) (thin_within (set.items s) q h)

  is_member : (s : set.FinSet R) (q : K) → contains s q ≡ true → Contains (members s) q
  unfolding members
  is_member s q h = thin_whole (set.items s) q (Contains-from_any tied_is q (set.items s) (sym (contains-items s q) ∙ h))

  members_once : (s : set.FinSet R) → StandOnce (members s)
  unfolding members
  members_once s = thin_once (set.items s)

  members_are : (s : set.FinSet R) → from_list {R = R} (members s) ≡ s
  members_are s =
      same_set o apart (from_list {R = R} (members s)) s (λ q.
      same_test (contains (from_list {R = R} (members s)) q) (contains s q)
      (λ h. member_is s q (listed_has (members s) q h))
      (λ h. has_listed (members s) q (is_member s q h)))

  counted : (s : set.FinSet R) → set.len s ≡ length (members s)
  counted s = ap (λ (z : set.FinSet R). set.len z) (sym (members_are s)) ∙ as_long (members s) (members_once s)

-- ---- states

module _ (laws : NetLaws) where
  -- the quads of a net that came
  new_quads : (s t : State) → List QuadParts
  new_quads s t = members quad_cmp quad_cmp_total quad_cmp-IsAntisymmetric (net_between s t).added

  new_are_new : (s t : State) → AreNew s t (new_quads s t)
  unfolding new_quads
  new_are_new s t = record {
    each = λ q. (
      (λ h. (laws.added s t q).0 (member_is quad_cmp quad_cmp_total quad_cmp-IsAntisymmetric (net_between s t).added q h)),
      (λ h. is_member quad_cmp quad_cmp_total quad_cmp-IsAntisymmetric (net_between s t).added q ((laws.added s t q).1 h)),
    );
    once = members_once quad_cmp quad_cmp_total quad_cmp-IsAntisymmetric (net_between s t).added;
  }

  new_counted : (s t : State) → set.len (net_between s t).added ≡ length (new_quads s t)
  unfolding new_quads
  new_counted s t = counted quad_cmp quad_cmp_total quad_cmp-IsAntisymmetric (net_between s t).added

  -- the counts are those of the states before and after
  counts_at : (old new : Session) (command : Command) (c : Counts) → IsPlaced old → Transition old command (Changed c) new → c ≡ counts_between (now old) (now new)
  counts_at old new (Do request) c w st = st.3 ∙ ap (counts_between (now old)) (sym (ap now st.2 ∙ now_accepted st.0 old w))
  counts_at old new Undo c w st = st.2
  counts_at old new Redo c w st = st.2
  counts_at old new (Mark name) c w st = absurd st
  counts_at old new (Rollback name) c w st = st.4
  counts_at old new Commit c w st = absurd st

  pub counts_are_told : CountsAreTold
  counts_are_told old new command c w st =
      let at = counts_at old new command c w st in (
        new_quads (now old) (now new),
        new_quads (now new) (now old),
        new_are_new (now old) (now new),
        new_are_new (now new) (now old),
        ap (λ (x : Counts). x.added) at ∙ new_counted (now old) (now new),
        ap (λ (x : Counts). x.removed) at ∙ new_counted (now new) (now old),
      )
