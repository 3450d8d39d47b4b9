-- The session that an accepted request leaves, whether it forgets a state or not.
use Rattle.std.proofs.Common.{◌≡◌, ℕ, zero, suc, ◌+◌, ◌-◌, ◌<◌, ◌≤◌, true, false, cond, List, [], ◌∷◌, ◌++◌, length, take, drop, get_or, Option, Some, None, refl, sym, ap, ◌∙◌, subst, arith, length-append, length-take, add-one}
use mathlib.Core.Bool.{true≢false}
use mathlib.Core.Logic.{inl, inr}
use Rattle.std.proofs.lemmas.Bool.Decides.{leb_tells}
use Rattle.rdf_dataset.specs.State.{State}
use Rattle.rdf_session.proofs.BehindLemmas.{behind_was, get_behind, lie_behind}
use Rattle.rdf_session.proofs.MarkLemmas.{get_upto, lie_kept, upto_kept}
use Rattle.rdf_session.specs.Depth.{IsDepth, IsWithin, is_past}
use Rattle.rdf_session.specs.GivesBack.{IsPlaced, IsWholeSession}
use Rattle.rdf_session.specs.History.{LieIn, is_too_long, marks_behind, place_of}
use Rattle.rdf_session.specs.Session.{Session, accepted, at_place, forgetting, grown, now, state_at}

-- ---- depths

pub none_within : (depth : Option ℕ) → IsWithin depth 0
none_within None = tt
none_within (Some d) = omega arith

pub within_depth : (depth : Option ℕ) (n : ℕ) → is_past depth n ≡ false → IsWithin depth n
within_depth None n e = tt
within_depth (Some d) n e = elim (leb_tells (suc d) n) [ inl t ↦ absurd (true≢false (sym t.0 ∙ e)) | inr t ↦ omega (arith, t.1) ]

pub fewer_within : (depth : Option ℕ) (m n : ℕ) → m ≤ n → IsWithin depth n → IsWithin depth m
fewer_within None m n h w = tt
fewer_within (Some d) m n h w = omega (arith, h, w)

-- more than a depth is more than one
pub past_depth : (depth : Option ℕ) (n : ℕ) → IsDepth depth → is_past depth n ≡ true → 1 < n
past_depth None n h e = absurd (true≢false (sym e))
past_depth (Some d) n h e = elim (leb_tells (suc d) n) [ inl t ↦ omega (arith, t.1, h.0) | inr t ↦ absurd (true≢false (sym e ∙ t.0)) ]

-- one more than within a depth is just past it
pub past_by_one : (depth : Option ℕ) (n : ℕ) → IsWithin depth n → is_past depth (n + 1) ≡ true → depth ≡ Some n
past_by_one None n w e = absurd (true≢false (sym e))
past_by_one (Some d) n w e = elim (leb_tells (suc d) (n + 1)) [ inl t ↦ ap Some (omega (arith, t.1, w)) | inr t ↦ absurd (true≢false (sym e ∙ t.0)) ]

pub one_within : (depth : Option ℕ) → IsDepth depth → is_past depth 1 ≡ false
one_within None h = refl
one_within (Some d) h = elim (leb_tells (suc d) 1) [ inl t ↦ absurd (omega (arith, t.1, h.0)) | inr t ↦ t.0 ]

-- ---- states

pub any_default : (xs : List State) (k : ℕ) (d e : State) → k < length xs → get_or xs k d ≡ get_or xs k e
any_default [] k d e h = absurd (omega (arith, h))
any_default (x ∷ xs) zero d e h = refl
any_default (x ∷ xs) (suc k) d e h = any_default xs k d e (omega (arith, h))

-- those behind the first
pub state_behind : (base : State) (ss : List State) (k : ℕ) (d e : State) → k < length ss → get_or (get_or (base ∷ ss) 1 e ∷ drop 1 ss) k d ≡ get_or (base ∷ ss) (suc k) e
state_behind base [] k d e h = absurd (omega (arith, h))
state_behind base (s ∷ ss) k d e h = any_default (s ∷ ss) k d e h

pub length_behind : {A : Type 0} (xs : List A) → length (drop 1 xs) ≡ length xs - 1
length_behind [] = refl
length_behind (x ∷ xs) = omega arith

pub length_pushed : (ss : List State) (k : ℕ) (t : State) → k ≤ length ss → length (take k ss ++ t ∷ []) ≡ k + 1
length_pushed ss k t h = simp (length-append, length-take) (omega (arith, h))

-- those up to the cursor stand
pub stands : (b : State) (ss : List State) (k j : ℕ) (d t : State) → j ≤ k → k ≤ length ss → get_or (b ∷ (take k ss ++ t ∷ [])) j d ≡ get_or (b ∷ ss) j d
stands b ss k zero d t h w = refl
stands b ss zero (suc j) d t h w = absurd (omega (arith, h))
stands b [] (suc k) (suc j) d t h w = absurd (omega (arith, w))
stands b (s ∷ ss) (suc k) (suc j) d t h w = stands s ss k j d t (omega (arith, h)) (omega (arith, w))

comes : (b : State) (ss : List State) (k : ℕ) (d t : State) → k ≤ length ss → get_or (b ∷ (take k ss ++ t ∷ [])) (suc k) d ≡ t
comes b ss zero d t w = refl
comes b [] (suc k) d t w = absurd (omega (arith, w))
comes b (s ∷ ss) (suc k) d t w = comes s ss k d t (omega (arith, w))

-- ---- a session without its first state

pub forgetting_at : (s : Session) (k : ℕ) → k < length s.states.items → state_at (forgetting s) k ≡ state_at s (suc k)
forgetting_at s k h = state_behind s.base s.states.items k (state_at s 1) s.base h

-- ---- one with one more state

-- what holds of both holds behind an accepted request
pub by_depth : (P : Session → Type 0) (after : State) (s : Session) → (is_too_long s.depth (grown after s).states ≡ false → P (grown after s)) → (is_too_long s.depth (grown after s).states ≡ true → P (forgetting (grown after s))) → P (accepted after s)
by_depth P after s g f =
    elim (is_too_long s.depth (grown after s).states) as (λ b. is_too_long s.depth (grown after s).states ≡ b → P (cond b (forgetting (grown after s)) (grown after s))) [
      | true ↦ f
      | false ↦ g
    ] refl

pub record IsAccepted (after : State) (s new : Session) : Type 0 where
  pub base_iri : new.base_iri ≡ s.base_iri
  pub depth : new.depth ≡ s.depth
  pub cursor : new.states.cursor ≡ length new.states.items
  pub state : now new ≡ after
  -- the state before it, where that isn't forgotten
  pub back : 0 < new.states.cursor → now (at_place (new.states.cursor - 1) new) ≡ now s

one_back : (k : ℕ) → (k + 1) - 1 ≡ k
one_back k = omega arith

one_on : (k : ℕ) → suc ((k + 1) - 1) ≡ k + 1
one_on k = omega arith

pub state_grown : (after : State) (s : Session) → IsPlaced s → now (grown after s) ≡ after
state_grown after s w = rw add-one (comes s.base s.states.items s.states.cursor s.base after w)

pub state_forgetting : (after : State) (s : Session) → IsPlaced s → now (forgetting (grown after s)) ≡ after
state_forgetting after s w =
    let k = s.states.cursor in
    let g : Session = grown after s in
    let n = length_pushed s.states.items k after w in
    forgetting_at g ((k + 1) - 1) (omega (arith, n)) ∙ ap (state_at g) (one_on k) ∙ state_grown after s w

pub accepted_is : (after : State) (s : Session) → IsPlaced s → IsAccepted after s (accepted after s)
accepted_is after s w =
    by_depth (IsAccepted after s) after s
    (λ _. record {
      base_iri = refl;
      depth = refl;
      cursor = sym n;
      state = state_grown after s w;
      back = λ _. ap (state_at g) (one_back k) ∙ before;
    })
    (λ _. record {
      base_iri = refl;
      depth = refl;
      cursor = sym (length_behind g.states.items ∙ ap (λ m. m - 1) n);
      state = state_forgetting after s w;
      back = λ h. forgetting_at g (((k + 1) - 1) - 1) (omega (arith, n)) ∙ ap (state_at g) (two_back h) ∙ before;
    })
  where
    k : ℕ
    k = s.states.cursor

    g : Session
    g = grown after s

    n : length g.states.items ≡ k + 1
    n = length_pushed s.states.items k after w

    before : state_at g k ≡ now s
    before = stands s.base s.states.items k k s.base after (omega arith) w

    two_back : 0 < (k + 1) - 1 → suc (((k + 1) - 1) - 1) ≡ k
    two_back h = omega (arith, h)

pub now_accepted : (after : State) (s : Session) → IsPlaced s → now (accepted after s) ≡ after
now_accepted after s w = (accepted_is after s w).state

-- there is something to undo
pub accepted_above : (after : State) (s : Session) → IsPlaced s → IsDepth s.depth → 0 < (accepted after s).states.cursor
accepted_above after s w h =
    by_depth (λ x. 0 < x.states.cursor) after s (λ _. omega arith)
    (λ e. let m = past_depth s.depth _ h e in let n = length_pushed s.states.items s.states.cursor after w in omega (arith, m, n))

-- ---- it stays whole

pub accepted_whole : (after : State) (s : Session) → IsWholeSession s → IsWholeSession (accepted after s)
accepted_whole after s w =
    by_depth IsWholeSession after s
    (λ e. record {
      cursor = omega (arith, n);
      marks = lie_kept _ k s.states.marks (omega (arith, n));
      depth = w.depth;
      within = within_depth s.depth _ e;
    })
    (λ e. record {
      cursor = omega (arith, n, length_behind g.states.items);
      marks = subst (λ m. LieIn m (marks_behind 1 g.states.marks)) (sym (length_behind g.states.items)) (lie_behind (length g.states.items) g.states.marks (lie_kept _ k s.states.marks (omega (arith, n))));
      depth = w.depth;
      within = fewer_within s.depth _ (length s.states.items) (omega (arith, n, length_behind g.states.items, w.cursor)) w.within;
    })
  where
    k : ℕ
    k = s.states.cursor

    g : Session
    g = grown after s

    n : length g.states.items ≡ k + 1
    n = length_pushed s.states.items k after w.cursor

-- ---- a mark stays at its state

-- where the name is up to the cursor, there is the state
abbrev pub Holds : List ℕ → State → Session → Type 0
Holds name there s = (place : ℕ) → place_of name s.states ≡ Some place → place ≤ s.states.cursor → state_at s place ≡ there

pub holds_accepted : (name : List ℕ) (there after : State) (s : Session) → IsPlaced s → Holds name there s → Holds name there (accepted after s)
holds_accepted name there after s w h = by_depth (Holds name there) after s (λ _. grown_holds) (λ _. forgetting_holds)
  where
    k : ℕ
    k = s.states.cursor

    g : Session
    g = grown after s

    n : length g.states.items ≡ k + 1
    n = length_pushed s.states.items k after w

    grown_holds : Holds name there g
    grown_holds place e _ =
        let is = upto_kept _ k place (sym (get_upto s.states.marks k name) ∙ e) in
        stands s.base s.states.items k place s.base after is.1 w ∙ h place is.0 is.1

    forgetting_holds : Holds name there (forgetting g)
    forgetting_holds place e _ =
        let was = behind_was 1 place _ (sym (get_behind g.states.marks 1 name) ∙ e) in
        let is = upto_kept _ k (place + 1) (sym (get_upto s.states.marks k name) ∙ was) in
        forgetting_at g place (omega (arith, n, is.1)) ∙ ap (state_at g) (sym (add-one place)) ∙ grown_holds (place + 1) was (omega (arith, is.1))
