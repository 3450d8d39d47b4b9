-- A reading finds just what a grammar derives.
use Rattle.std.proofs.Common.{◌≡◌, ℕ, zero, suc, ◌<◌, ◌≤◌, Bool, true, false, List, [], ◌++◌, length, Some, None, refl, ◌∙◌, ap, arith, cond}
use Rattle.rdf_grammar.specs.Steps as steps
use Rattle.rdf_grammar.specs.Steps.{and_then}
use Rattle.rdf_grammar.specs.Readings.{Outcome, Reading, Test, repeat, repeat_within}
use Rattle.rdf_grammar.specs.Derivations as grammar
use Rattle.rdf_grammar.specs.Derivations.{Derives, Then, Star, stop, more}

abbrev pub always : {X : Type 0} → Test X
always ts = true

-- Where ends passes the lexemes left, what is derived is read.
pub record Decides {X A : Type 0} (p : Reading X A) (P : Derives X A) (ends : Test X) : Type 0 where
  pub sound : (ts : List X) (a : A) (us : List X) → p ts ≡ Some (a, us) → P ts a us
  pub complete : (ts : List X) (a : A) (us : List X) → P ts a us → ends us ≡ true → p ts ≡ Some (a, us)
  pub shorter : (ts : List X) (a : A) (us : List X) → P ts a us → length us ≤ length ts

-- the parts of a step behind another
pub then_parts : {S A B : Type 0} (o : steps.Outcome S A) (f : A → steps.Step S B) (r : B × S) → and_then o f ≡ Some r → (a : A) × (s : S) × (o ≡ Some (a, s)) × (f a s ≡ Some r)
then_parts None f r h = absurd (cc)
then_parts (Some p) f r h = (p.0, p.1, refl, h)

pub and_then_some : {X A B : Type 0} (o : Outcome X A) (f : A → Reading X B) (b : B) (us : List X) → and_then o f ≡ Some (b, us)
    → (a : A) × (mid : List X) × (o ≡ Some (a, mid)) × (f a mid ≡ Some (b, us))
and_then_some o f b us h = then_parts o f (b, us) h

-- one reading behind the other: what the second derives, or what ends the whole, ends the first
pub then_decides : {X A B : Type 0} (p : Reading X A) (P : Derives X A) (f : A → Reading X B) (F : A → Derives X B) (e1 e2 : Test X)
    → Decides p P e1 → ((a : A) → Decides (f a) (F a) e2)
    → ((a : A) (mid : List X) (b : B) (us : List X) → F a mid b us → e2 us ≡ true → e1 mid ≡ true)
    → Decides (steps.◌>>=◌ p f) (Then P F) e2
then_decides p P f F e1 e2 dp df between = record {
  sound = λ ts b us h. let x = and_then_some (p ts) f b us h in
      record { first = x.0; mid = x.1; reads = dp.sound ts x.0 x.1 x.2; goes = (df x.0).sound x.1 b us x.3 };
  complete = λ ts b us d h.
      let e = dp.complete ts d.first d.mid d.reads (between d.first d.mid b us d.goes h) in
      ap (λ o. and_then o f) e ∙ (df d.first).complete d.mid b us d.goes h;
  shorter = λ ts b us d. let m = dp.shorter ts d.first d.mid d.reads in let n = (df d.first).shorter d.mid b us d.goes in omega arith;
}

abbrev pub got : {X A : Type 0} → A → List X → Outcome X A
got a ts = Some (a, ts)

pub some_pair : {X A : Type 0} (a b : A) (ts us : List X) → got a ts ≡ got b us → (a ≡ b) × (ts ≡ us)
some_pair {X} {A} a b ts us h = let e : ◌≡◌ {A = A × List X} (a, ts) (b, us) = cc in (ap (λ (p : A × List X). p.0) e, ap (λ (p : A × List X). p.1) e)

pub pure_decides : {X A : Type 0} (a : A) (ends : Test X) → Decides (steps.pure a) (grammar.pure a) ends
pure_decides a ends = record {
  sound = λ ts b us h. some_pair a b ts us h;
  complete = λ ts b us d h. ap (λ x. Some (x, ts)) d.0 ∙ ap (λ l. Some (b, l)) d.1;
  shorter = λ ts b us d. omega (arith, ap length d.1);
}

-- ---- repetitions

module _ {X A : Type 0} (test : Test X) (p : Reading X (List A)) (P : Derives X (List A)) (ends_p ends : Test X) (dp : Decides p P ends_p)
    (starts : (ts : List X) (x : List A) (us : List X) → P ts x us → (test ts ≡ true) × (length us < length ts))
    (stops : (us : List X) → ends us ≡ true → test us ≡ false)
    (goes : (us : List X) → ends us ≡ true → ends_p us ≡ true)
    (turns : (us : List X) → test us ≡ true → ends_p us ≡ true) where
  star_shorter : (ts : List X) (xs : List A) (us : List X) → Star P ts xs us → length us ≤ length ts
  star_shorter ts xs us stop = omega arith
  star_shorter ts xs us (more {mid = mid} {x = x} {xs = ys} r s) = let m = (starts ts x mid r).1 in let n = star_shorter mid ys us s in omega arith

  mid_ends : (ts : List X) (xs : List A) (us : List X) → Star P ts xs us → ends us ≡ true → ends_p ts ≡ true
  mid_ends ts xs us stop h = goes ts h
  mid_ends ts xs us (more {mid = mid} {x = x} r s) h = turns ts (starts ts x mid r).0

  stops_at : (n : ℕ) (ts : List X) → test ts ≡ false → repeat_within n test p ts ≡ Some ([], ts)
  stops_at zero ts h = refl
  stops_at (suc n) ts h = rw h refl

  goes_at : (n : ℕ) (ts mid us : List X) (x xs : List A) → test ts ≡ true → p ts ≡ Some (x, mid) → repeat_within n test p mid ≡ Some (xs, us)
      → repeat_within (suc n) test p ts ≡ Some (x ++ xs, us)
  goes_at n ts mid us x xs h e f = rw (h, e, f) refl

  repeat_complete : (ts : List X) (xs : List A) (us : List X) → Star P ts xs us → ends us ≡ true → (n : ℕ) → length ts ≤ n → repeat_within n test p ts ≡ Some (xs, us)
  repeat_complete ts xs us stop h n enough = stops_at n ts (stops ts h)
  repeat_complete ts xs us (more {mid = mid} {x = x} {xs = ys} r s) h zero enough = let m = (starts ts x mid r).1 in absurd (omega arith)
  repeat_complete ts xs us (more {mid = mid} {x = x} {xs = ys} r s) h (suc n) enough =
      let m = starts ts x mid r in
      let less : length mid < length ts = m.1 in
      goes_at n ts mid us x ys m.0 (dp.complete ts x mid r (mid_ends mid ys us s h)) (repeat_complete mid ys us s h n (omega arith))

  stopped : (ts : List X) (xs : List A) (us : List X) → got [] ts ≡ got xs us → Star P ts xs us
  stopped ts xs us h = let x = some_pair [] xs ts us h in rw (← x.0, ← x.1) stop

  carried : (ts : List X) (xs ys : List A) (us vs : List X) → xs ≡ ys → us ≡ vs → Star P ts xs us → Star P ts ys vs
  carried ts xs ys us vs e f s = rw (← e, ← f) s

  went_on : (n : ℕ) (ts : List X) (b : Bool) (xs : List A) (us : List X)
      → ((ts : List X) (xs : List A) (us : List X) → repeat_within n test p ts ≡ got xs us → Star P ts xs us)
      → cond b (and_then (p ts) (λ x mid. and_then (repeat_within n test p mid) (λ ys vs. got (x ++ ys) vs))) (got [] ts) ≡ got xs us → Star P ts xs us
  went_on n ts false xs us ih h = stopped ts xs us h
  went_on n ts true xs us ih h =
      let a = and_then_some (p ts) (λ x mid. and_then (repeat_within n test p mid) (λ ys vs. got (x ++ ys) vs)) xs us h in
      let b = and_then_some (repeat_within n test p a.1) (λ ys vs. got (a.0 ++ ys) vs) xs us a.3 in
      let e = some_pair (a.0 ++ b.0) xs b.1 us b.3 in
      carried ts (a.0 ++ b.0) xs b.1 us e.0 e.1 (more (dp.sound ts a.0 a.1 a.2) (ih a.1 b.0 b.1 b.2))

  repeat_sound : (n : ℕ) (ts : List X) (xs : List A) (us : List X) → repeat_within n test p ts ≡ got xs us → Star P ts xs us
  repeat_sound zero ts xs us h = stopped ts xs us h
  repeat_sound (suc n) ts xs us h = went_on n ts (test ts) xs us (repeat_sound n) h

  pub repeat_decides : Decides (repeat test p) (Star P) ends
  unfolding repeat
  repeat_decides = record {
    sound = λ ts xs us h. repeat_sound (length ts) ts xs us h;
    complete = λ ts xs us d h. repeat_complete ts xs us d h (length ts) (omega arith);
    shorter = star_shorter;
  }
