-- What a combinator reads is what it derives.
use Rattle.std.proofs.Common.{◌≡◌, ◌≤◌, Bool, true, false, List, [], ◌∷◌, length, Option, Some, None, refl, ap, arith, cond, inl, inr}
use Rattle.rdf_grammar.specs.Steps as steps
use Rattle.rdf_grammar.specs.Readings as reading
use Rattle.rdf_grammar.specs.Readings.{Outcome, Reading, Test}
use Rattle.rdf_grammar.specs.Derivations as grammar
use Rattle.rdf_grammar.specs.Derivations.{Derives, Then}
use Rattle.rdf_grammar.proofs.Decides.{always, Decides, then_decides, pure_decides, some_pair, and_then_some}

pub one_decides : {X A : Type 0} (p : Reading X A) (P : Derives X A) (ends : Test X) → Decides p P ends → Decides (reading.one p) (grammar.one P) ends
one_decides p P ends d = then_decides p P _ _ ends ends d (λ a. pure_decides (a ∷ []) ends) (λ a mid b us h e. rw h.1 e)

pub seq : {X A B : Type 0} (p : Reading X A) (P : Derives X A) (f : A → Reading X B) (F : A → Derives X B) (ends : Test X) → Decides p P always → ((a : A) → Decides (f a) (F a) ends)
    → Decides (steps.◌>>=◌ p f) (Then P F) ends
seq p P f F ends d df = then_decides p P f F always ends d df (λ a mid b us h e. refl)

pub last : {X A B : Type 0} (f : A → B) (p : Reading X A) (P : Derives X A) (ends : Test X) → Decides p P ends → Decides (steps.◌<$>◌ f p) (grammar.◌<$>◌ f P) ends
last f p P ends d = then_decides p P _ _ ends ends d (λ a. pure_decides (f a) ends) (λ a mid b us h e. rw h.1 e)

-- what derives the same trees is decided too
pub also : {X A : Type 0} (p : Reading X A) (P Q : Derives X A) (ends : Test X) → Decides p P ends
    → ((ts : List X) (a : A) (us : List X) → P ts a us → Q ts a us) → ((ts : List X) (a : A) (us : List X) → Q ts a us → P ts a us) → Decides p Q ends
also p P Q ends d there back = record {
  sound = λ ts a us h. there ts a us (d.sound ts a us h);
  complete = λ ts a us h e. d.complete ts a us (back ts a us h) e;
  shorter = λ ts a us h. d.shorter ts a us (back ts a us h);
}

-- ---- P | Q, where a look tells which of them is there

module _ {X A : Type 0} (test : Test X) (p q : Reading X A) (P Q : Derives X A) (ends : Test X) (dp : Decides p P ends) (dq : Decides q Q ends)
    (first : (ts : List X) (x : A) (us : List X) → P ts x us → ends us ≡ true → test ts ≡ true)
    (second : (ts : List X) (x : A) (us : List X) → Q ts x us → ends us ≡ true → test ts ≡ false) where
  chosen : (b : Bool) (ts : List X) (x : A) (us : List X) → cond b (p ts) (q ts) ≡ Some (x, us) → grammar.◌∣◌ P Q ts x us
  chosen true ts x us h = inl (dp.sound ts x us h)
  chosen false ts x us h = inr (dq.sound ts x us h)

  choose_complete : (ts : List X) (x : A) (us : List X) → grammar.◌∣◌ P Q ts x us → ends us ≡ true → reading.choose test p q ts ≡ Some (x, us)
  choose_complete ts x us (inl d) e = rw (first ts x us d e) (dp.complete ts x us d e)
  choose_complete ts x us (inr d) e = rw (second ts x us d e) (dq.complete ts x us d e)

  choose_shorter : (ts : List X) (x : A) (us : List X) → grammar.◌∣◌ P Q ts x us → length us ≤ length ts
  choose_shorter ts x us (inl d) = dp.shorter ts x us d
  choose_shorter ts x us (inr d) = dq.shorter ts x us d

  pub choose_decides : Decides (reading.choose test p q) (grammar.◌∣◌ P Q) ends
  choose_decides = record { sound = λ ts x us h. chosen (test ts) ts x us h; complete = choose_complete; shorter = choose_shorter }

-- ---- ( P )?

module _ {X A : Type 0} (test : Test X) (p : Reading X A) (P : Derives X A) (ends_p ends : Test X) (dp : Decides p P ends_p)
    (starts : (ts : List X) (x : A) (us : List X) → P ts x us → test ts ≡ true)
    (stops : (us : List X) → ends us ≡ true → test us ≡ false)
    (goes : (us : List X) → ends us ≡ true → ends_p us ≡ true) where
  abbrev read_some : Reading X (Option A)
  read_some = steps.◌<$>◌ Some p

  maybe_some : (ts : List X) (o : Option A) (us : List X) (a : A) (mid : List X) → Some a ≡ o → mid ≡ us → P ts a mid → grammar.maybe P ts o us
  maybe_some ts o us a mid e f r = rw (← e, ← f) r

  maybe_none : (ts : List X) (o : Option A) (us : List X) → None ≡ o → ts ≡ us → grammar.maybe P ts o us
  maybe_none ts o us e f = rw (← e) f

  maybe_at : (ts : List X) (b : Bool) (o : Option A) (us : List X) → cond b (read_some ts) (Some (None, ts)) ≡ Some (o, us) → grammar.maybe P ts o us
  maybe_at ts false o us h = let x = some_pair None o ts us h in maybe_none ts o us x.0 x.1
  maybe_at ts true o us h =
      let x = and_then_some (p ts) (λ a vs. Some (Some a, vs)) o us h in
      let e = some_pair (Some x.0) o x.1 us x.3 in
      maybe_some ts o us x.0 x.1 e.0 e.1 (dp.sound ts x.0 x.1 x.2)

  maybe_complete : (ts : List X) (o : Option A) (us : List X) → grammar.maybe P ts o us → ends us ≡ true → reading.optional test p ts ≡ Some (o, us)
  maybe_complete ts None us h e = let f = stops us e in rw (h, f) refl
  maybe_complete ts (Some a) us h e = rw (starts ts a us h, dp.complete ts a us h (goes us e)) refl

  maybe_shorter : (ts : List X) (o : Option A) (us : List X) → grammar.maybe P ts o us → length us ≤ length ts
  maybe_shorter ts None us h = omega (arith, ap length h)
  maybe_shorter ts (Some a) us h = dp.shorter ts a us h

  pub maybe_decides : Decides (reading.optional test p) (grammar.maybe P) ends
  maybe_decides = record { sound = λ ts o us h. maybe_at ts (test ts) o us h; complete = maybe_complete; shorter = maybe_shorter }
