-- A loop beside a repetition of the grammar.
use Rattle.std.specs.Prelude.{Option, option_to_list}
use Rattle.std.proofs.Common.{◌≡◌, ℕ, zero, suc, ◌-◌, ◌<◌, ◌≤◌, Bool, true, false, List, [], ◌∷◌, ◌++◌, length, Some, None, refl, sym, ◌∙◌, ap, arith, append_assoc}
use Rattle.std.proofs.lemmas.List.{append-nil}
use Rattle.rdf_grammar.specs.Steps.{and_then}
use Rattle.rdf_grammar.specs.declared.fault.GrammarFault.{GrammarFault}
use Rattle.rdf_grammar.specs.declared.fault.GrammarFault.TheVariants.{Syntax, NoMemory}
use Rattle.rdf_grammar.specs.Readings.{Outcome, Reading, Fails, is_more, one, repeat, repeat_within}

abbrev pub with_front : {X A : Type 0} → List A → Outcome X (List A) → Outcome X (List A)
with_front found o = and_then o (λ xs ts. Some (found ++ xs, ts))

with_front-empty : {X A : Type 0} (o : Outcome X (List A)) → o ≡ with_front [] o
with_front-empty None = refl
with_front-empty (Some p) = refl

with_front-twice : {X A : Type 0} (a b : List A) (o : Outcome X (List A)) → with_front a (with_front b o) ≡ with_front (a ++ b) o
with_front-twice a b None = refl
with_front-twice a b (Some p) = ap (λ xs. Some (xs, p.1)) (sym (append_assoc a b p.0))

-- A repetition that has read found, and goes on at the lexemes now.
pub record Going {X A : Type 0} (test : List X → Bool) (p : Reading X (List A)) (whole : Outcome X (List A)) (found : List A) (now : List X) : Type 0 where
  pub turns : ℕ
  pub enough : length now ≤ turns
  pub same : whole ≡ with_front found (repeat_within turns test p now)

-- a turn that the test lets through
turn : {X A : Type 0} (test : List X → Bool) (p : Reading X (List A)) (n : ℕ) (ts : List X) → test ts ≡ true
    → repeat_within (suc n) test p ts ≡ and_then (p ts) (λ x. λ us. with_front x (repeat_within n test p us))
turn test p n ts h = rw h refl

stop : {X A : Type 0} (test : List X → Bool) (p : Reading X (List A)) (n : ℕ) (ts : List X) → test ts ≡ false
    → repeat_within n test p ts ≡ Some ([], ts)
stop test p zero ts h = refl
stop test p (suc n) ts h = rw h refl

pub going_starts : {X A : Type 0} (test : List X → Bool) (p : Reading X (List A)) (ts : List X) → Going test p (repeat test p ts) [] ts
unfolding repeat
going_starts test p ts = record { turns = length ts; enough = omega arith; same = with_front-empty _ }

going_on_at : {X A : Type 0} (test : List X → Bool) (p : Reading X (List A)) (whole : Outcome X (List A)) (found x : List A) (now then : List X) (n : ℕ)
    → length now ≤ n → whole ≡ with_front found (repeat_within n test p now)
    → test now ≡ true → p now ≡ Some (x, then) → length then < length now → Going test p whole (found ++ x) then
going_on_at test p whole found x now then zero enough same h e shorter = absurd (omega arith)
going_on_at test p whole found x now then (suc n) enough same h e shorter = record {
  turns = n;
  enough = omega arith;
  same = same ∙ ap (with_front found) (turn test p n now h ∙ ap (λ o. and_then o (λ x. λ us. with_front x (repeat_within n test p us))) e) ∙ with_front-twice found x (repeat_within n test p then);
}

pub going_on : {X A : Type 0} {test : List X → Bool} {p : Reading X (List A)} {whole : Outcome X (List A)} {found : List A} {now : List X} (x : List A) (then : List X)
    → Going test p whole found now → test now ≡ true → p now ≡ Some (x, then) → length then < length now → Going test p whole (found ++ x) then
going_on x then g h e shorter = going_on_at _ _ _ _ x _ then g.turns g.enough g.same h e shorter

done_at : {X A : Type 0} (test : List X → Bool) (p : Reading X (List A)) (found : List A) (n : ℕ) (now : List X) → test now ≡ false
    → with_front found (repeat_within n test p now) ≡ Some (found, now)
done_at test p found n now h = rw (stop test p n now h) (ap (λ xs. Some (xs, now)) (append-nil found))

pub going_done : {X A : Type 0} {test : List X → Bool} {p : Reading X (List A)} {whole : Outcome X (List A)} {found : List A} {now : List X}
    → Going test p whole found now → test now ≡ false → whole ≡ Some (found, now)
going_done g h = g.same ∙ done_at _ _ _ g.turns _ h

fails_at : {X A : Type 0} (test : List X → Bool) (p : Reading X (List A)) (found : List A) (n : ℕ) (now : List X)
    → length now ≤ n → 0 < length now → test now ≡ true → p now ≡ None → with_front found (repeat_within n test p now) ≡ None
fails_at test p found zero now enough some h e = absurd (omega arith)
fails_at test p found (suc n) now enough some h e = ap (with_front found) (turn test p n now h ∙ ap (λ o. and_then o (λ x. λ us. with_front x (repeat_within n test p us))) e)

pub going_fails : {X A : Type 0} {test : List X → Bool} {p : Reading X (List A)} {whole : Outcome X (List A)} {found : List A} {now : List X}
    → Going test p whole found now → 0 < length now → test now ≡ true → p now ≡ None → whole ≡ None
going_fails g some h e = g.same ∙ fails_at _ _ _ g.turns _ g.enough some h e

-- ---- faults

-- a fault of a part is one of the whole
pub fails_on : {X A B : Type 0} {o : Outcome X A} {w : Outcome X B} (e : GrammarFault) → Fails o e → (o ≡ None → w ≡ None) → Fails w e
fails_on Syntax h f = f h
fails_on (NoMemory refusal) h f = tt

-- ---- readings in a row

pub fails_first : {X A B : Type 0} (o : Outcome X A) (f : A → Reading X B) (e : GrammarFault) → Fails o e → Fails (and_then o f) e
fails_first o f e h = fails_on e h (λ none. ap (λ o. and_then o f) none)

pub fails_then : {X A B : Type 0} (o : Outcome X A) (f : A → Reading X B) (x : A) (us : List X) (e : GrammarFault) → o ≡ Some (x, us) → Fails (f x us) e → Fails (and_then o f) e
fails_then o f x us e read h = rw read h

pub reads_then : {X A B : Type 0} {o : Outcome X A} (f : A → Reading X B) {x : A} {us : List X} (w : Outcome X B) → o ≡ Some (x, us) → f x us ≡ w → and_then o f ≡ w
reads_then f w read h = rw read h

pub deeper : {A : Type 0} (f : ℕ → A) (n : ℕ) → 0 < n → f n ≡ f (suc (n - 1))
deeper f n some = let e : n ≡ suc (n - 1) = omega arith in ap f e

pub one_reads : {X A : Type 0} (p : Reading X A) (ts us : List X) (x : A) → p ts ≡ Some (x, us) → one p ts ≡ Some (x ∷ [], us)
one_reads p ts us x h = rw h refl

pub one_fails : {X A : Type 0} (p : Reading X A) (ts : List X) → p ts ≡ None → one p ts ≡ None
one_fails p ts h = rw h refl

-- ---- a list that begins with a front, and grows by a repetition

pub record Grown {X A : Type 0} (test : List X → Bool) (p : Reading X (List A)) (whole : Outcome X (List A)) (front all : List A) (now : List X) : Type 0 where
  pub found : List A
  pub all_is : all ≡ front ++ found
  pub going : Going test p whole found now

pub grown_starts : {X A : Type 0} (test : List X → Bool) (p : Reading X (List A)) (front : List A) (ts : List X) → Grown test p (repeat test p ts) front front ts
grown_starts test p front ts = record { found = []; all_is = sym (append-nil front); going = going_starts test p ts }

pub grown_on : {X A : Type 0} {test : List X → Bool} {p : Reading X (List A)} {whole : Outcome X (List A)} {front all : List A} {now : List X} (x all' : List A) (then : List X)
    → Grown test p whole front all now → test now ≡ true → p now ≡ Some (x, then) → length then < length now → all' ≡ all ++ x → Grown test p whole front all' then
grown_on {front = front} x all' then g h e shorter more = record {
  found = g.found ++ x;
  all_is = more ∙ ap (λ l. l ++ x) g.all_is ∙ append_assoc front g.found x;
  going = going_on x then g.going h e shorter;
}

-- ---- what a turn puts behind a list

pub none_pushed : {A : Type 0} (l : List A) (o : Option A) → o ≡ None → l ≡ l ++ option_to_list o
none_pushed l o h = rw h (sym (append-nil l))

pub one_pushed : {A : Type 0} (l m : List A) (x : A) (o : Option A) → m ≡ l ++ x ∷ [] → o ≡ Some x → m ≡ l ++ option_to_list o
one_pushed l m x o e h = rw h e

-- ---- the end of the lexemes

pub more_seen : {X : Type 0} (ts : List X) → true ≡ is_more ts → is_more ts ≡ true
more_seen ts h = sym h

pub no_more : {X : Type 0} (ts : List X) → false ≡ is_more ts → ts ≡ []
no_more [] h = refl
no_more (t ∷ ts) h = absurd (cc)
