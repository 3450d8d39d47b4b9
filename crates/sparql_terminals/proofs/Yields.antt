-- What is derived of formed lexemes is good, and leaves formed lexemes.
use Rattle.std.proofs.Common.{◌≡◌, List, [], ◌∷◌, ◌++◌, Option, Some, None, subst, inl, inr}
use Rattle.std.specs.List.{AllByRecursion}
use Rattle.rdf_grammar.specs.Terminals.{Slice}
use Rattle.rdf_grammar.specs.Derivations as grammar
use Rattle.rdf_grammar.specs.Derivations.{Then, Star, stop, more}
use Rattle.sparql_terminals.specs.declared.terminal.Terminal.{Terminal}
use Rattle.sparql_terminals.specs.Formed.{Formed, AllFormed}
use Rattle.sparql_terminals.specs.Lexemes.{Lexeme, Lexemes, Derives}

unfoldable pub Yields : {A : Type 0} → Derives A → (A → Type 0) → Type 0
Yields {A} P Good = (ts : Lexemes) (x : A) (us : Lexemes) → P ts x us → AllFormed ts → Good x × AllFormed us

pub then_gives : {A B : Type 0} (P : Derives A) (F : A → Derives B) (Good : A → Type 0) (Best : B → Type 0) → Yields P Good → ((a : A) → Good a → Yields (F a) Best) → Yields (Then P F) Best
unfolding Yields
then_gives P F Good Best p f ts x us d w = let r = p ts d.first d.mid d.reads w in f d.first r.0 d.mid x us d.goes r.1

pub pure_gives : {A : Type 0} (a : A) (Good : A → Type 0) → Good a → Yields (grammar.pure a) Good
unfolding Yields
pure_gives a Good h ts x us d w = (rw (← d.0) h, rw (← d.1) w)

pub or_gives : {A : Type 0} (P Q : Derives A) (Good : A → Type 0) → Yields P Good → Yields Q Good → Yields (grammar.◌∣◌ P Q) Good
unfolding Yields
or_gives P Q Good p q ts x us (inl d) w = p ts x us d w
or_gives P Q Good p q ts x us (inr d) w = q ts x us d w

-- and what holds of all that is derived
pub also_gives : {A : Type 0} (P : Derives A) (Good Best : A → Type 0) → Yields P Good → ((ts : Lexemes) (x : A) (us : Lexemes) → P ts x us → Best x) → Yields P (λ x. Good x × Best x)
unfolding Yields
also_gives P Good Best p holds ts x us d w = let r = p ts x us d w in ((r.0, holds ts x us d), r.1)

-- the slice is the text of such a lexeme
pub record IsOf (k : Terminal) (text : Slice) : Type 0 where
  pub lexeme : Lexeme
  pub formed : Formed lexeme
  pub terminal : lexeme.terminal ≡ k
  pub is : lexeme.text ≡ text

abbrev pub Any : {A : Type 0} → A → Type 0
Any a = Unit {0}

pub front_formed : (ts us : Lexemes) (t : Lexeme) → ts ≡ t ∷ us → AllFormed ts → Formed t × AllFormed us
front_formed ts us t e w = let both : AllByRecursion Formed (t ∷ us) = subst (λ (x : Lexemes). AllByRecursion Formed x) e w in (both.0, both.1)

pub the_gives : (k : Terminal) → Yields (grammar.the k) Any
unfolding Yields
the_gives k ts x us d w = (tt, (front_formed ts us d.0 d.2 w).1)

pub value_gives : (k : Terminal) → Yields (grammar.value k) (IsOf k)
unfolding Yields
value_gives k ts x us d w = let f = front_formed ts us d.0 d.3 w in (record { lexeme = d.0; formed = f.0; terminal = d.1; is = d.2 }, f.1)

pub map_gives : {A B : Type 0} (f : A → B) (P : Derives A) (Good : A → Type 0) (Best : B → Type 0) → Yields P Good → ((a : A) → Good a → Best (f a)) → Yields (grammar.◌<$>◌ f P) Best
map_gives f P Good Best p h = then_gives P _ Good Best p (λ a x. pure_gives (f a) Best (h a x))

pub behind_gives : {A : Type 0} (k : Terminal) (P : Derives A) (Good : A → Type 0) → Yields P Good → Yields (grammar.◌>>◌ (grammar.the k) P) Good
behind_gives k P Good p = then_gives (grammar.the k) _ Any Good (the_gives k) (λ _ _. p)

-- a lexeme, and a tree behind it
pub closed_gives : {A : Type 0} (k : Terminal) (x : A) (Good : A → Type 0) → Good x → Yields (grammar.◌>>◌ (grammar.the k) (grammar.pure x)) Good
closed_gives k x Good h = behind_gives k _ Good (pure_gives x Good h)

abbrev pub IsGoodOption : {A : Type 0} → (A → Type 0) → Option A → Type 0
IsGoodOption Good None = Unit {0}
IsGoodOption Good (Some x) = Good x

pub maybe_gives : {A : Type 0} (P : Derives A) (Good : A → Type 0) → Yields P Good → Yields (grammar.maybe P) (IsGoodOption Good)
unfolding Yields
maybe_gives P Good p ts None us d w = (tt, rw (← d) w)
maybe_gives P Good p ts (Some x) us d w = p ts x us d w

pub good_joined : {A : Type 0} (Good : A → Type 0) (xs ys : List A) → AllByRecursion Good xs → AllByRecursion Good ys → AllByRecursion Good (xs ++ ys)
good_joined Good [] ys a b = b
good_joined Good (x ∷ xs) ys a b = (a.0, good_joined Good xs ys a.1 b)

pub star_gives : {A : Type 0} (P : Derives (List A)) (Good : A → Type 0) → Yields P (AllByRecursion Good) → Yields (Star P) (AllByRecursion Good)
unfolding Yields
star_gives P Good p ts xs us stop w = (tt, w)
star_gives P Good p ts xs us (more {mid = mid} {x = x} {xs = ys} r s) w =
    let a = p ts x mid r w in
    let b = star_gives P Good p mid ys us s a.1 in
    (good_joined Good x ys a.0 b.0, b.1)

pub one_gives : {A : Type 0} (P : Derives A) (Good : A → Type 0) → Yields P Good → Yields (grammar.one P) (AllByRecursion Good)
one_gives P Good p = map_gives (λ x. x ∷ []) P Good (AllByRecursion Good) p (λ a h. (h, tt))
