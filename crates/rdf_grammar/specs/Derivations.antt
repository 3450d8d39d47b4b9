-- What a grammar derives: relations between lexemes, a tree and the lexemes left. Nothing looks ahead here.
use Rattle.std.specs.Prelude.{◌≡◌, List, [], ◌∷◌, ◌++◌, Option, ◌⊎◌, MatchOption, option_to_list}
use Rattle.rdf_grammar.specs.declared.lexeme.Lexeme.{Lexeme}
use Rattle.rdf_grammar.specs.Terminals.{Slice}

abbrev pub Derives : Type 0 → Type 0 → Type 1
Derives X A = List X → A → List X → Type 0

pub record Then {X A B : Type 0} (P : Derives X A) (F : A → Derives X B) (ts : List X) (b : B) (us : List X) : Type 0 where
  pub first : A
  pub mid : List X
  pub reads : P ts first mid
  pub goes : F first mid b us

infixl 10 ◌>>=◌
abbrev pub ◌>>=◌ : {X A B : Type 0} → Derives X A → (A → Derives X B) → Derives X B
P >>= F = Then P F

infixl 10 ◌>>◌
abbrev pub ◌>>◌ : {X A B : Type 0} → Derives X A → Derives X B → Derives X B
P >> Q = P >>= (λ _. Q)

abbrev pub pure : {X A : Type 0} → A → Derives X A
pure a ts b us = (a ≡ b) × (ts ≡ us)

infixr 11 ◌<$>◌
abbrev pub ◌<$>◌ : {X A B : Type 0} → (A → B) → Derives X A → Derives X B
f <$> P = P >>= (λ x. pure (f x))

-- P | Q
infixr 9 ◌∣◌
abbrev pub ◌∣◌ : {X A : Type 0} → Derives X A → Derives X A → Derives X A
(P ∣ Q) ts a us = P ts a us ⊎ Q ts a us

-- a lexeme of this terminal
abbrev pub the : {T : Type 0} → T → Derives (Lexeme T) (Unit {0})
the {T} k ts v us = (t : Lexeme T) × (t.terminal ≡ k) × (ts ≡ t ∷ us)

-- a lexeme of this terminal, with its characters
abbrev pub value : {T : Type 0} → T → Derives (Lexeme T) Slice
value {T} k ts v us = (t : Lexeme T) × (t.terminal ≡ k) × (t.text ≡ v) × (ts ≡ t ∷ us)

-- the list of the one tree that P derives
abbrev pub one : {X A : Type 0} → Derives X A → Derives X (List A)
one P = (λ x. x ∷ []) <$> P

-- ( P )?
abbrev pub maybe : {X A : Type 0} → Derives X A → Derives X (Option A)
maybe P ts o us = MatchOption o (ts ≡ us) (λ a. P ts a us)

-- ( P )*
pub data Star {X A : Type 0} (P : Derives X (List A)) : List X → List A → List X → Type 0 where
  stop : {ts : List X} → Star P ts [] ts
  more : {ts mid us : List X} {x xs : List A} → P ts x mid → Star P mid xs us → Star P ts (x ++ xs) us

-- ---- lists

-- ( k P )*
abbrev pub EachBehind : {T A : Type 0} → T → Derives (Lexeme T) A → Derives (Lexeme T) (List A)
EachBehind k P = Star (one (the k >> P))

-- P ( k P )*
abbrev pub Separated : {T A : Type 0} → T → Derives (Lexeme T) A → Derives (Lexeme T) (List A)
Separated k P = do
  first ← P
  others ← EachBehind k P
  pure (first ∷ others)

-- P ( k ( P )? )*
abbrev pub SeparatedLoosely : {T A : Type 0} → T → Derives (Lexeme T) A → Derives (Lexeme T) (List A)
SeparatedLoosely k P = do
  first ← P
  others ← Star (the k >> option_to_list <$> maybe P)
  pure (first ∷ others)
