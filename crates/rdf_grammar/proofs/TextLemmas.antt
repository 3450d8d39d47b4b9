-- What holds of each text before its grammar: where it stops being UTF-8, its one list of lexemes, and where its brackets nest too deep.
use Rattle.std.proofs.Common.{◌≡◌, ◌⊎◌, inl, inr, ◌<◌, ◌≤◌, ◌+◌, ℕ, zero, suc, List, [], ◌∷◌, length, take, Some, refl, sym, ap, subst, ◌∙◌, add-one, arith, true≢false, take_all}
use Rattle.std.proofs.lemmas.Bool.{cases_Bool, cases_lt}
use Rattle.std.proofs.lemmas.Str.{IsUtf8-nil, IsUtf8-from_is_utf8, is_utf8-from_IsUtf8}
use Rattle.std.specs.List.{AllByRecursion, slice_get}
use Rattle.std.specs.Str.{IsUtf8, is_utf8, IsValidUpTo, encode_utf8_all}
use Rattle.rdf_tokens.specs.declared.token.Kind.{Kind}
use Rattle.rdf_tokens.specs.declared.token.Token.{Token}
use Rattle.rdf_tokens.specs.Tokens.{HasItsForm}
use Rattle.rdf_tokens.proofs.CallerLemmas.{stands_once}
use Rattle.rdf_grammar.specs.declared.bracket.Bracket.{Bracket}
use Rattle.rdf_grammar.specs.declared.lexeme.Lexeme.{Lexeme}
use Rattle.rdf_grammar.specs.Lexemes.{IsLexeme, AreLexemes}
use Rattle.rdf_grammar.specs.Nesting.{IsTooDeep, IsTooDeepAt, open_after, open_behind}
use Rattle.rdf_grammar.specs.Terminals.{Lexemes}
use Rattle.rdf_grammar.proofs.Depths.{one_behind}

pub no_other : (m n : ℕ) → ¬ (m < n) → ¬ (n < m) → m ≡ n
no_other m n a b = elim (cases_lt m n) [
  | inl l ↦ absurd (a l)
  | inr l ↦ elim (cases_lt n m) [
    | inl k ↦ absurd (b k)
    | inr k ↦ omega (arith, l, k)
  ]
]

-- ---- bytes

-- of the fronts up to a length, the longest that is UTF-8
longest_front : (bytes : List ℕ) (limit : ℕ)
    → (n : ℕ) × IsUtf8 (take n bytes) × ((m : ℕ) → n < m → m ≤ limit → ¬ (IsUtf8 (take m bytes)))
longest_front bytes zero = (0, IsUtf8-nil, λ m above within. absurd (omega arith))
longest_front bytes (suc limit) = elim (cases_Bool (is_utf8 (take (suc limit) bytes))) [
  | inl whole ↦ (suc limit, IsUtf8-from_is_utf8 (take (suc limit) bytes) whole, λ m above within. absurd (omega arith))
  | inr other ↦ (
      let rest = longest_front bytes limit in (
        rest.0,
        rest.1,
        λ m above within u. elim (cases_lt limit m) [
          | inl top ↦ (
              let same : m ≡ suc limit = omega arith in
              true≢false (sym (is_utf8-from_IsUtf8 (take (suc limit) bytes) (subst (λ (k : ℕ). IsUtf8 (take k bytes)) same u)) ∙ other))
          | inr low ↦ rest.2 m above low u
        ],
      ))
]

-- bytes that are not UTF-8 stop being it somewhere
pub stops_somewhere : (bytes : List ℕ) → ¬ (IsUtf8 bytes) → (place : ℕ) × IsValidUpTo bytes place
stops_somewhere bytes not =
    let front = longest_front bytes (length bytes) in
    let short : front.0 < length bytes = elim (cases_lt front.0 (length bytes)) [
      | inl l ↦ l
      | inr l ↦ absurd (not (subst IsUtf8 (take_all front.0 bytes l) front.1))
    ] in (
      front.0,
      record {
        short = short;
        front = front.1;
        longest = λ m above u. elim (cases_lt (length bytes) m) [
          | inl past ↦ not (subst IsUtf8 (take_all m bytes (omega (arith, past))) u)
          | inr within ↦ front.2 m above within u
        ];
      },
    )

front_place : (text : List ℕ) (m n : ℕ) → IsValidUpTo text m → IsValidUpTo text n → ¬ (m < n)
front_place text m n h k lt = h.longest n lt k.front

-- and at one place
pub one_front : (text : List ℕ) (m n : ℕ) → IsValidUpTo text m → IsValidUpTo text n → m ≡ n
one_front text m n h k = no_other m n (front_place text m n h k) (front_place text n m k h)

-- ---- tokens and lexemes

pub got : (xs : List Token) (n : ℕ) → n < length xs → (x : Token) × (slice_get xs n ≡ Some x)
got [] n h = absurd (omega (arith, h))
got (x ∷ xs) zero h = (x, refl)
got (x ∷ xs) (suc n) h = got xs n (omega (arith, h))

module _ {T : Type 0} (terminal : Kind → List ℕ → T) where
  pub some_lexemes : (text : List ℕ) (tokens : List Token) → AllByRecursion (HasItsForm text) tokens → (lexemes : Lexemes T) × AreLexemes terminal text tokens lexemes
  some_lexemes text [] h = ([], tt)
  some_lexemes text (t ∷ ts) h =
      let slice = h.0 in
      let rest = some_lexemes text ts h.1 in
      (record { terminal = terminal t.kind (encode_utf8_all slice.1); text = slice.1 } ∷ rest.0, (((slice.0, slice.2, slice.3, slice.4, slice.5), refl), rest.1))

  parts_same : (x y : T) (s t : List ℕ) (a b : Lexeme T) → x ≡ y → s ≡ t → a ≡ record { terminal = x; text = s } → b ≡ record { terminal = y; text = t } → a ≡ b
  parts_same x y s t a b e f g h = cc

  one_lexeme : (text : List ℕ) (token : Token) (a b : Lexeme T) → IsLexeme terminal text token a → IsLexeme terminal text token b → a ≡ b
  one_lexeme text token a b h k =
      let slice : a.text ≡ b.text = stands_once text token.start token.stop a.text b.text h.0 k.0 in
      parts_same a.terminal b.terminal a.text b.text a b (h.1 ∙ ap (λ (s : List ℕ). terminal token.kind (encode_utf8_all s)) slice ∙ sym k.1) slice refl refl

  lists_same : (a b : Lexeme T) (ls ms : Lexemes T) → a ≡ b → ls ≡ ms → a ∷ ls ≡ b ∷ ms
  lists_same a b ls ms e f = cc

  pub one_lexemes : (text : List ℕ) (tokens : List Token) (ls ms : Lexemes T) → AreLexemes terminal text tokens ls → AreLexemes terminal text tokens ms → ls ≡ ms
  one_lexemes text [] [] [] h k = refl
  one_lexemes text [] [] (m ∷ ms) h k = absurd k
  one_lexemes text [] (l ∷ ls) ms h k = absurd h
  one_lexemes text (t ∷ ts) [] ms h k = absurd h
  one_lexemes text (t ∷ ts) (l ∷ ls) [] h k = absurd k
  one_lexemes text (t ∷ ts) (l ∷ ls) (m ∷ ms) h k = lists_same l m ls ms (one_lexeme text t l m h.0 k.0) (one_lexemes text ts ls ms h.1 k.1)

  pub same_lengths : (text : List ℕ) (ts : List Token) (ls : Lexemes T) → AreLexemes terminal text ts ls → length ls ≡ length ts
  same_lengths text [] [] h = refl
  same_lengths text [] (l ∷ ls) h = absurd h
  same_lengths text (t ∷ ts) [] h = absurd h
  same_lengths text (t ∷ ts) (l ∷ ls) h = omega (arith, same_lengths text ts ls h.1)

-- ---- brackets

module _ {T : Type 0} (bracket : T → Bracket) where
  -- with so many open before, never more than 100 are, or there is a first lexeme behind which they are
  abbrev DeepOrNot : ℕ → Lexemes T → Type 0
  DeepOrNot b ts =
      ((n : ℕ) → open_after bracket b (take n ts) ≤ 100)
      ⊎ ((place : ℕ) × (place < length ts) × (open_after bracket b (take (suc place) ts) ≡ 101) × ((n : ℕ) → n ≤ place → open_after bracket b (take n ts) ≤ 100))

  at_start : (b : ℕ) (n : ℕ) (t : Lexeme T) (ts : Lexemes T) → b ≤ 100 → n ≤ 0 → open_after bracket b (take n (t ∷ ts)) ≤ 100
  at_start b zero t ts low l = low
  at_start b (suc n) t ts low l = absurd (omega (arith, l))

  never : (b : ℕ) (n : ℕ) → b ≤ 100 → open_after bracket b (take n []) ≤ 100
  never b zero low = low
  never b (suc n) low = low

  all_later : (b n : ℕ) (t : Lexeme T) (ts : Lexemes T) → b ≤ 100 → ((m : ℕ) → open_after bracket (open_behind bracket b t.terminal) (take m ts) ≤ 100)
      → open_after bracket b (take n (t ∷ ts)) ≤ 100
  all_later b zero t ts low h = low
  all_later b (suc n) t ts low h = h n

  some_later : (b n place : ℕ) (t : Lexeme T) (ts : Lexemes T) → b ≤ 100
      → ((m : ℕ) → m ≤ place → open_after bracket (open_behind bracket b t.terminal) (take m ts) ≤ 100) → n ≤ suc place → open_after bracket b (take n (t ∷ ts)) ≤ 100
  some_later b zero place t ts low h l = low
  some_later b (suc n) place t ts low h l = h n (omega (arith, l))

  deep_or_not : (b : ℕ) (ts : Lexemes T) → b ≤ 100 → DeepOrNot b ts
  deep_or_not b [] low = inl (λ n. never b n low)
  deep_or_not b (t ∷ ts) low = elim (cases_lt 100 (open_behind bracket b t.terminal)) [
    | inl over ↦ inr (0, omega arith, omega (arith, over, low, one_behind bracket b t.terminal), λ n l. at_start b n t ts low l)
    | inr fits ↦ elim (deep_or_not (open_behind bracket b t.terminal) ts fits) [
      | inl all ↦ inl (λ n. all_later b n t ts low all)
      | inr found ↦ inr (suc found.0, omega (arith, found.1), found.2, λ n l. some_later b n found.0 t ts low found.3 l)
    ]
  ]

  pub shallow_or_deep : (ts : Lexemes T) → ¬ (IsTooDeep bracket ts) ⊎ ((place : ℕ) × IsTooDeepAt bracket ts place)
  shallow_or_deep ts = elim (deep_or_not 0 ts (omega arith)) [
    | inl all ↦ inl (λ h. (let fits = all h.0 in let over = h.1 in absurd (omega (arith, fits, over))))
    | inr found ↦ inr (found.0, record { within = found.1; over = rw add-one found.2; first = found.3 })
  ]

  pub deep_at : (lexemes : Lexemes T) (place : ℕ) → IsTooDeepAt bracket lexemes place → IsTooDeep bracket lexemes
  deep_at lexemes place h = (place + 1, omega (arith, h.over))

  opener_place : (lexemes : Lexemes T) (m n : ℕ) → IsTooDeepAt bracket lexemes m → IsTooDeepAt bracket lexemes n → ¬ (m < n)
  opener_place lexemes m n h k lt = omega (arith, h.over, k.first (m + 1) (omega (arith, lt)))

  pub one_opener : (lexemes : Lexemes T) (m n : ℕ) → IsTooDeepAt bracket lexemes m → IsTooDeepAt bracket lexemes n → m ≡ n
  one_opener lexemes m n h k = no_other m n (opener_place lexemes m n h k) (opener_place lexemes n m k h)
