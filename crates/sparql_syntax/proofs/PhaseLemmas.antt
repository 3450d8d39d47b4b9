-- A text says one thing in a language, or has one fault.
use Rattle.std.proofs.Common.{◌≡◌, ◌<◌, ◌⊎◌, ◌≤◌, inl, inr, ℕ, zero, suc, false, List, Option, Some, is_some, Result, Ok, Err, refl, sym, ap, subst, ◌∙◌, arith, lit<, lit≤, true≢false}
use Rattle.std.proofs.lemmas.Bool.{cases_lt}
use Rattle.std.specs.List.{slice_get}
use Rattle.std.specs.Str.{chars, IsUtf8}
use Rattle.rdf_grammar.proofs.CallerLemmas as text_lemmas
use Rattle.rdf_grammar.specs.Walks.{start_of}
use Rattle.rdf_tokens.specs.declared.token.Token.{Token}
use Rattle.rdf_tokens.specs.Lines.{line_of}
use Rattle.rdf_tokens.proofs.CallerLemmas.{one_token_list}
use Rattle.sparql_terminals.specs.Lexemes.{Lexeme, Lexemes, AreLexemes}
use Rattle.sparql_grammar.specs.Nesting.{IsTooDeep, IsTooDeepAt}
use Rattle.sparql_terminals.specs.Profile.{AreInside, IsFirstOutside}
use Rattle.sparql_terminals.specs.Terminals.{terminal_by, bracket}
use Rattle.sparql_syntax.specs.declared.fault.SyntaxFault.{SyntaxFault}
use Rattle.sparql_syntax.specs.declared.fault.SyntaxFaultKind.{SyntaxFaultKind}
use Rattle.sparql_syntax.specs.declared.fault.SyntaxFaultKind.TheVariants as fault
use Rattle.sparql_syntax.specs.BrokenRules.{first_broken}
use Rattle.sparql_syntax.specs.FaultyNames.{first_unbound, first_lacking}
use Rattle.sparql_syntax.specs.Phases as phases
use Rattle.sparql_syntax.specs.Phases.{HasTokens, IsLineAt}
use Rattle.sparql_syntax.specs.UpdateLaws.{has_free_line, SameFault}
use Rattle.sparql_syntax.proofs.ProfileLemmas.{not_inside, one_outside}

ok_same : {A E : Type 0} (a b : A) → ◌≡◌ {A = Result A E} (Ok a) (Ok b) → a ≡ b
ok_same a b e = cc

err_same : {A E : Type 0} (a b : E) → ◌≡◌ {A = Result A E} (Err a) (Err b) → a ≡ b
err_same a b e = cc

ok_err : {A E : Type 0} (a : A) (b : E) → ◌≡◌ {A = Result A E} (Ok a) (Err b) → ⊥
ok_err a b e = cc

-- ---- a text has one list of tokens, and one of lexemes

one_tokens : (text : List ℕ) (ts us : List Token) (ls ms : List Lexeme) → HasTokens text ts ls → HasTokens text us ms → (ts ≡ us) × (ls ≡ ms)
one_tokens text ts us ls ms h k =
    let e : ts ≡ us = ok_same ts us (one_token_list (chars text) (Ok ts) (Ok us) h.list k.list) in
    (e, text_lemmas.one_lexemes terminal_by (chars text) us ls ms (subst (λ (x : List Token). AreLexemes (chars text) x ls) e h.slices) k.slices)

some_same : (a b : Token) → Some a ≡ Some b → a ≡ b
some_same a b e = cc

same_line : (text : List ℕ) (ts us : List Token) (t u : Token) (m n line other : ℕ) → ts ≡ us → m ≡ n → slice_get ts m ≡ Some t → slice_get us n ≡ Some u
    → line ≡ line_of text t.start → other ≡ line_of text u.start → line ≡ other
same_line text ts us t u m n line other lists places p q at there =
    let same : t ≡ u = some_same t u (sym p ∙ ap (λ (x : List Token). slice_get x m) lists ∙ ap (λ (x : ℕ). slice_get us x) places ∙ q) in
    at ∙ ap (λ (x : Token). line_of text x.start) same ∙ sym there

same_word : (text : List ℕ) (ts us : List Token) (m n : ℕ) → ts ≡ us → IsFirstOutside (chars text) ts m → IsFirstOutside (chars text) us n → m ≡ n
same_word text ts us m n lists h i = one_outside (chars text) us m n (subst (λ (x : List Token). IsFirstOutside (chars text) x m) lists h) i

same_opener : (ls ms : List Lexeme) (m n : ℕ) → ls ≡ ms → IsTooDeepAt ls m → IsTooDeepAt ms n → m ≡ n
same_opener ls ms m n lists h i = text_lemmas.one_opener bracket ms m n (subst (λ (x : List Lexeme). IsTooDeepAt x m) lists h) i

same_lexeme : (text : List ℕ) (number : Lexemes → ℕ) (line other : ℕ) → IsLineAt text number line → IsLineAt text number other → line ≡ other
same_lexeme text number line other h k =
    let lists = one_tokens text h.0 k.0 h.1 k.1 h.2 k.2 in
    h.3 ∙ ap (λ (x : List Token). line_of text (start_of text x (number h.1))) lists.0 ∙ ap (λ (x : Lexemes). line_of text (start_of text k.0 (number x))) lists.1 ∙ sym k.3

-- ---- a language in which lexemes have one tree at most

module _ {Tree Said : Type 0} (Derives : List Lexeme → Tree → Type 0) (meaning : Option (List ℕ) → Tree → Result Said SyntaxFaultKind)
    (one : (lexemes : List Lexeme) (a b : Tree) → Derives lexemes a → Derives lexemes b → a ≡ b) where
  abbrev HasTree : List ℕ → Tree → Type 0
  HasTree = phases.HasTree Derives

  abbrev IsSaid : Option (List ℕ) → List ℕ → Said → Type 0
  IsSaid = phases.IsSaid Derives meaning

  abbrev IsRefused : Option (List ℕ) → List ℕ → SyntaxFaultKind → Type 0
  IsRefused = phases.IsRefused Derives meaning

  abbrev FaultIs : Option (List ℕ) → List ℕ → SyntaxFaultKind → ℕ → Type 0
  FaultIs = phases.FaultIs Derives meaning

  abbrev IsFaulty : Option (List ℕ) → List ℕ → SyntaxFault → Type 0
  IsFaulty = phases.IsFaulty Derives meaning

  one_tree : (text : List ℕ) (a b : Tree) → HasTree text a → HasTree text b → a ≡ b
  one_tree text a b h k =
      let e = one_tokens text h.tokens k.tokens h.lexemes k.lexemes h.list k.list in
      one h.lexemes a b h.reads (subst (λ (x : List Lexeme). Derives x b) (sym e.1) k.reads)

  same_meaning : (base : Option (List ℕ)) (text : List ℕ) (a b : Tree) → HasTree text a → HasTree text b → meaning base a ≡ meaning base b
  same_meaning base text a b h k = ap (λ (x : Tree). meaning base x) (one_tree text a b h k)

  pub one_said : (base : Option (List ℕ)) (text : List ℕ) (a b : Said) → IsSaid base text a → IsSaid base text b → a ≡ b
  one_said base text a b h k = ok_same a b (sym h.2 ∙ same_meaning base text h.0 k.0 h.1 k.1 ∙ k.2)

  -- ---- how far a text is read: each phase goes past the one before

  abbrev Listed : List ℕ → Type 0
  Listed text = (tokens : List Token) × (lexemes : List Lexeme) × HasTokens text tokens lexemes

  abbrev Inside : List ℕ → Type 0
  Inside text = (tokens : List Token) × (lexemes : List Lexeme) × HasTokens text tokens lexemes × AreInside (chars text) tokens

  abbrev Shallow : List ℕ → Type 0
  Shallow text =
      (tokens : List Token) × (lexemes : List Lexeme) × HasTokens text tokens lexemes × AreInside (chars text) tokens × ¬ (IsTooDeep lexemes)

  abbrev Read : List ℕ → Type 0
  Read text = (tree : Tree) × HasTree text tree

  -- it is read past so many phases
  abbrev Reaches : ℕ → List ℕ → Type 0
  Reaches zero text = Unit {0}
  Reaches (suc zero) text = IsUtf8 text
  Reaches (suc (suc zero)) text = Listed text
  Reaches (suc (suc (suc zero))) text = Inside text
  Reaches (suc (suc (suc (suc zero)))) text = Shallow text
  Reaches (suc (suc (suc (suc (suc n))))) text = Read text

  back : (n : ℕ) (text : List ℕ) → Reaches (suc n) text → Reaches n text
  back zero text h = tt
  back (suc zero) text h = h.2.utf8
  back (suc (suc zero)) text h = (h.0, h.1, h.2)
  back (suc (suc (suc zero))) text h = (h.0, h.1, h.2, h.3)
  back (suc (suc (suc (suc zero)))) text h = (h.1.tokens, h.1.lexemes, h.1.list, h.1.inside, h.1.shallow)
  back (suc (suc (suc (suc (suc n))))) text h = h

  less_or_same : (m n : ℕ) → m ≤ suc n → (m ≤ n) ⊎ (m ≡ suc n)
  less_or_same m n h = grind arith

  far_back : (m n : ℕ) (text : List ℕ) → m ≤ n → Reaches n text → Reaches m text
  far_back m zero text le h = let e : m ≡ zero = omega (arith, le) in subst (λ (x : ℕ). Reaches x text) (sym e) h
  far_back m (suc n) text le h = elim (less_or_same m n le) [
    | inl less ↦ far_back m n text less (back n text h)
    | inr e ↦ subst (λ (x : ℕ). Reaches x text) (sym e) h
  ]

  -- the phases before the one that finds a fault of this kind
  abbrev phase : SyntaxFaultKind → ℕ
  phase fault.NotUtf8 = 0
  phase fault.Token = 1
  phase fault.NotInProfile = 2
  phase fault.TooDeep = 3
  phase fault.Syntax = 4
  phase _ = 5

  within : (k : SyntaxFaultKind) → phase k ≤ 5
  within fault.NotUtf8 = lit≤ tt
  within fault.Token = lit≤ tt
  within fault.NotInProfile = lit≤ tt
  within fault.TooDeep = lit≤ tt
  within fault.Syntax = lit≤ tt
  within _ = lit≤ tt

  reached : (base : Option (List ℕ)) (text : List ℕ) (k : SyntaxFaultKind) (line : ℕ) → FaultIs base text k line → Reaches (phase k) text
  reached base text fault.NotUtf8 line h = tt
  reached base text fault.Token line h = h.0
  reached base text fault.NotInProfile line h = (h.0, h.1, h.4)
  reached base text fault.TooDeep line h = (h.0, h.1, h.4, h.5)
  reached base text fault.Syntax line h = (h.0, h.1, h.2, h.3, h.4)
  reached base text (fault.NoMemory refused) line h = absurd h
  reached base text _ line h = (h.0.0, h.0.1)

  no_tree : (text : List ℕ) (tokens : List Token) (lexemes : List Lexeme) → HasTokens text tokens lexemes → ((tree : Tree) → ¬ (Derives lexemes tree)) → ¬ (Read text)
  no_tree text tokens lexemes h none k =
      none k.0 (subst (λ (x : List Lexeme). Derives x k.0) (sym (one_tokens text tokens k.1.tokens lexemes k.1.lexemes h k.1.list).1) k.1.reads)

  stopped : (base : Option (List ℕ)) (text : List ℕ) (k : SyntaxFaultKind) (line : ℕ) → phase k < 5 → FaultIs base text k line → ¬ (Reaches (suc (phase k)) text)
  stopped base text fault.NotUtf8 line early h k = h.0 k
  stopped base text fault.Token line early h k = ok_err k.0 h.1.0 (one_token_list (chars text) (Ok k.0) (Err h.1.0) k.2.list h.1.1)
  stopped base text fault.NotInProfile line early h k =
      not_inside (chars text) h.0 h.3 h.5 (subst (λ (x : List Token). AreInside (chars text) x) (one_tokens text k.0 h.0 k.1 h.1 k.2 h.4).0 k.3)
  stopped base text fault.TooDeep line early h k =
      k.4 (subst IsTooDeep (one_tokens text h.0 k.0 h.1 k.1 h.4 k.2).1 (text_lemmas.deep_at bracket h.1 h.3 h.6))
  stopped base text fault.Syntax line early h k = no_tree text h.0 h.1 h.2 h.5 k
  stopped base text _ line early h k = absurd (omega (arith, early))

  -- ---- never both

  -- a fault that isn't found before the tree is the tree's
  refused : (base : Option (List ℕ)) (text : List ℕ) (k : SyntaxFaultKind) (line : ℕ) → ¬ (phase k < 5) → FaultIs base text k line → IsRefused base text k
  refused base text fault.NotUtf8 line late h = absurd (late (lit< tt))
  refused base text fault.Token line late h = absurd (late (lit< tt))
  refused base text fault.NotInProfile line late h = absurd (late (lit< tt))
  refused base text fault.TooDeep line late h = absurd (late (lit< tt))
  refused base text fault.Syntax line late h = absurd (late (lit< tt))
  refused base text (fault.NoMemory e) line late h = absurd h
  refused base text _ line late h = h.0

  no_answer : (base : Option (List ℕ)) (text : List ℕ) (said : Said) (k : SyntaxFaultKind) → IsSaid base text said → ¬ (IsRefused base text k)
  no_answer base text said k h r = ok_err said k (sym h.2 ∙ same_meaning base text h.0 r.0 h.1 r.1 ∙ r.2)

  pub never_both : (base : Option (List ℕ)) (text : List ℕ) (said : Said) (f : SyntaxFault) → IsSaid base text said → ¬ (IsFaulty base text f)
  never_both base text said f h i = elim (cases_lt (phase f.kind) 5) [
    | inl early ↦ stopped base text f.kind f.line early i (far_back (suc (phase f.kind)) 5 text (omega (arith, early)) (h.0, h.1))
    | inr late ↦ no_answer base text said f.kind h (refused base text f.kind f.line (λ e. omega (arith, e, late)) i)
  ]

  -- ---- a text has one fault

  apart : (base : Option (List ℕ)) (text : List ℕ) (j k : SyntaxFaultKind) (m n : ℕ) → phase j < phase k → FaultIs base text j m → ¬ (FaultIs base text k n)
  apart base text j k m n lt h i =
      stopped base text j m (omega (arith, lt, within k)) h (far_back (suc (phase j)) (phase k) text (omega (arith, lt)) (reached base text k n i))

  abbrev Same : SyntaxFaultKind → SyntaxFaultKind → ℕ → ℕ → Type 0
  Same j k m n = (j ≡ k) × ((has_free_line j ≡ false) → m ≡ n)

  same_kind : (base : Option (List ℕ)) (text : List ℕ) (j k : SyntaxFaultKind) → IsRefused base text j → IsRefused base text k → j ≡ k
  same_kind base text j k h i = err_same j k (sym h.2 ∙ same_meaning base text h.0 i.0 h.1 i.1 ∙ i.2)

  alike : (base : Option (List ℕ)) (text : List ℕ) (j k : SyntaxFaultKind) (m n : ℕ) → phase j ≡ phase k → FaultIs base text j m → FaultIs base text k n → Same j k m n
  alike base text fault.NotUtf8 fault.NotUtf8 m n e h i =
      (refl, λ f. h.1.2 ∙ ap (line_of text) (text_lemmas.one_front text h.1.0 i.1.0 h.1.1 i.1.1) ∙ sym i.1.2)
  alike base text fault.NotUtf8 _ m n e h i = absurd (omega (arith, e))
  alike base text fault.Token fault.Token m n e h i =
      (refl, λ f. h.1.2 ∙ ap (line_of text) (err_same h.1.0 i.1.0 (one_token_list (chars text) (Err h.1.0) (Err i.1.0) h.1.1 i.1.1)) ∙ sym i.1.2)
  alike base text fault.Token _ m n e h i = absurd (omega (arith, e))
  alike base text fault.NotInProfile fault.NotInProfile m n e h i =
      let lists = one_tokens text h.0 i.0 h.1 i.1 h.4 i.4 in
      (refl, λ f. same_line text h.0 i.0 h.2 i.2 h.3 i.3 m n lists.0 (same_word text h.0 i.0 h.3 i.3 lists.0 h.5 i.5) h.6 i.6 h.7 i.7)
  alike base text fault.NotInProfile _ m n e h i = absurd (omega (arith, e))
  alike base text fault.TooDeep fault.TooDeep m n e h i =
      let lists = one_tokens text h.0 i.0 h.1 i.1 h.4 i.4 in
      (refl, λ f. same_line text h.0 i.0 h.2 i.2 h.3 i.3 m n lists.0 (same_opener h.1 i.1 h.3 i.3 lists.1 h.6 i.6) h.7 i.7 h.8 i.8)
  alike base text fault.TooDeep _ m n e h i = absurd (omega (arith, e))
  alike base text fault.Syntax fault.Syntax m n e h i = (refl, λ fixed. absurd (true≢false fixed))
  alike base text fault.Syntax _ m n e h i = absurd (omega (arith, e))
  alike base text fault.UnknownPrefix fault.UnknownPrefix m n e h i = (refl, λ f. same_lexeme text first_unbound m n h.1 i.1)
  alike base text fault.UnknownPrefix k m n e h i = absurd (cc (same_kind base text fault.UnknownPrefix k h.0 (refused base text k n (λ x. omega (arith, e, x)) i)))
  alike base text fault.Relative fault.Relative m n e h i = (refl, λ f. same_lexeme text (first_lacking (is_some base)) m n h.1 i.1)
  alike base text fault.Relative k m n e h i = absurd (cc (same_kind base text fault.Relative k h.0 (refused base text k n (λ x. omega (arith, e, x)) i)))
  alike base text fault.BlankInDelete fault.BlankInDelete m n e h i = (refl, λ f. same_lexeme text (first_broken fault.BlankInDelete) m n h.1 i.1)
  alike base text fault.BlankInDelete k m n e h i = absurd (cc (same_kind base text fault.BlankInDelete k h.0 (refused base text k n (λ x. omega (arith, e, x)) i)))
  alike base text fault.VariableInData fault.VariableInData m n e h i = (refl, λ f. same_lexeme text (first_broken fault.VariableInData) m n h.1 i.1)
  alike base text fault.VariableInData k m n e h i = absurd (cc (same_kind base text fault.VariableInData k h.0 (refused base text k n (λ x. omega (arith, e, x)) i)))
  alike base text fault.LiteralSubject fault.LiteralSubject m n e h i = (refl, λ f. same_lexeme text (first_broken fault.LiteralSubject) m n h.1 i.1)
  alike base text fault.LiteralSubject k m n e h i = absurd (cc (same_kind base text fault.LiteralSubject k h.0 (refused base text k n (λ x. omega (arith, e, x)) i)))
  alike base text fault.BlankReused fault.BlankReused m n e h i = (refl, λ f. same_lexeme text (first_broken fault.BlankReused) m n h.1 i.1)
  alike base text fault.BlankReused k m n e h i = absurd (cc (same_kind base text fault.BlankReused k h.0 (refused base text k n (λ x. omega (arith, e, x)) i)))
  alike base text (fault.NoMemory refused) k m n e h i = absurd h

  pub one_fault : (base : Option (List ℕ)) (text : List ℕ) (a b : SyntaxFault) → IsFaulty base text a → IsFaulty base text b → SameFault a b
  one_fault base text a b h i = elim (cases_lt (phase a.kind) (phase b.kind)) [
    | inl before ↦ absurd (apart base text a.kind b.kind a.line b.line before h i)
    | inr there ↦ elim (cases_lt (phase b.kind) (phase a.kind)) [
      | inl behind ↦ absurd (apart base text b.kind a.kind b.line a.line behind i h)
      | inr here ↦ alike base text a.kind b.kind a.line b.line (omega (arith, there, here)) h i
    ]
  ]
