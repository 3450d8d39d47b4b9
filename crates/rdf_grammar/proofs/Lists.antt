-- Lists whose members have a terminal between them are read just as they are derived.
use Rattle.std.proofs.Common.{◌≡◌, ◌<◌, Bool, true, false, List, ◌∷◌, length, Option, Some, ap, arith}
use Rattle.std.specs.Prelude.{option_to_list}
use Rattle.rdf_grammar.specs.declared.lexeme.Lexeme.{Lexeme}
use Rattle.rdf_grammar.specs.Steps as steps
use Rattle.rdf_grammar.specs.Readings as reading
use Rattle.rdf_grammar.specs.Readings.{Reading, Test}
use Rattle.rdf_grammar.specs.Terminals as terminal
use Rattle.rdf_grammar.specs.Terminals.{Lexemes, TellsApart, next_terminal}
use Rattle.rdf_grammar.specs.Derivations as grammar
use Rattle.rdf_grammar.specs.Derivations.{Derives, Star, stop, more}
use Rattle.rdf_grammar.proofs.Decides.{Decides, then_decides, pure_decides, repeat_decides}
use Rattle.rdf_grammar.proofs.Combinators.{one_decides, last, maybe_decides}
use Rattle.rdf_grammar.proofs.Terminals.{after_terminal, starts_with, seen_terminal, unseen}

-- a look at the terminal behind what is read
abbrev pub behind : {T : Type 0} → (Option T → Bool) → Test (Lexeme T)
behind closes us = closes (next_terminal us)

-- what begins with a lexeme of terminal k passes the tests that k passes
pub seen_passes : {T : Type 0} (same : T → T → Bool) → TellsApart same → (test : Option T → Bool) (k : T) → test (Some k) ≡ true → (us : Lexemes T) → terminal.sees same k us ≡ true → test (next_terminal us) ≡ true
seen_passes same apart test k h us s = rw (seen_terminal same apart k us s) h

-- A member may stand before terminal k, and before all that a list may stand before, which k isn't.
pub record MayPart {T : Type 0} (k : T) (closes_one closes : Option T → Bool) : Type 0 where
  pub before : closes_one (Some k) ≡ true
  pub apart : closes (Some k) ≡ false
  pub goes : (t : Option T) → closes t ≡ true → closes_one t ≡ true

module _ {T : Type 0} (same : T → T → Bool) (apart : TellsApart same) {A : Type 0} (k : T) (p : Reading (Lexeme T) A) (P : Derives (Lexeme T) A) (closes_one closes : Option T → Bool)
    (parts : MayPart k closes_one closes) (d : Decides p P (behind closes_one)) where
  -- ---- P ( k P )*

  starts : (ts : Lexemes T) (x : List A) (us : Lexemes T) → grammar.one (grammar.◌>>◌ (grammar.the k) P) ts x us → (terminal.sees same k ts ≡ true) × (length us < length ts)
  starts ts x us h =
      let s = starts_with same apart k P p (behind closes_one) d ts h.first h.mid h.reads in
      (s.0, let l = s.1 in omega (arith, ap length h.goes.1))

  pub each_behind_decides : Decides (terminal.each_behind same k p) (grammar.EachBehind k P) (behind closes)
  each_behind_decides = repeat_decides (terminal.sees same k) _ _ (behind closes_one) (behind closes) (one_decides _ _ (behind closes_one) (after_terminal same apart k p P (behind closes_one) d))
      starts (unseen same apart closes k parts.apart) (λ us h. parts.goes (next_terminal us) h) (seen_passes same apart closes_one k parts.before)

  pub each_behind_begins : (ts : Lexemes T) (xs : List A) (us : Lexemes T) → grammar.EachBehind k P ts xs us → behind closes us ≡ true → behind closes_one ts ≡ true
  each_behind_begins ts xs us stop h = parts.goes (next_terminal ts) h
  each_behind_begins ts xs us (more {mid = mid} {x = x} q s) h = seen_passes same apart closes_one k parts.before ts (starts ts x mid q).0

  pub separated_decides : Decides (terminal.separated same k p) (grammar.Separated k P) (behind closes)
  separated_decides =
      then_decides _ _ _ _ (behind closes_one) (behind closes) d
      (λ first. then_decides _ _ _ _ (behind closes) (behind closes) each_behind_decides (λ others. pure_decides (first ∷ others) (behind closes)) (λ a mid b us h e. rw h.1 e))
      (λ a mid b us h e. each_behind_begins mid h.first h.mid h.reads (rw h.goes.1 e))

  -- ---- P ( k ( P )? )*

  module _ (test : Test (Lexeme T)) (begins : (ts : Lexemes T) (x : A) (us : Lexemes T) → P ts x us → test ts ≡ true) (ends : (us : Lexemes T) → behind closes_one us ≡ true → test us ≡ false) where
    abbrev perhaps : Reading (Lexeme T) (List A)
    perhaps = steps.◌<$>◌ option_to_list (reading.optional test p)

    abbrev Perhaps : Derives (Lexeme T) (List A)
    Perhaps = grammar.◌<$>◌ option_to_list (grammar.maybe P)

    perhaps_decides : Decides perhaps Perhaps (behind closes_one)
    perhaps_decides = last option_to_list _ _ (behind closes_one) (maybe_decides test p P (behind closes_one) (behind closes_one) d begins ends (λ us h. h))

    loosely_starts : (ts : Lexemes T) (x : List A) (us : Lexemes T) → grammar.◌>>◌ (grammar.the k) Perhaps ts x us → (terminal.sees same k ts ≡ true) × (length us < length ts)
    loosely_starts ts x us h = starts_with same apart k Perhaps perhaps (behind closes_one) perhaps_decides ts x us h

    others_decide : Decides (reading.repeat (terminal.sees same k) (terminal.maybe_behind same k test p)) (Star (grammar.◌>>◌ (grammar.the k) Perhaps)) (behind closes)
    others_decide = repeat_decides (terminal.sees same k) _ _ (behind closes_one) (behind closes) (after_terminal same apart k perhaps Perhaps (behind closes_one) perhaps_decides)
        loosely_starts (unseen same apart closes k parts.apart) (λ us h. parts.goes (next_terminal us) h) (seen_passes same apart closes_one k parts.before)

    others_begin : (ts : Lexemes T) (xs : List A) (us : Lexemes T) → Star (grammar.◌>>◌ (grammar.the k) Perhaps) ts xs us → behind closes us ≡ true → behind closes_one ts ≡ true
    others_begin ts xs us stop h = parts.goes (next_terminal ts) h
    others_begin ts xs us (more {mid = mid} {x = x} q s) h = seen_passes same apart closes_one k parts.before ts (loosely_starts ts x mid q).0

    pub separated_loosely_decides : Decides (terminal.separated_loosely same k test p) (grammar.SeparatedLoosely k P) (behind closes)
    separated_loosely_decides =
        then_decides _ _ _ _ (behind closes_one) (behind closes) d
        (λ first. then_decides _ _ _ _ (behind closes) (behind closes) others_decide (λ others. pure_decides (first ∷ others) (behind closes)) (λ a mid b us h e. rw h.1 e))
        (λ a mid b us h e. others_begin mid h.first h.mid h.reads (rw h.goes.1 e))
