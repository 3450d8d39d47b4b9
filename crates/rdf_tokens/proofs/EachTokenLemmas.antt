-- What is told of each token, token by token.
use Rattle.std.proofs.Common.{◌≡◌, ◌≤◌, ℕ, zero, suc, false, List, [], ◌∷◌, length, Option, Some, None, refl, sym, ap, ◌∙◌, arith}
use Rattle.rdf_terms.proofs.CallerLemmas.{none_is}
use Rattle.rdf_tokens.specs.declared.token.Kind.{Kind}
use Rattle.rdf_tokens.specs.Tokens.{IsToken, HasGap, Ends, NoToken}
use Rattle.rdf_tokens.specs.Inside.EachToken.{from_token, from_start, within, of_each}
use Rattle.rdf_tokens.specs.Inside.TokenReading.{skip_gap, token_at}
use Rattle.rdf_tokens.proofs.ReaderLemmas.{no_longer_behind_gap, shorter_behind_token}
use Rattle.rdf_tokens.proofs.TokenGaps.{end_skipped}
use Rattle.rdf_tokens.proofs.TokenLists.{fault_read, next_read, token_nil}

gap_nil : skip_gap false [] ≡ []
unfolding skip_gap
gap_nil = refl

module _ {A : Type 0} (made : Kind → List ℕ → List ℕ → A) (missing : List ℕ → A) where
  -- ---- the turns

  from_same : (f g : List ℕ → List A) (start : List ℕ) → ((t : Kind × List ℕ) → token_at start ≡ Some t → f t.1 ≡ g t.1) → from_start made missing f start ≡ from_start made missing g start
  from_same f g [] h = refl
  from_same f g (c ∷ cs) h = by_token (token_at (c ∷ cs)) refl
    where
      by_token : (o : Option (Kind × List ℕ)) → token_at (c ∷ cs) ≡ o → from_token made missing f (c ∷ cs) o ≡ from_token made missing g (c ∷ cs) o
      by_token None e = refl
      by_token (Some t) e = ap (λ (xs : List A). made t.0 (c ∷ cs) t.1 ∷ xs) (h t e)

  nothing_within : (n : ℕ) (cs : List ℕ) → length cs ≤ 0 → within made missing n cs ≡ []
  unfolding within
  nothing_within zero cs h = refl
  nothing_within (suc n) [] h = ap (from_start made missing (within made missing n)) gap_nil
  nothing_within (suc n) (c ∷ cs) h = absurd (omega (arith, h))

  enough : (n m : ℕ) (cs : List ℕ) → length cs ≤ n → length cs ≤ m → within made missing n cs ≡ within made missing m cs
  unfolding within
  enough zero m cs h k = sym (nothing_within m cs h)
  enough (suc n) zero cs h k = nothing_within (suc n) cs k
  enough (suc n) (suc m) cs h k =
      from_same (within made missing n) (within made missing m) (skip_gap false cs)
      (λ t read. let less = shorter_behind_token cs t read in enough n m t.1 (omega (arith, less, h)) (omega (arith, less, k)))

  next : (cs : List ℕ) → of_each made missing cs ≡ from_start made missing (of_each made missing) (skip_gap false cs)
  unfolding of_each within
  next cs =
      enough (length cs) (suc (length cs)) cs (omega arith) (omega arith)
      ∙ from_same (within made missing (length cs)) (of_each made missing) (skip_gap false cs)
      (λ t read. let less = shorter_behind_token cs t read in enough (length cs) (length t.1) t.1 (omega (arith, less)) (omega arith))

  -- ---- what comes next

  pub each_nil : of_each made missing [] ≡ []
  unfolding of_each within
  each_nil = refl

  pub each_end : (cs : List ℕ) → Ends cs → of_each made missing cs ≡ []
  each_end cs h = next cs ∙ ap (from_start made missing (of_each made missing)) (end_skipped cs h)

  from_a_token : (start : List ℕ) (k : Kind) (after : List ℕ) → token_at start ≡ Some (k, after)
      → from_start made missing (of_each made missing) start ≡ made k start after ∷ of_each made missing after
  from_a_token [] k after e = none_is (k, after) (sym token_nil ∙ e)
  from_a_token (c ∷ cs) k after e = ap (from_token made missing (of_each made missing) (c ∷ cs)) e

  pub each_token : (cs start : List ℕ) (k : Kind) (after : List ℕ) → HasGap cs start → IsToken start k after
      → of_each made missing cs ≡ made k start after ∷ of_each made missing after
  each_token cs start k after gap is =
      let read = next_read cs start k after gap is in
      next cs ∙ ap (from_start made missing (of_each made missing)) read.0 ∙ from_a_token start k after read.1

  from_no_token : (start : List ℕ) → NoToken start → token_at start ≡ None → from_start made missing (of_each made missing) start ≡ missing start ∷ []
  from_no_token [] n e = absurd n
  from_no_token (c ∷ cs) n e = ap (from_token made missing (of_each made missing) (c ∷ cs)) e

  pub none_told : (cs start : List ℕ) → HasGap cs start → NoToken start → of_each made missing cs ≡ missing start ∷ []
  none_told cs start gap none =
      let read = fault_read cs start gap none in
      next cs ∙ ap (from_start made missing (of_each made missing)) read.0 ∙ from_no_token start none read.1

  -- ---- how many there are

  few_behind : (later : List ℕ → List A) (cs start : List ℕ) (o : Option (Kind × List ℕ)) → ((us : List ℕ) → length (later us) ≤ length us) → skip_gap false cs ≡ start → token_at start ≡ o
      → 1 ≤ length start → length (from_token made missing later start o) ≤ length cs
  few_behind later cs start None few e read some = omega (arith, some, no_longer_behind_gap cs, ap length e)
  few_behind later cs start (Some t) few e read some = omega (arith, few t.1, shorter_behind_token cs t (ap token_at e ∙ read))

  few_from : (later : List ℕ → List A) (cs start : List ℕ) → ((us : List ℕ) → length (later us) ≤ length us) → skip_gap false cs ≡ start → length (from_start made missing later start) ≤ length cs
  few_from later cs [] few e = omega arith
  few_from later cs (c ∷ others) few e = few_behind later cs (c ∷ others) (token_at (c ∷ others)) few e refl (omega arith)

  few_within : (n : ℕ) (cs : List ℕ) → length (within made missing n cs) ≤ length cs
  unfolding within
  few_within zero cs = omega arith
  few_within (suc n) cs = few_from (within made missing n) cs (skip_gap false cs) (few_within n) refl

  pub each_few : (cs : List ℕ) → length (of_each made missing cs) ≤ length cs
  unfolding of_each
  each_few cs = few_within (length cs) cs
