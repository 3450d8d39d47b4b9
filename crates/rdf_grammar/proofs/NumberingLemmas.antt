-- Two blank nodes have one number just where one label writes both.
use Rattle.std.proofs.Common.{◌≡◌, ◌≢◌, ◌∙◌, ◌⊎◌, ap, refl, sym, subst, inl, inr, ℕ, ◌+◌, ◌<◌, arith, Bool, true, false, List, [], ◌∷◌, Option, Some, None}
use Rattle.std.proofs.lemmas.List.Elements.{All-cons, All-nil}
use Rattle.std.proofs.lemmas.List.Kept.{AllPairs-cons}
use Rattle.std.proofs.lemmas.Slice.Eq.{bytes_eq-Decides}
use Rattle.std.specs.Map.{lookup}
use Rattle.std.specs.Prelude.{All, AllPairs}
use Rattle.indexmap.specs.IndexMap.{insert_entry}
use Rattle.rdf_grammar.specs.Keys.{same_key}
use Rattle.rdf_grammar.specs.Numbering.{Numbering, start, labelled_as}
use Rattle.rdf_grammar.specs.NumberingLaws.{Written, numbered, all_numbered, IsOneLabel, HaveOneNumber, OneLabelIsOneNode}
use Rattle.rdf_grammar.proofs.KeyEntries.{found, kept}

abbrev Finds : Numbering → List ℕ → ℕ → Type 0
Finds n label number = lookup (same_key label) n.labels ≡ Some number

-- each number of a label is taken, and no other label's
record Apart (n : Numbering) : Type 0 where
  below : (label : List ℕ) (number : ℕ) → Finds n label number → number < n.next
  apart : (a b : List ℕ) (number : ℕ) → Finds n a number → Finds n b number → a ≡ b

-- a node that has this number, which is that of its label alone
record Has (x : Written) (number : ℕ) (n : Numbering) : Type 0 where
  taken : number < n.next
  only : (label : List ℕ) → Finds n label number → x ≡ Some label
  finds : (label : List ℕ) → x ≡ Some label → Finds n label number

same_label : (a b : List ℕ) → (a ≡ b) ⊎ (a ≢ b)
same_label a b = by (same_key a b) refl
  where
    by : (t : Bool) → same_key a b ≡ t → (a ≡ b) ⊎ (a ≢ b)
    by true e = inl ((bytes_eq-Decides a b).0 e)
    by false e = inr (λ is. (let yes : same_key a b ≡ true = (bytes_eq-Decides a b).1 is in absurd (cc (yes, e))))

-- ---- a new label

added : Numbering → List ℕ → Numbering
added n label = record { labels = insert_entry same_key n.labels label n.next; next = n.next + 1 }

-- a number that a label has then is the new one, and this label's, or an old one
added_finds : (n : Numbering) (label other : List ℕ) (number : ℕ) → Finds (added n label) other number → ((other ≡ label) × (number ≡ n.next)) ⊎ ((other ≢ label) × Finds n other number)
unfolding added
added_finds n label other number f = elim (same_label other label) [
  | inl is ↦ (
      let here : lookup (same_key label) (insert_entry same_key n.labels label n.next) ≡ Some number = subst (λ (l : List ℕ). lookup (same_key l) (insert_entry same_key n.labels label n.next) ≡ Some number) is f in
      let new : Some n.next ≡ Some number = sym (found label n.next n.labels) ∙ here in
      let same : number ≡ n.next = cc new in
      inl (is, same))
  | inr differs ↦ inr (differs, sym (kept label n.next other n.labels differs) ∙ f)
]

added_apart : (n : Numbering) (label : List ℕ) → Apart n → Apart (added n label)
unfolding added
added_apart n label h = record {
  below = λ other number f. elim (added_finds n label other number f) [
    | inl new ↦ (let is : number ≡ n.next = new.1 in omega (arith, is))
    | inr old ↦ (let l : number < n.next = h.below other number old.1 in omega (arith, l))
  ];
  apart = λ a b number f e. elim (added_finds n label a number f) [
    | inl new ↦ elim (added_finds n label b number e) [
      | inl again ↦ new.0 ∙ sym again.0
      | inr old ↦ absurd (let l : number < n.next = h.below b number old.1 in let is : number ≡ n.next = new.1 in omega (arith, l, is))
    ]
    | inr old ↦ elim (added_finds n label b number e) [
      | inl again ↦ absurd (let l : number < n.next = h.below a number old.1 in let is : number ≡ n.next = again.1 in omega (arith, l, is))
      | inr both ↦ h.apart a b number old.1 both.1
    ]
  ];
}

added_has : (n : Numbering) (label : List ℕ) (x : Written) (number : ℕ) → lookup (same_key label) n.labels ≡ None → Has x number n → Has x number (added n label)
unfolding added
added_has n label x number none h = record {
  taken = (let l : number < n.next = h.taken in omega (arith, l));
  only = λ other f. elim (added_finds n label other number f) [
    | inl new ↦ absurd (let l : number < n.next = h.taken in let is : number ≡ n.next = new.1 in omega (arith, l, is))
    | inr old ↦ h.only other old.1
  ];
  finds = λ other e. (
      let old = h.finds other e in
      let differs : other ≢ label = λ is. (let here : lookup (same_key label) n.labels ≡ Some number = subst (λ (l : List ℕ). Finds n l number) is old in absurd (cc (none, here))) in
      kept label n.next other n.labels differs ∙ old);
}

new_has : (n : Numbering) (label : List ℕ) → Apart n → Has (Some label) n.next (added n label)
unfolding added
new_has n label h = record {
  taken = omega arith;
  only = λ other f. elim (added_finds n label other n.next f) [
    | inl new ↦ ap Some (sym new.0)
    | inr old ↦ absurd (let l : n.next < n.next = h.below other n.next old.1 in omega (arith, l))
  ];
  finds = λ other e. (let is : label ≡ other = cc e in subst (λ (l : List ℕ). lookup (same_key l) (insert_entry same_key n.labels label n.next) ≡ Some n.next) is (found label n.next n.labels));
}

-- ---- the next node

one_more : Numbering → Numbering
one_more n = record n { next = n.next + 1 }

more_apart : (n : Numbering) → Apart n → Apart (one_more n)
unfolding one_more
more_apart n h = record { below = λ label number f. (let l : number < n.next = h.below label number f in omega (arith, l)); apart = h.apart }

more_has : (n : Numbering) (x : Written) (number : ℕ) → Has x number n → Has x number (one_more n)
unfolding one_more
more_has n x number h = record { taken = (let l : number < n.next = h.taken in omega (arith, l)); only = h.only; finds = h.finds }

fresh_has : (n : Numbering) → Apart n → Has None n.next (one_more n)
unfolding one_more
fresh_has n h = record {
  taken = omega arith;
  only = λ label f. absurd (let l : n.next < n.next = h.below label n.next f in omega (arith, l));
  finds = λ label e. absurd (cc e);
}

-- the label that writes both
one_label : (y : Written) (label : List ℕ) → IsOneLabel y (Some label) → y ≡ Some label
one_label None label h = absurd h
one_label (Some a) label h = ap Some h

label_one : (y : Written) (label : List ℕ) → y ≡ Some label → IsOneLabel y (Some label)
label_one None label e = absurd (cc e)
label_one (Some a) label e = cc e

no_label : (y : Written) → IsOneLabel y None → ⊥
no_label None h = h
no_label (Some a) h = h

-- what the number of the next node is to the numbers before, and how these stay
record Next (x : Written) (number : ℕ) (before behind : Numbering) : Type 0 where
  own : Has x number behind
  apart : Apart behind
  tells : (y : Written) (other : ℕ) → Has y other before → HaveOneNumber (y, other) (x, number)
  stays : (y : Written) (other : ℕ) → Has y other before → Has y other behind

label_next : (label : List ℕ) (o : Option ℕ) (n : Numbering) → lookup (same_key label) n.labels ≡ o → Apart n → Next (Some label) (labelled_as label o n).0 n (labelled_as label o n).1
unfolding added
label_next label (Some number) n at h = record {
  own = record {
    taken = h.below label number at;
    only = λ other f. ap Some (h.apart label other number at f);
    finds = λ other e. (let is : label ≡ other = cc e in subst (λ (l : List ℕ). Finds n l number) is at);
  };
  apart = h;
  tells = λ y other k. (
    (λ same. (let here : Finds n label other = at ∙ ap Some (sym same) in label_one y label (k.only label here))),
    (λ one. (let f : Finds n label other = k.finds label (one_label y label one) in let same : Some other ≡ Some number = sym f ∙ at in cc same)),
  );
  stays = λ y other k. k;
}
label_next label None n at h = record {
  own = new_has n label h;
  apart = added_apart n label h;
  tells = λ y other k. (
    (λ same. absurd (let l : other < n.next = k.taken in let is : other ≡ n.next = same in omega (arith, l, is))),
    (λ one. absurd (let f : Finds n label other = k.finds label (one_label y label one) in let no : None ≡ Some other = sym at ∙ f in cc no)),
  );
  stays = λ y other k. added_has n label y other at k;
}

next_node : (x : Written) (n : Numbering) → Apart n → Next x (numbered x n).0 n (numbered x n).1
unfolding one_more
next_node (Some label) n h = label_next label (lookup (same_key label) n.labels) n refl h
next_node None n h = record {
  own = fresh_has n h;
  apart = more_apart n h;
  tells = λ y other k. (
    (λ same. absurd (let l : other < n.next = k.taken in let is : other ≡ n.next = same in omega (arith, l, is))),
    (λ one. absurd (no_label y one)),
  );
  stays = λ y other k. more_has n y other k;
}

-- ---- all of them

all_later : (xs : List Written) (n : Numbering) → Apart n → (y : Written) (other : ℕ) → Has y other n → All (HaveOneNumber (y, other)) (all_numbered n xs)
all_later [] n h y other k = All-nil (HaveOneNumber (y, other))
all_later (x ∷ xs) n h y other k =
    let s = next_node x n h in
    All-cons (HaveOneNumber (y, other)) (x, (numbered x n).0) (all_numbered (numbered x n).1 xs) (s.tells y other k) (all_later xs (numbered x n).1 s.apart y other (s.stays y other k))

pairs : (xs : List Written) (n : Numbering) → Apart n → AllPairs HaveOneNumber (all_numbered n xs)
pairs [] n h = λ i j d l m. absurd (omega (arith, m))
pairs (x ∷ xs) n h =
    let s = next_node x n h in
    AllPairs-cons HaveOneNumber (x, (numbered x n).0) (all_numbered (numbered x n).1 xs) (all_later xs (numbered x n).1 s.apart x (numbered x n).0 s.own) (pairs xs (numbered x n).1 s.apart)

start_apart : Apart start
start_apart = record { below = λ label number f. absurd (cc f); apart = λ a b number f e. absurd (cc f) }

pub one_label_is_one_node : OneLabelIsOneNode
one_label_is_one_node nodes = pairs nodes start start_apart
