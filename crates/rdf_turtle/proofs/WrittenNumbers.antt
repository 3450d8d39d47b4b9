-- The numbers of written blank nodes: each is the one that its label has by first appearance.
use Rattle.std.proofs.Common.{◌≡◌, ◌≢◌, ◌∙◌, ◌⊎◌, ap, refl, sym, inl, inr, ℕ, ◌+◌, ◌<◌, ◌≤◌, ◌^◌, arith, List, [], ◌∷◌, ◌++◌, drop, append_assoc, Option, Some, None, Contains}
use Rattle.std.specs.List.{flat_map}
use Rattle.std.specs.Map.{lookup}
use Rattle.std.proofs.lemmas.Bool.{cases_lt}
use Rattle.std.proofs.lemmas.Fmt.{decimal_injective}
use Rattle.std.proofs.lemmas.List.Elements.{Contains-push_cases}
use Rattle.std.proofs.lemmas.Str.{encodes-IsAscii}
use Rattle.indexmap.specs.IndexMap.{insert_entry}
use Rattle.rdf_terms.specs.declared.quad.Quad.{Quad}
use Rattle.rdf_terms.specs.declared.term.Term.TheVariants.{Blank}
use Rattle.rdf_terms.specs.Blanks.{AreNumberedInOrder, blanks_of}
use Rattle.rdf_terms.proofs.CallerLemmas.{blank_ascii}
use Rattle.rdf_grammar.specs.Keys.{key_of, same_key}
use Rattle.rdf_grammar.proofs.CallerLemmas.{found, kept}
use Rattle.rdf_turtle.specs.ParserState.{ParserState, start, labelled}
use Rattle.rdf_turtle.proofs.WrittenTerms.{label_slice}

-- ---- numbers in order

-- Where the numbers below n are known, each of these is known or the next one; behind them those below m are known.
abbrev pub Follows : ℕ → List ℕ → ℕ → Type 0
Follows n [] m = n ≡ m
Follows n (k ∷ ks) m = ((k < n) × Follows n ks m) ⊎ ((k ≡ n) × Follows (n + 1) ks m)

pub follows_split : (xs ys : List ℕ) (n m : ℕ) → Follows n (xs ++ ys) m → (mid : ℕ) × Follows n xs mid × Follows mid ys m
follows_split [] ys n m h = (n, refl, h)
follows_split (x ∷ xs) ys n m (inl h) = let s = follows_split xs ys n m h.1 in (s.0, inl (h.0, s.1), s.2)
follows_split (x ∷ xs) ys n m (inr h) = let s = follows_split xs ys (n + 1) m h.1 in (s.0, inr (h.0, s.1), s.2)

follows_from : (all back front : List ℕ) (n : ℕ) → ((f b : List ℕ) (number smaller : ℕ) → all ≡ f ++ number ∷ b → smaller < number → Contains f smaller) → all ≡ front ++ back
    → ((k : ℕ) → Contains front k → k < n) → (m : ℕ) × Follows n back m
follows_from all [] front n h e below = (n, refl)
follows_from all (k ∷ back) front n h e below =
    let next : all ≡ (front ++ k ∷ []) ++ back = e ∙ sym (append_assoc front (k ∷ []) back) in
    elim (cases_lt k n) [
      | inl known ↦
          let still : (j : ℕ) → Contains (front ++ k ∷ []) j → j < n = λ j c. elim (Contains-push_cases front k j c) [ inl there ↦ below j there | inr here ↦ omega (arith, here, known) ] in
          let f = follows_from all back (front ++ k ∷ []) n h next still in
          (f.0, inl (known, f.1))
      | inr new ↦
          let is : k ≡ n = elim (cases_lt n k) [ inl less ↦ absurd (omega (arith, below n (h front back k n e less))) | inr most ↦ omega (arith, new, most) ] in
          let more : (j : ℕ) → Contains (front ++ k ∷ []) j → j < n + 1 =
          λ j c. elim (Contains-push_cases front k j c) [ inl there ↦ (let l : j < n = below j there in omega (arith, l)) | inr here ↦ omega (arith, here, is) ] in
          let f = follows_from all back (front ++ k ∷ []) (n + 1) h next more in
          (f.0, inr (is, f.1))
    ]

pub follows : (quads : List Quad) → AreNumberedInOrder quads → (m : ℕ) × Follows 0 (flat_map blanks_of quads) m
follows quads h = follows_from (flat_map blanks_of quads) (flat_map blanks_of quads) [] 0 h refl (λ k c. absurd (omega (arith, c.1)))

-- ---- keys

abbrev pub key : ℕ → List ℕ
key number = key_of (label_slice number)

key_is : (n : ℕ) → n < 2 ^ 64 → key n ≡ label_slice n
key_is n h = encodes-IsAscii (label_slice n) (blank_ascii n h)

keys_apart : (m n : ℕ) → m < 2 ^ 64 → n < 2 ^ 64 → m ≢ n → key m ≢ key n
keys_apart m n h k apart e = apart (decimal_injective m n h k (ap (λ (t : List ℕ). drop 3 t) (sym (key_is m h) ∙ e ∙ key_is n k)))

-- ---- states

-- The labels of the numbers below n are known by these numbers, and no others.
pub record Names (s : ParserState) (n : ℕ) : Type 0 where
  pub next : s.numbering.next ≡ n
  pub known : (k : ℕ) → k < 2 ^ 64 → k < n → lookup (same_key (key k)) s.numbering.labels ≡ Some k
  pub new : (k : ℕ) → k < 2 ^ 64 → n ≤ k → lookup (same_key (key k)) s.numbering.labels ≡ None

pub starts : (base : Option (List ℕ)) → Names (start base) 0
starts base = record { next = refl; known = λ k h l. absurd (omega (arith, l)); new = λ k h l. refl }

-- ---- the blank node of a label

pub label_goes : (k n m : ℕ) (s : ParserState) → k < 2 ^ 64 → Names s n → Follows n (k ∷ []) m → (u : ParserState) × (labelled (key k) s ≡ Some (Blank k, u)) × Names u m × (u.quads ≡ s.quads)
unfolding labelled
label_goes k n m s low names (inl h) =
    let is : n ≡ m = h.1 in
    (s, rw (names.known k low h.0) refl, subst_names is names, refl)
  where
    subst_names : {a b : ℕ} → a ≡ b → Names s a → Names s b
    subst_names e w = record {
      next = w.next ∙ e;
      known = λ j l h. w.known j l (omega (arith, e, h));
      new = λ j l h. w.new j l (omega (arith, e, h));
    }
label_goes k n m s low names (inr h) =
    let here : k ≡ n = h.0 in
    let behind : n + 1 ≡ m = h.1 in
    let own : s.numbering.next ≡ k = names.next ∙ sym here in
    let u : ParserState = record s { numbering = record { labels = insert_entry same_key s.numbering.labels (key k) s.numbering.next; next = s.numbering.next + 1 } } in (
      u,
      rw (names.new k low (omega (arith, here))) (ap (λ (j : ℕ). Some (Blank j, u)) own),
      record {
        next = omega (arith, names.next, behind);
        known = λ j l less. elim (cases_lt j k) [
          | inl old ↦ kept (key k) s.numbering.next (key j) s.numbering.labels (keys_apart j k l low (λ e. omega (arith, e, old))) ∙ names.known j l (omega (arith, old, here))
          | inr last ↦
              let same : j ≡ k = omega (arith, less, last, here, behind) in
              ap (λ (i : ℕ). lookup (same_key (key i)) (insert_entry same_key s.numbering.labels (key k) s.numbering.next)) same ∙ found (key k) s.numbering.next s.numbering.labels ∙ ap (λ (i : ℕ). Some i) (own ∙ sym same)
        ];
        new = λ j l more. kept (key k) s.numbering.next (key j) s.numbering.labels (keys_apart j k l low (λ e. omega (arith, e, more, here, behind))) ∙ names.new j l (omega (arith, more, behind));
      },
      refl,
    )
