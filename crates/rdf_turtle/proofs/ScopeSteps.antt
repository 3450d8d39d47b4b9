-- The numbers that are said, in order, and those that are pending, through the steps of a reading.
use Rattle.std.proofs.Common.{append-nil, append_assoc, ◌≡◌, ◌∙◌, ◌⊎◌, ◌≤◌, ◌<◌, ◌+◌, ap, refl, sym, subst, inl, inr, ℕ, zero, suc, Bool, true, false, if◌then◌else◌, List, [], ◌∷◌, ◌++◌, Option, Some, None, Contains, arith, length}
use Rattle.std.proofs.lemmas.Option.{same_Some}
use Rattle.std.proofs.lemmas.List.Elements.{Contains-append_left, Contains-append_right, Contains-append_cases}
use Rattle.std.proofs.lemmas.Grind.{flat_map-append}
use Rattle.std.specs.List.{flat_map, AllByRecursion}
use Rattle.std.specs.Map.{lookup}
use Rattle.indexmap.specs.IndexMap.{insert_entry}
use Rattle.rdf_terms.specs.Quad.{QuadParts, has_right_kinds}
use Rattle.rdf_terms.specs.declared.term.Term.{Term}
use Rattle.rdf_terms.specs.declared.term.Term.TheVariants.{Blank, Iri, Literal}
use Rattle.rdf_terms.specs.Blanks.{blanks_in, blanks_of, AreNumberedInOrder}
pub use Rattle.rdf_grammar.proofs.CallerLemmas.{then_parts}
use Rattle.rdf_grammar.proofs.CallerLemmas.{more_labels, label_below, label_inserted, lt_or_is}
use Rattle.rdf_turtle.specs.Blanks.{IsTriple}
use Rattle.rdf_grammar.specs.Steps.{Outcome}
use Rattle.rdf_grammar.specs.Keys.{same_key}
use Rattle.rdf_grammar.specs.Numbering.{labelled_as}
use Rattle.rdf_turtle.specs.ParserState.{ParserState, Does, fresh, labelled, blank, triple, says}

-- ---- numbers

abbrev pub Said : List QuadParts → ℕ → Type 0
Said quads n = Contains (flat_map blanks_of quads) n

-- a term that is no blank node: nothing is pending
abbrev pub nothing : Term
nothing = Iri []

-- each number so far stands in a triple or is pending, the triples have no other, and they come in order
pub record Numbered (pending : Term) (s : ParserState) : Type 0 where
  pub covered : (n : ℕ) → n < s.numbering.next → Said s.quads n ⊎ (pending ≡ Blank n)
  pub below : (n : ℕ) → Said s.quads n → n < s.numbering.next
  pub labels : AllByRecursion (λ e. e.1 < s.numbering.next) s.numbering.labels
  pub triples : AllByRecursion IsTriple s.quads
  pub order : AreNumberedInOrder s.quads

-- a second term is pending, which has the last number if it has a new one
pub record BothNumbered (pending last : Term) (s : ParserState) : Type 0 where
  pub covered : (n : ℕ) → n < s.numbering.next → (Said s.quads n ⊎ (pending ≡ Blank n)) ⊎ ((last ≡ Blank n) × (s.numbering.next ≡ n + 1))
  pub below : (n : ℕ) → Said s.quads n → n < s.numbering.next
  pub labels : AllByRecursion (λ e. e.1 < s.numbering.next) s.numbering.labels
  pub triples : AllByRecursion IsTriple s.quads
  pub order : AreNumberedInOrder s.quads

abbrev pub IsBelow : Term → ParserState → Type 0
IsBelow t s = (n : ℕ) → t ≡ Blank n → n < s.numbering.next

-- where this is a blank node, it is that one
abbrev pub IsAt : Term → Term → Type 0
IsAt a b = (n : ℕ) → a ≡ Blank n → b ≡ Blank n

pub iri_apart : (i : List ℕ) (n : ℕ) → Iri i ≡ Blank n → ⊥
iri_apart i n e = cc

pub nothing_at : (t : Term) → IsAt nothing t
nothing_at t n e = absurd (iri_apart [] n e)

pub wider : (a b : Term) (s : ParserState) → IsAt a b → Numbered a s → Numbered b s
wider a b s w h = record {
  covered = λ n l. elim (h.covered n l) [ inl x ↦ inl x | inr y ↦ inr (w n y) ];
  below = h.below;
  labels = h.labels;
  triples = h.triples;
  order = h.order;
}

-- a term may be pending where nothing is
pub also : (t : Term) (s : ParserState) → Numbered nothing s → Numbered t s
also t s h = wider nothing t s (nothing_at t) h

-- an old term beside the one that is pending
pub beside : (t pending : Term) (s : ParserState) → Numbered pending s → BothNumbered pending t s
beside t pending s h = record { covered = λ n l. inl (h.covered n l); below = h.below; labels = h.labels; triples = h.triples; order = h.order }

pub only_last : (t : Term) (s : ParserState) → BothNumbered nothing t s → Numbered t s
only_last t s h = record {
  covered = λ n l. elim (h.covered n l) [ inl (inl x) ↦ inl x | inl (inr y) ↦ absurd (iri_apart [] n y) | inr z ↦ inr z.0 ];
  below = h.below;
  labels = h.labels;
  triples = h.triples;
  order = h.order;
}

pub below_on : (t : Term) (s u : ParserState) → s.numbering.next ≤ u.numbering.next → IsBelow t s → IsBelow t u
below_on t s u l h = λ n e. (let z : n < s.numbering.next = h n e in omega (arith, z, l))

in_term : (t : Term) (n : ℕ) → t ≡ Blank n → Contains (blanks_in t) n
in_term t n e = subst (λ (x : Term). Contains (blanks_in x) n) (sym e) (0, (let z : 0 < length (n ∷ []) = omega arith in z), refl)

single : (k n : ℕ) → Contains (k ∷ []) n → k ≡ n
single k n (zero, short, at) = at
single k n (suc i, short, at) = absurd (let z : suc i < length (k ∷ []) = short in omega (arith, z))

nowhere : (n : ℕ) → Contains [] n → ⊥
nowhere n (i, short, at) = let z : i < length {A = ℕ} [] = short in omega (arith, z)

of_term : (t : Term) (n : ℕ) → Contains (blanks_in t) n → t ≡ Blank n
of_term (Blank k) n h = ap (λ (i : ℕ). Blank i) (single k n h)
of_term (Iri i) n h = absurd (nowhere n h)
of_term (Literal l) n h = absurd (nowhere n h)

pub all_behind : {A : Type 0} (P : A → Type 0) (xs : List A) (x : A) → AllByRecursion P xs → P x → AllByRecursion P (xs ++ x ∷ [])
all_behind P [] x h p = (p, tt)
all_behind P (y ∷ ys) x h p = (h.0, all_behind P ys x h.1 p)

-- ---- numbers in order

abbrev InOrder : List ℕ → Type 0
InOrder xs = (front back : List ℕ) (number smaller : ℕ) → xs ≡ front ++ number ∷ back → smaller < number → Contains front smaller

-- where a member of a list with one more stands
split_push : (xs front back : List ℕ) (n m : ℕ) → xs ++ n ∷ [] ≡ front ++ m ∷ back → ((rest : List ℕ) × (xs ≡ front ++ m ∷ rest)) ⊎ ((xs ≡ front) × (n ≡ m))
split_push [] [] back n m e = inr (refl, cc)
split_push [] (f ∷ []) back n m e = absurd (cc e)
split_push [] (f ∷ h ∷ fs) back n m e = absurd (cc e)
split_push (x ∷ xs) [] back n m e = inl (xs, (let is : x ≡ m = cc e in ap (λ (y : ℕ). y ∷ xs) is))
split_push (x ∷ xs) (f ∷ fs) back n m e =
    let is : x ≡ f = cc e in
    let behind : xs ++ n ∷ [] ≡ fs ++ m ∷ back = cc e in
    elim (split_push xs fs back n m behind) [
      | inl r ↦ inl (r.0, cc (is, r.1))
      | inr r ↦ inr (cc (is, r.0), r.1)
    ]

order_push : (xs : List ℕ) (n : ℕ) → InOrder xs → ((k : ℕ) → k < n → Contains xs k) → InOrder (xs ++ n ∷ [])
order_push xs n h all front back number smaller e l = elim (split_push xs front back n number e) [
  | inl r ↦ h front r.0 number smaller r.1 l
  | inr r ↦ subst (λ (ys : List ℕ). Contains ys smaller) r.0 (all smaller (omega (arith, l, r.1)))
]

order_behind : (xs : List ℕ) (t : Term) → InOrder xs → ((k n : ℕ) → t ≡ Blank n → k < n → Contains xs k) → InOrder (xs ++ blanks_in t)
order_behind xs (Blank n) h all = order_push xs n h (λ k l. all k n refl l)
order_behind xs (Iri i) h all = subst InOrder (sym (append-nil xs)) h
order_behind xs (Literal w) h all = subst InOrder (sym (append-nil xs)) h

blank_number : (t : Term) (m n : ℕ) → t ≡ Blank m → t ≡ Blank n → m ≡ n
blank_number t m n a b = cc

-- ---- a triple

abbrev grown : ParserState → QuadParts → ParserState
grown s q = record s { quads = s.quads ++ q ∷ [] }

module _ (subject o : Term) (predicate : List ℕ) (pending : Term) (s : ParserState) where
  abbrev q : QuadParts
  q = triple subject predicate o

  abbrev front : List ℕ
  front = flat_map blanks_of s.quads

  back : (n : ℕ) → Contains (blanks_of q) n → Said (s.quads ++ q ∷ []) n
  back n h = subst (λ (l : List ℕ). Contains l n) (sym (flat_map-append blanks_of s.quads (q ∷ []))) (Contains-append_right front (blanks_of q ++ []) n (Contains-append_left (blanks_of q) [] n h))

  said_subject : (n : ℕ) → subject ≡ Blank n → Said (s.quads ++ q ∷ []) n
  said_subject n is = back n (Contains-append_left (blanks_in subject ++ blanks_in o) [] n (Contains-append_left (blanks_in subject) (blanks_in o) n (in_term subject n is)))

  said_object : (n : ℕ) → o ≡ Blank n → Said (s.quads ++ q ∷ []) n
  said_object n is = back n (Contains-append_left (blanks_in subject ++ blanks_in o) [] n (Contains-append_right (blanks_in subject) (blanks_in o) n (in_term o n is)))

  numbers_said : flat_map blanks_of (s.quads ++ q ∷ []) ≡ (front ++ blanks_in subject) ++ blanks_in o
  numbers_said =
      flat_map-append blanks_of s.quads (q ∷ []) ∙ ap (λ (l : List ℕ). front ++ l) (append-nil (blanks_of q) ∙ append-nil (blanks_in subject ++ blanks_in o))
      ∙ sym (append_assoc front (blanks_in subject) (blanks_in o))

  module _ (at : IsAt pending subject) (h : BothNumbered pending o s) (sb : IsBelow subject s) (ob : IsBelow o s) where
    -- the subject's smaller numbers are said
    subject_order : (k n : ℕ) → subject ≡ Blank n → k < n → Contains front k
    subject_order k n is l =
        let top : n < s.numbering.next = sb n is in
        elim (h.covered k (omega (arith, l, top))) [
          | inl (inl said) ↦ said
          | inl (inr open_one) ↦ absurd (let same : k ≡ n = blank_number subject k n (at k open_one) is in omega (arith, l, same))
          | inr last ↦ absurd (let end : s.numbering.next ≡ k + 1 = last.1 in omega (arith, l, top, end))
        ]

    -- and the object's, or they are the subject's
    object_order : (k n : ℕ) → o ≡ Blank n → k < n → Contains (front ++ blanks_in subject) k
    object_order k n is l =
        let top : n < s.numbering.next = ob n is in
        elim (h.covered k (omega (arith, l, top))) [
          | inl (inl said) ↦ Contains-append_left front (blanks_in subject) k said
          | inl (inr open_one) ↦ Contains-append_right front (blanks_in subject) k (in_term subject k (at k open_one))
          | inr last ↦ absurd (let same : k ≡ n = blank_number o k n last.0 is in omega (arith, l, same))
        ]

    grown_order : AreNumberedInOrder (s.quads ++ q ∷ [])
    grown_order = subst InOrder (sym numbers_said) (order_behind (front ++ blanks_in subject) o (order_behind front subject h.order subject_order) object_order)

    pub grown_numbered : has_right_kinds q ≡ true → Numbered nothing (grown s q)
    grown_numbered right = record {
      covered = λ n l. elim (h.covered n l) [
        | inl (inl said) ↦ inl (subst (λ (l : List ℕ). Contains l n) (sym (flat_map-append blanks_of s.quads (q ∷ []))) (Contains-append_left front (blanks_of q ++ []) n said))
        | inl (inr open_one) ↦ inl (said_subject n (at n open_one))
        | inr last ↦ inl (said_object n last.0)
      ];
      below = λ n said. elim (Contains-append_cases (front ++ blanks_in subject) (blanks_in o) n (subst (λ (l : List ℕ). Contains l n) numbers_said said)) [
        | inl earlier ↦ elim (Contains-append_cases front (blanks_in subject) n earlier) [
          | inl old ↦ h.below n old
          | inr a ↦ sb n (of_term subject n a)
        ]
        | inr b ↦ ob n (of_term o n b)
      ];
      labels = h.labels;
      triples = all_behind IsTriple s.quads q h.triples (right, refl);
      order = grown_order;
    }

    pub says_numbered : (u : ParserState) → says subject predicate o s ≡ Some (tt, u) → Numbered nothing u × (u.numbering.next ≡ s.numbering.next)
    unfolding says
    says_numbered u e = by (has_right_kinds q) refl e
      where
        by : (b : Bool) → has_right_kinds q ≡ b → if◌then◌else◌ {A = Outcome ParserState (Unit {0})} b (Some (tt, grown s q)) None ≡ Some (tt, u) → Numbered nothing u × (u.numbering.next ≡ s.numbering.next)
        by true right e = (let same : grown s q ≡ u = ap (λ p. p.1) (same_Some _ _ e) in (subst (Numbered nothing) same (grown_numbered right), ap (λ (x : ParserState). x.numbering.next) (sym same)))
        by false right e = absurd (cc e)

-- ---- terms

-- a step gives a term, pending from then on
abbrev pub TermKeeps : Does Term → Type 0
TermKeeps f = (pending : Term) (s u : ParserState) (t : Term) → Numbered pending s → f s ≡ Some (t, u) → BothNumbered pending t u × (s.numbering.next ≤ u.numbering.next) × IsBelow t u

-- a new number
numbered_on : (pending : Term) (s u : ParserState) → Numbered pending s → u.numbering.next ≡ s.numbering.next + 1 → u.quads ≡ s.quads → AllByRecursion (λ e. e.1 < s.numbering.next + 1) u.numbering.labels
    → BothNumbered pending (Blank s.numbering.next) u
numbered_on pending s u h next quads labels = record {
  covered = λ n l. elim (lt_or_is n s.numbering.next (omega (arith, l, next))) [
    | inl old ↦ elim (h.covered n old) [
      | inl said ↦ inl (inl (subst (λ (x : List QuadParts). Said x n) (sym quads) said))
      | inr p ↦ inl (inr p)
    ]
    | inr new ↦ inr (ap (λ (i : ℕ). Blank i) (sym new), next ∙ ap (λ (i : ℕ). i + 1) (sym new))
  ];
  below = λ n said. (let z : n < s.numbering.next = h.below n (subst (λ (x : List QuadParts). Said x n) quads said) in omega (arith, z, next));
  labels = subst (λ (i : ℕ). AllByRecursion (λ e. e.1 < i) u.numbering.labels) (sym next) labels;
  triples = subst (λ (x : List QuadParts). AllByRecursion IsTriple x) (sym quads) h.triples;
  order = subst AreNumberedInOrder (sym quads) h.order;
}

-- the new blank node
new_keeps : (pending : Term) (s v u : ParserState) (t : Term) → Numbered pending s → v.numbering.next ≡ s.numbering.next + 1 → v.quads ≡ s.quads → AllByRecursion (λ e. e.1 < s.numbering.next + 1) v.numbering.labels
    → ◌≡◌ {A = Outcome ParserState Term} (Some (Blank s.numbering.next, v)) (Some (t, u)) → BothNumbered pending t u × (s.numbering.next ≤ u.numbering.next) × IsBelow t u
new_keeps pending s v u t h next quads labels e =
    let is_t : Blank s.numbering.next ≡ t = ap (λ p. p.0) (same_Some _ _ e) in
    let is_u : v ≡ u = ap (λ p. p.1) (same_Some _ _ e) in
    let grows : u.numbering.next ≡ s.numbering.next + 1 = ap (λ (x : ParserState). x.numbering.next) (sym is_u) ∙ next in (
      subst (λ (x : Term). BothNumbered pending x u) is_t (subst (BothNumbered pending (Blank s.numbering.next)) is_u (numbered_on pending s v h next quads labels)),
      omega (arith, grows),
      λ n b. (let z : n ≡ s.numbering.next = blank_number t n s.numbering.next b (sym is_t) in omega (arith, z, grows)),
    )

pub fresh_keeps : TermKeeps fresh
unfolding fresh
fresh_keeps pending s u t h e =
    new_keeps pending s (record s { numbering = record s.numbering { next = s.numbering.next + 1 } }) u t h refl refl (more_labels s.numbering.next (s.numbering.next + 1) s.numbering.labels (omega arith) h.labels) e

labelled_as_keeps : (label : List ℕ) (o : Option ℕ) (pending : Term) (s u : ParserState) (t : Term) → lookup (same_key label) s.numbering.labels ≡ o → Numbered pending s → blank (labelled_as label o) s ≡ Some (t, u)
    → BothNumbered pending t u × (s.numbering.next ≤ u.numbering.next) × IsBelow t u
labelled_as_keeps label (Some k) pending s u t found h e =
    let is_t : Blank k ≡ t = ap (λ p. p.0) (same_Some _ _ e) in
    let is_u : s ≡ u = ap (λ p. p.1) (same_Some _ _ e) in
    let same : s.numbering.next ≡ u.numbering.next = ap (λ (x : ParserState). x.numbering.next) is_u in (
      beside t pending u (subst (Numbered pending) is_u h),
      omega (arith, same),
      λ n b. (let z : n ≡ k = blank_number t n k b (sym is_t) in let l : k < s.numbering.next = label_below s.numbering.next (same_key label) s.numbering.labels k h.labels found in omega (arith, z, l, same)),
    )
labelled_as_keeps label None pending s u t found h e =
    new_keeps pending s (record s { numbering = record { labels = insert_entry same_key s.numbering.labels label s.numbering.next; next = s.numbering.next + 1 } }) u t h refl refl
    (label_inserted (s.numbering.next + 1) label s.numbering.next s.numbering.labels (omega arith) (more_labels s.numbering.next (s.numbering.next + 1) s.numbering.labels (omega arith) h.labels)) e

pub labelled_keeps : (label : List ℕ) → TermKeeps (labelled label)
unfolding labelled
labelled_keeps label pending s u t h e = labelled_as_keeps label (lookup (same_key label) s.numbering.labels) pending s u t refl h e

-- a step that gives no blank node and leaves the state
abbrev pub Stays : Does Term → Type 0
Stays f = (s u : ParserState) (t : Term) → f s ≡ Some (t, u) → (s ≡ u) × ((n : ℕ) → t ≡ Blank n → ⊥)

pub stays_keeps : (f : Does Term) → Stays f → TermKeeps f
stays_keeps f h pending s u t old e =
    let st = h s u t e in
    let same : s.numbering.next ≡ u.numbering.next = ap (λ (x : ParserState). x.numbering.next) st.0 in (
      beside t pending u (subst (Numbered pending) st.0 old),
      omega (arith, same),
      λ n b. absurd (st.1 n b),
    )
