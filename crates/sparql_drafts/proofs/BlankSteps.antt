-- The numbers that are said, in order, and those that are pending, through the steps of a reading.
use Rattle.std.proofs.Common.{append-nil, append_assoc, ◌≡◌, ◌∙◌, ◌⊎◌, ◌≤◌, ◌<◌, ◌+◌, ap, refl, sym, subst, inl, inr, ℕ, zero, suc, List, [], ◌∷◌, ◌++◌, Option, Some, None, Contains, arith, length}
use Rattle.std.proofs.lemmas.Option.{same_Some}
use Rattle.std.proofs.lemmas.List.Elements.{Contains-append_left, Contains-append_right, Contains-append_cases}
use Rattle.std.proofs.lemmas.Grind.{flat_map-append}
use Rattle.std.specs.List.{flat_map, AllByRecursion}
use Rattle.std.specs.Map.{lookup}
use Rattle.indexmap.specs.IndexMap.{insert_entry}
use Rattle.rdf_terms.specs.declared.term.Term.TheVariants.{Blank, Iri, Literal}
use Rattle.rdf_grammar.specs.Keys.{key_of, same_key}
use Rattle.rdf_grammar.specs.Numbering.{labelled_as}
use Rattle.rdf_grammar.specs.Steps.{Outcome}
pub use Rattle.rdf_grammar.proofs.CallerLemmas.{then_parts}
use Rattle.rdf_grammar.proofs.CallerLemmas.{more_labels, label_below, label_inserted, lt_or_is}
use Rattle.sparql_drafts.specs.Blanks.{AreInOrder, ComeInOrder, place_blanks, pattern_blanks}
use Rattle.sparql_drafts.specs.declared.draft.QuadPattern.{QuadPattern}
use Rattle.sparql_drafts.specs.declared.draft.VarOrIri.{VarOrIri}
use Rattle.sparql_drafts.specs.declared.draft.VarOrTerm.{VarOrTerm}
use Rattle.sparql_drafts.specs.declared.draft.VarOrTerm.TheVariants.{Variable, Term}
use Rattle.sparql_drafts.specs.Drafting.{Drafting, Does, fresh, labelled, labels_behind, says}

-- ---- numbers

abbrev pub Said : List QuadPattern → ℕ → Type 0
Said patterns n = Contains (flat_map pattern_blanks patterns) n

abbrev pub node : ℕ → VarOrTerm
node n = Term (Blank n)

-- what is no blank node: nothing is pending
abbrev pub nothing : VarOrTerm
nothing = Variable []

-- each number so far stands in a pattern or is pending, the patterns have no other, and they come in order
pub record Numbered (pending : VarOrTerm) (s : Drafting) : Type 0 where
  pub covered : (n : ℕ) → n < s.numbering.next → Said s.patterns n ⊎ (pending ≡ node n)
  pub below : (n : ℕ) → Said s.patterns n → n < s.numbering.next
  pub labels : AllByRecursion (λ e. e.1 < s.numbering.next) s.numbering.labels
  pub order : AreInOrder s.patterns

-- a second node is pending, which has the last number if it has a new one
pub record BothNumbered (pending last : VarOrTerm) (s : Drafting) : Type 0 where
  pub covered : (n : ℕ) → n < s.numbering.next → (Said s.patterns n ⊎ (pending ≡ node n)) ⊎ ((last ≡ node n) × (s.numbering.next ≡ n + 1))
  pub below : (n : ℕ) → Said s.patterns n → n < s.numbering.next
  pub labels : AllByRecursion (λ e. e.1 < s.numbering.next) s.numbering.labels
  pub order : AreInOrder s.patterns

abbrev pub IsBelow : VarOrTerm → Drafting → Type 0
IsBelow t s = (n : ℕ) → t ≡ node n → n < s.numbering.next

-- where this is a blank node, it is that one
abbrev pub IsAt : VarOrTerm → VarOrTerm → Type 0
IsAt a b = (n : ℕ) → a ≡ node n → b ≡ node n

pub variable_apart : (name : List ℕ) (n : ℕ) → Variable name ≡ node n → ⊥
variable_apart name n e = cc

pub nothing_at : (t : VarOrTerm) → IsAt nothing t
nothing_at t n e = absurd (variable_apart [] n e)

pub wider : (a b : VarOrTerm) (s : Drafting) → IsAt a b → Numbered a s → Numbered b s
wider a b s w h = record {
  covered = λ n l. elim (h.covered n l) [ inl x ↦ inl x | inr y ↦ inr (w n y) ];
  below = h.below;
  labels = h.labels;
  order = h.order;
}

-- a node may be pending where nothing is
pub also : (t : VarOrTerm) (s : Drafting) → Numbered nothing s → Numbered t s
also t s h = wider nothing t s (nothing_at t) h

-- an old node beside the one that is pending
pub beside : (t pending : VarOrTerm) (s : Drafting) → Numbered pending s → BothNumbered pending t s
beside t pending s h = record { covered = λ n l. inl (h.covered n l); below = h.below; labels = h.labels; order = h.order }

pub only_last : (t : VarOrTerm) (s : Drafting) → BothNumbered nothing t s → Numbered t s
only_last t s h = record {
  covered = λ n l. elim (h.covered n l) [ inl (inl x) ↦ inl x | inl (inr y) ↦ absurd (variable_apart [] n y) | inr z ↦ inr z.0 ];
  below = h.below;
  labels = h.labels;
  order = h.order;
}

pub below_on : (t : VarOrTerm) (s u : Drafting) → s.numbering.next ≤ u.numbering.next → IsBelow t s → IsBelow t u
below_on t s u l h = λ n e. (let z : n < s.numbering.next = h n e in omega (arith, z, l))

in_term : (t : VarOrTerm) (n : ℕ) → t ≡ node n → Contains (place_blanks t) n
in_term t n e = subst (λ (x : VarOrTerm). Contains (place_blanks x) n) (sym e) (0, (let z : 0 < length (n ∷ []) = omega arith in z), refl)

single : (k n : ℕ) → Contains (k ∷ []) n → k ≡ n
single k n (zero, short, at) = at
single k n (suc i, short, at) = absurd (let z : suc i < length (k ∷ []) = short in omega (arith, z))

nowhere : (n : ℕ) → Contains [] n → ⊥
nowhere n (i, short, at) = let z : i < length {A = ℕ} [] = short in omega (arith, z)

of_term : (t : VarOrTerm) (n : ℕ) → Contains (place_blanks t) n → t ≡ node n
of_term (Variable name) n h = absurd (nowhere n h)
of_term (Term (Blank k)) n h = ap (λ (i : ℕ). node i) (single k n h)
of_term (Term (Iri i)) n h = absurd (nowhere n h)
of_term (Term (Literal l)) n h = absurd (nowhere n h)

-- ---- numbers in order

-- where a member of a list with one more stands
split_push : (xs front back : List ℕ) (n m : ℕ) → xs ++ n ∷ [] ≡ front ++ m ∷ back → ((rest : List ℕ) × (xs ≡ front ++ m ∷ rest)) ⊎ ((xs ≡ front) × (n ≡ m))
split_push [] [] back n m e = inr (refl, cc)
split_push [] (f ∷ []) back n m e = absurd (cc e)
split_push [] (f ∷ h ∷ fs) back n m e = absurd (cc e)
split_push (x ∷ xs) [] back n m e = inl (xs, (let is : x ≡ m = cc e in ap (λ (y : ℕ). y ∷ xs) is))
split_push (x ∷ xs) (f ∷ fs) back n m e =
    let is : x ≡ f = cc e in
    let behind : xs ++ n ∷ [] ≡ fs ++ m ∷ back = cc e in
    elim (split_push xs fs back n m behind) [
      | inl r ↦ inl (r.0, cc (is, r.1))
      | inr r ↦ inr (cc (is, r.0), r.1)
    ]

order_push : (xs : List ℕ) (n : ℕ) → ComeInOrder xs → ((k : ℕ) → k < n → Contains xs k) → ComeInOrder (xs ++ n ∷ [])
order_push xs n h all front back number smaller e l = elim (split_push xs front back n number e) [
  | inl r ↦ h front r.0 number smaller r.1 l
  | inr r ↦ subst (λ (ys : List ℕ). Contains ys smaller) r.0 (all smaller (omega (arith, l, r.1)))
]

order_behind : (xs : List ℕ) (t : VarOrTerm) → ComeInOrder xs → ((k n : ℕ) → t ≡ node n → k < n → Contains xs k) → ComeInOrder (xs ++ place_blanks t)
order_behind xs (Variable name) h all = subst ComeInOrder (sym (append-nil xs)) h
order_behind xs (Term (Blank n)) h all = order_push xs n h (λ k l. all k n refl l)
order_behind xs (Term (Iri i)) h all = subst ComeInOrder (sym (append-nil xs)) h
order_behind xs (Term (Literal w)) h all = subst ComeInOrder (sym (append-nil xs)) h

blank_number : (t : VarOrTerm) (m n : ℕ) → t ≡ node m → t ≡ node n → m ≡ n
blank_number t m n a b = cc

-- ---- a pattern

abbrev grown : Drafting → QuadPattern → Drafting
grown s q = record s { patterns = s.patterns ++ q ∷ [] }

module _ (subject o : VarOrTerm) (predicate : VarOrIri) (pending : VarOrTerm) (s : Drafting) where
  abbrev q : QuadPattern
  q = record { graph = s.graph; subject = subject; predicate = predicate; object = o }

  abbrev front : List ℕ
  front = flat_map pattern_blanks s.patterns

  back : (n : ℕ) → Contains (pattern_blanks q) n → Said (s.patterns ++ q ∷ []) n
  back n h = subst (λ (l : List ℕ). Contains l n) (sym (flat_map-append pattern_blanks s.patterns (q ∷ []))) (Contains-append_right front (pattern_blanks q ++ []) n (Contains-append_left (pattern_blanks q) [] n h))

  said_subject : (n : ℕ) → subject ≡ node n → Said (s.patterns ++ q ∷ []) n
  said_subject n is = back n (Contains-append_left (place_blanks subject) (place_blanks o) n (in_term subject n is))

  said_object : (n : ℕ) → o ≡ node n → Said (s.patterns ++ q ∷ []) n
  said_object n is = back n (Contains-append_right (place_blanks subject) (place_blanks o) n (in_term o n is))

  numbers_said : flat_map pattern_blanks (s.patterns ++ q ∷ []) ≡ (front ++ place_blanks subject) ++ place_blanks o
  numbers_said =
      flat_map-append pattern_blanks s.patterns (q ∷ []) ∙ ap (λ (l : List ℕ). front ++ l) (append-nil (pattern_blanks q))
      ∙ sym (append_assoc front (place_blanks subject) (place_blanks o))

  module _ (at : IsAt pending subject) (h : BothNumbered pending o s) (sb : IsBelow subject s) (ob : IsBelow o s) where
    -- the subject's smaller numbers are said
    subject_order : (k n : ℕ) → subject ≡ node n → k < n → Contains front k
    subject_order k n is l =
        let top : n < s.numbering.next = sb n is in
        elim (h.covered k (omega (arith, l, top))) [
          | inl (inl said) ↦ said
          | inl (inr open_one) ↦ absurd (let same : k ≡ n = blank_number subject k n (at k open_one) is in omega (arith, l, same))
          | inr last ↦ absurd (let end : s.numbering.next ≡ k + 1 = last.1 in omega (arith, l, top, end))
        ]

    -- and the object's, or they are the subject's
    object_order : (k n : ℕ) → o ≡ node n → k < n → Contains (front ++ place_blanks subject) k
    object_order k n is l =
        let top : n < s.numbering.next = ob n is in
        elim (h.covered k (omega (arith, l, top))) [
          | inl (inl said) ↦ Contains-append_left front (place_blanks subject) k said
          | inl (inr open_one) ↦ Contains-append_right front (place_blanks subject) k (in_term subject k (at k open_one))
          | inr last ↦ absurd (let same : k ≡ n = blank_number o k n last.0 is in omega (arith, l, same))
        ]

    grown_order : AreInOrder (s.patterns ++ q ∷ [])
    grown_order = subst ComeInOrder (sym numbers_said) (order_behind (front ++ place_blanks subject) o (order_behind front subject h.order subject_order) object_order)

    pub grown_numbered : Numbered nothing (grown s q)
    grown_numbered = record {
      covered = λ n l. elim (h.covered n l) [
        | inl (inl said) ↦ inl (subst (λ (l : List ℕ). Contains l n) (sym (flat_map-append pattern_blanks s.patterns (q ∷ []))) (Contains-append_left front (pattern_blanks q ++ []) n said))
        | inl (inr open_one) ↦ inl (said_subject n (at n open_one))
        | inr last ↦ inl (said_object n last.0)
      ];
      below = λ n said. elim (Contains-append_cases (front ++ place_blanks subject) (place_blanks o) n (subst (λ (l : List ℕ). Contains l n) numbers_said said)) [
        | inl earlier ↦ elim (Contains-append_cases front (place_blanks subject) n earlier) [
          | inl old ↦ h.below n old
          | inr a ↦ sb n (of_term subject n a)
        ]
        | inr b ↦ ob n (of_term o n b)
      ];
      labels = h.labels;
      order = grown_order;
    }

    pub says_numbered : (u : Drafting) → says subject predicate o s ≡ Some (tt, u) → Numbered nothing u × (u.numbering.next ≡ s.numbering.next)
    unfolding says
    says_numbered u e =
        let same : grown s q ≡ u = ap (λ p. p.1) (same_Some _ _ e) in
        (subst (Numbered nothing) same grown_numbered, ap (λ (x : Drafting). x.numbering.next) (sym same))

-- ---- terms

-- a step gives what a node stands for, pending from then on
abbrev pub TermKeeps : Does VarOrTerm → Type 0
TermKeeps f = (pending : VarOrTerm) (s u : Drafting) (t : VarOrTerm) → Numbered pending s → f s ≡ Some (t, u) → BothNumbered pending t u × (s.numbering.next ≤ u.numbering.next) × IsBelow t u

-- a new number
numbered_on : (pending : VarOrTerm) (s u : Drafting) → Numbered pending s → u.numbering.next ≡ s.numbering.next + 1 → u.patterns ≡ s.patterns → AllByRecursion (λ e. e.1 < s.numbering.next + 1) u.numbering.labels
    → BothNumbered pending (node s.numbering.next) u
numbered_on pending s u h next patterns labels = record {
  covered = λ n l. elim (lt_or_is n s.numbering.next (omega (arith, l, next))) [
    | inl old ↦ elim (h.covered n old) [
      | inl said ↦ inl (inl (subst (λ (x : List QuadPattern). Said x n) (sym patterns) said))
      | inr p ↦ inl (inr p)
    ]
    | inr new ↦ inr (ap (λ (i : ℕ). node i) (sym new), next ∙ ap (λ (i : ℕ). i + 1) (sym new))
  ];
  below = λ n said. (let z : n < s.numbering.next = h.below n (subst (λ (x : List QuadPattern). Said x n) patterns said) in omega (arith, z, next));
  labels = subst (λ (i : ℕ). AllByRecursion (λ e. e.1 < i) u.numbering.labels) (sym next) labels;
  order = subst AreInOrder (sym patterns) h.order;
}

-- the new blank node
new_keeps : (pending : VarOrTerm) (s v u : Drafting) (t : VarOrTerm) → Numbered pending s → v.numbering.next ≡ s.numbering.next + 1 → v.patterns ≡ s.patterns → AllByRecursion (λ e. e.1 < s.numbering.next + 1) v.numbering.labels
    → ◌≡◌ {A = Outcome Drafting VarOrTerm} (Some (node s.numbering.next, v)) (Some (t, u)) → BothNumbered pending t u × (s.numbering.next ≤ u.numbering.next) × IsBelow t u
new_keeps pending s v u t h next patterns labels e =
    let is_t : node s.numbering.next ≡ t = ap (λ p. p.0) (same_Some _ _ e) in
    let is_u : v ≡ u = ap (λ p. p.1) (same_Some _ _ e) in
    let grows : u.numbering.next ≡ s.numbering.next + 1 = ap (λ (x : Drafting). x.numbering.next) (sym is_u) ∙ next in (
      subst (λ (x : VarOrTerm). BothNumbered pending x u) is_t (subst (BothNumbered pending (node s.numbering.next)) is_u (numbered_on pending s v h next patterns labels)),
      omega (arith, grows),
      λ n b. (let z : n ≡ s.numbering.next = blank_number t n s.numbering.next b (sym is_t) in omega (arith, z, grows)),
    )

pub fresh_keeps : TermKeeps fresh
unfolding fresh
fresh_keeps pending s u t h e =
    new_keeps pending s (record s { numbering = record s.numbering { next = s.numbering.next + 1 } }) u t h refl refl (more_labels s.numbering.next (s.numbering.next + 1) s.numbering.labels (omega arith) h.labels) e

-- the step at a label that has this number, or none yet
abbrev labelled_by : List ℕ → Option ℕ → Does VarOrTerm
labelled_by label o s =
    let step = labelled_as (key_of label) o s.numbering in
    Some (node step.0, record s { numbering = step.1; labels = labels_behind label o s.labels })

labelled_by_keeps : (label : List ℕ) (o : Option ℕ) (pending : VarOrTerm) (s u : Drafting) (t : VarOrTerm) → lookup (same_key (key_of label)) s.numbering.labels ≡ o → Numbered pending s → labelled_by label o s ≡ Some (t, u)
    → BothNumbered pending t u × (s.numbering.next ≤ u.numbering.next) × IsBelow t u
labelled_by_keeps label (Some k) pending s u t found h e =
    let is_t : node k ≡ t = ap (λ p. p.0) (same_Some _ _ e) in
    let is_u : s ≡ u = ap (λ p. p.1) (same_Some _ _ e) in
    let same : s.numbering.next ≡ u.numbering.next = ap (λ (x : Drafting). x.numbering.next) is_u in (
      beside t pending u (subst (Numbered pending) is_u h),
      omega (arith, same),
      λ n b. (let z : n ≡ k = blank_number t n k b (sym is_t) in let l : k < s.numbering.next = label_below s.numbering.next (same_key (key_of label)) s.numbering.labels k h.labels found in omega (arith, z, l, same)),
    )
labelled_by_keeps label None pending s u t found h e =
    new_keeps pending s (record s { numbering = record { labels = insert_entry same_key s.numbering.labels (key_of label) s.numbering.next; next = s.numbering.next + 1 }; labels = s.labels ++ label ∷ [] }) u t h refl refl
    (label_inserted (s.numbering.next + 1) (key_of label) s.numbering.next s.numbering.labels (omega arith) (more_labels s.numbering.next (s.numbering.next + 1) s.numbering.labels (omega arith) h.labels)) e

pub labelled_keeps : (label : List ℕ) → TermKeeps (labelled label)
unfolding labelled
labelled_keeps label pending s u t h e = labelled_by_keeps label (lookup (same_key (key_of label)) s.numbering.labels) pending s u t refl h e

-- a step that gives no blank node and leaves the state
abbrev pub Stays : Does VarOrTerm → Type 0
Stays f = (s u : Drafting) (t : VarOrTerm) → f s ≡ Some (t, u) → (s ≡ u) × ((n : ℕ) → t ≡ node n → ⊥)

pub stays_keeps : (f : Does VarOrTerm) → Stays f → TermKeeps f
stays_keeps f h pending s u t old e =
    let st = h s u t e in
    let same : s.numbering.next ≡ u.numbering.next = ap (λ (x : Drafting). x.numbering.next) st.0 in (
      beside t pending u (subst (Numbered pending) st.0 old),
      omega (arith, same),
      λ n b. absurd (st.1 n b),
    )
