-- How many lines a text has that ends at an LF, as a state text does.
use Rattle.std.proofs.Common.{◌≡◌, ◌∙◌, ◌⊎◌, inl, inr, ℕ, List, [], ◌∷◌, ◌++◌, length, refl, sym, ap, nat_eq, suc, subst, codes, append_assoc, append-nil, length-append, take, drop, ◌-◌, ◌≤◌, arith}
use Rattle.std.specs.List.{filter, flat_map, onto_first}
use Rattle.std.specs.Prelude.{decimal}
use Rattle.std.proofs.Math.Seq.{drop-append_seam}
use Rattle.std.proofs.lemmas.List.{take_all}
use Rattle.std.proofs.lemmas.Bool.Decides.{eqb_tells}
use Rattle.rdf_dataset.specs.State.{State as DatasetState}
use Rattle.rdf_lines.specs.QuadText.{quad_text}
use Rattle.rdf_lines.specs.StateText.{name_line, state_text}
use Rattle.rdf_session.specs.Saved.{IsTextOf}
use Rattle.rdf_terms.specs.Quad.{QuadParts}
use Rattle.rdf_terms.specs.TermText.{term_text}
use Rattle.rdf_terms.specs.declared.term.Term.{Term}
use Rattle.rdf_keeper.specs.Script.Lines.{raw_lines}

-- ---- texts that end at an LF

abbrev pub Ends : List ℕ → Type 0
Ends text = (front : List ℕ) × (text ≡ front ++ 10 ∷ [])

abbrev pub EndsIfAny : List ℕ → Type 0
EndsIfAny text = (text ≡ []) ⊎ Ends text

pub ends_behind : (xs ys : List ℕ) → Ends ys → Ends (xs ++ ys)
ends_behind xs ys e = (xs ++ e.0, ap (λ l. xs ++ l) e.1 ∙ sym (append_assoc xs e.0 (10 ∷ [])))

pub ends_if_any : (xs ys : List ℕ) → Ends xs → EndsIfAny ys → Ends (xs ++ ys)
ends_if_any xs ys e (inl none) = (e.0, ap (λ l. xs ++ l) none ∙ append-nil xs ∙ e.1)
ends_if_any xs ys e (inr some) = ends_behind xs ys some

pub both_end : (xs ys : List ℕ) → EndsIfAny xs → EndsIfAny ys → EndsIfAny (xs ++ ys)
both_end xs ys (inl none) e = elim e [ inl f ↦ inl (ap (λ l. l ++ ys) none ∙ f) | inr f ↦ inr (ends_behind xs ys f) ]
both_end xs ys (inr some) e = inr (ends_if_any xs ys some e)

pub each_ends : {A : Type 0} (line : A → List ℕ) → ((x : A) → Ends (line x)) → (xs : List A) → EndsIfAny (flat_map line xs)
each_ends line all [] = inl refl
each_ends line all (x ∷ xs) = inr (ends_if_any (line x) (flat_map line xs) (all x) (each_ends line all xs))

-- ---- and how many lines they have

abbrev feeds : List ℕ → List ℕ
feeds text = filter (λ b. nat_eq b 10) text

some_line : (front : List ℕ) → (line : List ℕ) × (lines : List (List ℕ)) × (raw_lines (front ++ 10 ∷ []) ≡ line ∷ lines)
some_line [] = (10 ∷ [], [], refl)
some_line (b ∷ bs) =
    let later = some_line bs in
    elim (eqb_tells b 10) [
      | inl h ↦ (b ∷ [], raw_lines (bs ++ 10 ∷ []), rw h.0 refl)
      | inr h ↦ (b ∷ later.0, later.1, rw h.0 (ap (onto_first b) later.2))
    ]

onto_same : (b : ℕ) (ls : List (List ℕ)) (line : List ℕ) (lines : List (List ℕ)) → ls ≡ line ∷ lines → length (onto_first b ls) ≡ length ls
onto_same b ls line lines e = ap (λ l. length (onto_first b l)) e ∙ sym (ap length e)

lines_counted : (front : List ℕ) → length (raw_lines (front ++ 10 ∷ [])) ≡ length (feeds (front ++ 10 ∷ []))
lines_counted [] = refl
lines_counted (b ∷ bs) =
    let some = some_line bs in
    let later = lines_counted bs in
    elim (eqb_tells b 10) [
      | inl h ↦ rw h.0 (ap suc later)
      | inr h ↦ rw h.0 (onto_same b (raw_lines (bs ++ 10 ∷ [])) some.0 some.1 some.2 ∙ later)
    ]

pub lines_are_feeds : (text : List ℕ) → Ends text → length (raw_lines text) ≡ length (filter (λ b. nat_eq b 10) text)
lines_are_feeds text e = ap (λ l. length (raw_lines l)) e.1 ∙ lines_counted e.0 ∙ sym (ap (λ l. length (feeds l)) e.1)

-- ---- the state text

name_ends : (n : Term) → Ends (name_line n)
name_ends n = ends_behind (codes "#% graph ") _ (ends_behind (term_text n) _ ([], refl))

quad_ends : (q : QuadParts) → Ends (quad_text q)
quad_ends q = ends_behind _ (codes ".\n") (46 ∷ [], refl)

state_text_ends : (next : ℕ) (names : List Term) (quads : List QuadParts) → Ends (state_text next names quads)
state_text_ends next names quads =
    let lines = both_end (flat_map name_line names) (flat_map quad_text quads) (each_ends name_line name_ends names) (each_ends quad_text quad_ends quads) in
    ends_behind (codes "#% rdfkeep state 2\n") _ (ends_behind (codes "#% next ") _ (ends_behind (decimal next) _ (ends_if_any (codes "\n") _ ([], refl) lines)))

pub state_lines_counted : (s : DatasetState) (text : List ℕ) → IsTextOf s text → length (raw_lines text) ≡ length (filter (λ b. nat_eq b 10) text)
state_lines_counted s text is = lines_are_feeds text (subst Ends (sym is.is) (state_text_ends s.next is.names_listed is.quads_listed))

-- ---- what was appended

pub appended : (held out old text : List ℕ) (n : ℕ) → held ≡ out → out ≡ old ++ text → n ≡ length old → take (length held - n) (drop n held) ≡ text
appended held out old text n d e l =
    let is : held ≡ old ++ text = d ∙ e in
    let long : length text ≤ length (old ++ text) - length old = rw length-append (omega arith) in
    (λ i. take (length (is i) - l i) (drop (l i) (is i))) ∙ ap (take (length (old ++ text) - length old)) (drop-append_seam old text) ∙ take_all (length (old ++ text) - length old) text long
