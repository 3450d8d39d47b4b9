-- The first lines of a text, and what they say.
use Rattle.std.proofs.Common.{◌≡◌, ◌∙◌, inl, inr, ap, refl, sym, subst, ℕ, ◌+◌, arith, List, [], ◌∷◌, ◌++◌, length, length-append, append-nil, Option, Some, None}
use Rattle.std.specs.Prelude.{Ok}
use Rattle.std.specs.List.{flat_map}
use Rattle.std.proofs.lemmas.List.Concat.{flat_map-append}
use Rattle.rdf_lines.specs.declared.fault.LineFault.{LineFault}
use Rattle.rdf_lines.specs.declared.statement.Statement.{Statement}
use Rattle.rdf_lines.specs.declared.format.LineFormat.{LineFormat}
use Rattle.rdf_terms.specs.declared.quad.Quad.{Quad}
use Rattle.rdf_lines.specs.Lines.{lines}
use Rattle.rdf_lines.specs.Line.{LineSays}
use Rattle.rdf_lines.specs.Labels.{all_noted, labels_of, labels_after, quad_in, numbered}
use Rattle.rdf_lines.specs.Document.{ReadsAll, IsDocument, HasSaid}
use Rattle.rdf_lines.specs.Reader.{AreSilent}
use Rattle.rdf_lines.proofs.LabelLemmas.{all_noted-append}
use Rattle.rdf_lines.proofs.LawLemmas.{quads_of, first_quad}

no_fault : {B : Type 0} (f : LineFault) → ◌≡◌ {A = Option LineFault} None (Some f) → B
no_fault f e = cc

-- lines that say these statements, and more
pub reads_append : (format : LineFormat) (n : ℕ) (xs ys : List (List ℕ)) (ss ts : List Statement) (ending : Option LineFault) → ReadsAll format n xs ss None → ReadsAll format (n + length xs) ys ts ending
    → ReadsAll format n (xs ++ ys) (ss ++ ts) ending
reads_append format n [] ys ss ts ending p r =
    subst (λ l. ReadsAll format n ys (l ++ ts) ending) (sym p.0) (subst (λ m. ReadsAll format m ys ts ending) (let e : n + 0 ≡ n = omega arith in e) r)
reads_append format n (x ∷ xs) ys ss ts ending p r =
    let later : ReadsAll format ((n + 1) + length xs) ys ts ending = subst (λ m. ReadsAll format m ys ts ending) (let e : n + length (x ∷ xs) ≡ (n + 1) + length xs = omega arith in e) r in
    elim p [
      | inl here ↦ inl (here.0, reads_append format (n + 1) xs ys ss ts ending here.1 later)
      | inr (inl here) ↦ inr (inl (here.0, here.1 ++ ts, here.2, ap (λ l. l ++ ts) here.3, reads_append format (n + 1) xs ys here.1 ts ending here.4 later))
      | inr (inr here) ↦ no_fault _ here.3
    ]

silent_reads : (format : LineFormat) (n : ℕ) (ls : List (List ℕ)) → AreSilent format ls → ReadsAll format n ls [] None
silent_reads format n [] h = (refl, refl)
silent_reads format n (l ∷ ls) h = inl (h.0, silent_reads format (n + 1) ls h.1)

-- ---- the quads of statements, and of more of them

labels_after-append : (known : List (List ℕ)) (ss ts : List Statement) → labels_after known (ss ++ ts) ≡ labels_after (labels_after known ss) ts
labels_after-append known ss ts = ap (all_noted known) (flat_map-append labels_of ss ts) ∙ all_noted-append known (flat_map labels_of ss) (flat_map labels_of ts)

quads_of-append : (known : List (List ℕ)) (ss ts : List Statement) → quads_of known (ss ++ ts) ≡ quads_of known ss ++ quads_of (labels_after known ss) ts
quads_of-append known [] ts = refl
quads_of-append known (s ∷ ss) ts =
    let now = all_noted known (labels_of s) in
    let after : labels_after known (s ∷ ss) ≡ labels_after now ss = all_noted-append known (labels_of s) (flat_map labels_of ss) in
    first_quad known s (ss ++ ts) ∙ ap (λ l. quad_in now s ∷ l) (quads_of-append now ss ts) ∙ ap (λ k. (quad_in now s ∷ quads_of now ss) ++ quads_of k ts) (sym after)
    ∙ ap (λ l. l ++ quads_of (labels_after known (s ∷ ss)) ts) (sym (first_quad known s ss))

-- ---- what was said, line by line

pub said_nothing : (format : LineFormat) → HasSaid format [] 1 [] []
said_nothing format = ([], (refl, refl), refl, refl, refl)

module _ (format : LineFormat) (front : List (List ℕ)) (n : ℕ) (labels : List (List ℕ)) (quads : List Quad) (said : HasSaid format front n labels quads) where
  at_next : (ss : List Statement) (ending : Option LineFault) (ls : List (List ℕ)) → ReadsAll format n ls ss ending → ReadsAll format (1 + length front) ls ss ending
  at_next ss ending ls r = subst (λ m. ReadsAll format m ls ss ending) (let e = said.2 in let same : n ≡ 1 + length front = omega (arith, e) in same) r

  pub said_silent : (ls : List (List ℕ)) → AreSilent format ls → HasSaid format (front ++ ls) (n + length ls) labels quads
  said_silent ls h = (
    said.0,
    subst (λ ss. ReadsAll format 1 (front ++ ls) ss None) (append-nil said.0) (reads_append format 1 front ls said.0 [] None said.1 (silent_reads format (1 + length front) ls h)),
    (let e = said.2 in omega (arith, e, length-append front ls)),
    said.3,
    said.4,
  )

  pub said_statement : (line : List ℕ) (s : Statement) → LineSays format line (Ok (Some s)) → HasSaid format (front ++ line ∷ []) (n + 1) (all_noted labels (labels_of s)) (quads ++ quad_in (all_noted labels (labels_of s)) s ∷ [])
  said_statement line s says =
      let ss = said.0 in
      let known = labels_after [] ss in (
        ss ++ s ∷ [],
        reads_append format 1 front (line ∷ []) ss (s ∷ []) None said.1 (inr (inl (s, [], says, refl, (refl, refl)))),
        (let e = said.2 in omega (arith, e, length-append front (line ∷ []))),
        ap (λ k. all_noted k (labels_of s)) said.3 ∙ ap (all_noted known) (sym (append-nil (labels_of s))) ∙ sym (labels_after-append [] ss (s ∷ [])),
        (λ i. said.4 i ++ quad_in (all_noted (said.3 i) (labels_of s)) s ∷ []) ∙ ap (λ l. numbered ss ++ l) (sym (first_quad known s [])) ∙ sym (quads_of-append [] ss (s ∷ [])),
      )

  pub said_document : (text : List ℕ) (behind : List (List ℕ)) (ss : List Statement) (ending : Option LineFault) → lines text ≡ front ++ behind → ReadsAll format n behind ss ending
      → IsDocument format text (quads ++ quads_of labels ss) ending
  said_document text behind ss ending e r = (
    said.0 ++ ss,
    subst (λ l. ReadsAll format 1 l (said.0 ++ ss) ending) (sym e) (reads_append format 1 front behind said.0 ss ending said.1 (at_next ss ending behind r)),
    (λ i. said.4 i ++ quads_of (said.3 i) ss) ∙ sym (quads_of-append [] said.0 ss),
  )

  pub said_all : (text : List ℕ) (behind : List (List ℕ)) (ending : Option LineFault) → lines text ≡ front ++ behind → ReadsAll format n behind [] ending → IsDocument format text quads ending
  said_all text behind ending e r = subst (λ q. IsDocument format text q ending) (append-nil quads) (said_document text behind [] ending e r)
