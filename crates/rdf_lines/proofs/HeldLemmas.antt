-- Reading a held text line by line.
use Rattle.std.proofs.Common.{◌≡◌, ◌∙◌, inl, inr, ap, refl, sym, subst, ℕ, List, [], ◌∷◌, ◌++◌, append_assoc, Some, None, length, ◌==◌, true, arith}
use Rattle.std.proofs.lemmas.Bool.Decides.{Decides-eqb}
use Rattle.std.specs.Prelude.{Ok, Err}
use Rattle.rdf_lines.specs.declared.fault.FaultKind.{FaultKind}
use Rattle.rdf_lines.specs.declared.fault.FaultKind.TheVariants.{NotUtf8, Syntax, Relative, Read, NoMemory, Failed as FailedKind}
use Rattle.rdf_lines.specs.declared.fault.LineFault.{LineFault}
use Rattle.rdf_terms.specs.declared.quad.Quad.{Quad}
use Rattle.rdf_lines.specs.declared.format.LineFormat.{LineFormat}
use Rattle.rdf_lines.specs.Lines.{lines}
use Rattle.rdf_lines.specs.Line.{LineSays}
use Rattle.rdf_lines.specs.Labels.{all_noted, labels_of, quad_in}
use Rattle.rdf_lines.specs.Document.{IsDocument, StopsBehind, TellsFault, HasSaid}
use Rattle.rdf_lines.specs.Reader.{ReadsLine, FaultOf, fault}
use Rattle.rdf_lines.proofs.FrontLemmas.{said_nothing, said_silent, said_statement, said_all}
use Rattle.rdf_lines.specs.FaultName.{no_memory}

module _ (format : LineFormat) (text : List ℕ) where
  -- what was said by the lines before the rest
  abbrev pub SoFar : List Quad → ℕ → List (List ℕ) → List ℕ → Type 0
  SoFar done n labels rest = (front : List (List ℕ)) × (lines text ≡ front ++ lines rest) × HasSaid format front n labels done

  pub nothing_so_far : SoFar [] 1 [] text
  nothing_so_far = ([], refl, said_nothing format)

  one_more : (front : List (List ℕ)) (rest line after : List ℕ) → lines text ≡ front ++ lines rest → lines rest ≡ line ∷ lines after → lines text ≡ (front ++ line ∷ []) ++ lines after
  one_more front rest line after e cut = e ∙ ap (λ l. front ++ l) cut ∙ sym (append_assoc front (line ∷ []) (lines after))

  pub past_silence : (done : List Quad) (n m : ℕ) (labels now : List (List ℕ)) (rest line after : List ℕ) → SoFar done n labels rest → lines rest ≡ line ∷ lines after
      → ReadsLine format line n labels (Ok None) m now → SoFar done m now after
  past_silence done n m labels now rest line after (front, e, said) cut r = (
    front ++ line ∷ [],
    one_more front rest line after e cut,
    subst (λ k. HasSaid format (front ++ line ∷ []) m k done) (sym r.2)
        (subst (λ k. HasSaid format (front ++ line ∷ []) k labels done) (sym r.1) (said_silent format front n labels done said (line ∷ []) (r.0, tt))),
  )

  pub past_statement : (done grown : List Quad) (q : Quad) (n m : ℕ) (labels now : List (List ℕ)) (rest line after : List ℕ) → SoFar done n labels rest → lines rest ≡ line ∷ lines after
      → ReadsLine format line n labels (Ok (Some q)) m now → grown ≡ done ++ q ∷ [] → SoFar grown m now after
  past_statement done grown q n m labels now rest line after (front, e, said) cut (s, says, is_now, is_quad, is_number) g =
      let at = front ++ line ∷ [] in (
        at,
        one_more front rest line after e cut,
        subst (λ l. HasSaid format at m now l) (sym g)
            (subst (λ x. HasSaid format at m now (done ++ x ∷ [])) (sym is_quad)
            (subst (λ k. HasSaid format at m k (done ++ quad_in k s ∷ [])) (sym is_now)
            (subst (λ k. HasSaid format at k (all_noted labels (labels_of s)) (done ++ quad_in (all_noted labels (labels_of s)) s ∷ [])) (sym is_number)
            (said_statement format front n labels done said line s says)))),
      )

  -- memory is wanting at a line
  pub at_line : (done : List Quad) (n : ℕ) (labels : List (List ℕ)) (rest line after : List ℕ) (f : LineFault) → SoFar done n labels rest → lines rest ≡ line ∷ lines after
      → f.line ≡ n → f.kind ≡ no_memory → StopsBehind format text done f f.kind
  at_line done n labels rest line after f (front, e, said) cut is_line is_kind =
      subst (StopsBehind format text done f) (sym is_kind)
      (line, lines after, (front, labels, e ∙ ap (λ l. front ++ l) cut, subst (λ k. HasSaid format front k labels done) (sym is_line) said))

  faulty : (done : List Quad) (n : ℕ) (labels : List (List ℕ)) (rest line after : List ℕ) (f : LineFault) (kind : FaultKind) → SoFar done n labels rest → lines rest ≡ line ∷ lines after
      → f ≡ fault n kind → LineSays format line (Err kind) → IsDocument format text done (Some f)
  faulty done n labels rest line after f kind (front, e, said) cut is says =
      subst (λ x. IsDocument format text done (Some x)) (sym is)
      (said_all format front n labels done said text (line ∷ lines after) (Some (fault n kind)) (e ∙ ap (λ l. front ++ l) cut) (inr (inr (kind, says, refl, refl))))

  pub at_fault : (done : List Quad) (n m : ℕ) (labels now : List (List ℕ)) (rest line after : List ℕ) (f : LineFault) → SoFar done n labels rest → lines rest ≡ line ∷ lines after
      → ReadsLine format line n labels (Err f) m now → StopsBehind format text done f f.kind
  at_fault done n m labels now rest line after f h cut r = elim r.2 [
    | inl own ↦ by f.kind own (λ i. record { line = r.0 i; kind = f.kind })
    | inr memory ↦ at_line done n labels rest line after f h cut r.0 memory
  ]
    where
      by : (kind : FaultKind) → FaultOf format line kind → f ≡ fault n kind → StopsBehind format text done f kind
      by NotUtf8 own e = faulty done n labels rest line after f NotUtf8 h cut e own
      by Syntax own e = faulty done n labels rest line after f Syntax h cut e own
      by Relative own e = faulty done n labels rest line after f Relative h cut e own
      by Read own e = absurd own
      by (NoMemory _) own e = absurd own
      by FailedKind own e = absurd own

  pub at_end : (done : List Quad) (n : ℕ) (labels : List (List ℕ)) (rest : List ℕ) → SoFar done n labels rest → rest ≡ [] → IsDocument format text done None
  at_end done n labels rest (front, e, said) is =
      said_all format front n labels done said text [] None (e ∙ ap (λ t. front ++ lines t) is) (refl, refl)

pub tells : (format : LineFormat) (text : List ℕ) (quads : List Quad) (f : LineFault) (kind : FaultKind) → StopsBehind format text quads f kind → TellsFault format text f kind
tells format text quads f NotUtf8 h = (quads, h)
tells format text quads f Syntax h = (quads, h)
tells format text quads f Relative h = (quads, h)
tells format text quads f Read h = h
tells format text quads f (NoMemory _) h = (quads, h.0, h.1, h.2)
tells format text quads f FailedKind h = h

pub is_nil : (xs : List ℕ) → (length xs == 0) ≡ true → xs ≡ []
is_nil [] e = refl
is_nil (x ∷ xs) e = absurd (omega (arith, (Decides-eqb (length (x ∷ xs)) 0).0 e))
