-- Quads in braces, and the blank node labels that their lexemes carry: no brace of theirs ends a place in which labels are told apart.
use Rattle.std.proofs.Common.{◌≡◌, ◌∙◌, ap, refl, sym, subst, ℕ, ◌+◌, Bool, true, false, cond, ◌&&◌, ◌||◌, List, [], ◌∷◌, ◌++◌, append-nil, Option, Some, None, arith, true≢false}
use Rattle.std.proofs.lemmas.Bool.{and_parts}
use Rattle.std.specs.List.{list_any}
use Rattle.rdf_grammar.specs.Derivations as grammar
use Rattle.sparql_terminals.specs.declared.terminal.Terminal.{Terminal}
use Rattle.sparql_terminals.specs.declared.terminal.Terminal.TheVariants as terminal
use Rattle.sparql_terminals.specs.Lexemes.{Lexeme, Lexemes, Derives}
use Rattle.sparql_grammar.specs.declared.tree.Block.{Block}
use Rattle.sparql_grammar.specs.declared.tree.Triples.{Triples}
use Rattle.sparql_grammar.specs.OperationGrammar as g
use Rattle.sparql_grammar.specs.OperationReading.{block}
use Rattle.sparql_grammar.specs.Reading.{all_of}
use Rattle.sparql_syntax.specs.declared.clause.Clause.{Clause}
use Rattle.sparql_syntax.specs.declared.clause.Clause.TheVariants as clause
use Rattle.sparql_syntax.specs.BrokenRules.{ends, is_label}
use Rattle.sparql_syntax.specs.Clauses.{behind_brace, clause_behind, is_same}
use Rattle.sparql_syntax.proofs.LabelFronts.{Slices, Gives, At, at_same, has, has_none, hits, lists, then_gives, pure_gives, map_gives, behind_gives, maybe_gives, perhaps_gives, later_gives, star_gives}
use Rattle.sparql_syntax.proofs.LabelMeanings.{block_labels}
use Rattle.sparql_syntax.proofs.LabelNodes.{triples_labels, place_gives}
use Rattle.sparql_syntax.proofs.ReusedLists.{once, run}
use Rattle.sparql_syntax.proofs.SharedLabels.{or_no}

-- labels are told apart there
abbrev pub is_tracked : Clause → Bool
is_tracked clause.InsertData = true
is_tracked clause.Pattern = true
is_tracked _ = false

unlike : (place c : Clause) → is_tracked c ≡ false → is_same place c ≡ false
unlike clause.InsertData clause.InsertData e = absurd (true≢false e)
unlike clause.Pattern clause.Pattern e = absurd (true≢false e)
unlike _ _ e = refl

record Apart (place : Clause) : Type 0 where
  opens : ends place terminal.OpenBrace ≡ false
  closes : ends place terminal.CloseBrace ≡ false

apart : (place c : Clause) → (c ≡ clause.Pattern → ⊥) → is_same place c ≡ true → Apart place
apart clause.InsertData clause.InsertData other e = record { opens = refl; closes = refl }
apart clause.Pattern clause.Pattern other e = absurd (other refl)
apart _ _ other e = absurd (true≢false (sym e))

module _ (place : Clause) (label : List ℕ) where
  -- From here on the label stands in so many places, besides the one at hand, where it stands in this or did before.
  unfoldable pub Reads : Clause → Bool → ℕ → Lexemes → Type 0
  Reads c f n ts = (h : Bool) → run place label c h ts ≡ once (h || f) n

  pub no_has : (c : Clause) (xs : Slices) → is_tracked c ≡ false → has place label c xs ≡ false
  no_has c xs e = ap (λ (b : Bool). b && list_any (hits place label) xs) (unlike place c e)

  pub reads_at : (c : Clause) (n : ℕ) (ts : Lexemes) → Reads c false n ts → At place label c [] n ts
  unfolding Reads At
  reads_at c n ts reads = λ h. reads h ∙ ap (λ (b : Bool). once (h || b) n) (sym (has_none place label c))

  pub at_reads : (c : Clause) (n : ℕ) (ts : Lexemes) → At place label c [] n ts → Reads c false n ts
  unfolding Reads At
  at_reads c n ts at = λ h. at h ∙ ap (λ (b : Bool). once (h || b) n) (has_none place label c)

  -- a lexeme that is no label
  read_behind : (k : Terminal) (t : Lexeme) (us : Lexemes) (h : Bool) (b d : Clause) → t.terminal ≡ k → clause_behind b k ≡ d → is_label place b k ≡ false
      → run place label b h (t ∷ us) ≡ cond (ends place k) (once h (run place label d false us)) (run place label d (h || false) us)
  read_behind k t us h b d is behind none =
      ap (λ (j : Terminal). cond (ends place j) (once h (run place label (clause_behind b j) false us)) (run place label (clause_behind b j) (h || (is_label place b j && hits place label t.text)) us)) is
      ∙ ap (λ (e : Clause). cond (ends place k) (once h (run place label e false us)) (run place label e (h || (is_label place b k && hits place label t.text)) us)) behind
      ∙ ap (λ (e : Bool). cond (ends place k) (once h (run place label d false us)) (run place label d (h || (e && hits place label t.text)) us)) none

  pub step_reads : (k : Terminal) (b d : Clause) (f : Bool) → clause_behind b k ≡ d → is_label place b k ≡ false → (f ≡ true → ends place k ≡ false)
      → (t : Lexeme) (us : Lexemes) (n : ℕ) → t.terminal ≡ k → Reads d f n us → Reads b f n (t ∷ us)
  unfolding Reads
  step_reads k b d f behind none stays t us n is reads = λ h. read_behind k t us h b d is behind none ∙ by h (ends place k) f stays reads
    where
      by : (h a f : Bool) → (f ≡ true → a ≡ false) → ((g : Bool) → run place label d g us ≡ once (g || f) n)
          → cond a (once h (run place label d false us)) (run place label d (h || false) us) ≡ once (h || f) n
      by h true true stays reads = absurd (true≢false (stays refl))
      by h true false stays reads = ap (λ (m : ℕ). once h m) (reads false) ∙ ap (λ (g : Bool). once g n) (sym (or_no h))
      by h false f stays reads = ap (λ (g : Bool). run place label d g us) (or_no h) ∙ reads h

  -- a lexeme that is no label, where none is at hand
  pub word_reads : (k : Terminal) (b d : Clause) → clause_behind b k ≡ d → is_label place b k ≡ false → (t : Lexeme) (us : Lexemes) (n : ℕ) → t.terminal ≡ k → Reads d false n us → Reads b false n (t ∷ us)
  word_reads k b d behind none t us n is reads = step_reads k b d false behind none (λ e. absurd (true≢false (sym e))) t us n is reads

  -- the word INSERT, behind which another place begins
  pub insert_reads : (b : Clause) (xs : Slices) (t : Lexeme) (us : Lexemes) (n : ℕ) → t.terminal ≡ terminal.Insert → Reads clause.Insert (has place label clause.InsertData xs) n us
      → Reads b false (once (has place label clause.InsertData xs) 0 + n) (t ∷ us)
  unfolding Reads
  insert_reads b xs t us n is reads = λ h.
      read_behind terminal.Insert t us h b clause.Insert is refl refl
      ∙ ap (λ (e : Bool). cond e (once h (run place label clause.Insert false us)) (run place label clause.Insert (h || false) us)) (begins place)
      ∙ by h (is_same place clause.InsertData) (list_any (hits place label) xs) reads
    where
      begins : (place : Clause) → ends place terminal.Insert ≡ is_same place clause.InsertData
      begins clause.InsertData = refl
      begins clause.Pattern = refl
      begins _ = refl

      more : (a : Bool) → once a n ≡ once a 0 + n
      more true = omega arith
      more false = omega arith

      by : (h e a : Bool) → ((g : Bool) → run place label clause.Insert g us ≡ once (g || (e && a)) n)
          → cond e (once h (run place label clause.Insert false us)) (run place label clause.Insert (h || false) us) ≡ once (h || false) (once (e && a) 0 + n)
      by h true a reads = ap (λ (m : ℕ). once h m) (reads false ∙ more a) ∙ ap (λ (g : Bool). once g (once a 0 + n)) (sym (or_no h))
      by h false a reads = reads (h || false) ∙ ap (λ (g : Bool). once g n) (or_no (h || false)) ∙ ap (λ (m : ℕ). once (h || false) m) (more false)

-- ---- quads, in a clause that no brace changes

module _ (place : Clause) (label : List ℕ) (c : Clause) (other : c ≡ clause.Pattern → ⊥) (brace : behind_brace c ≡ c) where
  abbrev Goes : {A : Type 0} → Slices → Derives A → (A → Slices) → Type 0
  Goes = Gives place label c

  brace_at : (k : Terminal) → clause_behind c k ≡ c → is_label place c k ≡ false → (is_same place c ≡ true → ends place k ≡ false) → (t : Lexeme) (us : Lexemes) (ys : Slices) (n : ℕ) → t.terminal ≡ k
      → At place label c ys n us → At place label c ys n (t ∷ us)
  unfolding Reads At
  brace_at k steady none stays t us ys n is at =
      step_reads place label k c c (has place label c ys) steady none (λ e. stays (and_parts (is_same place c) (list_any (hits place label) ys) e).0) t us n is at

  brace_gives : (k : Terminal) (before : Slices) → clause_behind c k ≡ c → is_label place c k ≡ false → (is_same place c ≡ true → ends place k ≡ false) → Goes before (grammar.the k) (λ _. before)
  unfolding Gives
  brace_gives k before steady none stays ts x us d = record {
    labels = [];
    is = append-nil before;
    goes = λ ys n at. at_same place label c ys n ts (d.0 ∷ us) d.2 (brace_at k steady none stays d.0 us ys n d.1 at);
  }

  open_gives : (before : Slices) → Goes before (grammar.the terminal.OpenBrace) (λ _. before)
  open_gives before = brace_gives terminal.OpenBrace before brace refl (λ e. (apart place c other e).opens)

  close_gives : (before : Slices) → Goes before (grammar.the terminal.CloseBrace) (λ _. before)
  close_gives before = brace_gives terminal.CloseBrace before refl refl (λ e. (apart place c other e).closes)

  module _ (Template : Derives (List Triples)) (p : Goes [] Template (lists triples_labels)) where
    abbrev some_triples : Option (List Triples) → Slices
    some_triples x = lists triples_labels (all_of x)

    maybe_triples_give : Goes [] (g.MaybeTriples Template) (lists triples_labels)
    maybe_triples_give = map_gives place label c all_of _ [] some_triples (lists triples_labels) (maybe_gives place label c _ [] (lists triples_labels) some_triples p refl (λ x. refl)) (λ a. refl)

    default_block_gives : Goes [] (g.DefaultBlock Template) block_labels
    default_block_gives = map_gives place label c (block None) _ [] (lists triples_labels) block_labels maybe_triples_give (λ a. refl)

    quads_not_triples_give : Goes [] (g.QuadsNotTriples Template) block_labels
    quads_not_triples_give = behind_gives place label c terminal.Graph _ [] block_labels refl (then_gives place label c _ _ [] (λ _. []) block_labels (place_gives place label c)
        (λ graph. then_gives place label c (grammar.the terminal.OpenBrace) _ [] (λ _. []) block_labels (open_gives [])
        (λ _. then_gives place label c _ _ [] (lists triples_labels) block_labels maybe_triples_give
        (λ triples. then_gives place label c (grammar.the terminal.CloseBrace) _ (lists triples_labels triples) (λ _. lists triples_labels triples) block_labels (close_gives (lists triples_labels triples))
        (λ _. pure_gives place label c (block (Some graph) triples) (lists triples_labels triples) block_labels refl)))))

  module _ (Template Inner : Derives (List Triples)) (p : Goes [] Template (lists triples_labels)) (i : Goes [] Inner (lists triples_labels)) where
    named_and_default_give : Goes [] (g.NamedAndDefault Template Inner) (lists block_labels)
    named_and_default_give = then_gives place label c _ _ [] block_labels (lists block_labels) (quads_not_triples_give Inner i)
        (λ named. then_gives place label c _ _ (block_labels named) (λ _. block_labels named) (lists block_labels) (perhaps_gives place label c terminal.Dot (block_labels named) refl)
        (λ _. then_gives place label c _ _ (block_labels named) (λ x. block_labels named ++ block_labels x) (lists block_labels) (later_gives place label c _ (block_labels named) block_labels (default_block_gives Template p))
        (λ default. pure_gives place label c (named ∷ default ∷ []) _ (lists block_labels) (ap (λ (z : Slices). block_labels named ++ z) (sym (append-nil (block_labels default)))))))

    quads_give : Goes [] (g.Quads Template Inner) (lists block_labels)
    quads_give = then_gives place label c _ _ [] block_labels (lists block_labels) (default_block_gives Template p)
        (λ first. then_gives place label c _ _ (block_labels first) (λ xs. block_labels first ++ lists block_labels xs) (lists block_labels)
        (later_gives place label c _ (block_labels first) (lists block_labels) (star_gives place label c _ block_labels named_and_default_give))
        (λ others. pure_gives place label c (first ∷ others) _ (lists block_labels) refl))

    braced_give : Goes [] (grammar.◌>>=◌ (g.Quads Template Inner) (λ blocks. grammar.◌>>◌ (grammar.the terminal.CloseBrace) (grammar.pure blocks))) (lists block_labels)
    braced_give = then_gives place label c _ _ [] (lists block_labels) (lists block_labels) quads_give
        (λ blocks. then_gives place label c (grammar.the terminal.CloseBrace) _ (lists block_labels blocks) (λ _. lists block_labels blocks) (lists block_labels) (close_gives (lists block_labels blocks))
        (λ _. pure_gives place label c blocks (lists block_labels blocks) (lists block_labels) refl))

    -- behind a clause that the brace makes this one
    pub quads_read : (b : Clause) → behind_brace b ≡ c → (ts : Lexemes) (blocks : List Block) (us : Lexemes) → g.QuadPattern Template Inner ts blocks us → (n : ℕ) → Reads place label c false n us
        → Reads place label b (has place label c (lists block_labels blocks)) n ts
    unfolding Gives At Reads
    quads_read b opens ts blocks us d n reads =
        let r = braced_give d.mid blocks us d.goes in
        let inside = r.goes [] n (reads_at place label c n us reads) in
        let here = subst (λ (z : Slices). At place label c z n d.mid) (append-nil r.labels ∙ r.is) inside in
        let begun = step_reads place label terminal.OpenBrace b c (has place label c (lists block_labels blocks)) opens refl
        (λ e. (apart place c other (and_parts (is_same place c) (list_any (hits place label) (lists block_labels blocks)) e).0).opens) d.reads.0 d.mid n d.reads.1 here in
        subst (λ (z : Lexemes). Reads place label b (has place label c (lists block_labels blocks)) n z) (sym d.reads.2) begun
