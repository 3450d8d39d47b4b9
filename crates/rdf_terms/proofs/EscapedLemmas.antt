-- A text is escaped run by run.
use Rattle.std.proofs.Common.{◌≡◌, ◌∙◌, ◌+◌, ◌<◌, ◌||◌, ap, sym, ℕ, false, eqb, List, ◌++◌, length, take, get_or, refl, drop, take-append-drop, [], ◌∷◌, append_assoc, add-one, Some, None}
use Rattle.std.proofs.Math.Seq.{drop-cons}
use Rattle.std.proofs.lemmas.Bool.{or_parts}
use Rattle.std.proofs.lemmas.List.Concat.{flat_map-append}
use Rattle.std.specs.List.{flat_map, list_any, position}
use Rattle.rdf_terms.specs.Runs.{is_escaped}
use Rattle.rdf_terms.specs.TermText.{escaped}
use Rattle.rdf_terms.proofs.PastLemmas.{front_lacks, whole_lacks}

-- what has been written of the text, where `rest` is left to write
pub record Written (old text now rest : List ℕ) : Type 0 where
  pub done : List ℕ
  pub so_far : now ≡ old ++ done
  pub left : done ++ flat_map escaped rest ≡ flat_map escaped text

plain_alone : (c : ℕ) → is_escaped c ≡ false → escaped c ≡ c ∷ []
plain_alone c h =
    let return = or_parts ((eqb c 34 || eqb c 92) || eqb c 10) (eqb c 13) h in
    let feed = or_parts (eqb c 34 || eqb c 92) (eqb c 10) return.0 in
    let quote = or_parts (eqb c 34) (eqb c 92) feed.0 in
    rw (quote.0, quote.1, feed.1, return.1) refl

plain_run : (cs : List ℕ) → list_any is_escaped cs ≡ false → flat_map escaped cs ≡ cs
plain_run [] h = refl
plain_run (c ∷ cs) h =
    let parts = or_parts (is_escaped c) (list_any is_escaped cs) h in
    rw (plain_alone c parts.0) (ap (λ (t : List ℕ). c ∷ t) (plain_run cs parts.1))

-- a run, and the byte behind it
pub goes_on_written : (old text now rest mid new : List ℕ) (n : ℕ) → Written old text now rest → position is_escaped rest ≡ Some n → n < length rest
    → mid ≡ now ++ take n rest → new ≡ mid ++ escaped (get_or rest n 0) → Written old text new (drop (n + 1) rest)
goes_on_written old text now rest mid new n w e lt is_mid is_new =
    let run : flat_map escaped (take n rest) ≡ take n rest = plain_run (take n rest) (front_lacks is_escaped rest n e) in
    let cut : rest ≡ take n rest ++ (get_or rest n 0 ∷ drop (n + 1) rest) = sym (take-append-drop n rest) ∙ ap (λ (t : List ℕ). take n rest ++ t) (rw add-one (drop-cons rest n 0 lt)) in
    let whole : flat_map escaped rest ≡ take n rest ++ (escaped (get_or rest n 0) ++ flat_map escaped (drop (n + 1) rest)) =
    ap (flat_map escaped) cut ∙ flat_map-append escaped (take n rest) (get_or rest n 0 ∷ drop (n + 1) rest)
    ∙ ap (λ (t : List ℕ). t ++ (escaped (get_or rest n 0) ++ flat_map escaped (drop (n + 1) rest))) run in
    record {
      done = w.done ++ (take n rest ++ escaped (get_or rest n 0));
      so_far = is_new ∙ ap (λ (t : List ℕ). t ++ escaped (get_or rest n 0)) (is_mid ∙ ap (λ (t : List ℕ). t ++ take n rest) w.so_far)
          ∙ ap (λ (t : List ℕ). t ++ escaped (get_or rest n 0)) (append_assoc old w.done (take n rest))
          ∙ append_assoc old (w.done ++ take n rest) (escaped (get_or rest n 0))
          ∙ ap (λ (t : List ℕ). old ++ t) (append_assoc w.done (take n rest) (escaped (get_or rest n 0)));
      left = append_assoc w.done (take n rest ++ escaped (get_or rest n 0)) (flat_map escaped (drop (n + 1) rest))
          ∙ ap (λ (t : List ℕ). w.done ++ t) (append_assoc (take n rest) (escaped (get_or rest n 0)) (flat_map escaped (drop (n + 1) rest)) ∙ sym whole)
          ∙ w.left;
    }

-- the last run
pub ends_written : (old text now rest new : List ℕ) → Written old text now rest → position is_escaped rest ≡ None → new ≡ now ++ rest → new ≡ old ++ flat_map escaped text
ends_written old text now rest new w e is_new =
    is_new ∙ ap (λ (t : List ℕ). t ++ rest) w.so_far ∙ append_assoc old w.done rest
    ∙ ap (λ (t : List ℕ). old ++ (w.done ++ t)) (sym (plain_run rest (whole_lacks is_escaped rest e)))
    ∙ ap (λ (t : List ℕ). old ++ t) w.left
