use Rattle.std.proofs.Common.{◌≡◌, ◌<◌, sym, ◌∙◌, subst, inl, ℕ, List, length, drop, get_or}
use Rattle.std.proofs.lemmas.List.{drop_more}
use Rattle.std.proofs.lemmas.Slice.Eq.{bytes_eq-Decides}
use Rattle.std.specs.Prelude.{codes, string_bytes}
use Rattle.rdf_keeper.specs.Progress.{AsksProgress}
use Rattle.rdf_keeper.proofs.program.has_progress_word.Goals as goal

asks_at : {W : Type 0} (bytes : W → List ℕ) (words : List W) (i : ℕ) (d : W) → i < length words → bytes (get_or words i d) ≡ codes "--progress" → AsksProgress bytes (drop i words)
asks_at bytes words i d here is = subst (AsksProgress bytes) (sym (drop_more words i d here)) (inl is)

pub returns-then-eq : goal.returns-then-eq
returns-then-eq c _ =
    let is = sym c.as_str.ensures.value ∙ (bytes_eq-Decides _ _).0 (sym c.eq.ensures ∙ c.if-eq.true) in
    c.loop-word.invariant (asks_at string_bytes c.args.words.now c.loop-word.word-index c.word-item.result c.loop-word-test.true (subst (λ w. string_bytes w ≡ codes "--progress") c.word-item.is is))
