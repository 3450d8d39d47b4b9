-- Tags.
use Rattle.std.proofs.Common.{◌≡◌, ℕ, true, List, ◌∷◌, ◌++◌, length, drop, Some, refl, sym, ap, ◌∙◌, inl, inr, length-append, arith}
use Rattle.std.proofs.lemmas.Bool.{cases_lt}
use Rattle.std.proofs.Math.Seq.{drop-append_seam}
use Rattle.rdf_terms.specs.Literal.{is_tag}
use Rattle.rdf_terms.specs.Reading.{expect}
use Rattle.rdf_terms.specs.Tags.{IsTagName, tag_end_at}
use Rattle.rdf_terms.proofs.CallerLemmas as name
use Rattle.rdf_terms.proofs.CallerLemmas.{tag_greedy}
use Rattle.rdf_tokens.specs.declared.token.Kind.TheVariants as kind
use Rattle.rdf_tokens.specs.Forms.{IsAtWord}
use Rattle.rdf_tokens.specs.Inside.TokenReading.{as_kind}
use Rattle.rdf_tokens.specs.Values.{tag_value}
use Rattle.rdf_tokens.proofs.TokenClaims.{Beats, Sound}

same_rest : (a b x y : List ℕ) → a ++ x ≡ b ++ y → length a ≡ length b → x ≡ y
same_rest a b x y e h =
    sym (drop-append_seam a x) ∙ ap (drop (length a)) e ∙ ap (λ (n : ℕ). drop n (b ++ y)) h ∙ drop-append_seam b y

pub at_word_claims : (name rest : List ℕ) → IsTagName name → Beats kind.AtWord rest (as_kind kind.AtWord (tag_end_at (name ++ rest)))
at_word_claims name rest h =
    let c = tag_greedy.claims name rest h in
    let s = tag_greedy.sound (name ++ rest) c.0 c.1 in
    rw c.1
    (elim (cases_lt (length c.0) (length rest)) [
      | inl less ↦ inr less
      | inr more ↦
          let size : length s.0 ≡ length name = omega (arith, more, c.2, ap length s.1, length-append name rest, length-append s.0 c.0) in
          inl (ap (λ (t : List ℕ). (kind.AtWord, t)) (same_rest s.0 name c.0 rest (sym s.1) size))
    ])

pub at_word_sound : (mark : ℕ) (cs rest : List ℕ) → mark ≡ 64 → tag_end_at cs ≡ Some rest → Sound kind.AtWord (mark ∷ cs) rest
at_word_sound mark cs rest m e =
    let s = tag_greedy.sound cs rest e in
    (64 ∷ s.0, ap (λ (x : ℕ). x ∷ cs) m ∙ ap (λ (t : List ℕ). 64 ∷ t) s.1, (s.0, refl, s.2))

-- a LANGTAG has the form that literals ask for
pub tag_form : (slice : List ℕ) → IsAtWord slice → is_tag (tag_value slice) ≡ true
unfolding tag_value expect
tag_form slice h = rw h.1 (name.tag_form h.0 h.2)
