-- What stands behind a string: a tag, a datatype, or neither.
use Rattle.std.proofs.Common.{◌≡◌, ◌==◌, ◌∙◌, ap, refl, ℕ, Bool, true, false, List, [], ◌∷◌, Option, Some, None, cond}
use Rattle.std.proofs.lemmas.Bool.{eqb-true}
use Rattle.rdf_terms.specs.Reading.{expect}
use Rattle.rdf_lines.specs.Grammar.{typed}
use Rattle.rdf_terms.specs.Literal.{xsd_string}
use Rattle.rdf_lines.specs.Reading.{first_is, tagged_at, typed_at, suffix_at}
use Rattle.rdf_lines.specs.declared.written.WrittenObject.TheVariants as written_object

found : (b : Bool) (cs rest : List ℕ) → ◌≡◌ {A = Option (List ℕ)} (cond b (Some cs) None) (Some rest) → (b ≡ true) × (cs ≡ rest)
found true cs rest e = (refl, cc)
found false cs rest e = absurd (cc e)

missing : (b : Bool) (cs : List ℕ) → ◌≡◌ {A = Option (List ℕ)} (cond b (Some cs) None) None → b ≡ false
missing true cs e = absurd (cc e)
missing false cs e = refl

expected : (wanted : ℕ) (cs rest : List ℕ) → expect wanted cs ≡ Some rest → cs ≡ wanted ∷ rest
unfolding expect
expected wanted [] rest e = absurd (cc e)
expected wanted (c ∷ cs) rest e =
    let f = found (c == wanted) cs rest e in
    ap (λ (x : ℕ). x ∷ cs) (eqb-true c wanted f.0) ∙ ap (λ (x : List ℕ). wanted ∷ x) f.1

not_expected : (wanted : ℕ) (cs : List ℕ) → expect wanted cs ≡ None → first_is wanted cs ≡ false
unfolding expect first_is
not_expected wanted [] e = refl
not_expected wanted (c ∷ cs) e = missing (c == wanted) cs e

pub suffix_tag : (text after suffix name : List ℕ) → expect 64 suffix ≡ Some name → suffix_at text after suffix ≡ tagged_at text (64 ∷ name)
unfolding suffix_at first_is
suffix_tag text after suffix name e = ap (suffix_at text after) (expected 64 suffix name e)

pub suffix_type : (text after suffix one : List ℕ) → expect 64 suffix ≡ None → expect 94 suffix ≡ Some one → suffix_at text after suffix ≡ typed_at text (94 ∷ one)
unfolding suffix_at first_is
suffix_type text after suffix one none e = ap (suffix_at text after) (expected 94 suffix one e)

pub suffix_none : (text after suffix : List ℕ) → expect 64 suffix ≡ None → expect 94 suffix ≡ None → suffix_at text after suffix ≡ Some (written_object.Literal (typed text xsd_string), after)
unfolding suffix_at
suffix_none text after suffix none neither = rw (not_expected 64 suffix none, not_expected 94 suffix neither) refl
