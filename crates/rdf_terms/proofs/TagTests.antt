-- A text is a tag just where the reader of tags gets to its end.
use Rattle.std.proofs.Common.{◌≡◌, ◌≤◌, ℕ, Bool, true, false, List, [], ◌∷◌, length, Option, Some, None, refl, sym, ap, ◌∙◌, inl, inr, arith}
use Rattle.std.specs.Str.{chars, encode_utf8_all, IsUtf8}
use Rattle.std.proofs.lemmas.Bool.{cases_Bool}
use Rattle.std.proofs.lemmas.List.{append-nil}
use Rattle.std.proofs.lemmas.Str.{chars-IsAscii, encodes-chars}
use Rattle.rdf_terms.specs.Literal.{is_tag}
use Rattle.rdf_terms.specs.Tags.{tag_end_at}
use Rattle.rdf_terms.proofs.TagForms.{tag_form, tag_name, tag_low, ascii_from}
use Rattle.rdf_terms.proofs.TagReadings.{tag_greedy}

abbrev pub ends_all : Option (List ℕ) → Bool
ends_all None = false
ends_all (Some []) = true
ends_all (Some (_ ∷ _)) = false

whole : (tag : List ℕ) → IsUtf8 tag → tag_end_at (chars tag) ≡ Some [] → is_tag tag ≡ true
whole tag utf8 e =
    let s = tag_greedy.sound (chars tag) [] e in
    let same : s.0 ≡ chars tag = sym (append-nil s.0) ∙ sym s.1 in
    sym (ap (λ (t : List ℕ). is_tag (encode_utf8_all t)) same ∙ ap is_tag (encodes-chars tag utf8)) ∙ tag_form s.0 s.2

nothing : (rest : List ℕ) → length rest ≤ 0 → rest ≡ []
nothing [] h = refl
nothing (c ∷ cs) h = absurd (omega arith)

read : (tag : List ℕ) → is_tag tag ≡ true → tag_end_at (chars tag) ≡ Some []
read tag h =
    let name = tag_name tag h in
    let c = tag_greedy.claims tag [] name in
    ap tag_end_at (chars-IsAscii tag (ascii_from tag (tag_low tag name)) ∙ sym (append-nil tag)) ∙ c.1 ∙ ap (λ (t : List ℕ). Some t) (nothing c.0 c.2)

by_end : (tag : List ℕ) → IsUtf8 tag → (end : Option (List ℕ)) → tag_end_at (chars tag) ≡ end → is_tag tag ≡ ends_all end
by_end tag utf8 (Some []) e = whole tag utf8 e
by_end tag utf8 None e =
    elim (cases_Bool (is_tag tag)) [
      | inl is ↦ absurd (cc (e, read tag is))
      | inr not ↦ not
    ]
by_end tag utf8 (Some (c ∷ cs)) e =
    elim (cases_Bool (is_tag tag)) [
      | inl is ↦ absurd (cc (e, read tag is))
      | inr not ↦ not
    ]

pub tag_test : (tag : List ℕ) → IsUtf8 tag → (end : Option (List ℕ)) → end ≡ tag_end_at (chars tag) → ends_all end ≡ is_tag tag
tag_test tag utf8 end e = sym (by_end tag utf8 end (sym e))
