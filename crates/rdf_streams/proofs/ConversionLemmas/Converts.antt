-- The lines of quads, one after another.
use Rattle.std.proofs.Common.{◌≡◌, ◌≢◌, ◌∙◌, ap, refl, sym, ℕ, List, [], ◌∷◌, ◌++◌, append_assoc, append-nil, Option, Some, None}
use Rattle.std.specs.Io.KnownBytes.{Appends}
use Rattle.rdf_terms.specs.declared.quad.Quad.{Quad}
use Rattle.rdf_lines.specs.QuadText.{quad_text}
use Rattle.rdf_streams.specs.Conversion.Converts.{lines_of}

pub lines_of-append : (quads others : List Quad) → lines_of (quads ++ others) ≡ lines_of quads ++ lines_of others
lines_of-append [] others = refl
lines_of-append (q ∷ quads) others = ap (λ t. quad_text q ++ t) (lines_of-append quads others) ∙ sym (append_assoc (quad_text q) (lines_of quads) (lines_of others))

pub lines_of-push : (quads : List Quad) (q : Quad) → lines_of (quads ++ q ∷ []) ≡ lines_of quads ++ quad_text q
lines_of-push quads q = lines_of-append quads (q ∷ []) ∙ ap (λ t. lines_of quads ++ t) (append-nil (quad_text q))

pub more_left : (xs ys : List ℕ) → xs ≢ [] → xs ++ ys ≢ []
more_left [] ys h e = h refl
more_left (x ∷ xs) ys h e = cc

pub Appends-none : (a : Option (List ℕ)) → Appends a a []
Appends-none None = tt
Appends-none (Some x) = sym (append-nil x)
