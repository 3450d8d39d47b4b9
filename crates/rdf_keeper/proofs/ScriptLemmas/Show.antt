-- Groups of lines, one after another.
use Rattle.std.proofs.Common.{◌≡◌, ℕ, ◌+◌, List, ◌++◌, length, append_assoc, arith, length-append}
use Rattle.std.proofs.lemmas.List.Folds.{concat-append}
use Rattle.std.specs.List.{concat}

-- four groups of lines
pub four_groups : (o0 o1 o2 o3 o4 : List ℕ) (a b c d : List (List ℕ)) → o1 ≡ o0 ++ concat a → o2 ≡ o1 ++ concat b → o3 ≡ o2 ++ concat c → o4 ≡ o3 ++ concat d → o4 ≡ o0 ++ concat (a ++ b ++ c ++ d)
four_groups o0 o1 o2 o3 o4 a b c d e f g h = rw (h, g, f, e) (simp (concat-append, append_assoc))

pub lengths : (a b c d : List (List ℕ)) → length (a ++ b ++ c ++ d) ≡ length a + (length b + (length c + length d))
lengths a b c d = simp length-append (omega arith)
