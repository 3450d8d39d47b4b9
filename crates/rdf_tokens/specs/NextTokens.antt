-- The next token of a text.
use Rattle.std.specs.Prelude.{◌≡◌, ℕ, List, [], ◌++◌}
use Rattle.rdf_tokens.specs.declared.reader.Next.{Next}
use Rattle.rdf_tokens.specs.declared.reader.Next.TheVariants as next
use Rattle.rdf_tokens.specs.Tokens.{HasGap, Ends, IsToken, NoToken}

-- What comes next in `text`, and the characters that are left behind it: behind a token those that follow it. Where no token
-- begins, nothing is left.
abbrev pub IsNext : List ℕ → Next → List ℕ → Type 0
IsNext text (next.Token kind slice) left = (start : List ℕ) × HasGap text start × IsToken start kind left × (start ≡ slice ++ left)
IsNext text next.End left = Ends text × (left ≡ [])
IsNext text next.NoToken left = (start : List ℕ) × HasGap text start × NoToken start × (left ≡ [])
