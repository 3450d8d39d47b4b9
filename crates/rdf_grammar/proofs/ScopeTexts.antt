-- The bytes of a slice of the text.
use Rattle.std.proofs.Common.{◌≡◌, ℕ, List, sym, ap, ◌∙◌}
use Rattle.std.proofs.lemmas.Str.{encodes-chars}
use Rattle.std.specs.Str.{chars, encode_utf8_all, IsUtf8}

pub bytes_of : (bytes cs : List ℕ) → IsUtf8 bytes → chars bytes ≡ cs → bytes ≡ encode_utf8_all cs
bytes_of bytes cs utf8 e = sym (encodes-chars bytes utf8) ∙ ap encode_utf8_all e
