-- Words: what the productions of IRIs and literals tell apart among terminals.
use Rattle.std.specs.Prelude.{Bool, false, ◌&&◌, if◌then◌else◌, refl, Option, Some, None}
use Rattle.std.specs.Option.{option_and_then}
use denote.Enum.Bare.{sameb, same_true, true_same}
use Rattle.rdf_tokens.specs.Values.{prefix_part, local_part}
use Rattle.rdf_grammar.specs.contracts.word.Word.{the_type}
use Rattle.rdf_grammar.specs.declared.lexeme.Lexeme.{Lexeme}
use Rattle.rdf_grammar.specs.declared.word.Word.{Word}
use Rattle.rdf_grammar.specs.declared.word.Word.TheVariants.{Pname}
use Rattle.rdf_grammar.specs.Readings.{Reading, next, is_nil}
use Rattle.rdf_grammar.specs.Terminals.{Slice, Lexemes, TellsApart, next_terminal, next_text}

unfoldable pub same_word : Word → Word → Bool
same_word = sameb the_type

pub apart : TellsApart same_word
unfolding same_word
apart = record { alike = λ w. true_same the_type w w refl; is = λ a b h. same_true the_type tt a b h }

-- the word is there, and is this one
abbrev pub is_word : Word → Option Word → Bool
is_word w None = false
is_word w (Some v) = same_word v w

-- word tells the word that a terminal is, if it is one
module _ {T : Type 0} (word : T → Option Word) where
  -- the word that the next lexeme is
  abbrev pub next_word : Lexemes T → Option Word
  next_word ts = option_and_then word (next_terminal ts)

  -- a look at the next lexeme's word
  abbrev pub peek : Reading (Lexeme T) (Option Word)
  peek = λ ts. Some (next_word ts, ts)

  -- whether a lexeme of this word comes next
  abbrev pub sees : Word → Lexemes T → Bool
  sees w ts = is_word w (next_word ts)

  -- a lexeme of this word, and its characters
  unfoldable pub value : Word → Reading (Lexeme T) Slice
  value w = λ ts. if sees w ts then Some (next_text ts, next ts) else None

  -- a prefixed name of which the local part is empty (PNAME_NS), and its prefix
  unfoldable pub namespace : Reading (Lexeme T) Slice
  namespace = λ ts. if sees Pname ts && is_nil (local_part (next_text ts)) then Some (prefix_part (next_text ts), next ts) else None
