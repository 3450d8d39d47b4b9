-- The classes of characters over ASCII, and tokens as the standards' own texts have them (Turtle 1.1, sections 2 and 6.5; SPARQL 1.1 Query, sections
-- 4.1 and 19.8).
use Rattle.std.specs.Prelude.{◌≡◌, ℕ, Bool, true, false, List, [], ◌∷◌, codes, filter}
use Rattle.std.specs.List.{range_with_len}
use Rattle.rdf_tokens.specs.declared.token.Kind.TheVariants.{Iri, Pname, BlankLabel, AtWord, Text, Integer, Decimal, Double, Var, Word, Symbol}
use Rattle.rdf_tokens.specs.Characters.{is_white, is_sign, is_exponent_letter, is_word_part, is_name_start, is_variable_part, is_local_escape}
use Rattle.rdf_tokens.specs.Tokens.{IsToken}

-- the characters of ASCII that a class has, in order
abbrev pub ascii : (ℕ → Bool) → List ℕ
ascii class = filter class (range_with_len 0 128)

pub record ClassTable : Type 0 where
  -- WS: tab, LF, CR, space
  pub white : ascii is_white ≡ 9 ∷ 10 ∷ 13 ∷ 32 ∷ []
  pub signs : ascii is_sign ≡ codes "+-"
  pub exponents : ascii is_exponent_letter ≡ codes "Ee"
  pub words : ascii is_word_part ≡ codes "0123456789ABCDEFGHIJKLMNOPQRSTUVWXYZ_abcdefghijklmnopqrstuvwxyz"
  pub name_starts : ascii is_name_start ≡ codes "0123456789ABCDEFGHIJKLMNOPQRSTUVWXYZ_abcdefghijklmnopqrstuvwxyz"
  pub variables : ascii is_variable_part ≡ codes "0123456789ABCDEFGHIJKLMNOPQRSTUVWXYZ_abcdefghijklmnopqrstuvwxyz"
  -- PN_LOCAL_ESC: _ ~ . - ! $ & ' ( ) * + , ; = / ? # @ %
  pub escapes : ascii is_local_escape ≡ codes "!#$%&'()*+,-./;=?@_~"
  -- past ASCII: é begins a name, the middle dot and combining marks go on with a variable's, and the multiplication sign does neither
  pub letters : (is_name_start 0xE9 ≡ true) × (is_name_start 0xB7 ≡ false) × (is_name_start 0xD7 ≡ false)
  pub marks : (is_variable_part 0xB7 ≡ true) × (is_variable_part 0x300 ≡ true) × (is_variable_part 0x203F ≡ true) × (is_variable_part 0xD7 ≡ false)

-- the token at the front of each text, and what follows it: no longer front is one
pub record TokenTable : Type 0 where
  pub iri : IsToken (codes "<http://example.org/#spiderman> a") Iri (codes " a")
  -- a space stands in no IRI
  pub no_iri : IsToken (codes "<http://a b>") Symbol (codes "http://a b>")
  pub pname : IsToken (codes "leg:3032571;") Pname (codes ";") × IsToken (codes "isbn13:9780136019701 .") Pname (codes " .")
  -- colons may stand in the local part, a dot not at its end
  pub colons : IsToken (codes "og:video:height .") Pname (codes " .") × IsToken (codes "foaf:name.") Pname (codes ".")
  pub escaped : IsToken (codes "p:a\\,b%2F,") Pname (codes ",")
  pub empty_prefix : IsToken (codes ":subject5 ") Pname (codes " ") × IsToken (codes ": ") Pname (codes " ")
  pub labels : IsToken (codes "_:alice foaf:knows") BlankLabel (codes " foaf:knows") × IsToken (codes "_:0.a.") BlankLabel (codes ".")
  pub tags : IsToken (codes "@en-UK .") AtWord (codes " .") × IsToken (codes "@prefix p") AtWord (codes " p")
  pub strings : IsToken (codes "\"a\\\"b\"@en") Text (codes "@en") × IsToken (codes "'That 70s'.") Text (codes ".")
  -- in a long string quotes stand as they are
  pub long : IsToken (codes "\"\"\"a\"\"b\"\"\" .") Text (codes " .") × IsToken (codes "'''a'b''' .") Text (codes " .")
  pub integers : IsToken (codes "-5 ") Integer (codes " ") × IsToken (codes "+1]") Integer (codes "]")
  -- a dot behind an integer ends the statement
  pub dotted : IsToken (codes "10.") Integer (codes ".")
  pub decimals : IsToken (codes "4.002602 ;") Decimal (codes " ;") × IsToken (codes "-.5,") Decimal (codes ",")
  pub doubles :
      IsToken (codes "1.663E-4 .") Double (codes " .") × IsToken (codes "1e6 ") Double (codes " ") × IsToken (codes "1.e+3,") Double (codes ",")
      × IsToken (codes ".1e0)") Double (codes ")")
  pub variables : IsToken (codes "?name.") Var (codes ".") × IsToken (codes "$x1-1") Var (codes "-1")
  pub words : IsToken (codes "true .") Word (codes " .") × IsToken (codes "SELECT*") Word (codes "*")
  pub symbols :
      IsToken (codes "^^xsd:integer") Symbol (codes "xsd:integer") × IsToken (codes "<=1") Symbol (codes "1") × IsToken (codes "<1") Symbol (codes "1")
      × IsToken (codes "!=1") Symbol (codes "1") × IsToken (codes "||!") Symbol (codes "!") × IsToken (codes "()") Symbol (codes ")")
