-- The codes by which many rows are sorted: of two rows the one with the lower code comes first.
use Rattle.std.specs.Prelude.{◌≡◌, ℕ, zero, suc, ◌+◌, ◌*◌, ◌^◌, ◌<◌, List, [], ◌∷◌, ◌++◌, length, map, drop, take, Option, Some, None, All, IfSome, if◌then◌else◌, nat_lt}
use Rattle.std.specs.declared.cmp.Ordering.TheVariants.{Less}
use Rattle.rdf_terms.specs.declared.term.Term.{Term}
use Rattle.rdf_terms.specs.declared.term.Term.TheVariants.{Blank, Iri, Literal}
use Rattle.sparql_values.specs.Mapping.{Mapping, value_at}
use Rattle.sparql_algebra.specs.Order.{mapping_cmp}
use Rattle.sparql_solve.specs.declared.coded.CodedRow.{CodedRow}

-- the rows without their codes
abbrev pub rows_of : List CodedRow → List Mapping
rows_of rows = map (λ r. r.row) rows

abbrev pub codes_of : List CodedRow → List ℕ
codes_of rows = map (λ r. r.code) rows

-- ---- the code of a row

-- the text of a value: an IRI's own, a literal's lexical form
abbrev pub text_of : Option Term → Option (List ℕ)
text_of None = None
text_of (Some (Blank n)) = None
text_of (Some (Iri text)) = Some text
text_of (Some (Literal l)) = Some l.lexical

-- the first so many bytes of a text as one number, of which the first weighs most; where the text ends a byte counts 0
unfoldable pub digits : ℕ → List ℕ → ℕ
digits zero text = 0
digits (suc n) [] = 0
digits (suc n) (byte ∷ text) = byte * 256 ^ n + digits n text

-- nothing comes first, then blank nodes, IRIs and literals, these by seven bytes of their texts behind those skipped
abbrev pub value_code : ℕ → Option Term → ℕ
value_code skipped None = 1 * 2 ^ 56
value_code skipped (Some (Blank n)) = 2 * 2 ^ 56
value_code skipped (Some (Iri text)) = 3 * 2 ^ 56 + digits 7 (drop skipped text)
value_code skipped (Some (Literal l)) = 4 * 2 ^ 56 + digits 7 (drop skipped l.lexical)

-- the code of what a row has at a column; a row that ends before it comes first
abbrev pub row_code : ℕ → ℕ → Mapping → ℕ
row_code column skipped m = if nat_lt column (length m) then value_code skipped (value_at m column) else 0

-- the row has its code, and what its text has behind the bytes skipped are bytes
pub record IsCoded (column skipped : ℕ) (r : CodedRow) : Type 0 where
  pub code : r.code ≡ row_code column skipped r.row
  pub bytes : IfSome (text_of (value_at r.row column)) (λ text. All (λ byte. byte < 256) (drop skipped text))

-- ---- what rows have in common

-- all have the same before the column
pub record AreAlike (column : ℕ) (rows : List Mapping) : Type 0 where
  pub before : Mapping
  pub each : All (λ m. take column m ≡ before) rows

-- the row has the column, and this there
abbrev pub HasAt : ℕ → Option Term → Mapping → Type 0
HasAt column value m = (column < length m) × (value_at m column ≡ value)

-- all have the column, and the same there
pub record AreAlikeAt (column : ℕ) (rows : List Mapping) : Type 0 where
  pub value : Option Term
  pub each : All (HasAt column value) rows

-- the value's text, if it has one, begins so
abbrev pub BeginsWith : List ℕ → Option Term → Type 0
BeginsWith start value = IfSome (text_of value) (λ text. text ≡ start ++ drop (length start) text)

-- all texts at the column begin with the same so many bytes
pub record ShareStart (column many : ℕ) (rows : List Mapping) : Type 0 where
  pub start : List ℕ
  pub many_are : length start ≡ many
  pub each : All (λ m. BeginsWith start (value_at m column)) rows

-- ---- the order of codes

-- of two rows the one with the lower code comes first
abbrev pub AreRanked : List CodedRow → Type 0
AreRanked rows = All (λ a. All (λ b. a.code < b.code → mapping_cmp a.row b.row ≡ Less) rows) rows

-- each of the first ones comes before each of the others
abbrev pub AllBefore : List Mapping → List Mapping → Type 0
AllBefore first others = All (λ m. All (λ n. mapping_cmp m n ≡ Less) others) first
