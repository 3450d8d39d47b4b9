-- In which order a document of lines is read, and the lines of its statements are written.
use Rattle.std.specs.Prelude.{◌≡◌, ◌⊎◌, ℕ, true, false, List, [], ◌++◌, Some, None, Result, Err}
use Rattle.rdf_streams.specs.Conversion.Converts.{ConvertsLines, lines_of, whole_lines}
use Rattle.rdf_streams.specs.Devices.{EndsWith, Event, IsOrderly, ReadFault, Took, WriteFault, given, has_end, has_failed, read_calls, taken}
use Rattle.rdf_streams.specs.declared.conversion.fault.ConvertFault.{ConvertFault}
use Rattle.rdf_streams.specs.declared.conversion.fault.ConvertFault.TheVariants.{Read, Write}
use Rattle.rdf_lines.specs.Document.{IsDocument}
use Rattle.rdf_lines.specs.declared.format.LineFormat.{LineFormat}
use Rattle.rdf_terms.specs.declared.quad.Quad.{Quad}

-- the most bytes of a read call
abbrev pub piece_size : ℕ
piece_size = 65536

-- No line that was wholly read is faulty, and the lines of all their statements are written: more may be read.
abbrev pub AreWritten : LineFormat → List Event → Type 0
AreWritten format log = (quads : List Quad) × IsDocument format (whole_lines (given log)) quads None × (taken log ≡ lines_of quads)

-- How a conversion ends, by what was done. A fault that is told is the last call's; or so many read calls found no end.
abbrev pub EndsAs : ℕ → List Event → Result (Unit {0}) ConvertFault → Type 0
EndsAs calls log (Err Read) = EndsWith log ReadFault ⊎ ((has_failed log ≡ false) × (has_end log ≡ false) × (read_calls log ≡ calls))
EndsAs calls log (Err Write) = EndsWith log WriteFault ⊎ EndsWith log (Took [])
EndsAs calls log answer = has_failed log ≡ false

-- what a conversion with so many read calls at most does, and how it ends
pub record LinesConverted (calls : ℕ) (format : LineFormat) (log : List Event) (answer : Result (Unit {0}) ConvertFault) : Type 0 where
  pub orderly : IsOrderly piece_size (AreWritten format) log
  -- however the text goes on behind what was read, where the end wasn't
  pub converts : (beyond : List ℕ) → (has_end log ≡ true → beyond ≡ []) → ConvertsLines format (given log ++ beyond) (Some beyond) (taken log) answer
  pub ends : EndsAs calls log answer
