-- The lines that a script was read as, in their order.
-- Assumes nothing.
use Rattle.std.specs.Prelude.{List, take, Ok, Err, Result}
use Rattle.line.specs.declared.line.Line.{Line}
use Rattle.script.specs.declared.lines.Script.{Script}

abbrev pub lines_of : Script → List Line
lines_of s = take s.count s.lines

abbrev pub read_as : {E : Type 0} → Result Script E → Result (List Line) E
read_as (Ok s) = Ok (lines_of s)
read_as (Err e) = Err e
