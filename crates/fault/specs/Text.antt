-- The text of a fault: `refused NUMBER PART PLACE`, or for a script `refused NUMBER line L byte B`.
-- Assumes nothing.
use Rattle.std.specs.Prelude.{ℕ, List, ◌++◌, codes, decimal}
use Rattle.fault.specs.declared.Part.{Part}
use Rattle.fault.specs.declared.Part.TheVariants.{Device, Alarm, Logger, Script, Book, Lead}
use Rattle.fault.specs.declared.Place.{Place}
use Rattle.fault.specs.declared.Place.TheVariants.{Tag, Nought, Slot, Line, Length}
use Rattle.fault.specs.declared.Fault.{Fault}
use Rattle.fault.specs.Table.{number_of}

abbrev pub part_text : Part → List ℕ
part_text Device = codes "device"
part_text Alarm = codes "alarm"
part_text Logger = codes "logger"
part_text Script = codes "script"
part_text Book = codes "book"
part_text Lead = codes "lead"

abbrev pub place_text : Place → List ℕ
place_text (Tag tag) = decimal tag
place_text Nought = codes "0"
place_text (Slot slot) = decimal slot
place_text (Line line byte) = codes "line " ++ (decimal line ++ (codes " byte " ++ decimal byte))
place_text (Length length) = decimal length

-- the part and the place; a line of a script needs no part beside it
abbrev pub where_text : Part → Place → List ℕ
where_text _ (Line line byte) = place_text (Line line byte)
where_text part place = part_text part ++ (codes " " ++ place_text place)

abbrev pub fault_text : Fault → List ℕ
fault_text f = codes "refused " ++ (decimal (number_of f.cause) ++ (codes " " ++ where_text f.part f.place))
