-- The fault table: the number of each cause, and for each part the fault that a cause gives there.
-- Assumes nothing.
use Rattle.std.specs.Prelude.{ℕ}
use Rattle.fault.specs.declared.Cause.{Cause}
use Rattle.fault.specs.declared.Cause.TheVariants.{StraySample, BadSetting, MomentLimit, NoSlot, Taken, SlotFree, SlotErrand, ReferenceAhead, OutOfLimits, ForeignTicket, NoPlace, Grammar, HalfTurn}
use Rattle.fault.specs.declared.Part.TheVariants.{Device, Alarm, Logger, Script, Book, Lead}
use Rattle.fault.specs.declared.Place.TheVariants.{Tag, Nought, Slot, Line, Length}
use Rattle.fault.specs.declared.Fault.{Fault}

abbrev pub number_of : Cause → ℕ
number_of StraySample = 1
number_of BadSetting = 2
number_of MomentLimit = 3
number_of NoSlot = 4
number_of Taken = 5
number_of SlotFree = 6
number_of SlotErrand = 7
number_of ReferenceAhead = 8
number_of OutOfLimits = 9
number_of ForeignTicket = 10
number_of NoPlace = 11
number_of Grammar = 12
number_of HalfTurn = 13

-- a device names itself by its tag
abbrev pub in_device : Cause → ℕ → Fault
in_device cause tag = record { cause = cause; part = Device; place = Tag tag }

-- an alarm, and a setting that one is made with
abbrev pub in_alarm : Cause → Fault
in_alarm cause = record { cause = cause; part = Alarm; place = Nought }

-- the logger as a whole
abbrev pub in_logger : Cause → Fault
in_logger cause = record { cause = cause; part = Logger; place = Nought }

-- one slot of a logger
abbrev pub in_slot : Cause → ℕ → Fault
in_slot cause slot = record { cause = cause; part = Logger; place = Slot slot }

abbrev pub in_script : Cause → ℕ → ℕ → Fault
in_script cause line byte = record { cause = cause; part = Script; place = Line line byte }

-- a row or a buffer of this length
abbrev pub in_book : Cause → ℕ → Fault
in_book cause length = record { cause = cause; part = Book; place = Length length }

abbrev pub in_lead : Cause → Fault
in_lead cause = record { cause = cause; part = Lead; place = Nought }

-- 1: a sample that the hardware cannot show now
abbrev pub stray_sample : ℕ → Fault
stray_sample tag = in_device StraySample tag

-- 2: a width or a reload of a device, a setting of a layer, or the width of a lead, outside its limits
abbrev pub bad_device : ℕ → Fault
bad_device tag = in_device BadSetting tag

abbrev pub bad_setting : Fault
bad_setting = in_alarm BadSetting

abbrev pub bad_lead_width : Fault
bad_lead_width = in_lead BadSetting

-- 3: a moment too near 2^62
abbrev pub moment_limit : Fault
moment_limit = in_logger MomentLimit

-- 4: a slot above 31
abbrev pub no_slot : ℕ → Fault
no_slot slot = in_slot NoSlot slot

-- 5: an appointment that is not idle, or a slot that is not free
abbrev pub not_idle : Fault
not_idle = in_alarm Taken

abbrev pub slot_taken : ℕ → Fault
slot_taken slot = in_slot Taken slot

-- 6 and 7: a call-off of a free slot, and of one that holds an errand
abbrev pub slot_free : ℕ → Fault
slot_free slot = in_slot SlotFree slot

abbrev pub slot_errand : ℕ → Fault
slot_errand slot = in_slot SlotErrand slot

-- 8: a reference moment that is still to come
abbrev pub reference_ahead : ℕ → Fault
reference_ahead slot = in_slot ReferenceAhead slot

-- 9: a number outside its limits
abbrev pub alarm_limits : Fault
alarm_limits = in_alarm OutOfLimits

abbrev pub slot_limits : ℕ → Fault
slot_limits slot = in_slot OutOfLimits slot

abbrev pub lead_limits : Fault
lead_limits = in_lead OutOfLimits

-- 10: a ticket that is not one of this logger's
abbrev pub foreign_ticket : ℕ → Fault
foreign_ticket slot = in_slot ForeignTicket slot

-- 11: no place left in a book or a buffer of this length
abbrev pub no_place : ℕ → Fault
no_place length = in_book NoPlace length

-- 12: a script against its grammar
abbrev pub against_grammar : ℕ → ℕ → Fault
against_grammar line byte = in_script Grammar line byte

-- 13: two readings half a turn apart
abbrev pub half_turn : Fault
half_turn = in_lead HalfTurn
