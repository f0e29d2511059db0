-- The appointment of an alarm: what each event makes of it and answers, a row of the table each.
-- Assumes nothing.
use Rattle.std.specs.Prelude.{ℕ, ◌-◌, ◌^◌, ◌<◌, ◌≤◌, Bool, true, false, cond, ◌&&◌, Some, None, Ok, Err, Option, Result, nat_lt}
use Rattle.fault.specs.declared.Fault.{Fault}
use Rattle.fault.specs.Table.{not_idle, alarm_limits}
use Rattle.clock.specs.declared.appointment.Appointment.{Appointment}
use Rattle.clock.specs.declared.appointment.Appointment.TheVariants.{Idle, Standing, Due}
use Rattle.clock.specs.declared.appointment.Gain.{Gain}
use Rattle.clock.specs.declared.appointment.Request.{Request}
use Rattle.clock.specs.declared.appointment.Event.{Event}
use Rattle.clock.specs.declared.appointment.Event.TheVariants.{Take, Set, Stop, Claim}
use Rattle.clock.specs.declared.appointment.Reply.{Reply}
use Rattle.clock.specs.declared.appointment.Reply.TheVariants.{Passed, Placed, Stopped, Claimed}
use Rattle.clock.specs.Wrap.{plus, minus}

-- the number that an appointment holds, ticks or a point, and 0 where it is idle
abbrev pub held : Appointment → ℕ
held Idle = 0
held (Standing left) = left
held (Due point) = point

-- the ticks left, and 1 where none are counted
abbrev pub left_in : Appointment → ℕ
left_in Idle = 1
left_in (Standing left) = left
left_in (Due point) = 1

-- what is left is at least one tick, and like a point of a clock of width w it lies below 2^w
abbrev pub Sound : ℕ → Appointment → Type 0
Sound w a = (1 ≤ left_in a) × (held a < 2 ^ w)

-- the appointment and the numbers of an event are those of a clock of the event's width
abbrev pub Possible : Appointment → Event → Type 0
Possible a (Take gain) = (gain.width.bits ≤ 48) × (gain.from < 2 ^ gain.width.bits) × Sound gain.width.bits a
Possible a (Set request) =
    (request.width.bits ≤ 48) × (request.reading < 2 ^ request.width.bits) × (request.reference < 2 ^ request.width.bits)
    × (request.delay < 2 ^ request.width.bits)
Possible a Stop = Unit {0}
Possible a Claim = Unit {0}

-- a take that gains ticks from a reading on: the appointment falls due where all that was left has passed
abbrev pub after_take : ℕ → ℕ → ℕ → Appointment → Appointment
after_take w from gained Idle = Idle
after_take w from gained (Standing left) = cond (nat_lt gained left) (Standing (left - gained)) (Due (plus w from left))
after_take w from gained (Due point) = Due point

-- the same by the numbers that a take brings along
abbrev pub after_gain : Gain → Appointment → Appointment
after_gain gain a = after_take gain.width.bits gain.from gain.gained a

-- a new appointment, delay ticks after the reference: by its age it stands or is due already
abbrev pub placed : ℕ → ℕ → ℕ → ℕ → Appointment
placed w reading reference delay =
    cond (nat_lt (minus w reading reference) delay) (Standing (delay - minus w reading reference))
    (Due (plus w reference delay))

-- only an idle appointment can be set
abbrev pub set_row : ℕ → ℕ → ℕ → ℕ → Appointment → Result Appointment Fault
set_row w reading reference delay Idle = Ok (placed w reading reference delay)
set_row w reading reference delay (Standing left) = Err not_idle
set_row w reading reference delay (Due point) = Err not_idle

-- a set: the two numbers are judged first
abbrev pub setting : ℕ → ℕ → ℕ → ℕ → Appointment → Result Appointment Fault
setting w reading reference delay a =
    cond (nat_lt reference (2 ^ w) && nat_lt delay (2 ^ w)) (set_row w reading reference delay a) (Err alarm_limits)

-- the same by the numbers that a set brings along
abbrev pub requested : Request → Appointment → Result Appointment Fault
requested request a = setting request.width.bits request.reading request.reference request.delay a

-- the answer of a set, and the appointment that it leaves
abbrev pub told : Result Appointment Fault → Result (Unit {0}) Fault
told (Ok a) = Ok tt
told (Err f) = Err f

abbrev pub left_by : Result Appointment Fault → Appointment → Appointment
left_by (Ok a) before = a
left_by (Err f) before = before

-- a stop leaves an idle appointment, and answers whether it was another
abbrev pub stops : Appointment → Bool
stops Idle = false
stops (Standing left) = true
stops (Due point) = true

-- a claim answers the point of an appointment that is due, which is idle from then on
abbrev pub claims : Appointment → Option ℕ
claims Idle = None
claims (Standing left) = None
claims (Due point) = Some point

abbrev pub after_claim : Appointment → Appointment
after_claim Idle = Idle
after_claim (Standing left) = Standing left
after_claim (Due point) = Idle

-- the whole table: state and event give the next state and the reply
abbrev pub table : Appointment → Event → Appointment × Reply
table a (Take gain) = (after_gain gain a, Passed)
table a (Set request) =
    let row = set_row request.width.bits request.reading request.reference request.delay a in
    (left_by row a, Placed (told row))
table a Stop = (Idle, Stopped (stops a))
table a Claim = (after_claim a, Claimed (claims a))
