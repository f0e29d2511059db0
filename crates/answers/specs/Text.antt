-- The text of an answer, without the end of its line.
-- Assumes nothing.
use Rattle.std.specs.Prelude.{ℕ, Bool, cond, List, ◌++◌, Some, None, codes, decimal}
use Rattle.fault.specs.Text.{fault_text}
use Rattle.jobs.specs.Text.{action_text}
use Rattle.jobs.specs.declared.Firing.{Firing}
use Rattle.answers.specs.declared.Answer.{Answer}
use Rattle.answers.specs.declared.Answer.TheVariants as says
use Rattle.answers.specs.declared.AlarmAnswer.{AlarmAnswer}
use Rattle.answers.specs.declared.AlarmAnswer.TheVariants as alarm
use Rattle.answers.specs.declared.LoggerAnswer.{LoggerAnswer}
use Rattle.answers.specs.declared.LoggerAnswer.TheVariants as logger

abbrev pub yes_no : Bool → List ℕ
yes_no said = cond said (codes "yes") (codes "no")

abbrev pub alarm_text : AlarmAnswer → List ℕ
alarm_text (alarm.Width bits) = codes "width " ++ decimal bits
alarm_text (alarm.Reach ticks) = codes "reach " ++ decimal ticks
alarm_text (alarm.Reading reading) = codes "reading " ++ decimal reading
alarm_text (alarm.Took gained) = codes "took " ++ decimal gained
alarm_text alarm.Set = codes "set"
alarm_text (alarm.Stopped was) = codes "stopped " ++ yes_no was
alarm_text (alarm.Claimed (Some point)) = codes "claimed " ++ decimal point
alarm_text (alarm.Claimed None) = codes "claimed none"

abbrev pub fired_text : Firing → List ℕ
fired_text firing =
    codes "fired " ++ (decimal firing.slot ++ (codes " " ++ (decimal firing.due ++ (codes " " ++ (decimal firing.at ++ (codes " " ++ action_text firing.action))))))

abbrev pub logger_text : LoggerAnswer → List ℕ
logger_text (logger.Served moment) = codes "served " ++ decimal moment
logger_text logger.SetUp = codes "set up"
logger_text (logger.Ticket slot) = codes "ticket " ++ decimal slot
logger_text (logger.Settled outcome) = codes "settled " ++ (decimal outcome.due ++ (codes " " ++ yes_no outcome.fired))
logger_text logger.NoTicket = codes "no ticket"
logger_text (logger.CalledOff due) = codes "called off " ++ decimal due
logger_text (logger.Next (Some firing)) = fired_text firing
logger_text (logger.Next None) = codes "none"
logger_text logger.Loaded = codes "loaded"

abbrev pub answer_text : Answer → List ℕ
answer_text says.Ready = codes "ready"
answer_text (says.Alarm answer) = alarm_text answer
answer_text says.LoggerReady = codes "logger ready"
answer_text (says.Logger answer) = logger_text answer
answer_text (says.Hold ticks) = codes "hold " ++ decimal ticks
answer_text (says.Refused fault) = fault_text fault
answer_text says.NoClock = codes "no clock yet"
answer_text (says.NotUnderstood line) = codes "line " ++ (decimal line ++ codes " not understood")
