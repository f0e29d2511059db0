-- What an alarm under one more layer means: what the layer means that it is.
-- Assumes nothing.
use Rattle.std.specs.Prelude.{Option, Some, None}
use Rattle.clock.specs.Meaning.{Meaning}
use Rattle.clock.specs.declared.alarm.Alarm.{Ghosts as AlarmGhosts}
use Rattle.clock.specs.declared.alarm.Clock.{Ghosts as ClockGhosts}
use Rattle.widening.specs.declared.widening.Widening.{Widening}
use Rattle.rate.specs.declared.rate.Rate.{Rate}
use Rattle.offset.specs.declared.offset.Offset.{Offset}
use Rattle.replay.specs.declared.layered.Layered.{Layered}
use Rattle.replay.specs.declared.layered.Layered.TheVariants.{Bare, Widened, Slowed, Shifted}
use Rattle.replay.specs.declared.plan.Setting.{Setting}
use Rattle.replay.specs.declared.plan.Setting.TheVariants as made
use Rattle.widening.specs.Widening.{widening_meaning}
use Rattle.rate.specs.Rate.{rate_meaning}
use Rattle.offset.specs.Offset.{offset_meaning}

-- an alarm under a layer of this setting that has just been made
abbrev pub under : {X : Type 0} → Option Setting → Meaning X → Meaning X
under None m = m
under (Some (made.Widen bits)) m = widening_meaning m bits.count 0
under (Some (made.Rate ratio)) m = rate_meaning m ratio.gains ratio.ticks 0 0
under (Some (made.Offset shift)) m = offset_meaning m shift.by

module _ {A X : Type 0} {a : AlarmGhosts A X} {c : ClockGhosts A X} where
  abbrev pub by_layer : {T : Type 0} → (A → T) → (Widening A X a c → T) → (Rate A X a c → T) → (Offset A X → T) → Layered A X a c → T
  by_layer bare widened slowed shifted (Bare alarm) = bare alarm
  by_layer bare widened slowed shifted (Widened alarm) = widened alarm
  by_layer bare widened slowed shifted (Slowed alarm) = slowed alarm
  by_layer bare widened slowed shifted (Shifted alarm) = shifted alarm

  -- a law that each kind keeps
  pub by_layer_law : (P : Layered A X a c → Type 0) → ((x : A) → P (Bare x)) → ((x : Widening A X a c) → P (Widened x)) → ((x : Rate A X a c) → P (Slowed x)) → ((x : Offset A X) → P (Shifted x)) → (x : Layered A X a c) → P x
  by_layer_law P bare widened slowed shifted (Bare alarm) = bare alarm
  by_layer_law P bare widened slowed shifted (Widened alarm) = widened alarm
  by_layer_law P bare widened slowed shifted (Slowed alarm) = slowed alarm
  by_layer_law P bare widened slowed shifted (Shifted alarm) = shifted alarm
