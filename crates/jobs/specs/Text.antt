-- The text of an action: `read CHANNEL` or `mark`.
-- Assumes nothing.
use Rattle.std.specs.Prelude.{ℕ, List, ◌++◌, codes, decimal}
use Rattle.jobs.specs.declared.Action.{Action}
use Rattle.jobs.specs.declared.Action.TheVariants.{Read, Mark}

abbrev pub action_text : Action → List ℕ
action_text (Read channel) = codes "read " ++ decimal channel
action_text Mark = codes "mark"
