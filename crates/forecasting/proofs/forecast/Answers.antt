use Rattle.std.proofs.Common.{◌≡◌, ◌+◌, ◌^◌, ◌<◌, List, map, Ok, sym, ap, ◌∙◌, subst, arith}
use Rattle.std.specs.List.{AllByRecursion}
use Rattle.std.proofs.ByRecursion.{All-weaker}
use Rattle.queue.specs.Order.{in_order}
use Rattle.line.specs.declared.line.Line.{Line}
use Rattle.line.specs.Text.{Lawful}
use Rattle.script.specs.Lines.{lines_of, read_as}
use Rattle.script.specs.Script.{script_of}
use Rattle.forecasting.specs.Forecast.{all_free}
use Rattle.forecasting.specs.Pending.{pending, pending_compare, Calm}
use Rattle.forecasting.proofs.Foretold.{line_delay, calm_lines, forecast_law}
use Rattle.forecasting.proofs.Rows.{all_in_order}
use Rattle.forecasting.proofs.forecast.Goals as goal
use Rattle.forecasting.proofs.forecast.Goals.{After-of-plan}

-- what the script was read as
read_ok : (c : After-of-plan) → script_of all_free c.args.script.now ≡ Ok (lines_of c.in_ok-loaded.loaded)
read_ok c = sym c.read.ensures.answer ∙ ap read_as c.in_ok-loaded.was

plan_is : (c : After-of-plan) → c.of-plan.result ≡ in_order pending_compare (map (pending c.args.start.ticks) (lines_of c.in_ok-loaded.loaded))
plan_is c =
    c.of-plan.ensures
    ∙ ap (λ s. in_order pending_compare (map (pending s) c.lines.result.now)) c.ticks.ensures
    ∙ ap (λ ls. in_order pending_compare (map (pending c.args.start.ticks) ls)) c.lines.ensures

pub of-plan-requires-clause-early : goal.of-plan-requires-clause-early
of-plan-requires-clause-early c =
    let loaded = c.in_ok-loaded.loaded in
    let all = (c.read.ensures.law.written (lines_of loaded) (sym c.read.ensures.answer ∙ ap read_as c.in_ok-loaded.was)).lawful in
    let early : c.args.start.ticks < 2 ^ 62 = c.args.start.early in
    let same : c.ticks.result ≡ c.args.start.ticks = c.ticks.ensures in
    let P : List Line → Type 0 = λ ls. AllByRecursion (λ l. c.ticks.result + l.delay < 2 ^ 64) ls in
    subst P (sym c.lines.ensures) (All-weaker (Lawful all_free) (λ l. c.ticks.result + l.delay < 2 ^ 64) (λ l h. omega (arith, line_delay all_free l h)) (lines_of loaded) all)

pub fill-requires : goal.fill-requires
fill-requires c =
    let d = (goal.at.fill-requires c).After-of-plan in
    let loaded = c.in_ok-loaded.loaded in
    let lawful = (c.read.ensures.law.written (lines_of loaded) (read_ok d)).lawful in
    let W : List _ → Type 0 = λ w. AllByRecursion (Calm (2 ^ 62 + 2 ^ 40)) w in
    subst W (sym (plan_is d)) (all_in_order (Calm (2 ^ 62 + 2 ^ 40)) _ (calm_lines all_free c.args.start.ticks (lines_of loaded) c.args.start.early lawful))

pub returns-clause-law : goal.returns-clause-law
returns-clause-law c = forecast_law _ c.args.start.ticks c.args.script.now
