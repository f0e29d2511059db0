-- What the limits of a job say of its numbers. Assumes nothing.
use Rattle.std.proofs.Common.{◌≡◌, ℕ, ◌-◌, ◌^◌, ◌<◌, ◌≤◌, true, ◌&&◌, ltb, leb, arith}
use Rattle.std.proofs.lemmas.Bool.{and_parts, leb-true, ltb-true}
use Rattle.slots.specs.Limits.{kind_fits, action_fits, period_fits, job_fits}
use Rattle.jobs.specs.declared.Job.{Job}
use Rattle.jobs.specs.declared.Kind.TheVariants.{Burst}

pub period_within : (p : ℕ) → period_fits p ≡ true → (1 ≤ p) × (p ≤ 2 ^ 40 - 1)
period_within p e =
    let h = and_parts (leb 1 p) (ltb p (2 ^ 40)) e in
    let high : p < 2 ^ 40 = ltb-true p (2 ^ 40) h.1 in
    (leb-true 1 p h.0, omega arith)

pub burst_within : (n p : ℕ) → kind_fits (Burst n p) ≡ true → (1 ≤ n) × (n ≤ 65535) × (period_fits p ≡ true)
burst_within n p e =
    let f = and_parts (leb 1 n && leb n 65535) (period_fits p) e in
    let c = and_parts (leb 1 n) (leb n 65535) f.0 in
    (leb-true 1 n c.0, leb-true n 65535 c.1, f.1)

pub job_within : (delay : ℕ) (job : Job) → job_fits delay job ≡ true → (delay < 2 ^ 40) × (kind_fits job.kind ≡ true) × (action_fits job.action ≡ true)
job_within delay job e =
    let f = and_parts (ltb delay (2 ^ 40)) (kind_fits job.kind && action_fits job.action) e in
    let g = and_parts (kind_fits job.kind) (action_fits job.action) f.1 in
    (ltb-true delay (2 ^ 40) f.0, g.0, g.1)
