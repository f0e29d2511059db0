-- The forecast of a script: its first firings in order, what a call writes of them, and what they are among all firings.
-- Assumes nothing.
use Rattle.std.specs.Prelude.{◌≡◌, ℕ, ◌+◌, ◌*◌, ◌<◌, min, Bool, true, ◌⊎◌, List, [], ◌∷◌, ◌++◌, map, length, drop, replicate, Ok, Err, Result}
use Rattle.std.specs.List.{AllByRecursion}
use Rattle.fault.specs.declared.Fault.{Fault}
use Rattle.queue.specs.Due.{Earlier}
use Rattle.queue.specs.Order.{in_order}
use Rattle.queue.specs.declared.dues.Due.{Due}
use Rattle.jobs.specs.declared.Kind.{Kind}
use Rattle.jobs.specs.declared.Kind.TheVariants.{Once, Every, Burst}
use Rattle.line.specs.declared.line.Line.{Line}
use Rattle.line.specs.Line.{◌>>=◌}
use Rattle.forecasting.specs.Pending.{pending, pending_compare, firings, spacing}
use Rattle.script.specs.Script.{script_of}

-- the slots of an empty logger
abbrev pub all_free : List Bool
all_free = replicate 32 true

-- the first n firings of lines that are loaded at this moment
abbrev pub first_firings : ℕ → ℕ → List Line → List Due
first_firings n start ls = firings n (in_order pending_compare (map (pending start) ls))

abbrev pub forecast_of : ℕ → ℕ → List ℕ → Result (List Due) Fault
forecast_of n start text = do
  ls ← script_of all_free text
  Ok (first_firings n start ls)

-- how many firings two rows have place for: no more than the shorter, and 256
abbrev pub places : {A B : Type 0} → List A → List B → ℕ
places xs ys = min (min (length xs) (length ys)) 256

abbrev pub how_many : Result (List Due) Fault → Result ℕ Fault
how_many r = do
  ds ← r
  Ok (length ds)

-- a row after a forecast: what was foretold, and then what stood there before
abbrev pub row_after : (Due → ℕ) → Result (List Due) Fault → List ℕ → List ℕ
row_after f (Ok ds) row = map f ds ++ drop (length ds) row
row_after f (Err e) row = row

-- whether a job of this kind has a kth firing, from 0
abbrev pub Counts : Kind → ℕ → Type 0
Counts Once k = k ≡ 0
Counts (Every period) k = Unit {0}
Counts (Burst count period) k = k < count

-- x is a firing of a job of this kind in this slot, first due at this moment
abbrev pub FiresAt : ℕ → ℕ → Kind → Due → Type 0
FiresAt slot first kind x = (x.slot ≡ slot) × ((k : ℕ) × Counts kind k × (x.moment ≡ first + k * spacing kind))

-- x is a firing of one of the lines
abbrev pub IsFiring : ℕ → List Line → Due → Type 0
IsFiring start [] x = ⊥
IsFiring start (l ∷ ls) x = FiresAt l.slot (start + l.delay) l.job.kind x ⊎ IsFiring start ls x

-- x stands in a list
abbrev pub Among : Due → List Due → Type 0
Among x [] = ⊥
Among x (y ∷ ys) = (x ≡ y) ⊎ Among x ys

-- each before those that follow
abbrev pub Ordered : List Due → Type 0
Ordered [] = Unit {0}
Ordered (x ∷ xs) = AllByRecursion (Earlier x) xs × Ordered xs

-- fewer than n firings come before x: whichever ones are listed, in their order, they are fewer
abbrev pub Fewer : ℕ → ℕ → List Line → Due → Type 0
Fewer n start ls x = (ys : List Due) → Ordered ys → AllByRecursion (λ y. IsFiring start ls y × Earlier y x) ys → length ys < n

-- the law of a forecast ds of n firings: it is in order, and holds a firing exactly when fewer than n come before it
pub record Foretells (n start : ℕ) (ls : List Line) (ds : List Due) : Type 0 where
  pub ordered : Ordered ds
  pub firing : (x : Due) → Among x ds → IsFiring start ls x × Fewer n start ls x
  pub all : (x : Due) → IsFiring start ls x → Fewer n start ls x → Among x ds

-- what a call of forecast keeps to
abbrev pub ForecastLaw : ℕ → ℕ → List ℕ → Type 0
ForecastLaw n start text = (ls : List Line) → script_of all_free text ≡ Ok ls → Foretells n start ls (first_firings n start ls)
