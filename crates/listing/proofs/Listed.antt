-- What a listing lists. Assumes nothing.
use Rattle.std.proofs.Common.{◌≡◌, ℕ, ◌-◌, ◌≤◌, ltb, List, map, length, take, drop, Ok, Err, Result, sym, refl, ap, ◌∙◌, subst, arith}
use native.Mathlib.Nat.{sub-zero}
use Rattle.std.proofs.lemmas.List.{take_at, length-map}
use Rattle.fault.specs.declared.Fault.{Fault}
use Rattle.queue.specs.declared.dues.Due.{Due}
use Rattle.forecasting.specs.Forecast.{all_free, forecast_of, how_many, row_after}
use Rattle.listing.specs.Listing.{listed}
use Rattle.script.specs.Script.{script_of}
use Rattle.line.proofs.Binds.{err_not_ok, same_ok, bind_back, stop_back}
use Rattle.forecasting.proofs.Firings.{length_firings}

-- an answer tells that firings were listed, and how many
many_back : (r : Result (List Due) Fault) (k : ℕ) → Ok k ≡ how_many r → (ds : List Due) × (r ≡ Ok ds) × (k ≡ length ds)
many_back (Ok ds) k e = (ds, refl, same_ok e)
many_back (Err x) k e = absurd (err_not_ok (sym e))

listed_few : (n : ℕ) (script : List ℕ) (ds : List Due) → listed n script ≡ Ok ds → length ds ≤ n
listed_few n script ds e =
    let s = stop_back (ltb 4096 (length script)) (forecast_of n 0 script) ds _ e in
    let b = bind_back (script_of all_free script) _ ds s.1 in
    let F : List Due → Type 0 = λ xs. length xs ≤ n in
    subst F (same_ok b.2) (length_firings n _)

pub record Listed (n : ℕ) (script : List ℕ) (k : ℕ) : Type 0 where
  pub firings : List Due
  pub are : listed n script ≡ Ok firings
  pub size : k ≡ length firings
  pub few : k ≤ n

pub listed_back : (n : ℕ) (script : List ℕ) (k : ℕ) → Ok k ≡ how_many (listed n script) → Listed n script k
listed_back n script k e =
    let m = many_back (listed n script) k e in
    record { firings = m.0; are = m.1; size = m.2; few = omega (arith, m.2, listed_few n script m.0 m.1) }

-- the part of a row that was written
pub row_taken : (f : Due → ℕ) (r : Result (List Due) Fault) (ds : List Due) (row row' : List ℕ) (k : ℕ) → r ≡ Ok ds → k ≡ length ds → row' ≡ row_after f r row → take k row' ≡ map f ds
row_taken f r ds row row' k is size e =
    ap (take k) (e ∙ ap (λ x. row_after f x row) is)
    ∙ take_at (map f ds) (drop (length ds) row) k (length-map ds f ∙ sym size)

-- the same, as a range from 0 on has it
pub row_front : (f : Due → ℕ) (r : Result (List Due) Fault) (ds : List Due) (row row' : List ℕ) (k : ℕ) → r ≡ Ok ds → k ≡ length ds → row' ≡ row_after f r row → take (k - 0) row' ≡ map f ds
row_front f r ds row row' k is size e = ap (λ n. take n row') (sub-zero k) ∙ row_taken f r ds row row' k is size e
