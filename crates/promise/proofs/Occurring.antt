-- The example's runs are runs. Assumes nothing.
use Rattle.std.proofs.Common.{◌≡◌, ℕ, zero, suc, ◌+◌, ◌%◌, ◌<◌, ◌≤◌, refl, ap, inr, arith}
use Rattle.clock.specs.Hold.{first_from}
use Rattle.up.specs.declared.up.Word.{Word}
use Rattle.promise.specs.Runs.{Run, done, then}
use Rattle.promise.specs.Example.{left_log, left_run, right_log, right_run, Occurs, Occurring}
use Rattle.logger.specs.State.{Log}
use Rattle.promise.specs.Words.{moment_at, NoSetUp, NoEnd}

left_goes : (l : Log Word) × Run left_log left_run l
unfolding first_from
left_goes = (
  _,
  then (record { answer = refl; after = refl })
      (then (record { answer = refl; after = refl })
      (then (record { answer = refl; after = refl })
      (then (record { early = omega arith; within = omega arith; shows = refl; answer = refl; after = refl })
      (then (record { answer = refl; after = refl })
      (then (record { answer = refl; after = refl })
      (then (record { early = omega arith; within = omega arith; shows = refl; answer = refl; after = refl })
      (then (record { answer = refl; after = refl })
      (then (record { answer = refl; after = refl })
      (then (record { answer = refl; after = refl }) done))))))))),
)

-- a 16-bit counter never shows 65536
never_shown : (d : ℕ) → ◌≡◌ {A = Word} (record { 0 = 65536 }) (record { 0 = (7 + (0 + d)) % 65536 }) → ⊥
never_shown d e =
    let same_word : 65536 ≡ (7 + (0 + d)) % 65536 = ap (λ (w : Word). w.0) e in
    omega arith

right_goes : (l : Log Word) × Run right_log right_run l
right_goes = (
  _,
  then (record { answer = refl; after = refl })
      (then (record { answer = refl; after = refl })
      (then (record { answer = refl; after = refl })
      (then (record { answer = refl; after = refl })
      (then (record { why = inr (omega arith, (λ d h e. never_shown d e), refl); after = refl })
      (then (record { early = omega arith; within = omega arith; shows = refl; answer = refl; after = refl })
      (then (record { answer = refl; after = refl })
      (then (record { answer = refl; after = refl })
      (then (record { answer = refl; after = refl })
      (then (record { answer = refl; after = refl })
      (then (record { early = omega arith; within = omega arith; shows = refl; answer = refl; after = refl })
      (then (record { answer = refl; after = refl })
      (then (record { answer = refl; after = refl })
      (then (record { answer = refl; after = refl })
      (then (record { answer = refl; after = refl }) done)))))))))))))),
)

-- before the serve at 3 the moment is 1000, and nothing is given up or set up anew
not_yet : (q : ℕ) → 0 ≤ q → q < 3 → moment_at left_run 1000 q < 1010
not_yet zero low high = omega arith
not_yet (suc zero) low high = omega arith
not_yet (suc (suc zero)) low high = omega arith
not_yet (suc (suc (suc q))) low high = absurd (omega arith)

stays : NoEnd 2 left_run 0 3
stays zero e low high here = absurd (omega arith)
stays (suc zero) e low high here = cc
stays (suc (suc zero)) e low high here = cc
stays (suc (suc (suc c))) e low high here = absurd (omega arith)

only_one : NoSetUp 2 left_run 0 4
only_one zero e low high here = absurd (omega arith)
only_one (suc zero) e low high here = cc
only_one (suc (suc zero)) e low high here = cc
only_one (suc (suc (suc zero))) e low high here = cc
only_one (suc (suc (suc (suc c)))) e low high here = absurd (omega arith)

pub occurs : Occurs
unfolding left_goes right_goes
occurs = record {
  left_end = left_goes.0;
  right_end = right_goes.0;
  left = left_goes.1;
  right = right_goes.1;
  left_emptied = (tt, (tt, (tt, (tt, (tt, (tt, (tt, (tt, (tt, (tt, tt))))))))));
  right_emptied = (tt, (tt, (tt, (tt, (tt, (tt, (tt, (tt, (tt, (tt, (tt, (tt, (tt, (tt, (tt, tt)))))))))))))));
  alike = refl;
  shares = refl;
  stands = (_, refl, refl);
  due = (0, refl);
  reached = record { from = omega arith; within = omega arith; reached = omega arith; first = not_yet; stood = stays };
  as_held = record {
    place = 2;
    answer = 10;
    before = omega arith;
    held = refl;
    enough = omega arith;
    between = λ c low high. absurd (omega arith);
  };
  reports = record { after = omega arith; answer = refl; own = only_one };
}

pub occurring : Occurring
unfolding Occurring
occurring = occurs
