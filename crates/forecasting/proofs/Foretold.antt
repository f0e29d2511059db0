-- The law of a forecast, for lines that a script may have. Assumes nothing.
use Rattle.std.proofs.Common.{◌≡◌, ℕ, ◌+◌, ◌^◌, ◌<◌, ◌≤◌, Bool, true, ◌&&◌, ltb, leb, List, [], ◌∷◌, ◌++◌, map, length, inl, inr, ⊎_elim, arith}
use Rattle.std.specs.List.{AllByRecursion}
use Rattle.std.proofs.ByRecursion.{All-push, All-weaker}
use Rattle.std.proofs.lemmas.List.{length_push}
use Rattle.std.proofs.lemmas.Bool.{and_parts, leb-true, ltb-true}
use Rattle.queue.specs.declared.dues.Due.{Due}
use Rattle.queue.specs.Due.{Earlier}
use Rattle.queue.specs.Order.{inserted, in_order}
use Rattle.slots.specs.Limits.{kind_fits, action_fits, period_fits}
use Rattle.jobs.specs.declared.Kind.{Kind}
use Rattle.jobs.specs.declared.Kind.TheVariants.{Once, Every, Burst}
use Rattle.line.specs.declared.line.Line.{Line}
use Rattle.forecasting.specs.declared.pending.Pending.{Pending}
use Rattle.forecasting.specs.Forecast.{IsFiring, Among, Ordered, Fewer, Foretells, first_firings, ForecastLaw, all_free}
use Rattle.forecasting.specs.Pending.{pending, pending_compare, spacing, Calm}
use Rattle.line.specs.Text.{Lawful}
use Rattle.script.specs.Text.{Different}
use Rattle.forecasting.proofs.Earliness.{earlier_trans, earlier_never, all_from_among, all_among, fits_in, ordered_push}
use Rattle.forecasting.proofs.Firings.{Pends, Active, Good, Fresh, Found, all_inserted, good_added, pends_added, added_pends, members, ordered, complete, length_firings}
use Rattle.script.proofs.Laws.{law}

-- ---- from lines to what waits

active_period : (p : ℕ) → period_fits p ≡ true → 1 ≤ p
active_period p e = leb-true 1 p (and_parts (leb 1 p) (ltb p (2 ^ 40)) e).0

active_kind : (k : Kind) → kind_fits k ≡ true → Active k
active_kind Once e = tt
active_kind (Every p) e = active_period p e
active_kind (Burst c p) e =
    let f = and_parts (leb 1 c && leb c 65535) (period_fits p) e in
    (leb-true 1 c (and_parts (leb 1 c) (leb c 65535) f.0).0, active_period p f.1)

near_period : (p : ℕ) → period_fits p ≡ true → p < 2 ^ 40
near_period p e = ltb-true p (2 ^ 40) (and_parts (leb 1 p) (ltb p (2 ^ 40)) e).1

near_kind : (k : Kind) → kind_fits k ≡ true → spacing k < 2 ^ 40
near_kind Once e = omega arith
near_kind (Every p) e = near_period p e
near_kind (Burst c p) e = near_period p (and_parts (leb 1 c && leb c 65535) (period_fits p) e).1

line_kind : (free : List Bool) (l : Line) → Lawful free l → kind_fits l.job.kind ≡ true
line_kind free l h =
    (and_parts (kind_fits l.job.kind) _ (and_parts (ltb l.delay (2 ^ 40)) (kind_fits l.job.kind && action_fits l.job.action) h.2).1).0

pub line_delay : (free : List Bool) (l : Line) → Lawful free l → l.delay < 2 ^ 40
line_delay free l h = ltb-true l.delay (2 ^ 40) (and_parts (ltb l.delay (2 ^ 40)) (kind_fits l.job.kind && action_fits l.job.action) h.2).0

pub calm_lines : (free : List Bool) (start : ℕ) (ls : List Line) → start < 2 ^ 62 → AllByRecursion (Lawful free) ls → AllByRecursion (Calm (2 ^ 62 + 2 ^ 40)) (map (pending start) ls)
calm_lines free start [] early h = tt
calm_lines free start (l ∷ ls) early h =
    ((omega (arith, line_delay free l h.0), near_kind l.job.kind (line_kind free l h.0)), calm_lines free start ls early h.1)

abbrev Off : List Pending → Line → Type 0
Off q l = AllByRecursion (λ (r : Pending). l.slot ≡ r.due.slot → ⊥) q

off_more : (start : ℕ) (q : List Pending) (l : Line) (ls : List Line) → AllByRecursion (Off q) ls → AllByRecursion (λ m. m.slot ≡ l.slot → ⊥) ls → AllByRecursion (Off (inserted pending_compare (pending start l) q)) ls
off_more start q l [] h d = tt
off_more start q l (m ∷ ms) h d =
    (all_inserted (λ r. m.slot ≡ r.due.slot → ⊥) (pending start l) q d.0 h.0, off_more start q l ms h.1 d.1)

fresh_lines : (free : List Bool) (start : ℕ) (q : List Pending) (ls : List Line) → AllByRecursion (Lawful free) ls → AllByRecursion (Off q) ls → Different ls → Fresh q (map (pending start) ls)
fresh_lines free start q [] h o d = tt
fresh_lines free start q (l ∷ ls) h o d =
    (active_kind l.job.kind (line_kind free l h.0), o.0, fresh_lines free start (inserted pending_compare (pending start l) q) ls h.1 (off_more start q l ls o.1 d.0) d.1)

off_none : (ls : List Line) → AllByRecursion (Off []) ls
off_none [] = tt
off_none (l ∷ ls) = (tt, off_none ls)

lines_pend : (start : ℕ) (ls : List Line) (x : Due) → IsFiring start ls x → Pends (map (pending start) ls) x
lines_pend start [] x h = h
lines_pend start (l ∷ ls) x (inl f) = inl f
lines_pend start (l ∷ ls) x (inr h) = inr (lines_pend start ls x h)

pend_lines : (start : ℕ) (ls : List Line) (x : Due) → Pends (map (pending start) ls) x → IsFiring start ls x
pend_lines start [] x h = h
pend_lines start (l ∷ ls) x (inl f) = inl f
pend_lines start (l ∷ ls) x (inr h) = inr (pend_lines start ls x h)

-- ---- the law

pub foretells : (free : List Bool) (n start : ℕ) (ls : List Line) → AllByRecursion (Lawful free) ls → Different ls → Foretells n start ls (first_firings n start ls)
foretells free n start ls lawful different = record {
  ordered = in_turn;
  firing = λ x m. (is_firing x m, fewer x m);
  all = λ x f few. ⊎_elim (λ m. m) (λ o. absurd (none x few o)) (found x f);
}
  where
    q : List Pending
    q = in_order pending_compare (map (pending start) ls)

    ds : List Due
    ds = first_firings n start ls

    good : Good q
    good = good_added [] (map (pending start) ls) tt (fresh_lines free start [] ls lawful (off_none ls) different)

    in_turn : Ordered ds
    in_turn = ordered n q good

    is_firing : (x : Due) → Among x ds → IsFiring start ls x
    is_firing x m = pend_lines start ls x (⊎_elim (λ h. absurd h) (λ h. h) (pends_added [] (map (pending start) ls) x (members n q x good m)))

    found : (x : Due) → IsFiring start ls x → Found n ds x
    found x f = complete n q x good (added_pends [] (map (pending start) ls) x (inr (lines_pend start ls x f)))

    -- a firing before one of the list is in the list
    inside : (x y : Due) → Among x ds → IsFiring start ls y → Earlier y x → Among y ds
    inside x y m f b = ⊎_elim (λ a. a) (λ o. absurd (earlier_never x (earlier_trans x y x (all_among (λ z. Earlier z y) ds x o.1 m) b))) (found y f)

    fewer : (x : Due) → Among x ds → Fewer n start ls x
    fewer x m ys o h =
        let here = All-weaker (λ y. IsFiring start ls y × Earlier y x) (λ y. Among y ds) (λ y p. inside x y m p.0 p.1) ys h in
        let before = All-weaker (λ y. IsFiring start ls y × Earlier y x) (λ y. Earlier y x) (λ y p. p.1) ys h in
        let size = fits_in ds (ys ++ (x ∷ [])) in_turn (ordered_push ys x o before) (All-push (λ y. Among y ds) ys x here m) in
        omega (arith, size, length_push ys x, length_firings n q)

    none : (x : Due) → Fewer n start ls x → (length ds ≡ n) × AllByRecursion (λ y. Earlier y x) ds → ⊥
    none x few o =
        let both : (es : List Due) → ((y : Due) → Among y es → IsFiring start ls y) → AllByRecursion (λ y. Earlier y x) es → AllByRecursion (λ y. IsFiring start ls y × Earlier y x) es = λ es f e. all_from_among (λ y. IsFiring start ls y × Earlier y x) es (λ y m. (f y m, all_among (λ z. Earlier z x) es y e m)) in
        let h = few ds in_turn (both ds is_firing o.1) in
        omega (arith, h, o.0)

pub forecast_law : (n start : ℕ) (text : List ℕ) → ForecastLaw n start text
forecast_law n start text ls e =
    let w = (law all_free text).written ls e in
    foretells all_free n start ls w.lawful w.different
