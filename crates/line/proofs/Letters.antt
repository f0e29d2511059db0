-- The words of a line have neither spaces nor line ends in them. Assumes nothing.
use Rattle.std.proofs.Common.{◌≡◌, ℕ, ◌^◌, ◌<◌, ◌≤◌, Bool, true, false, eqb, leb, List, [], ◌∷◌, decimal, refl, arith}
use Rattle.std.specs.Char.{is_ascii_digit}
use Rattle.std.specs.List.{AllByRecursion, join_with_byte, list_all}
use Rattle.std.proofs.lemmas.Fmt.{digits_decimal}
use Rattle.std.proofs.ByRecursion.{All-weaker as Each-weaker}
use Rattle.std.proofs.lemmas.List.Elements.{All-nil, All-cons, All-append, All-weaker}
use Rattle.std.proofs.lemmas.List.Sums.{AllPass-from_list_all}
use Rattle.std.proofs.lemmas.Bool.{and_from, and_parts, leb-true, ne_eqb}
use Rattle.words.specs.Number.{digits}
use Rattle.words.specs.Words.{words_of}
use Rattle.slots.specs.Limits.{kind_fits, action_fits}
use Rattle.jobs.specs.declared.Kind.{Kind}
use Rattle.jobs.specs.declared.Kind.TheVariants.{Once, Every, Burst}
use Rattle.jobs.specs.declared.Action.{Action}
use Rattle.jobs.specs.declared.Action.TheVariants.{Read, Mark}
use Rattle.line.specs.declared.line.Line.{Line}
use Rattle.line.specs.Text.{action_words, kind_words, line_words, line_text, Lawful}
use Rattle.words.proofs.Cuts.{Lacks, cut_joined}
use Rattle.line.proofs.Limits.{period_within, burst_within, job_within}
use Rattle.line.proofs.Numbers.{own}

-- digits and letters stand from 48 on
abbrev above : List ℕ → Bool
above bs = list_all (leb 48) bs

lacks_above : (c : ℕ) (bs : List ℕ) → c < 48 → above bs ≡ true → Lacks c bs
lacks_above c bs h e =
    All-weaker (λ b. leb 48 b ≡ true) (λ b. eqb b c ≡ false) (λ b up. let low : 48 ≤ b = leb-true 48 b up in ne_eqb b c (λ same. omega arith))
    bs (AllPass-from_list_all (leb 48) bs e)

above_digits : (bs : List ℕ) → digits bs ≡ true → above bs ≡ true
above_digits [] h = refl
above_digits (b ∷ bs) h =
    let p = and_parts (is_ascii_digit b) (digits bs) h in
    and_from _ _ (and_parts (leb 48 b) _ p.0).0 (above_digits bs p.1)

above_decimal : (n : ℕ) → n < 2 ^ 64 → above (decimal n) ≡ true
above_decimal n h = above_digits (decimal n) (digits_decimal own n h)

-- the numbers of a line fit 64 bits
abbrev pub action_small : Action → Type 0
action_small (Read channel) = channel < 2 ^ 64
action_small Mark = Unit {0}

abbrev pub kind_small : Kind → Type 0
kind_small Once = Unit {0}
kind_small (Every period) = period < 2 ^ 64
kind_small (Burst count period) = (count < 2 ^ 64) × (period < 2 ^ 64)

pub record Small (l : Line) : Type 0 where
  pub slot : l.slot < 2 ^ 64
  pub delay : l.delay < 2 ^ 64
  pub kind : kind_small l.job.kind
  pub action : action_small l.job.action

action_lawful : (a : Action) → action_fits a ≡ true → action_small a
action_lawful (Read channel) h = let high = leb-true channel 15 h in omega arith
action_lawful Mark h = tt

kind_lawful : (k : Kind) → kind_fits k ≡ true → kind_small k
kind_lawful Once h = tt
kind_lawful (Every p) h = let b = period_within p h in omega arith
kind_lawful (Burst n p) h =
    let f = burst_within n p h in
    let b = period_within p f.2 in
    (omega arith, omega arith)

-- those of a lawful line do
pub lawful_small : (free : List Bool) (l : Line) → Lawful free l → Small l
lawful_small free l law =
    let j = job_within l.delay l.job law.2 in
    record {
      slot = omega (arith, law.0);
      delay = omega (arith, j.0);
      kind = kind_lawful l.job.kind j.1;
      action = action_lawful l.job.action j.2;
    }

abbrev Clean : List (List ℕ) → Type 0
Clean ws = AllByRecursion (λ w. above w ≡ true) ws

clean_action : (a : Action) → action_small a → Clean (action_words a [])
clean_action (Read channel) h = (refl, (above_decimal channel h, tt))
clean_action Mark h = (refl, tt)

clean_kind : (k : Kind) (d : ℕ) (more : List (List ℕ)) → kind_small k → d < 2 ^ 64 → Clean more → Clean (kind_words k d more)
clean_kind Once d more h hd m = (refl, (above_decimal d hd, m))
clean_kind (Every p) d more h hd m = (refl, (above_decimal p h, (above_decimal d hd, m)))
clean_kind (Burst n p) d more h hd m = (refl, (above_decimal n h.0, (above_decimal p h.1, (above_decimal d hd, m))))

clean_line : (l : Line) → Small l → Clean (line_words l)
clean_line l s = (above_decimal l.slot s.slot, clean_kind l.job.kind l.delay _ s.kind s.delay (clean_action l.job.action s.action))

clean_lacks : (c : ℕ) (ws : List (List ℕ)) → c < 48 → Clean ws → AllByRecursion (Lacks c) ws
clean_lacks c ws h m = Each-weaker (λ w. above w ≡ true) (Lacks c) (λ w e. lacks_above c w h e) ws m

joined_lacks : (c : ℕ) (ps : List (List ℕ)) → eqb 32 c ≡ false → AllByRecursion (Lacks c) ps → Lacks c (join_with_byte 32 ps)
joined_lacks c [] n h = All-nil _
joined_lacks c (p ∷ []) n h = h.0
joined_lacks c (p ∷ (q ∷ qs)) n h =
    All-append (λ b. eqb b c ≡ false) p (32 ∷ join_with_byte 32 (q ∷ qs)) h.0
    (All-cons (λ b. eqb b c ≡ false) 32 (join_with_byte 32 (q ∷ qs)) n (joined_lacks c (q ∷ qs) n h.1))

pub line_text_words : (l : Line) → Small l → words_of (line_text l) ≡ line_words l
line_text_words l s = cut_joined 32 _ _ (clean_lacks 32 (line_words l) (omega arith) (clean_line l s))

pub line_text_lacks : (l : Line) → Small l → Lacks 10 (line_text l)
line_text_lacks l s = joined_lacks 10 (line_words l) refl (clean_lacks 10 (line_words l) (omega arith) (clean_line l s))
