-- An accepted line has the words of what it is read as, which keeps the limits. Assumes nothing.
use Rattle.std.proofs.Common.{◌≡◌, ℕ, ◌-◌, ◌^◌, ◌<◌, ◌≤◌, Bool, true, false, cond, ◌&&◌, ltb, leb, List, [], ◌∷◌, get_or, Some, None, Ok, codes, decimal, Option, Result, sym, refl, ap, ◌∙◌, subst, arith}
use Rattle.std.specs.Option.{ok_or}
use Rattle.std.proofs.lemmas.Slice.Eq.{bytes_eq-Decides}
use Rattle.std.proofs.lemmas.Bool.{and_from, and_parts, leb-true, ltb-false, le-leb, lt-ltb}
use Rattle.fault.specs.declared.Fault.{Fault}
use Rattle.words.specs.Number.{number_of}
use Rattle.slots.specs.Limits.{kind_fits, action_fits, period_fits}
use Rattle.jobs.specs.declared.Kind.{Kind}
use Rattle.jobs.specs.declared.Action.{Action}
use Rattle.line.specs.declared.line.Line.{Line}
use Rattle.line.specs.Line.{Placed, Rest, number_at, limited, slot_at, first_of, next, number, delay, period, once, every, burst, is_word, timing, reads, action, none_of, ending, line_of}
use Rattle.line.specs.Text.{action_words, kind_words, line_words, Lawful}
use Rattle.line.proofs.Binds.{err_not_ok, same_ok, bind_back, pass_back, stop_back}
use Rattle.line.proofs.Numbers.{number_back}

first_back : (r : Rest) (ws : List (List ℕ)) (p : Placed × Rest) → first_of r ws ≡ Ok p → ws ≡ p.0.text ∷ p.1.words
first_back r [] p e = absurd (err_not_ok e)
first_back r (w ∷ ws) p e = ap (λ (q : Placed × Rest). q.0.text ∷ q.1.words) (same_ok e)

next_back : (r : Rest) (p : Placed × Rest) → next r ≡ Ok p → r.words ≡ p.0.text ∷ p.1.words
next_back r p e = first_back r r.words p e

number_read : (o : Option ℕ) (x : Fault) (n : ℕ) → ok_or o x ≡ Ok n → o ≡ Some n
number_read None x n e = absurd (err_not_ok e)
number_read (Some m) x n e = ap (λ k. Some k) (same_ok e)

limited_back : (least most : ℕ) (w : Placed) (n : ℕ) → most < 2 ^ 64 - 1 → limited least most w ≡ Ok n → (w.text ≡ decimal n) × (least ≤ n) × (n ≤ most)
limited_back least most w n small e =
    let b = bind_back (number_at w) _ n e in
    let p = pass_back (leb least b.0 && leb b.0 most) b.0 n _ b.2 in
    let t = and_parts (leb least b.0) (leb b.0 most) p.0 in
    let low : least ≤ b.0 = leb-true least b.0 t.0 in
    let high : b.0 ≤ most = leb-true b.0 most t.1 in
    let same : b.0 ≡ n = p.1 in
    let read : number_of w.text ≡ Some n = number_read (number_of w.text) _ b.0 b.1 ∙ ap (λ x. Some x) same in
    (number_back w.text n read (omega arith), omega arith, omega arith)

-- a number read from the front of what is left
pub record Numbered (least most : ℕ) (r : Rest) (p : ℕ × Rest) : Type 0 where
  pub word : r.words ≡ decimal p.0 ∷ p.1.words
  pub low : least ≤ p.0
  pub high : p.0 ≤ most

pub numbered : (least most : ℕ) (r : Rest) (p : ℕ × Rest) → most < 2 ^ 64 - 1 → number least most r ≡ Ok p → Numbered least most r p
numbered least most r p small e =
    let b = bind_back (next r) _ p e in
    let c = bind_back (limited least most b.0.0) _ p b.2 in
    let h = limited_back least most b.0.0 c.0 small c.1 in
    let same : (c.0, b.0.1) ≡ p = same_ok c.2 in
    let W : ℕ × Rest → Type 0 = λ q. Numbered least most r q in
    subst W same (record { word = next_back r b.0 b.1 ∙ ap (λ t. t ∷ b.0.1.words) h.0; low = h.1; high = h.2 })

period_fit : (p : ℕ) → 1 ≤ p → p ≤ 2 ^ 40 - 1 → period_fits p ≡ true
period_fit p low high = and_from _ _ (le-leb 1 p low) (lt-ltb p (2 ^ 40) (omega arith))

-- the kind and the delay of what is left
pub record Timed (r : Rest) (p : (Kind × ℕ) × Rest) : Type 0 where
  pub words : r.words ≡ kind_words p.0.0 p.0.1 p.1.words
  pub fits : kind_fits p.0.0 ≡ true
  pub early : p.0.1 < 2 ^ 40

-- the same, after the word that names the kind
abbrev After : List ℕ → Rest → (Kind × ℕ) × Rest → Type 0
After keyword r p = (keyword ∷ r.words ≡ kind_words p.0.0 p.0.1 p.1.words) × (kind_fits p.0.0 ≡ true) × (p.0.1 < 2 ^ 40)

once_back : (r : Rest) (p : (Kind × ℕ) × Rest) → once r ≡ Ok p → After (codes "once") r p
once_back r p e =
    let d = bind_back (delay r) _ p e in
    let h = numbered 0 (2 ^ 40 - 1) r d.0 (omega arith) d.1 in
    let early : d.0.0 < 2 ^ 40 = omega (arith, h.high) in
    subst (After (codes "once") r) (same_ok d.2) (ap (λ ws. codes "once" ∷ ws) h.word, refl, early)

every_back : (r : Rest) (p : (Kind × ℕ) × Rest) → every r ≡ Ok p → After (codes "every") r p
every_back r p e =
    let k = bind_back (period r) _ p e in
    let d = bind_back (delay k.0.1) _ p k.2 in
    let g = numbered 1 (2 ^ 40 - 1) r k.0 (omega arith) k.1 in
    let h = numbered 0 (2 ^ 40 - 1) k.0.1 d.0 (omega arith) d.1 in
    let early : d.0.0 < 2 ^ 40 = omega (arith, h.high) in
    subst (After (codes "every") r) (same_ok d.2) (
      ap (λ ws. codes "every" ∷ ws) (g.word ∙ ap (λ ws. decimal k.0.0 ∷ ws) h.word),
      period_fit k.0.0 g.low g.high,
      early,
    )

burst_back : (r : Rest) (p : (Kind × ℕ) × Rest) → burst r ≡ Ok p → After (codes "burst") r p
burst_back r p e =
    let n = bind_back (number 1 65535 r) _ p e in
    let k = bind_back (period n.0.1) _ p n.2 in
    let d = bind_back (delay k.0.1) _ p k.2 in
    let f = numbered 1 65535 r n.0 (omega arith) n.1 in
    let g = numbered 1 (2 ^ 40 - 1) n.0.1 k.0 (omega arith) k.1 in
    let h = numbered 0 (2 ^ 40 - 1) k.0.1 d.0 (omega arith) d.1 in
    let early : d.0.0 < 2 ^ 40 = omega (arith, h.high) in
    subst (After (codes "burst") r) (same_ok d.2) (
      ap (λ ws. codes "burst" ∷ ws) (f.word ∙ ap (λ ws. decimal n.0.0 ∷ ws) (g.word ∙ ap (λ ws. decimal k.0.0 ∷ ws) h.word)),
      and_from _ _ (and_from _ _ (le-leb 1 n.0.0 f.low) (le-leb n.0.0 65535 f.high)) (period_fit k.0.0 g.low g.high),
      early,
    )

-- a word that is tested for a keyword
keyword_back : {A : Type 0} (w : Placed) (text : List ℕ) (yes' no' : Result A Fault) (a : A) (P : Type 0) → cond (is_word w text) yes' no' ≡ Ok a
    → (w.text ≡ text → yes' ≡ Ok a → P) → (no' ≡ Ok a → P) → P
keyword_back w text yes' no' a P e f g = at (is_word w text) (bytes_eq-Decides w.text text).0 e
  where
    at : (t : Bool) → (t ≡ true → w.text ≡ text) → cond t yes' no' ≡ Ok a → P
    at true same h = f (same refl) h
    at false same h = g h

timed_from : (r : Rest) (w : Placed × Rest) (keyword : List ℕ) (p : (Kind × ℕ) × Rest) → r.words ≡ w.0.text ∷ w.1.words → w.0.text ≡ keyword → After keyword w.1 p → Timed r p
timed_from r w keyword p front is after = record { words = front ∙ ap (λ t. t ∷ w.1.words) is ∙ after.0; fits = after.1; early = after.2 }

pub timed : (r : Rest) (p : (Kind × ℕ) × Rest) → timing r ≡ Ok p → Timed r p
timed r p e =
    let b = bind_back (next r) _ p e in
    let w = b.0 in
    let front = next_back r w b.1 in
    keyword_back w.0 (codes "once") _ _ p (Timed r p) b.2 (λ is h. timed_from r w (codes "once") p front is (once_back w.1 p h))
    (λ e₂. keyword_back w.0 (codes "every") _ _ p (Timed r p) e₂ (λ is h. timed_from r w (codes "every") p front is (every_back w.1 p h))
    (λ e₃. keyword_back w.0 (codes "burst") _ _ p (Timed r p) e₃ (λ is h. timed_from r w (codes "burst") p front is (burst_back w.1 p h))
    (λ e₄. absurd (err_not_ok e₄))))

pub record Acted (r : Rest) (p : Action × Rest) : Type 0 where
  pub words : r.words ≡ action_words p.0 p.1.words
  pub fits : action_fits p.0 ≡ true

reads_back : (r : Rest) (w : Placed × Rest) (p : Action × Rest) → r.words ≡ w.0.text ∷ w.1.words → w.0.text ≡ codes "read" → reads w.1 ≡ Ok p → Acted r p
reads_back r w p front is e =
    let c = bind_back (number 0 15 w.1) _ p e in
    let h = numbered 0 15 w.1 c.0 (omega arith) c.1 in
    let W : Action × Rest → Type 0 = λ q. Acted r q in
    subst W (same_ok c.2) (record { words = front ∙ ap (λ t. t ∷ w.1.words) is ∙ ap (λ ws. codes "read" ∷ ws) h.word; fits = le-leb c.0.0 15 h.high })

pub acted : (r : Rest) (p : Action × Rest) → action r ≡ Ok p → Acted r p
acted r p e =
    let b = bind_back (next r) _ p e in
    let w = b.0 in
    let front = next_back r w b.1 in
    let W : Action × Rest → Type 0 = λ q. Acted r q in
    keyword_back w.0 (codes "read") _ _ p (Acted r p) b.2 (λ is h. reads_back r w p front is h)
    (λ e₂. keyword_back w.0 (codes "mark") _ _ p (Acted r p) e₂ (λ is h. subst W (same_ok h) (record { words = front ∙ ap (λ t. t ∷ w.1.words) is; fits = refl }))
    (λ e₃. absurd (err_not_ok e₃)))

none_back : (r : Rest) (ws : List (List ℕ)) (u : Unit {0}) → none_of r ws ≡ Ok u → ws ≡ []
none_back r [] u e = refl
none_back r (w ∷ ws) u e = absurd (err_not_ok e)

slot_back : (free : List Bool) (w : Placed) (n : ℕ) → slot_at free w ≡ Ok n → (w.text ≡ decimal n) × (n < 32) × (get_or free n false ≡ true)
slot_back free w n e =
    let b = bind_back (number_at w) _ n e in
    let s = stop_back (ltb 31 b.0) _ n _ b.2 in
    let p = pass_back (get_or free b.0 false) b.0 n _ s.1 in
    let low : b.0 ≤ 31 = ltb-false 31 b.0 s.0 in
    let same : b.0 ≡ n = p.1 in
    let read : number_of w.text ≡ Some n = number_read (number_of w.text) _ b.0 b.1 ∙ ap (λ x. Some x) same in
    (number_back w.text n read (omega arith), omega arith, sym (ap (λ m. get_or free m false) same) ∙ p.0)

-- what an accepted line is
pub record Lined (free : List Bool) (r : Rest) (l : Line) : Type 0 where
  pub words : r.words ≡ line_words l
  pub lawful : Lawful free l

pub lined : (free : List Bool) (r : Rest) (l : Line) → line_of free r ≡ Ok l → Lined free r l
lined free r l e =
    let b = bind_back (next r) _ l e in
    let s = bind_back (slot_at free b.0.0) _ l b.2 in
    let t = bind_back (timing b.0.1) _ l s.2 in
    let a = bind_back (action t.0.1) _ l t.2 in
    let n = bind_back (ending a.0.1) _ l a.2 in
    let slot = slot_back free b.0.0 s.0 s.1 in
    let time = timed b.0.1 t.0 t.1 in
    let act = acted t.0.1 a.0 a.1 in
    let none = none_back a.0.1 a.0.1.words n.0 n.1 in
    let W : Line → Type 0 = λ m. Lined free r m in
    subst W (same_ok n.2) (record {
      words =
          next_back r b.0 b.1
          ∙ ap (λ x. x ∷ b.0.1.words) slot.0
          ∙ ap (λ ws. decimal s.0 ∷ ws) (time.words ∙ ap (λ ws. kind_words t.0.0.0 t.0.0.1 ws) (act.words ∙ ap (λ ws. action_words a.0.0 ws) none));
      lawful = (slot.1, slot.2, and_from _ _ (lt-ltb t.0.0.1 (2 ^ 40) time.early) (and_from _ _ time.fits act.fits));
    })
