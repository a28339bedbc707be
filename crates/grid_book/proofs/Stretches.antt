-- Ticks that are alike, and ticks that are covered. Assumes nothing.
use Rattle.std.proofs.Common.{◌≡◌, ℕ, ◌%◌, ◌<◌, ◌≤◌, Bool, true, false, List, length, get_or, Some, None, Decides, Option, sym, refl, ap, ◌∙◌, subst, ⊎_elim, add-zero, mod-eq_of_lt, arith}
use Rattle.std.specs.Bool.{MatchBool}
use Rattle.std.specs.List.{range_with_len, HoldsAt, AllWithin}
use Rattle.std.specs.Option.{MatchOption, unwrap_or}
use Rattle.book.proofs.Offsets.{round_below, round_offset, offset_round}
use Rattle.book.specs.Calls.{Clashes}
use Rattle.book.specs.Spans.{Span, Fits, offset, Free, Alike, Stretch, Run, round}
use Rattle.std.proofs.lemmas.Bool.{cases_eq, false≢true}
use Rattle.std.proofs.lemmas.List.FromFn.{length-range_with_len, get_or-range_with_len}

-- ticks that one test tells alike are alike
pub alike_told : (H : ℕ) (ss : List Span) (t u : ℕ) (a b : Bool) → Decides a (Free H ss t) → Decides b (Free H ss u) → a ≡ b → Alike H ss t u
alike_told H ss t u a b p q e = record { onward = λ free. q.0 (sym e ∙ p.1 free); back = λ free. p.0 (e ∙ q.1 free) }

-- ticks that one test tells apart are not alike
pub apart_told : (H : ℕ) (ss : List Span) (t u : ℕ) (a b : Bool) → Decides a (Free H ss t) → Decides b (Free H ss u) → (a ≡ b → ⊥) → Alike H ss t u → ⊥
apart_told H ss t u true true p q e alike = e refl
apart_told H ss t u true false p q e alike = e (sym (q.1 (alike.onward (p.0 refl))))
apart_told H ss t u false true p q e alike = e (p.1 (alike.back (q.0 refl)))
apart_told H ss t u false false p q e alike = e refl

module _ (H : ℕ) (ss : List Span) (t : ℕ) (below : t < H) where
  alike_itself : Alike H ss t (round H t 0)
  alike_itself =
      let same : round H t 0 ≡ t = ap (λ k. k % H) (add-zero t) ∙ mod-eq_of_lt below in
      subst (Alike H ss t) (sym same) (record { onward = λ free. free; back = λ free. free })

  -- ticks that are alike from the first after the tick on make a stretch
  stretch_past : (k : ℕ) → 0 < k → ((j : ℕ) → 1 ≤ j → j < k → Alike H ss t (round H t j)) → Stretch H ss t k
  stretch_past k some past = record {
    some = some;
    alike = λ j l. ⊎_elim (λ e. subst (λ n. Alike H ss t (round H t n)) (sym e) alike_itself) (λ later. past j (omega arith) l) (cases_eq j 0);
  }

  -- up to the first tick that is not alike, or round the whole cycle, it is the run
  pub run_until : (r : Option ℕ) → MatchOption r ((k : ℕ) → 1 ≤ k → k < H → Alike H ss t (round H t k)) (λ i. (1 ≤ i) × (i < H) × (Alike H ss t (round H t i) → ⊥) × ((k : ℕ) → 1 ≤ k → k < i → Alike H ss t (round H t k))) → Run H ss t (unwrap_or r H)
  run_until None past = record { stretch = stretch_past H (omega arith) past; most = omega arith; ends = λ h. omega arith }
  run_until (Some i) (least, most, apart, past) = record { stretch = stretch_past i (omega arith) past; most = omega arith; ends = λ _. apart }

-- whether a tick of a booking is covered tells whether the booking clashes
pub clash_told : (H : ℕ) (ss : List Span) (s : Span) → Fits H s → (r : Bool)
    → MatchBool r ((k : ℕ) × (k < length (range_with_len 0 s.ticks)) × HoldsAt (λ j. Free H ss (round H s.start j) → ⊥) (range_with_len 0 s.ticks) k) (AllWithin (λ j. Free H ss (round H s.start j)) (range_with_len 0 s.ticks) 0 (length (range_with_len 0 s.ticks)))
    → Decides r (Clashes H ss s)
clash_told H ss s fits true (k, low, taken) =
    let early : k < s.ticks = omega (arith, length-range_with_len 0 s.ticks) in
    let at : get_or (range_with_len 0 s.ticks) k 0 ≡ k = omega (arith, get_or-range_with_len 0 s.ticks k 0 early) in
    let covers : offset H s.start (round H s.start k) < s.ticks = omega (arith, offset_round H s.start fits.start k (omega (arith, fits.ticks.most))) in
    (λ _. (round H s.start k, round_below H s.start fits.start k, covers, subst (λ j. Free H ss (round H s.start j) → ⊥) at (taken 0)), λ _. refl)
clash_told H ss s fits false free = (
  λ e. absurd (false≢true e),
  λ (t, low, covers, taken).
      let k = offset H s.start t in
      let at : get_or (range_with_len 0 s.ticks) k 0 ≡ k = omega (arith, get_or-range_with_len 0 s.ticks k 0 covers) in
      let there = subst (λ j. Free H ss (round H s.start j)) at (free k 0 (omega arith) (omega (arith, length-range_with_len 0 s.ticks))) in
      absurd (taken (subst (Free H ss) (round_offset H s.start fits.start t low) there)),
)
