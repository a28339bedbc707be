-- Lines and words stand at their places. Assumes nothing.
use Rattle.std.proofs.Common.{◌≡◌, ℕ, zero, suc, ◌+◌, ◌-◌, ◌<◌, ◌≤◌, List, [], ◌∷◌, ◌++◌, length, get_or, take, drop, sym, ap, ◌∙◌, subst, add_assoc, arith, length-append, length-drop, drop-drop}
use lib.Seq.{take-append_seam, drop-append-add}
use Rattle.sheet.specs.Pieces.{pieces, led}
use Rattle.sheet.specs.Lines.{SheetLine, SheetWord, Stands, ended, numbered, placed, LinesInPlace, WordsInPlace}
use Rattle.sheet.proofs.Cuts.{rejoins}

module _ (b : ℕ) (bs : List ℕ) where
  -- from the offset o on, bs is t and then ts, with one b before each
  record GoesOn (o : ℕ) (t : List ℕ) (ts : List (List ℕ)) : Type 0 where
    within : o ≤ length bs
    split : drop o bs ≡ t ++ led b ts

  room : (o : ℕ) (t : List ℕ) (ts : List (List ℕ)) → GoesOn o t ts → o + length t + length (led b ts) ≡ length bs
  room o t ts on = omega (arith, on.within, length-drop o bs, ap length on.split, length-append t (led b ts))

  stands : (o : ℕ) (t : List ℕ) (ts : List (List ℕ)) → GoesOn o t ts → Stands bs o t
  stands o t ts on = record { inside = omega (arith, room o t ts on); text = sym (ap (take (length t)) on.split ∙ take-append_seam t (led b ts)) }

  one_on : (o : ℕ) (t u : List ℕ) (us : List (List ℕ)) → GoesOn o t (u ∷ us) → GoesOn (o + length t + 1) u us
  one_on o t u us on = record {
    within = omega (arith, room o t (u ∷ us) on);
    split = ap (λ n. drop n bs) (add_assoc o (length t) 1) ∙ sym (drop-drop (length t + 1) o bs) ∙ ap (drop (length t + 1)) on.split ∙ drop-append-add t (led b (u ∷ us)) 1;
  }

  numbered_stand : (n o : ℕ) (t : List ℕ) (ts : List (List ℕ)) → GoesOn o t ts → (k : ℕ) (d : SheetLine) → k < length (numbered n o (ended t ts)) → ((get_or (numbered n o (ended t ts)) k d).number ≡ n + k) × Stands bs (get_or (numbered n o (ended t ts)) k d).place (get_or (numbered n o (ended t ts)) k d).text
  numbered_stand n o [] [] on k d l = absurd (omega arith)
  numbered_stand n o (x ∷ xs) [] on zero d l = (omega arith, stands o (x ∷ xs) [] on)
  numbered_stand n o (x ∷ xs) [] on (suc k) d l = absurd (omega arith)
  numbered_stand n o t (u ∷ us) on zero d l = (omega arith, stands o t (u ∷ us) on)
  numbered_stand n o t (u ∷ us) on (suc k) d l =
      let there = numbered_stand (n + 1) (o + length t + 1) u us (one_on o t u us on) k d (omega arith) in
      (omega (arith, there.0), there.1)

  placed_stand : (p q o : ℕ) → q ≡ p + o → (t : List ℕ) (ts : List (List ℕ)) → GoesOn o t ts → (k : ℕ) (d : SheetWord) → k < length (placed q (t ∷ ts)) → (p ≤ (get_or (placed q (t ∷ ts)) k d).place) × Stands bs ((get_or (placed q (t ∷ ts)) k d).place - p) (get_or (placed q (t ∷ ts)) k d).text
  placed_stand p q o e t ts on zero d l = let back : o ≡ q - p = omega arith in (omega arith, subst (λ n. Stands bs n t) back (stands o t ts on))
  placed_stand p q o e t [] on (suc k) d l = absurd (omega arith)
  placed_stand p q o e t (u ∷ us) on (suc k) d l = placed_stand p (q + length t + 1) (o + length t + 1) (omega arith) u us (one_on o t u us on) k d (omega arith)

  whole : GoesOn 0 (pieces b bs).first (pieces b bs).rest
  whole = record { within = omega arith; split = sym (rejoins b bs) }

pub lines_in_place : LinesInPlace
lines_in_place bs k d l = let there = numbered_stand 10 bs 1 0 _ _ (whole 10 bs) k d l in (omega (arith, there.0), there.1)

pub words_in_place : WordsInPlace
words_in_place p bs k d l = placed_stand 32 bs p p 0 (omega arith) _ _ (whole 32 bs) k d l
