-- Slots that are all spare. Assumes nothing.
use Rattle.std.proofs.Common.{◌≡◌, ℕ, zero, suc, ◌+◌, ◌-◌, ◌<◌, cond, ltb, List, [], ◌∷◌, map, length, get_or, replicate, sym, refl, ap, ◌∙◌, subst, ⊎_elim, arith}
use Rattle.std.proofs.lemmas.List.{length-map}
use Rattle.std.proofs.lemmas.Bool.{cases_lt, lt-ltb, le-ltb, cond-true, cond-false}
use Rattle.chains.specs.Boards.{slots_of, Kept}
use Rattle.chains.specs.Calls.{no_records}
use Rattle.chains.specs.Places.{nexts, values, places, records, rows_of, Trail, Ends, Sound}
use Rattle.chains.specs.Records.{In, total}
use Rattle.chains.specs.Steps.{blank}
use Rattle.chains.specs.declared.board.Board.{Board}
use Rattle.chains.specs.declared.slot.Slot.{Slot}
use Rattle.chains.proofs.Outcomes.{places_none}
use Rattle.chains.proofs.Trails.{places_are}

-- n places in turn from p on
abbrev counting : ℕ → ℕ → List ℕ
counting p zero = []
counting p (suc n) = p ∷ counting (suc p) n

counting_counts : (p n : ℕ) → length (counting p n) ≡ n
counting_counts p zero = refl
counting_counts p (suc n) = ap suc (counting_counts (suc p) n)

-- a place, if it is one
abbrev within : ℕ → ℕ → ℕ
within n p = cond (ltb p n) p 0

-- slots that are linked in turn are one chain
counts_up : (nx : List ℕ) (p n : ℕ) → ((k : ℕ) → k < length nx → get_or nx k 0 ≡ blank (length nx) k) → p + n ≡ length nx → 0 < p → Trail nx (within (length nx) p) (counting p n)
counts_up nx p zero links all some = cond-false (ltb p (length nx)) p 0 (le-ltb p (length nx) (omega arith))
counts_up nx p (suc n) links all some =
    let less : p < length nx = omega arith in
    let next : get_or nx p 0 ≡ within (length nx) (suc p) = links p less ∙ (let e : p + 1 ≡ suc p = omega arith in ap (within (length nx)) e) in
    (cond-true (ltb p (length nx)) p 0 (lt-ltb p (length nx) less), some, less, subst (λ j. Trail nx j (counting (suc p) n)) (sym next) (counts_up nx (suc p) n links (omega arith) (omega arith)))

at_none : (n k : ℕ) → get_or {A = ℕ} (replicate n 0) k 0 ≡ 0
at_none zero k = refl
at_none (suc n) zero = refl
at_none (suc n) (suc k) = at_none n k

total_none : (nx : List ℕ) (n : ℕ) → total (map (λ p. places nx p) (replicate n 0)) ≡ 0
total_none nx zero = refl
total_none nx (suc n) = omega (arith, ap length (places_none nx), total_none nx n)

rows_none : {R : Type 0} (vs : List R) (nx : List ℕ) (n : ℕ) → map (λ p. records vs (places nx p)) (replicate n 0) ≡ replicate n []
rows_none vs nx zero = refl
rows_none vs nx (suc n) = λ i. records vs (places_none nx i) ∷ rows_none vs nx n i

total_replicate : (R : Type 0) (n : ℕ) → total {R = R} (replicate n []) ≡ 0
total_replicate R zero = refl
total_replicate R (suc n) = omega (arith, total_replicate R n)

module _ (nx : List ℕ) (n sp : ℕ) (links : (k : ℕ) → k < length nx → get_or nx k 0 ≡ blank (length nx) k) (first : sp ≡ blank (length nx) 0) where
  spare : List ℕ
  spare = counting 1 (length nx - 1)

  spare_trail : Trail nx sp spare
  unfolding spare
  spare_trail =
      ⊎_elim
      (λ some. subst (λ p. Trail nx p (counting 1 (length nx - 1))) (sym first) (counts_up nx 1 (length nx - 1) links (omega arith) (omega arith)))
      (λ none. let zero-less : length nx - 1 ≡ 0 = omega arith in subst (λ m. Trail nx sp (counting 1 m)) (sym zero-less) (first ∙ cond-false (ltb 1 (length nx)) 1 0 (le-ltb 1 (length nx) (omega arith))))
      (cases_lt 0 (length nx))

  spare_is : places nx sp ≡ spare
  unfolding spare
  spare_is = places_are nx sp spare spare_trail (omega (arith, counting_counts 1 (length nx - 1)))

  others_none : (k : ℕ) → places nx (get_or (replicate n 0) k 0) ≡ []
  others_none k = ap (places nx) (at_none n k) ∙ places_none nx

  ends : (k : ℕ) → k < length (sp ∷ replicate n 0) → Ends nx (get_or (sp ∷ replicate n 0) k 0)
  ends zero l = subst (Trail nx sp) (sym spare_is) spare_trail
  ends (suc k) l = subst (Trail nx (get_or (replicate n 0) k 0)) (sym (others_none k)) (at_none n k)

  apart : (k l i : ℕ) → k < length (sp ∷ replicate n 0) → l < length (sp ∷ replicate n 0) → In i (places nx (get_or (sp ∷ replicate n 0) k 0)) → In i (places nx (get_or (sp ∷ replicate n 0) l 0)) → k ≡ l
  apart zero zero i a b v w = refl
  apart zero (suc l) i a b v w = absurd (subst (In i) (others_none l) w)
  apart (suc k) l i a b v w = absurd (subst (In i) (others_none k) v)

  pub blank_sound : Sound (sp ∷ replicate n 0) nx
  unfolding spare
  blank_sound = record { ends = ends; apart = apart; whole = omega (arith, ap length spare_is, counting_counts 1 (length nx - 1), total_none nx n) }

module _ {R : Type 0} {N : ℕ} (n : ℕ) (b : Board R N) (heads : b.heads ≡ replicate n 0) where
  rows_are : rows_of b.heads (slots_of b) ≡ replicate n []
  rows_are = ap (λ hs. rows_of hs (slots_of b)) heads ∙ rows_none (values (slots_of b)) (nexts (slots_of b)) n

  pub blank_kept : length {A = ℕ} (replicate n 0) ≡ n → ((k : ℕ) → k < length (slots_of b) → get_or (nexts (slots_of b)) k 0 ≡ blank (length (slots_of b)) k) → b.spare ≡ blank (length (slots_of b)) 0 → b.count ≡ 0 → Kept n b
  blank_kept many links first none =
      let same : length (nexts (slots_of b)) ≡ length (slots_of b) = length-map (slots_of b) (λ s. s.next) in
      record {
        all = ap length heads ∙ many;
        sound = subst (λ hs. Sound (b.spare ∷ hs) (nexts (slots_of b))) (sym heads)
            (blank_sound (nexts (slots_of b)) n b.spare (λ k l. links k (omega arith) ∙ ap (λ m. blank m k) (sym same)) (first ∙ ap (λ m. blank m 0) (sym same)));
        counted = none ∙ sym (ap total rows_are ∙ total_replicate R n);
      }

pub blank_content : {R : Type 0} (n : ℕ) (slots : List (Slot R)) → record { rows = rows_of (replicate n 0) slots; room = length slots - 1 } ≡ no_records n (length slots)
blank_content n slots = λ i. record { rows = rows_none (values slots) (nexts slots) n i; room = length slots - 1 }
