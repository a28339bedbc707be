-- What holds of chains has one proof at most. Assumes nothing.
use mathlib.Core.Logic.{∥∥₁_elim}
use Rattle.std.proofs.Common.{◌≡◌, ℕ, List, [], ◌∷◌, get_or, refl}
use native.Mathlib.Bridge.{le_prop}
use native.Mathlib.Nat.{ℕ_set}
use Rattle.chains.specs.Boards.{Kept}
use Rattle.chains.specs.Places.{nexts, places, Trail, Ends, Sound}
use Rattle.chains.specs.Records.{Above, Ascends, AllAscend}
use Rattle.chains.specs.Views.{content}
use Rattle.chains.specs.declared.board.Board.{Board}
use Rattle.chains.specs.declared.chains.Chains.{Chains}
use Rattle.chains.specs.declared.walk.Walk.{Walk}

pub trail_prop : (nx : List ℕ) (p : ℕ) (is : List ℕ) (a b : Trail nx p is) → a ≡ b
trail_prop nx p [] a b = ℕ_set _ _ a b
trail_prop nx p (j ∷ js) a b = λ i. (ℕ_set _ _ a.0 b.0 i, le_prop a.1 b.1 i, le_prop a.2 b.2 i, trail_prop nx (get_or nx j 0) js a.3 b.3 i)

sound_prop : (tops nx : List ℕ) (a b : Sound tops nx) → a ≡ b
sound_prop tops nx a b = λ i. record {
  ends = λ k h. trail_prop nx (get_or tops k 0) (places nx (get_or tops k 0)) (a.ends k h) (b.ends k h) i;
  apart = λ k l j hk hl wk wl. ℕ_set k l (a.apart k l j hk hl wk wl) (b.apart k l j hk hl wk wl) i;
  whole = ℕ_set _ _ a.whole b.whole i;
}

pub kept_prop : {R : Type 0} {N : ℕ} (n : ℕ) (board : Board R N) (a b : Kept n board) → a ≡ b
kept_prop n board a b = λ i. record {
  all = ℕ_set _ _ a.all b.all i;
  sound = sound_prop _ _ a.sound b.sound i;
  counted = ℕ_set _ _ a.counted b.counted i;
}

above_prop : {R : Type 0} (key : R → ℕ) (k : ℕ) (rs : List R) (a b : Above key k rs) → a ≡ b
above_prop key k [] a b = refl
above_prop key k (r ∷ rs) a b = λ i. (le_prop a.0 b.0 i, above_prop key k rs a.1 b.1 i)

ascends_prop : {R : Type 0} (key : R → ℕ) (rs : List R) (a b : Ascends key rs) → a ≡ b
ascends_prop key [] a b = refl
ascends_prop key (r ∷ rs) a b = λ i. (above_prop key (key r) rs a.0 b.0 i, ascends_prop key rs a.1 b.1 i)

ordered_prop : {R : Type 0} (key : R → ℕ) (rows : List (List R)) (a b : AllAscend key rows) → a ≡ b
ordered_prop key [] a b = refl
ordered_prop key (rs ∷ rows) a b = λ i. (ascends_prop key rs a.0 b.0 i, ordered_prop key rows a.1 b.1 i)

-- what every value of chains and of a walk keeps
pub kept_of : {R : Type 0} {N : ℕ} {keyed : _} (c : Chains R N keyed) → Kept N c.board
kept_of c = ∥∥₁_elim c.kept (kept_prop _ _) (λ k. k)

pub ordered_of : {R : Type 0} {N : ℕ} {keyed : _} (c : Chains R N keyed) → AllAscend keyed.keyed (content c).rows
ordered_of c = ∥∥₁_elim c.ordered (ordered_prop _ _) (λ o. o)

pub ends_of : {R : Type 0} (w : Walk R) → Ends (nexts w.slots.now) w.place
ends_of w = ∥∥₁_elim w.ends (trail_prop _ _ _) (λ t. t)
