-- What holds of a grid and of its rows has one proof at most. Assumes nothing.
use Rattle.std.specs.Prelude.{◌≡◌, ℕ, Bool, true, List, Decides}
use Rattle.std.proofs.Math.Bool.{Bool-set}
use Rattle.std.proofs.Math.Bridge.{le_prop}
use Rattle.std.proofs.Math.Nat.{ℕ_set}
use Rattle.book.proofs.Props.{within_prop, free_prop, formed_prop}
use Rattle.grid_book.specs.declared.cell.Cell.{Cell}
use Rattle.grid_book.specs.Cells.{Marked}
use Rattle.grid_book.specs.Grids.{Sound}
use Rattle.grid_book.specs.Made.{Sized}

decides_prop : {P : Type 0} (r : Bool) → ((p q : P) → p ≡ q) → (a b : Decides r P) → a ≡ b
decides_prop r prop a b = λ i. (λ e. prop (a.0 e) (b.0 e) i, λ p. Bool-set r true (a.1 p) (b.1 p) i)

sized_prop : {cells cycle links room : ℕ} (a b : Sized cells cycle links room) → a ≡ b
sized_prop a b = λ i. record {
  cycled = within_prop a.cycled b.cycled i;
  linked = within_prop a.linked b.linked i;
  limited = le_prop a.limited b.limited i;
  enough = λ h. le_prop (a.enough h) (b.enough h) i;
}

pub marked_prop : (H : ℕ) (cells : List Cell) (a b : Marked H cells) → a ≡ b
marked_prop H cells a b = λ i t l. decides_prop _ (free_prop _ _ t) (a t l) (b t l) i

pub sound_prop : (cycle links room count : ℕ) (cells : List Cell) (a b : Sound cycle links room count cells) → a ≡ b
sound_prop cycle links room count cells a b = λ i. record {
  sized = sized_prop a.sized b.sized i;
  formed = formed_prop _ a.formed b.formed i;
  counted = ℕ_set _ _ a.counted b.counted i;
  marked = λ k h. marked_prop _ _ (a.marked k h) (b.marked k h) i;
}
