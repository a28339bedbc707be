-- The rows of a grid by their places, and a grid with one row changed. Assumes nothing.
use Rattle.std.proofs.Common.{◌≡◌, ℕ, zero, suc, ◌+◌, ◌-◌, ◌*◌, ◌<◌, ◌≤◌, List, [], ◌++◌, length, get_or, take, drop, set, sym, refl, ap, ◌∙◌, subst, ⊎_elim, suc-mul, add_comm, zero-mul, arith}
use borrow.Rule.Slice.PartMut.{put_mid}
use Rattle.std.proofs.lemmas.Nat.{mul-le}
use Rattle.std.proofs.lemmas.List.{length-set, length-append, length-take-le, length-drop, get_or-set_same, get_or-set_other, drop-drop, drop-take, ext_get_or}
use Rattle.std.proofs.lemmas.Slice.{take-put_mid_below, drop-put_mid, between-put_mid}
use Rattle.std.proofs.lemmas.Bool.{cases_lt, cases_eq}
use Rattle.grid_book.specs.declared.cell.Cell.{Cell}
use Rattle.grid_book.specs.Cells.{spans}
use Rattle.grid_book.specs.Grids.{cells_of, rows_of, RowPainted}
use Rattle.grid_book.specs.Rows.{Painted}
use Rattle.limits.specs.Ranges.{Within}

pub rows_length : (H links : ℕ) (cells : List Cell) → length (rows_of H links cells) ≡ links
rows_length H zero cells = refl
rows_length H (suc links) cells = ap suc (rows_length H links (drop H cells))

-- the bookings of a link are those of its cells
pub row_at : (H links : ℕ) (cells : List Cell) (place : ℕ) → place < links → get_or (rows_of H links cells) place [] ≡ spans (cells_of H place cells)
row_at H zero cells place l = absurd (omega arith)
row_at H (suc links) cells zero l = ap (λ n. spans (take H (drop n cells))) (sym (zero-mul H))
row_at H (suc links) cells (suc place) l =
    row_at H links (drop H cells) place (omega arith)
    ∙ ap (λ r. spans (take H r)) (drop-drop (place * H) H cells ∙ ap (λ n. drop n cells) (add_comm H (place * H) ∙ sym (suc-mul place H)))

-- other cells for one link
pub rows_set : (H links place : ℕ) (before after : List Cell) → place < links → ((other : ℕ) → (other ≡ place → ⊥) → cells_of H other after ≡ cells_of H other before) → rows_of H links after ≡ set (rows_of H links before) place (spans (cells_of H place after))
rows_set H links place before after l same =
    let long = rows_length H links after in
    let was = rows_length H links before in
    let row = spans (cells_of H place after) in
    ext_get_or [] (rows_of H links after) (set (rows_of H links before) place row) (long ∙ sym (length-set (rows_of H links before) place row ∙ was))
    (λ k h.
    let low : k < links = omega arith in
    let here = row_at H links after k low in
    ⊎_elim
    (λ e. here ∙ ap (λ n. spans (cells_of H n after)) e ∙ sym (get_or-set_same (rows_of H links before) place row [] (omega arith)) ∙ ap (λ n. get_or (set (rows_of H links before) place row) n []) (sym e))
    (λ other. here ∙ ap spans (same k other) ∙ sym (row_at H links before k low) ∙ sym (get_or-set_other (rows_of H links before) place k row [] other))
    (cases_eq k place))

module _ (H place : ℕ) (cells row : List Cell) (inside : place * H + H ≤ length cells) (long : length row ≡ H) where
  -- a grid with one row written
  pub cells_here : cells_of H place (put_mid (place * H) H cells row) ≡ row
  cells_here =
      let size : place * H + H - place * H ≡ H = omega arith in
      ap (λ n. take n (drop (place * H) (put_mid (place * H) H cells row))) (sym size) ∙ between-put_mid (place * H) H cells row (place * H + H) (omega arith) (omega arith)

  pub cells_elsewhere : (other : ℕ) → (other ≡ place → ⊥) → cells_of H other (put_mid (place * H) H cells row) ≡ cells_of H other cells
  cells_elsewhere other apart =
      ⊎_elim
      (λ before.
      let low : other * H + H ≤ place * H = omega (arith, mul-le (suc other) H place H (omega arith) (omega arith), suc-mul other H) in
      sym (drop-take (other * H) H (put_mid (place * H) H cells row)) ∙ ap (drop (other * H)) (take-put_mid_below (place * H) H cells row (other * H + H) low (omega arith)) ∙ drop-take (other * H) H cells)
      (λ after.
      let high : place * H + H ≤ other * H = omega (arith, mul-le (suc place) H other H (omega arith) (omega arith), suc-mul place H) in
      ap (take H) (drop-put_mid (place * H) H cells row (other * H) high (omega arith) long))
      (cases_lt other place)

pub cells_long : (H place : ℕ) (cells : List Cell) → place * H + H ≤ length cells → length (cells_of H place cells) ≡ H
cells_long H place cells inside = length-take-le H (drop (place * H) cells) (omega (arith, length-drop (place * H) cells))

-- in a grid of whole rows the row of each link is whole
pub row_whole : (H links link : ℕ) (cells : List Cell) → Within 1 links link → links * H ≤ length cells → (link - 1) * H + H ≤ length cells
row_whole H links link cells there enough = omega (arith, mul-le (suc (link - 1)) H links H (omega (arith, there.least, there.most)) (omega arith), suc-mul (link - 1) H)

-- one row that is painted within the grid; k is how long the row is
pub row_written : (H place start ticks : ℕ) (first further : Cell) (cells row : List Cell) → place * H + H ≤ length cells → (k : ℕ) → k ≡ H → Painted (length (take k (drop (place * H) cells))) start ticks first further (take k (drop (place * H) cells)) row → RowPainted H place start ticks first further cells (put_mid (place * H) k cells row)
row_written H place start ticks first further cells row inside k e p =
    subst (λ n. RowPainted H place start ticks first further cells (put_mid (place * H) n cells row)) (sym e)
    (let painted = subst (λ n. Painted (length (take n (drop (place * H) cells))) start ticks first further (take n (drop (place * H) cells)) row) e p in
    let was = cells_long H place cells inside in
    let long : length row ≡ H = painted.long ∙ was in
    record {
      long = mid_long (place * H) H cells row inside long;
      here = subst (Painted H start ticks first further (cells_of H place cells)) (sym (cells_here H place cells row inside long)) (subst (λ n. Painted n start ticks first further (cells_of H place cells) row) was painted);
      elsewhere = cells_elsewhere H place cells row inside long;
    })
  where
    mid_long : (a n : ℕ) (xs ys : List Cell) → a + n ≤ length xs → length ys ≡ n → length (put_mid a n xs ys) ≡ length xs
    mid_long a n xs ys l e =
        length-append (take a xs) (ys ++ drop n (drop a xs)) ∙ omega (arith, length-append ys (drop n (drop a xs)), length-drop n (drop a xs), length-drop a xs, length-take-le a xs (omega arith))
