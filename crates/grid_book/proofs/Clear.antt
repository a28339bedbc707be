-- A grid of free cells. Assumes nothing.
use Rattle.std.proofs.Common.{◌≡◌, ℕ, zero, suc, ◌+◌, ◌*◌, List, [], ◌∷◌, length, take, drop, replicate, sym, refl, ap, ◌∙◌, subst}
use Rattle.book.specs.Empty.{empty_formed, empty_total}
use Rattle.book.specs.Bare.{empty}
use Rattle.book.specs.Meanings.{Formed, total}
use Rattle.book.specs.Spans.{Free}
use Rattle.std.proofs.lemmas.List.{get_or-drop, length-replicate}
use Rattle.grid_book.specs.declared.cell.Cell.{Cell}
use Rattle.grid_book.specs.declared.cell.Cell.TheVariants.{Free as free_cell}
use Rattle.grid_book.specs.Cells.{is_free, begun, begins, cell_at, spans_from, Marked}
use Rattle.grid_book.specs.Grids.{cells_of, rows_of, means, Sound}
use Rattle.grid_book.specs.Made.{Sized}

-- every cell is free
abbrev pub AllFree : List Cell → Type 0
AllFree cells = (t : ℕ) → cell_at cells t ≡ free_cell

all_free : (n : ℕ) → AllFree (replicate n free_cell)
all_free zero t = refl
all_free (suc n) zero = refl
all_free (suc n) (suc t) = all_free n t

free_drop : (n : ℕ) (cells : List Cell) → AllFree cells → AllFree (drop n cells)
free_drop n cells h t = get_or-drop n cells t free_cell ∙ h (n + t)

free_take : (n : ℕ) (cells : List Cell) → AllFree cells → AllFree (take n cells)
free_take zero cells h t = refl
free_take (suc n) [] h t = refl
free_take (suc n) (c ∷ cs) h zero = h zero
free_take (suc n) (c ∷ cs) h (suc t) = free_take n cs (λ k. h (suc k)) t

free_spans : (n : ℕ) (cells : List Cell) → AllFree cells → spans_from n cells ≡ []
free_spans n [] h = refl
free_spans n (c ∷ cs) h = ap (λ x. begins n (begun x) (spans_from (n + 1) cs)) (h zero) ∙ free_spans (n + 1) cs (λ t. h (suc t))

-- no link has a booking
free_rows : (H links : ℕ) (cells : List Cell) → AllFree cells → rows_of H links cells ≡ replicate links []
free_rows H zero cells h = refl
free_rows H (suc links) cells h = ap (λ r. r ∷ rows_of H links (drop H cells)) (free_spans 0 (take H cells) (free_take H cells h)) ∙ ap (λ rs. [] ∷ rs) (free_rows H links (drop H cells) (free_drop H cells h))

-- every tick of a link is marked as free
free_marked : (H place : ℕ) (cells : List Cell) → AllFree cells → Marked H (cells_of H place cells)
free_marked H place cells h t l =
    let row = free_take H (drop (place * H) cells) (free_drop (place * H) cells h) in
    (λ _. subst (λ ss. Free H ss t) (sym (free_spans 0 (cells_of H place cells) row)) tt, λ _. ap is_free (row t))

-- a grid of free cells is sound, and stands for the empty book
pub free_means : (n cycle links room : ℕ) (cells : List Cell) → cells ≡ replicate n free_cell → means cycle links room cells ≡ empty cycle links room
free_means n cycle links room cells free =
    subst (λ cs. means cycle links room cs ≡ empty cycle links room) (sym free)
    (ap (λ rs. record { cycle = cycle; links = links; room = room; rows = rs }) (free_rows cycle links (replicate n free_cell) (all_free n)))

pub free_sound : (n cycle links room : ℕ) (cells : List Cell) → cells ≡ replicate n free_cell → Sized n cycle links room → Sound cycle links room 0 cells
free_sound n cycle links room cells free sized =
    let is = free_means n cycle links room cells free in
    record {
      sized = subst (λ k. Sized k cycle links room) (sym (ap length free ∙ length-replicate n free_cell)) sized;
      formed = subst Formed (sym is) (empty_formed cycle links room);
      counted = sym (ap (λ m. total m.rows) is ∙ empty_total links);
      marked = λ place _. subst (λ cs. Marked cycle (cells_of cycle place cs)) (sym free) (free_marked cycle place (replicate n free_cell) (all_free n));
    }
