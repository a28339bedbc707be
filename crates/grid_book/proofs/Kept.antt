-- What a grid keeps when a booking is added or taken away. Assumes nothing.
use Rattle.std.proofs.Common.{◌≡◌, ℕ, ◌+◌, ◌-◌, ◌<◌, ◌≤◌, List, [], ◌∷◌, length, set, Some, None, Ok, sym, refl, ap, ◌∙◌, subst, inr, ⊎_elim, arith}
use Rattle.book.proofs.Rows.{in_begins}
use Rattle.book.proofs.Whole.{fits_or_not, orderly_row, stays_formed}
use Rattle.book.specs.Calls.{Clashes, TellsHolder, tick_rules, book_rules, release_rules}
use Rattle.book.specs.Meanings.{Formed, row, total, with_row}
use Rattle.book.specs.Spans.{Span, span, In, Fits, NoneBeginsAt, Orderly, insert, without}
use Rattle.book.specs.declared.refusal.BookRefusal.TheVariants.{NoneBegins}
use Rattle.book.specs.declared.refusal.Holding.{Holding}
use Rattle.limits.proofs.Once.{none_hold, first_passed, within_or_not}
use Rattle.limits.specs.Ranges.{Within, link_max}
use Rattle.limits.specs.Refusals.{First}
use Rattle.std.proofs.lemmas.Bool.{cases_lt, cases_eq}
use Rattle.grid_book.specs.declared.cell.Cell.{Cell}
use Rattle.grid_book.specs.declared.cell.Cell.TheVariants.{Free as free_cell, First as first_Cell, Further}
use Rattle.grid_book.specs.Cells.{spans, Marked}
use Rattle.grid_book.specs.Grids.{cells_of, rows_of, means, Sound, RowPainted}
use Rattle.grid_book.specs.Made.{Sized}
use Rattle.grid_book.proofs.Painting.{booked_spans, booked_marked, freed_spans, freed_marked, fits_in}
use Rattle.grid_book.proofs.Places.{cells_long, row_whole, row_at, rows_set}

module _ (H links room count : ℕ) (cells : List Cell) (sound : Sound H links room count cells) (link : ℕ) (there : Within 1 links link) where
  -- the bookings of the link are those of its cells
  pub row_known : row (means H links room cells) link ≡ spans (cells_of H (link - 1) cells)
  row_known = row_at H links cells (link - 1) (omega (arith, there.least, there.most))

  pub row_marked : Marked H (cells_of H (link - 1) cells)
  row_marked = sound.marked (link - 1) (omega (arith, there.least, there.most))

  pub place_low : link - 1 < link_max
  place_low = omega (arith, there.most, sound.sized.linked.most)

  -- other cells for the link
  rerowed : (r : List Span) (after : List Cell) (n : ℕ) → length after ≡ length cells → ((other : ℕ) → (other ≡ link - 1 → ⊥) → cells_of H other after ≡ cells_of H other cells) → spans (cells_of H (link - 1) after) ≡ r → Marked H (cells_of H (link - 1) after)
      → Formed (with_row (means H links room cells) link r) → n ≡ total (with_row (means H links room cells) link r).rows → (means H links room after ≡ with_row (means H links room cells) link r) × Sound H links room n after
  rerowed r after n long elsewhere here marked formed counted =
      let low : link - 1 < links = omega (arith, there.least, there.most) in
      let is : means H links room after ≡ with_row (means H links room cells) link r = ap (λ rs. record { cycle = H; links = links; room = room; rows = rs }) (rows_set H links (link - 1) cells after low elsewhere ∙ ap (set (rows_of H links cells) (link - 1)) here) in (
        is,
        record {
          sized = subst (λ k. Sized k H links room) (sym long) sound.sized;
          formed = subst Formed (sym is) formed;
          counted = counted ∙ ap (λ m. total m.rows) (sym is);
          marked = λ place l. ⊎_elim (λ e. subst (λ k. Marked H (cells_of H k after)) (sym e) marked) (λ other. subst (Marked H) (sym (elsewhere place other)) (sound.marked place l)) (cases_eq place (link - 1));
        },
      )

-- a booking that is not refused
module _ (H links room count : ℕ) (cells : List Cell) (sound : Sound H links room count cells) (link start : ℕ) (h : Holding) (none : First (book_rules (means H links room cells) link (span start h.ticks h.flow)) None) where
  pub book_room : count < room
  book_room = ⊎_elim (λ l. omega (arith, sound.counted)) (λ full. absurd ((none_hold (book_rules (means H links room cells) link (span start h.ticks h.flow)) none).1.1.1.0 full)) (cases_lt (total (rows_of H links cells)) room)

  -- its cells add it
  pub added : (after : List Cell) → RowPainted H (link - 1) start h.ticks (first_Cell h) Further cells after
      → (means H links room after ≡ with_row (means H links room cells) link (insert (span start h.ticks h.flow) (row (means H links room cells) link))) × Sound H links room (count + 1) after
  added after p =
      let m = means H links room cells in
      let s = span start h.ticks h.flow in
      let (no-link, (no-fit, (clash, rest))) = none_hold (book_rules m link s) none in
      let there = within_or_not 1 links link no-link in
      let fits = fits_or_not H s no-fit in
      let known = row_known H links room count cells sound link there in
      let clear = subst (λ r. Clashes H r s → ⊥) known clash in
      let long = cells_long H (link - 1) cells (row_whole H links link cells there (sound.sized.enough (omega (arith, book_room)))) in
      let before = row_marked H links room count cells sound link there in
      let here = booked_spans H start h (cells_of H (link - 1) cells) (cells_of H (link - 1) after) fits.start fits.ticks.least long before p.here clear in
      let marked = booked_marked H start h (cells_of H (link - 1) cells) (cells_of H (link - 1) after) fits.start fits.ticks.least long before p.here clear in
      let (formed, more) = stays_formed.0 m link s (with_row m link (insert s (row m link))) sound.formed (none, refl) in
      rerowed H links room count cells sound link there (insert s (row m link)) after (count + 1) p.long p.elsewhere (here ∙ ap (insert s) (sym known)) marked formed (omega (arith, sound.counted))

-- a booking that stands
module _ (H links room count : ℕ) (cells : List Cell) (sound : Sound H links room count cells) (link start : ℕ) (h : Holding) (told : TellsHolder (means H links room cells) link start (Ok (Some h))) where
  -- it can be released
  pub release_known : First (release_rules (means H links room cells) link start) None
  release_known = first_passed (tick_rules (means H links room cells) link start) (record { when = NoneBeginsAt (row (means H links room cells) link) start; give = NoneBegins } ∷ []) None told.0 (inr (λ begins. in_begins (row (means H links room cells) link) (span start h.ticks h.flow) told.1 begins, refl))

  left : Formed (with_row (means H links room cells) link (without start (row (means H links room cells) link))) × (total (with_row (means H links room cells) link (without start (row (means H links room cells) link))).rows + 1 ≡ total (rows_of H links cells))
  left = stays_formed.1 (means H links room cells) link start h.ticks (with_row (means H links room cells) link (without start (row (means H links room cells) link))) sound.formed (release_known, (h.flow, told.1), refl)

  -- so there is one, and room for it
  pub release_some : 1 ≤ count
  release_some = omega (arith, left.1, sound.counted)

  pub release_room : 0 < room
  release_room = omega (arith, left.1, sound.formed.roomy)

  pub release_fits : Fits H (span start h.ticks h.flow)
  release_fits = fits_in H (row (means H links room cells) link) (span start h.ticks h.flow) (orderly_row (means H links room cells) link sound.formed) told.1

  -- free cells over it take it away
  pub removed : (after : List Cell) → RowPainted H (link - 1) start h.ticks free_cell free_cell cells after
      → (means H links room after ≡ with_row (means H links room cells) link (without start (row (means H links room cells) link))) × Sound H links room (count - 1) after
  removed after p =
      let m = means H links room cells in
      let there = within_or_not 1 links link (none_hold (release_rules m link start) release_known).0 in
      let known = row_known H links room count cells sound link there in
      let orderly = subst (Orderly H) known (orderly_row m link sound.formed) in
      let inside = subst (In (span start h.ticks h.flow)) known told.1 in
      let long = cells_long H (link - 1) cells (row_whole H links link cells there (sound.sized.enough release_room)) in
      let before = row_marked H links room count cells sound link there in
      let here = freed_spans H start h (cells_of H (link - 1) cells) (cells_of H (link - 1) after) release_fits.start release_fits.ticks.least long before p.here orderly inside in
      let marked = freed_marked H start h (cells_of H (link - 1) cells) (cells_of H (link - 1) after) release_fits.start release_fits.ticks.least long before p.here orderly inside in
      rerowed H links room count cells sound link there (without start (row m link)) after (count - 1) p.long p.elsewhere (here ∙ ap (without start) (sym known)) marked left.0 (omega (arith, left.1, sound.counted))
