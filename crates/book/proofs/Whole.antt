-- Whole books: what each call keeps, and that it has one answer. Assumes nothing.
use Rattle.std.proofs.Common.{◌≡◌, ℕ, zero, suc, ◌+◌, ◌-◌, ◌<◌, ◌≤◌, Bool, List, [], ◌∷◌, length, get_or, set, Some, None, Ok, Err, Option, Result, sym, refl, ap, ◌∙◌, subst, ⊎_elim, arith, length-set}
use Rattle.limits.proofs.Once.{first_once, none_hold, within_or_not}
use Rattle.limits.specs.Refusals.{First, Rule}
use Rattle.std.proofs.lemmas.Bool.{cases_lt}
use Rattle.std.proofs.lemmas.Bool.Decides.{same_from_decides}
use Rattle.book.specs.Calls.{tick_rules, book_rules, release_rules, TellsRun, TellsStretch, Holds, TellsHolder, Books, Releases}
use Rattle.book.specs.Laws.{StaysFormed, AnswersAlike, BookLaws}
use Rattle.book.specs.Meanings.{Meaning, row, total, AllOrderly, Formed, with_row}
use Rattle.book.specs.Spans.{Span, Fits, Orderly, insert, without}
use Rattle.book.specs.declared.refusal.BookRefusal.{BookRefusal}
use Rattle.book.specs.declared.refusal.Holding.{Holding}
use Rattle.book.proofs.Rows.{run_is_one, free_throughout, insert_covers_its_own, insert_counts, insert_keeps, release_frees_its_own, release_counts, release_keeps, begins_once, in_begins}

-- other bookings on one link
total_set : (rows : List (List Span)) (i : ℕ) (r : List Span) → i < length rows → total (set rows i r) + length (get_or rows i []) ≡ total rows + length r
total_set [] i r l = absurd (omega arith)
total_set (x ∷ xs) zero r l = omega arith
total_set (x ∷ xs) (suc i) r l = omega (arith, total_set xs i r (omega arith))

orderly_set : (H : ℕ) (rows : List (List Span)) (i : ℕ) (r : List Span) → AllOrderly H rows → Orderly H r → AllOrderly H (set rows i r)
orderly_set H [] i r h o = tt
orderly_set H (x ∷ xs) zero r h o = (o, h.1)
orderly_set H (x ∷ xs) (suc i) r h o = (h.0, orderly_set H xs i r h.1 o)

orderly_at : (H : ℕ) (rows : List (List Span)) (i : ℕ) → AllOrderly H rows → Orderly H (get_or rows i [])
orderly_at H [] i h = tt
orderly_at H (x ∷ xs) zero h = h.0
orderly_at H (x ∷ xs) (suc i) h = orderly_at H xs i h.1

-- the bookings of a link of a book are in order
pub orderly_row : (m : Meaning) (link : ℕ) → Formed m → Orderly m.cycle (row m link)
orderly_row m link f = orderly_at m.cycle m.rows (link - 1) f.orderly

pub fits_or_not : (H : ℕ) (s : Span) → ((Fits H s → ⊥) → ⊥) → Fits H s
fits_or_not H s both = record {
  start = ⊎_elim (λ h. h) (λ past. absurd (both (λ f. omega (arith, f.start)))) (cases_lt s.start H);
  ticks = within_or_not 1 H s.ticks (λ out. both (λ f. out f.ticks));
  flow = within_or_not 1 48 s.flow (λ out. both (λ f. out f.flow));
}

-- a book with other bookings on one of its links
formed_with : (m : Meaning) (link : ℕ) (r : List Span) → Formed m → Orderly m.cycle r → total (with_row m link r).rows ≤ m.room → Formed (with_row m link r)
formed_with m link r f o few = record {
  linked = length-set m.rows (link - 1) r ∙ f.linked;
  orderly = orderly_set m.cycle m.rows (link - 1) r f.orderly o;
  roomy = few;
}

books_formed : (m : Meaning) (link : ℕ) (s : Span) → Formed m → First (book_rules m link s) None → Formed (with_row m link (insert s (row m link))) × (total (with_row m link (insert s (row m link))).rows ≡ total m.rows + 1)
books_formed m link s f none =
    let (no-link, (no-fit, (no-clash, (not_full, end)))) = none_hold (book_rules m link s) none in
    let there = within_or_not 1 m.links link no-link in
    let place : link - 1 < length m.rows = omega (arith, there.least, there.most, f.linked) in
    let more : total (set m.rows (link - 1) (insert s (row m link))) ≡ total m.rows + 1 = omega (arith, total_set m.rows (link - 1) (insert s (row m link)) place, insert_counts s (row m link)) in
    let few : total m.rows + 1 ≤ m.room = ⊎_elim (λ h. omega arith) (λ full. absurd (not_full full)) (cases_lt (total m.rows) m.room) in
    (formed_with m link _ f (insert_keeps m.cycle s (row m link) (orderly_row m link f) (fits_or_not m.cycle s no-fit) no-clash) (omega arith), more)

releases_formed : (m : Meaning) (link tick : ℕ) → Formed m → First (release_rules m link tick) None → Formed (with_row m link (without tick (row m link))) × (total (with_row m link (without tick (row m link))).rows + 1 ≡ total m.rows)
releases_formed m link tick f none =
    let (no-link, (in_cycle, (some, end))) = none_hold (release_rules m link tick) none in
    let there = within_or_not 1 m.links link no-link in
    let place : link - 1 < length m.rows = omega (arith, there.least, there.most, f.linked) in
    let less : total (set m.rows (link - 1) (without tick (row m link))) + 1 ≡ total m.rows = omega (arith, total_set m.rows (link - 1) (without tick (row m link)) place, release_counts tick (row m link) some) in
    (formed_with m link _ f (release_keeps m.cycle tick (row m link) (orderly_row m link f)) (omega (arith, f.roomy)), less)

pub stays_formed : StaysFormed
stays_formed = (
  λ m link s after f b. subst (λ a. Formed a × (total a.rows ≡ total m.rows + 1)) (sym b.1) (books_formed m link s f b.0),
  λ m link tick n after f b. subst (λ a. Formed a × (total a.rows + 1 ≡ total m.rows)) (sym b.2) (releases_formed m link tick f b.0),
)

-- a call that passes is not refused
not_both : (rules : List (Rule BookRefusal)) (e : BookRefusal) → First rules None → First rules (Some e) → ⊥
not_both rules e a b = let f = first_once rules None (Some e) a b in cc

-- who tells the run tells a stretch
pub tells_stretch : (m : Meaning) (link tick : ℕ) (p : Result (Bool × ℕ) BookRefusal) → TellsRun m link tick p → TellsStretch m link tick p
tells_stretch m link tick (Ok p) t = (t.0, t.1, t.2.stretch)
tells_stretch m link tick (Err e) t = t

run_once : (m : Meaning) (link tick : ℕ) (p q : Result (Bool × ℕ) BookRefusal) → TellsRun m link tick p → TellsRun m link tick q → p ≡ q
run_once m link tick (Ok p) (Ok q) a b = λ i. Ok (same_from_decides p.0 q.0 a.1 b.1 i, run_is_one m.cycle (row m link) tick p.1 q.1 a.2 b.2 i)
run_once m link tick (Ok p) (Err e) a b = absurd (not_both (tick_rules m link tick) e a.0 b)
run_once m link tick (Err e) (Ok q) a b = absurd (not_both (tick_rules m link tick) e b.0 a)
run_once m link tick (Err e) (Err d) a b = let f = first_once (tick_rules m link tick) (Some e) (Some d) a b in cc

holds_once : (H : ℕ) (r : List Span) (tick : ℕ) (p q : Option Holding) → Orderly H r → Holds r tick p → Holds r tick q → p ≡ q
holds_once H r tick (Some g) (Some h) o a b = let same = begins_once H r _ _ o a b refl in λ i. Some (record { ticks = (same i).ticks; flow = (same i).flow })
holds_once H r tick (Some g) None o a b = absurd (in_begins r _ a b)
holds_once H r tick None (Some h) o a b = absurd (in_begins r _ b a)
holds_once H r tick None None o a b = refl

holder_once : (m : Meaning) (link tick : ℕ) (p q : Result (Option Holding) BookRefusal) → Formed m → TellsHolder m link tick p → TellsHolder m link tick q → p ≡ q
holder_once m link tick (Ok p) (Ok q) f a b = ap (λ o. Ok o) (holds_once m.cycle (row m link) tick p q (orderly_row m link f) a.1 b.1)
holder_once m link tick (Ok p) (Err e) f a b = absurd (not_both (tick_rules m link tick) e a.0 b)
holder_once m link tick (Err e) (Ok q) f a b = absurd (not_both (tick_rules m link tick) e b.0 a)
holder_once m link tick (Err e) (Err d) f a b = let g = first_once (tick_rules m link tick) (Some e) (Some d) a b in cc

book_once : (m : Meaning) (link : ℕ) (s : Span) (p q : Result (Unit {0}) BookRefusal) (a b : Meaning) → Books m link s p a → Books m link s q b → (p ≡ q) × (a ≡ b)
book_once m link s (Ok u) (Ok v) a b x y = (refl, x.1 ∙ sym y.1)
book_once m link s (Ok u) (Err e) a b x y = absurd (not_both (book_rules m link s) e x.0 y.0)
book_once m link s (Err e) (Ok v) a b x y = absurd (not_both (book_rules m link s) e y.0 x.0)
book_once m link s (Err e) (Err d) a b x y = let f = first_once (book_rules m link s) (Some e) (Some d) x.0 y.0 in (cc, x.1 ∙ sym y.1)

release_once : (m : Meaning) (link tick : ℕ) (p q : Result ℕ BookRefusal) (a b : Meaning) → Formed m → Releases m link tick p a → Releases m link tick q b → (p ≡ q) × (a ≡ b)
release_once m link tick (Ok n) (Ok k) a b f x y =
    let same = begins_once m.cycle (row m link) _ _ (orderly_row m link f) x.1.1 y.1.1 refl in
    (λ i. Ok (same i).ticks, x.2 ∙ sym y.2)
release_once m link tick (Ok n) (Err e) a b f x y = absurd (not_both (release_rules m link tick) e x.0 y.0)
release_once m link tick (Err e) (Ok k) a b f x y = absurd (not_both (release_rules m link tick) e y.0 x.0)
release_once m link tick (Err e) (Err d) a b f x y = let g = first_once (release_rules m link tick) (Some e) (Some d) x.0 y.0 in (cc, x.1 ∙ sym y.1)

pub answers_alike : AnswersAlike
answers_alike = record { run = run_once; holder = holder_once; book = book_once; release = release_once }

-- all of these
pub book_laws : BookLaws
book_laws = record {
  run_is_one = run_is_one;
  free_throughout = free_throughout;
  insert_covers_its_own = insert_covers_its_own;
  release_frees_its_own = release_frees_its_own;
  stays_formed = stays_formed;
  answers_alike = answers_alike;
}
