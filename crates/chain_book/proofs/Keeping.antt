-- What the chains' answers say of the book. Assumes nothing.
use Rattle.std.proofs.Common.{◌≡◌, ℕ, zero, suc, ◌+◌, ◌-◌, ◌<◌, ◌≤◌, min, cond, eqb, ltb, List, [], ◌∷◌, map, length, get_or, take, drop, set, replicate, Some, None, Ok, Err, Option, Result, MatchOption, MatchResult, IsSomeAnd, IsOkAnd, IsErrAnd, sym, refl, ap, ◌∙◌, subst, inl, inr, ⊎_elim, arith, length-set}
use Rattle.std.specs.Result.{result_ok}
use Rattle.book.specs.Empty.{empty_formed}
use Rattle.book.proofs.Rows.{own_start, covered}
use Rattle.book.proofs.Whole.{stays_formed, orderly_row}
use Rattle.book.specs.Bare.{InRange, empty}
use Rattle.book.specs.Calls.{Clashes, tick_rules, TellsHolder, Books, Releases}
use Rattle.book.specs.Meanings.{Formed, row, total, with_row}
use Rattle.book.specs.Spans.{Span, span, Covers, Fits, In, NoneBeginsAt, Orderly, insert, without}
use Rattle.book.specs.declared.extent.Extent.{Extent}
use Rattle.book.specs.declared.refusal.BookRefusal.{BookRefusal}
use Rattle.book.specs.declared.refusal.Holding.{Holding}
use Rattle.book.specs.declared.refusal.BookRefusal.TheVariants.{Full, NoneBegins}
use Rattle.chains.specs.Calls.{Content, no_records, with_row as chains_with, find_rules, insert_rules, Finds, Inserts, Removes}
use Rattle.chains.specs.Records.{FirstWith, Lacks, insert as insert_record, without as without_record, total as records_in, row as chain_row}
use Rattle.chains.specs.declared.slot.ChainRefusal.{ChainRefusal}
use Rattle.limits.proofs.Once.{none_hold}
use Rattle.limits.specs.Ranges.{Within, link_max, room_max}
use Rattle.limits.specs.Refusals.{First}
use Rattle.std.proofs.lemmas.List.{get_or-take, get_or-map, length-map, drop-set-lt, map-set}
use Rattle.std.proofs.lemmas.Bool.{cases_Bool, cond-true, cond-false}
use Rattle.chain_book.specs.Bookings.{to_span, spans_of}
use Rattle.chain_book.specs.Books.{rows_of, means, Sound}
use Rattle.chain_book.specs.Made.{Made}
use Rattle.chain_book.specs.declared.booking.Booking.{Booking}
use Rattle.chain_book.proofs.Scanning.{each_fits}

-- an answer, by what is told of its value
some_is : {X : Type 0} (o : Option X) (P : X → Type 0) (y : X) → IsSomeAnd o P → ((x : X) → P x → x ≡ y) → o ≡ Some y
some_is (Some x) P y told same = ap (λ z. Some z) (same x told)
some_is None P y told same = absurd told

ok_is : {X E : Type 0} (r : Result X E) (P : X → Type 0) (y : X) → IsOkAnd r P → ((x : X) → P x → x ≡ y) → r ≡ Ok y
ok_is (Ok x) P y told same = ap (λ z. Ok z) (same x told)
ok_is (Err e) P y told same = absurd told

err_is : {X E : Type 0} (r : Result X E) (P : E → Type 0) (d : E) → IsErrAnd r P → ((e : E) → P e → e ≡ d) → r ≡ Err d
err_is (Ok x) P d told same = absurd told
err_is (Err e) P d told same = ap (λ z. Err z) (same e told)

-- the key of a booking record
abbrev pub start_of : Booking → ℕ
start_of b = b.start

-- the bookings of a link are those of its chain
pub row_is : (cycle links link : ℕ) (m : Content Booking) → Within 1 links link → links ≤ length m.rows → row (means cycle links m) link ≡ spans_of (chain_row m.rows link)
row_is cycle links zero m w le = absurd (omega (arith, w.least))
row_is cycle links (suc k) m w le =
    let same : suc k - 1 ≡ k = omega arith in
    ap (λ j. get_or (rows_of links m.rows) j []) same ∙ get_or-take links (map spans_of m.rows) k [] (omega (arith, w.most)) ∙ get_or-map spans_of m.rows k [] [] (omega (arith, w.most))

take_set : {A : Type 0} (n : ℕ) (xs : List A) (i : ℕ) (x : A) → i < n → take n (set xs i x) ≡ set (take n xs) i x
take_set zero xs i x l = absurd (omega arith)
take_set (suc n) [] i x l = refl
take_set (suc n) (y ∷ ys) zero x l = refl
take_set (suc n) (y ∷ ys) (suc i) x l = ap (λ zs. y ∷ zs) (take_set n ys i x (omega arith))

-- the bookings of all links, where one chain has other records
rows_set : (links i : ℕ) (rows : List (List Booking)) (bs : List Booking) → i < links → rows_of links (set rows i bs) ≡ set (rows_of links rows) i (spans_of bs)
rows_set links i rows bs l = ap (take links) (map-set spans_of rows i bs) ∙ take_set links (map spans_of rows) i (spans_of bs) l

spans_cond : (b : Booking) (x : Booking) (xs ys : List Booking) → spans_of (cond (ltb b.start x.start) xs ys) ≡ cond (ltb b.start x.start) (spans_of xs) (spans_of ys)
spans_cond b x xs ys =
    ⊎_elim
    (λ e. ap spans_of (cond-true (ltb b.start x.start) xs ys e) ∙ sym (cond-true (ltb b.start x.start) (spans_of xs) (spans_of ys) e))
    (λ e. ap spans_of (cond-false (ltb b.start x.start) xs ys e) ∙ sym (cond-false (ltb b.start x.start) (spans_of xs) (spans_of ys) e))
    (cases_Bool (ltb b.start x.start))

-- one booking more, one fewer
spans_insert : (b : Booking) (bs : List Booking) → spans_of (insert_record start_of b bs) ≡ insert (to_span b) (spans_of bs)
spans_insert b [] = refl
spans_insert b (x ∷ xs) = spans_cond b x (b ∷ (x ∷ xs)) (x ∷ insert_record start_of b xs) ∙ ap (λ ss. cond (ltb b.start x.start) (to_span b ∷ (to_span x ∷ spans_of xs)) (to_span x ∷ ss)) (spans_insert b xs)

spans_without : (k : ℕ) (bs : List Booking) → spans_of (without_record start_of k bs) ≡ without k (spans_of bs)
spans_without k [] = refl
spans_without k (x ∷ xs) =
    ⊎_elim
    (λ e. ap spans_of (cond-true (eqb x.start k) xs (x ∷ without_record start_of k xs) e) ∙ sym (cond-true (eqb x.start k) (spans_of xs) (to_span x ∷ without k (spans_of xs)) e))
    (λ e. ap spans_of (cond-false (eqb x.start k) xs (x ∷ without_record start_of k xs) e) ∙ ap (λ ss. to_span x ∷ ss) (spans_without k xs) ∙ sym (cond-false (eqb x.start k) (spans_of xs) (to_span x ∷ without k (spans_of xs)) e))
    (cases_Bool (eqb x.start k))

-- the record that is found is the booking that begins there
found_in : (k : ℕ) (bs : List Booking) (b : Booking) → FirstWith start_of k bs b → In (span k b.ticks b.flow) (spans_of bs)
found_in k [] b found = found
found_in k (x ∷ xs) b (inl here) = inl (λ i. record { start = (sym here.0) i; ticks = (here.1 i).ticks; flow = (here.1 i).flow })
found_in k (x ∷ xs) b (inr there) = inr (found_in k xs b there.1)

-- a key that is not there is the start of no booking
none_begin : (k : ℕ) (bs : List Booking) → Lacks start_of k bs → NoneBeginsAt (spans_of bs) k
none_begin k [] lacks = tt
none_begin k (x ∷ xs) lacks = (lacks.0, none_begin k xs lacks.1)

key_lacks : (k : ℕ) (bs : List Booking) → NoneBeginsAt (spans_of bs) k → Lacks start_of k bs
key_lacks k [] none = tt
key_lacks k (x ∷ xs) none = (none.0, key_lacks k xs none.1)

-- a booking that clashes with none begins where none does
clear_lacks : (H : ℕ) (bs : List Booking) (b : Booking) → Orderly H (spans_of bs) → Fits H (to_span b) → (Clashes H (spans_of bs) (to_span b) → ⊥) → Lacks start_of b.start bs
clear_lacks H bs b o fits clear = key_lacks b.start bs (none_at (spans_of bs) o (λ s here e. clear (b.start, fits.start, own_start H (to_span b) fits, λ free. covered H (spans_of bs) s b.start here (subst (Covers H s) e (own_start H s (each_fits H (spans_of bs) s o here))) free)))
  where
    none_at : (ss : List Span) → Orderly H ss → ((s : Span) → In s ss → s.start ≡ b.start → ⊥) → NoneBeginsAt ss b.start
    none_at [] o none = tt
    none_at (s ∷ ss) o none = (none s (inl refl), none_at ss o.3 (λ x h. none x (inr h)))

-- as many records as bookings
total_split : (links : ℕ) (rows : List (List Booking)) → records_in rows ≡ total (rows_of links rows) + records_in (drop links rows)
total_split zero rows = omega arith
total_split (suc n) [] = refl
total_split (suc n) (r ∷ rs) = omega (arith, total_split n rs, length-map r to_span)

pub count_is : (cycle links : ℕ) (m : Content Booking) → Sound cycle links m → records_in m.rows ≡ total (means cycle links m).rows
count_is cycle links m s = omega (arith, total_split links m.rows, s.elsewhere)

module _ (cycle links : ℕ) (m : Content Booking) (s : Sound cycle links m) where
  enough : links ≤ length m.rows
  enough = omega (arith, s.many, s.ranged.linked.most)

  -- a link has a chain
  chained : (link : ℕ) → Within 1 links link → (Within 1 (length m.rows) link → ⊥) → ⊥
  chained link w out = out (record { least = w.least; most = omega (arith, w.most, enough) })

  pub link_row : (link : ℕ) → Within 1 links link → row (means cycle links m) link ≡ spans_of (chain_row m.rows link)
  link_row link w = row_is cycle links link m w enough

  pub link_orderly : (link : ℕ) → Within 1 links link → Orderly cycle (spans_of (chain_row m.rows link))
  link_orderly link w = subst (Orderly cycle) (link_row link w) (orderly_row (means cycle links m) link s.formed)

  -- the holder question
  pub holds : (link tick : ℕ) (b : Booking) → Within 1 links link → First (tick_rules (means cycle links m) link tick) None → Finds start_of m link tick (Ok b) → TellsHolder (means cycle links m) link tick (Ok (Some (record { ticks = b.ticks; flow = b.flow })))
  holds link tick b w none finds = (none, subst (In (span tick b.ticks b.flow)) (sym (link_row link w)) (found_in tick (chain_row m.rows link) b finds.1))

  absent_there : (link tick : ℕ) (e : ChainRefusal) → Within 1 links link → First (find_rules start_of m link tick) (Some e) → NoneBeginsAt (row (means cycle links m) link) tick
  absent_there link tick e w (inl a) = absurd (chained link w a.0)
  absent_there link tick e w (inr (a, inl b)) = subst (λ ss. NoneBeginsAt ss tick) (sym (link_row link w)) (none_begin tick (chain_row m.rows link) b.0)
  absent_there link tick e w (inr (a, inr (b, none_left))) = absurd (cc)

  pub holds_none : (link tick : ℕ) (e : ChainRefusal) → Within 1 links link → First (tick_rules (means cycle links m) link tick) None → Finds start_of m link tick (Err e) → TellsHolder (means cycle links m) link tick (Ok None)
  holds_none link tick e w none finds = (none, absent_there link tick e w finds)

  -- the book with other records in one chain
  means_with : (link : ℕ) (bs : List Booking) → Within 1 links link → means cycle links (chains_with m link bs) ≡ with_row (means cycle links m) link (spans_of bs)
  means_with link bs w = ap (λ rs. record { cycle = cycle; links = links; room = m.room; rows = rs }) (rows_set links (link - 1) m.rows bs (omega (arith, w.least, w.most)))

  sound_with : (link : ℕ) (bs : List Booking) (after : Content Booking) → Within 1 links link → after ≡ chains_with m link bs → Formed (means cycle links after) → Sound cycle links after
  sound_with link bs after w is formed =
      let same : length after.rows ≡ length m.rows = ap (λ a. length a.rows) is ∙ length-set m.rows (link - 1) bs in
      let room : after.room ≡ m.room = ap (λ a. a.room) is in
      record {
        ranged = s.ranged;
        many = same ∙ s.many;
        limited = omega (arith, room, s.limited);
        formed = formed;
        elsewhere = ap (λ a. records_in (drop links a.rows)) is ∙ ap records_in (drop-set-lt links m.rows (link - 1) bs (omega (arith, w.least, w.most))) ∙ s.elsewhere;
      }

  -- a booking within its ranges
  module _ (link : ℕ) (b : Booking) (w : Within 1 links link) (fits : Fits cycle (to_span b)) (clear : Clashes cycle (row (means cycle links m) link) (to_span b) → ⊥) where
    clear_of : Clashes cycle (spans_of (chain_row m.rows link)) (to_span b) → ⊥
    clear_of c = clear (subst (λ ss. Clashes cycle ss (to_span b)) (sym (link_row link w)) c)

    -- booking
    pub books : (after : Content Booking) → Inserts start_of m link b (Ok tt) after → Books (means cycle links m) link (to_span b) (Ok tt) (means cycle links after)
    books after i =
        let (there, (lacks, (room, end))) = none_hold (insert_rules start_of m link b.start) i.0 in
        let roomy : m.room ≤ total (rows_of links m.rows) → ⊥ = λ full. room (omega (arith, count_is cycle links m s)) in (
          inr (λ out. out w, inr (λ misfit. misfit fits, inr (clear, inr (roomy, refl)))),
          ap (means cycle links) i.1 ∙ means_with link _ w ∙ ap (with_row (means cycle links m) link) (spans_insert b (chain_row m.rows link) ∙ ap (insert (to_span b)) (sym (link_row link w))),
        )

    pub books_sound : (after : Content Booking) → Inserts start_of m link b (Ok tt) after → Sound cycle links after
    books_sound after i = sound_with link _ after w i.1 (stays_formed.0 (means cycle links m) link (to_span b) (means cycle links after) s.formed (books after i)).0

    full_there : (e : ChainRefusal) → First (insert_rules start_of m link b.start) (Some e) → m.room ≤ records_in m.rows
    full_there e (inl a) = absurd (chained link w a.0)
    full_there e (inr (a, inl p)) = absurd (p.0 (clear_lacks cycle (chain_row m.rows link) b (link_orderly link w) fits clear_of))
    full_there e (inr (a, inr (p, inl full))) = full.0
    full_there e (inr (a, inr (p, inr (q, none_left)))) = absurd (cc)

    pub books_full : (e : ChainRefusal) (after : Content Booking) → Inserts start_of m link b (Err e) after → Books (means cycle links m) link (to_span b) (Err Full) (means cycle links after)
    books_full e after i =
        let full : m.room ≤ total (rows_of links m.rows) = omega (arith, full_there e i.0, count_is cycle links m s) in (
          inr (λ out. out w, inr (λ misfit. misfit fits, inr (clear, inl (full, refl)))),
          ap (means cycle links) i.1,
        )

  module _ (link tick : ℕ) (w : Within 1 links link) (inside : tick < cycle) where
    rules : (Within 1 links link → ⊥) → ⊥
    rules out = out w

    in_cycle : cycle ≤ tick → ⊥
    in_cycle past = omega arith

    -- release
    pub releases : (b : Booking) (after : Content Booking) → Removes start_of m link tick (Ok b) after → Releases (means cycle links m) link tick (Ok b.ticks) (means cycle links after)
    releases b after r =
        let (c, (lacks, end)) = none_hold (find_rules start_of m link tick) r.0 in
        let some : NoneBeginsAt (row (means cycle links m) link) tick → ⊥ = λ nb. lacks (key_lacks tick (chain_row m.rows link) (subst (λ ss. NoneBeginsAt ss tick) (link_row link w) nb)) in (
          inr (rules, inr (in_cycle, inr (some, refl))),
          (b.flow, subst (In (span tick b.ticks b.flow)) (sym (link_row link w)) (found_in tick (chain_row m.rows link) b r.1)),
          ap (means cycle links) r.2 ∙ means_with link _ w ∙ ap (with_row (means cycle links m) link) (spans_without tick (chain_row m.rows link) ∙ ap (without tick) (sym (link_row link w))),
        )

    pub releases_sound : (b : Booking) (after : Content Booking) → Removes start_of m link tick (Ok b) after → Sound cycle links after
    releases_sound b after r = sound_with link _ after w r.2 (stays_formed.1 (means cycle links m) link tick b.ticks (means cycle links after) s.formed (releases b after r)).0

    pub releases_none : (e : ChainRefusal) (after : Content Booking) → Removes start_of m link tick (Err e) after → Releases (means cycle links m) link tick (Err NoneBegins) (means cycle links after)
    releases_none e after r = (inr (rules, inr (in_cycle, inl (absent_there link tick e w r.0, refl))), ap (means cycle links) r.1)

-- what the chains answer, as the book answers it
module _ (cycle links : ℕ) (m : Content Booking) (s : Sound cycle links m) (link : ℕ) (w : Within 1 links link) where
  pub tells_holder : (tick : ℕ) (o : Result Booking ChainRefusal) (f : Option Booking) (h : Option Holding) (Told : Booking → Holding → Type 0)
      → First (tick_rules (means cycle links m) link tick) None → Finds start_of m link tick o → f ≡ result_ok o → MatchOption f (h ≡ None) (λ b. IsSomeAnd h (Told b)) → ((b : Booking) (y : Holding) → Told b y → y ≡ record { ticks = b.ticks; flow = b.flow })
      → TellsHolder (means cycle links m) link tick (Ok h)
  tells_holder tick (Ok b) f h Told none finds is told same =
      let z = subst (λ x. MatchOption x (h ≡ None) (λ b. IsSomeAnd h (Told b))) is told in
      subst (λ x. TellsHolder (means cycle links m) link tick (Ok x)) (sym (some_is h (Told b) (record { ticks = b.ticks; flow = b.flow }) z (same b))) (holds cycle links m s link tick b w none finds)
  tells_holder tick (Err e) f h Told none finds is told same =
      let z : h ≡ None = subst (λ x. MatchOption x (h ≡ None) (λ b. IsSomeAnd h (Told b))) is told in
      subst (λ x. TellsHolder (means cycle links m) link tick (Ok x)) (sym z) (holds_none cycle links m s link tick e w none finds)

  module _ (b : Booking) (fits : Fits cycle (to_span b)) (clear : Clashes cycle (row (means cycle links m) link) (to_span b) → ⊥) (after : Content Booking) where
    pub inserts_sound : (o : Result (Unit {0}) ChainRefusal) → Inserts start_of m link b o after → Sound cycle links after
    inserts_sound (Ok u) i = books_sound cycle links m s link b w fits clear after i
    inserts_sound (Err e) i = subst (Sound cycle links) (sym i.1) s

    pub tells_booked : (o : Result (Unit {0}) ChainRefusal) (r : Result (Unit {0}) BookRefusal) (Told : ChainRefusal → BookRefusal → Type 0)
        → Inserts start_of m link b o after → MatchResult o (λ x. r ≡ Ok x) (λ e. IsErrAnd r (Told e)) → ((e : ChainRefusal) (d : BookRefusal) → Told e d → d ≡ Full)
        → Books (means cycle links m) link (to_span b) r (means cycle links after)
    tells_booked (Ok u) r Told i told same = subst (λ x. Books (means cycle links m) link (to_span b) x (means cycle links after)) (sym told) (books cycle links m s link b w fits clear after i)
    tells_booked (Err e) r Told i told same = subst (λ x. Books (means cycle links m) link (to_span b) x (means cycle links after)) (sym (err_is r (Told e) Full told (same e))) (books_full cycle links m s link b w fits clear e after i)

  module _ (tick : ℕ) (inside : tick < cycle) (after : Content Booking) where
    pub removes_sound : (o : Result Booking ChainRefusal) → Removes start_of m link tick o after → Sound cycle links after
    removes_sound (Ok b) r = releases_sound cycle links m s link tick w inside b after r
    removes_sound (Err e) r = subst (Sound cycle links) (sym r.1) s

    pub tells_released : (o : Result Booking ChainRefusal) (n : Result ℕ ChainRefusal) (r : Result ℕ BookRefusal) (Long : Booking → ℕ → Type 0) (Told : ChainRefusal → BookRefusal → Type 0)
        → Removes start_of m link tick o after → MatchResult o (λ b. IsOkAnd n (Long b)) (λ e. n ≡ Err e) → MatchResult n (λ x. r ≡ Ok x) (λ e. IsErrAnd r (Told e))
        → ((b : Booking) (x : ℕ) → Long b x → x ≡ b.ticks) → ((e : ChainRefusal) (d : BookRefusal) → Told e d → d ≡ NoneBegins)
        → Releases (means cycle links m) link tick r (means cycle links after)
    tells_released (Ok b) n r Long Told i long told same none =
        let is = ok_is n (Long b) b.ticks long (same b) in
        let z : r ≡ Ok b.ticks = subst (λ x. MatchResult x (λ y. r ≡ Ok y) (λ e. IsErrAnd r (Told e))) is told in
        subst (λ x. Releases (means cycle links m) link tick x (means cycle links after)) (sym z) (releases cycle links m s link tick w inside b after i)
    tells_released (Err e) n r Long Told i long told same none =
        let z = subst (λ x. MatchResult x (λ y. r ≡ Ok y) (λ e. IsErrAnd r (Told e))) long told in
        subst (λ x. Releases (means cycle links m) link tick x (means cycle links after)) (sym (err_is r (Told e) NoneBegins z (none e))) (releases_none cycle links m s link tick w inside e after i)

-- a newly made book is sound
rows_empty : (n links : ℕ) → links ≤ n → rows_of links (replicate n []) ≡ replicate links []
rows_empty n zero l = refl
rows_empty zero (suc links) l = absurd (omega arith)
rows_empty (suc n) (suc links) l = ap (λ rs. [] ∷ rs) (rows_empty n links (omega arith))

none_elsewhere : (n links : ℕ) → records_in {R = Booking} (drop links (replicate n [])) ≡ 0
none_elsewhere zero zero = refl
none_elsewhere zero (suc links) = refl
none_elsewhere (suc n) zero = omega (arith, none_elsewhere n zero)
none_elsewhere (suc n) (suc links) = none_elsewhere n links

pub empty_means : (cycle links records : ℕ) → links ≤ link_max → means cycle links (no_records link_max records) ≡ empty cycle links (records - 1)
empty_means cycle links records l = ap (λ rs. record { cycle = cycle; links = links; room = records - 1; rows = rs }) (rows_empty link_max links l)

pub empty_sound : (cycle links records : ℕ) → InRange cycle links → records - 1 ≤ room_max → Sound cycle links (no_records link_max records)
empty_sound cycle links records r l = record {
  ranged = r;
  many = refl;
  limited = l;
  formed = subst Formed (sym (empty_means cycle links records r.linked.most)) (empty_formed cycle links (records - 1));
  elsewhere = none_elsewhere link_max links;
}

-- what a book of so many records is made for, and how many of them it takes at most
pub record Granted (records cycle links : ℕ) (made : Extent × ℕ) : Type 0 where
  pub ranged : InRange made.0.cycle made.0.links
  pub limited : min records made.1 - 1 ≤ room_max
  pub asked : Made records cycle links (empty made.0.cycle made.0.links (min records made.1 - 1))

pub granted_some : (records cycle links : ℕ) (e : Extent) → InRange cycle links × (e ≡ record { cycle = cycle; links = links }) → Granted records cycle links (e, room_max + 1)
granted_some records cycle links e (ranged, is) =
    subst (λ x. Granted records cycle links (x, room_max + 1)) (sym is) (record {
      ranged = ranged;
      limited = omega arith;
      asked = record { as_asked = λ _. (let same : min records (room_max + 1) - 1 ≡ min (records - 1) room_max = omega arith in ap (empty cycle links) same); nothing = λ out. absurd (out ranged) };
    })

pub granted_none : (records cycle links : ℕ) → (InRange cycle links → ⊥) → Granted records cycle links (record { cycle = 1; links = 0 }, 0)
granted_none records cycle links out = record {
  ranged = record { cycled = record { least = omega arith; most = omega arith }; linked = record { least = omega arith; most = omega arith } };
  limited = omega arith;
  asked = record { as_asked = λ ranged. absurd (out ranged); nothing = λ _. (let none : min records 0 - 1 ≡ 0 = omega arith in ap (empty 1 0) none) };
}

-- what stands in newly made chains over so many of the records
module _ (records cycle links : ℕ) (made : Extent × ℕ) (g : Granted records cycle links made) (m : Content Booking) (new : m ≡ no_records link_max (min records made.1)) where
  pub granted_sound : Sound made.0.cycle made.0.links m
  granted_sound = subst (Sound made.0.cycle made.0.links) (sym new) (empty_sound made.0.cycle made.0.links (min records made.1) g.ranged g.limited)

  pub granted_made : Made records cycle links (means made.0.cycle made.0.links m)
  granted_made = subst (Made records cycle links) (sym (ap (means made.0.cycle made.0.links) new ∙ empty_means made.0.cycle made.0.links (min records made.1) g.ranged.linked.most)) g.asked
