-- What a search finds, and what a call makes of all chains. Assumes nothing.
use Rattle.std.proofs.Common.{◌≡◌, ℕ, zero, suc, ◌+◌, ◌-◌, ◌<◌, ◌≤◌, Bool, true, false, eqb, ltb, not, List, [], ◌∷◌, ◌++◌, map, length, get_or, set, Some, None, Ok, Err, Option, Result, is_some, ok_or, sym, refl, ap, ◌∙◌, subst, inl, inr, ⊎_elim, arith, length-set}
use Rattle.limits.specs.Ranges.{Within}
use Rattle.limits.specs.Refusals.{First}
use Rattle.limits.proofs.Once.{none_hold}
use Rattle.std.proofs.lemmas.List.{append-nil, length-append, length-map, get_or-map}
use Rattle.std.proofs.lemmas.Bool.{cases_eq, cases_Bool, eqb-true, eqb-false, ltb-true, ltb-false}
use Rattle.chains.specs.Boards.{slots_of, stored, Kept, Seeks, Seats, Hung, Unhung, Rewritten, Walks}
use Rattle.chains.specs.Calls.{Content, with_row, find_rules, insert_rules, Inserts, Removes, Replaces}
use Rattle.chains.specs.Places.{nexts, values, places, records, rows_of, Trail, Ends, Sound}
use Rattle.chains.specs.Records.{In, Lacks, FirstWith, insert, without, replace, total, row}
use Rattle.chains.specs.Steps.{Last, relinked, Passed, Stopped, UpTo, Other, Located, Found, FindsPlace}
use Rattle.chains.specs.declared.board.Board.{Board}
use Rattle.chains.specs.declared.slot.ChainRefusal.{ChainRefusal}
use Rattle.chains.specs.declared.slot.ChainRefusal.TheVariants.{Absent}
use Rattle.chains.specs.declared.slot.Slot.{Slot}
use Rattle.chains.specs.declared.walk.Walk.{Walk}
use Rattle.chains.proofs.Lists.{fronted_at, item_at, records_append, records_count, insert_at, without_at, replace_at, first_at, first_there}
use Rattle.chains.proofs.Moves.{total_set, total_covers}
use Rattle.chains.proofs.Searches.{starts, ended, records_from}
use Rattle.chains.proofs.States.{Spot, sound_in, rows_in, sound_out, rows_out, rows_changed, length_relinked, length_retopped, last_in}
use Rattle.chains.proofs.Trails.{in_range, in_before, in_after}

-- the records of a chain that is there
pub row_is : {R : Type 0} (hs : List ℕ) (slots : List (Slot R)) (c : ℕ) → Within 1 (length hs) c → row (rows_of hs slots) c ≡ records (values slots) (places (nexts slots) (get_or hs (c - 1) 0))
row_is hs slots zero w = absurd (omega (arith, w.least))
row_is hs slots (suc k) w =
    let same : suc k - 1 ≡ k = omega arith in
    get_or-map (λ p. records (values slots) (places (nexts slots) p)) hs k 0 [] (omega (arith, w.most)) ∙ ap (λ j. records (values slots) (places (nexts slots) (get_or hs j 0))) (sym same)

pub row_at : {R : Type 0} (rows : List (List R)) (c : ℕ) → 1 ≤ c → row rows c ≡ get_or rows (c - 1) []
row_at rows zero l = absurd (omega arith)
row_at rows (suc k) l = let same : suc k - 1 ≡ k = omega arith in ap (λ j. get_or rows j []) (sym same)

-- a chain that is not there has no records
pub outside : {R : Type 0} (hs : List ℕ) (slots : List (Slot R)) (c : ℕ) → (Within 1 (length hs) c → ⊥) → Within 1 (length (rows_of hs slots)) c → ⊥
outside hs slots c out w = out (record { least = w.least; most = omega (arith, w.most, length-map hs (λ p. records (values slots) (places (nexts slots) p))) })

pub inside : {R : Type 0} (hs : List ℕ) (slots : List (Slot R)) (c : ℕ) → Within 1 (length hs) c → (Within 1 (length (rows_of hs slots)) c → ⊥) → ⊥
inside hs slots c w out = out (record { least = w.least; most = omega (arith, w.most, length-map hs (λ p. records (values slots) (places (nexts slots) p))) })

passed_lacks : {R : Type 0} (key : R → ℕ) (k : ℕ) (rs : List R) → Passed (Other k) key rs → Lacks key k rs
passed_lacks key k [] p = tt
passed_lacks key k (r ∷ rs) p = (p.0, passed_lacks key k rs p.1)

passed_low : {R : Type 0} (key : R → ℕ) (k : ℕ) (rs : List R) → Passed (UpTo k) key rs → (x : R) → In x rs → key x ≤ k
passed_low key k [] p x here = absurd here
passed_low key k (r ∷ rs) p x (inl e) = omega (arith, p.0, ap key e)
passed_low key k (r ∷ rs) p x (inr there) = passed_low key k rs p.1 x there

stopped_high : {R : Type 0} (key : R → ℕ) (k : ℕ) (rs : List R) → Stopped (UpTo k) key rs → (y : R) (zs : List R) → rs ≡ y ∷ zs → k < key y
stopped_high key k [] s y zs e = absurd (let n = ap length e in omega arith)
stopped_high key k (r ∷ rs) s y zs e = let f : r ≡ y = cc in subst (λ z. k < key z) f s

-- what the two tests of a key answer
pub is_up_to : (k n : ℕ) (b : Bool) → b ≡ not (ltb k n) → UpTo k n b
is_up_to k n true e = ⊎_elim (λ above. absurd (cc)) (λ low. ltb-false k n low) (cases_Bool (ltb k n))
is_up_to k n false e = ⊎_elim (λ above. ltb-true k n above) (λ low. absurd (cc)) (cases_Bool (ltb k n))

pub is_other : (k n : ℕ) (b : Bool) → b ≡ not (eqb n k) → Other k n b
is_other k n true e = ⊎_elim (λ same. absurd (cc)) (λ apart. eqb-false n k apart) (cases_Bool (eqb n k))
is_other k n false e = ⊎_elim (λ same. eqb-true n k same) (λ apart. absurd (cc)) (cases_Bool (eqb n k))

-- a lookup by what another test answers alike
passed_as : {R : Type 0} (one other : ℕ → Bool → Type 0) (key : R → ℕ) (rs : List R) → ((n : ℕ) (b : Bool) → one n b → other n b) → Passed one key rs → Passed other key rs
passed_as one other key [] same p = tt
passed_as one other key (r ∷ rs) same p = (same (key r) true p.0, passed_as one other key rs same p.1)

stopped_as : {R : Type 0} (one other : ℕ → Bool → Type 0) (key : R → ℕ) (rs : List R) → ((n : ℕ) (b : Bool) → one n b → other n b) → Stopped one key rs → Stopped other key rs
stopped_as one other key [] same s = tt
stopped_as one other key (r ∷ rs) same s = same (key r) false s

pub located_as : {R : Type 0} {one other : ℕ → Bool → Type 0} {key : R → ℕ} {nx : List ℕ} {vs : List R} {p at next : ℕ} → ((n : ℕ) (b : Bool) → one n b → other n b) → Located one key nx vs p at next → Located other key nx vs p at next
located_as {R} {one} {other} {key} {nx} {vs} {p} {at} {next} same l =
    let s = l.reached in
    record {
      reached = record { before = s.before; after = s.after; split = s.split; last = s.last; trail = s.trail; passed = passed_as one other key (records vs s.before) same s.passed };
      stopped = stopped_as one other key (records vs s.after) same l.stopped;
    }

-- no record has the key where the lookup comes to the end
pub absent : {R : Type 0} {key : R → ℕ} {k : ℕ} {nx : List ℕ} {vs : List R} {p at next : ℕ} → Located (Other k) key nx vs p at next → next ≡ 0 → Lacks key k (records vs (places nx p))
absent {R} {key} {k} {nx} {vs} {p} {at} {next} l none =
    let s = l.reached in
    let all : places nx p ≡ s.before = s.split ∙ ap (λ zs. s.before ++ zs) (ended nx next s.after s.trail none) ∙ append-nil s.before in
    subst (λ is. Lacks key k (records vs is)) (sym all) (passed_lacks key k (records vs s.before) s.passed)

-- the record that has it stands where the lookup stops
pub found : {R : Type 0} {key : R → ℕ} {k : ℕ} {nx : List ℕ} {vs : List R} {p at next : ℕ} → length vs ≡ length nx → Located (Other k) key nx vs p at next → (next ≡ 0 → ⊥) → Found key k nx vs p at next
found {R} {key} {k} {nx} {vs} {p} {at} {next} same l some =
    let s = l.reached in
    let (js, is, pos, below, t) = starts nx next s.after s.trail some in
    let (r, here) = fronted_at vs next (omega (arith, below)) in
    let front : records vs s.after ≡ r ∷ records vs js = ap (records vs) is ∙ here (records vs js) in
    record {
      before = s.before;
      after = js;
      split = s.split ∙ ap (λ zs. s.before ++ zs) is;
      last = s.last;
      lacks = passed_lacks key k (records vs s.before) s.passed;
      stands = (r, here [], subst (Stopped (Other k) key) front l.stopped);
    }

-- the record r at that place has the key, and is the first that has
module _ {R : Type 0} {key : R → ℕ} {k : ℕ} {nx : List ℕ} {vs : List R} {p at next : ℕ} (f : Found key k nx vs p at next) (r : R) (here : records vs (next ∷ []) ≡ r ∷ []) where
  pub found_own : key r ≡ k
  found_own = let (s, there, own) = f.stands in let same : s ≡ r = cc in subst (λ x. key x ≡ k) same own

  pub found_items : records vs (places nx p) ≡ records vs f.before ++ r ∷ records vs f.after
  found_items = ap (records vs) f.split ∙ records_append vs f.before (next ∷ f.after) ∙ ap (λ zs. records vs f.before ++ zs) (records_from vs next f.after r here)

  pub found_first : FirstWith key k (records vs (places nx p)) r
  found_first = subst (λ rs. FirstWith key k rs r) (sym found_items) (first_at key k (records vs f.before) r (records vs f.after) f.lacks found_own)

at_below : (nx : List ℕ) (p at : ℕ) (before after : List ℕ) → Ends nx p → places nx p ≡ before ++ after → Last before at → 0 < length nx → at < length nx
at_below nx p at before after t split last some =
    ⊎_elim
    (λ e. omega arith)
    (λ other. (in_range nx p (places nx p) at t (subst (In at) (sym split) (in_before at before after (last_in before at last other)))).1)
    (cases_eq at 0)

-- all chains have as many records as places
total_records : {R : Type 0} (nx : List ℕ) (vs : List R) (hs : List ℕ) → length vs ≡ length nx → ((k : ℕ) → k < length hs → Ends nx (get_or hs k 0)) → total (map (λ p. records vs (places nx p)) hs) ≡ total (map (λ p. places nx p) hs)
total_records nx vs [] same ends = refl
total_records nx vs (p ∷ ps) same ends =
    omega (arith, records_count nx vs p (places nx p) same (ends 0 (omega arith)), total_records nx vs ps same (λ k l. ends (suc k) (omega arith)))

pub places_none : (nx : List ℕ) → places nx 0 ≡ []
places_none [] = refl
places_none (n ∷ nx) = refl

module _ {R : Type 0} {N : ℕ} (n : ℕ) (b : Board R N) (kept : Kept n b) where
  abbrev slots : List (Slot R)
  slots = slots_of b

  abbrev hs : List ℕ
  hs = b.heads

  abbrev nx : List ℕ
  nx = nexts slots

  abbrev vs : List R
  vs = values slots

  lengths : length vs ≡ length nx
  lengths = length-map slots (λ s. s.item) ∙ sym (length-map slots (λ s. s.next))

  pub slots_are : length nx ≡ length slots
  slots_are = length-map slots (λ s. s.next)

  pub chain_ends : (c : ℕ) → Within 1 (length hs) c → Ends nx (get_or hs (c - 1) 0)
  chain_ends c w = kept.sound.ends (suc (c - 1)) (omega (arith, w.least, w.most))

  pub rows_count : length (rows_of hs slots) ≡ length hs
  rows_count = length-map hs (λ p. records vs (places nx p))

  all_records : length (places nx b.spare) + total (rows_of hs slots) ≡ length nx - 1
  all_records = omega (arith, total_records nx vs hs lengths (λ k l. kept.sound.ends (suc k) (omega arith)), kept.sound.whole)

  -- no spare slot is left where all others hold records
  pub full : b.spare ≡ 0 → length slots - 1 ≤ total (rows_of hs slots)
  full none = omega (arith, all_records, ap length (ap (places nx) none ∙ places_none nx), slots_are)

  spare_starts : (b.spare ≡ 0 → ⊥) → (0 < b.spare) × (b.spare < length nx) × (0 < length (places nx b.spare))
  spare_starts some = let (js, is, pos, below, t) = starts nx b.spare (places nx b.spare) (kept.sound.ends 0 (omega arith)) some in (pos, below, omega (arith, ap length is))

  pub not_full : (b.spare ≡ 0 → ⊥) → (length slots - 1 ≤ total (rows_of hs slots)) → ⊥
  not_full some le = omega (arith, all_records, (spare_starts some).2, slots_are)

  pub spare_below : (b.spare ≡ 0 → ⊥) → b.spare < length slots
  spare_below some = omega (arith, (spare_starts some).1, slots_are)

  pub count_below : (b.spare ≡ 0 → ⊥) → b.count < length slots
  count_below some = omega (arith, kept.counted, all_records, (spare_starts some).1, slots_are)

  module _ (c : ℕ) (w : Within 1 (length hs) c) where
    abbrev p : ℕ
    p = get_or hs (c - 1) 0

    chained : c - 1 < length hs
    chained = omega (arith, w.least, w.most)

    -- what one chain's other records make of the count
    recount : (new : List R) → total (set (rows_of hs slots) (c - 1) new) + length (records vs (places nx p)) ≡ total (rows_of hs slots) + length new
    recount new = let l : c - 1 < length (rows_of hs slots) = omega (arith, chained, rows_count) in omega (arith, total_set (rows_of hs slots) (c - 1) new l, ap length (sym (row_at (rows_of hs slots) c w.least) ∙ row_is hs slots c w))

    pub at_of_insert : {answers : ℕ → Bool → Type 0} {key : R → ℕ} {at next : ℕ} → Located answers key nx vs p at next → (b.spare ≡ 0 → ⊥) → at < length slots
    at_of_insert {answers} {key} {at} {next} l some = omega (arith, at_below nx p at l.reached.before l.reached.after (chain_ends c w) l.reached.split l.reached.last (omega (arith, (spare_starts some).1)), slots_are)

    module _ (key : R → ℕ) (r : R) (at next : ℕ) (l : Located (UpTo (key r)) key nx vs p at next) (some : b.spare ≡ 0 → ⊥) where
      -- one record more
      pub inserted : (b' : Board R N) → Hung b (c - 1) at next r b' → Kept n b' × (stored b' ≡ with_row (stored b) c (insert key r (row (rows_of hs slots) c)))
      inserted b' h =
          let s = l.reached in
          let spot : Spot nx p at next s.before s.after = record { split = s.split; last = s.last; trail = s.trail } in
          let new = records vs s.before ++ r ∷ records vs s.after in
          let old : records vs (places nx p) ≡ records vs s.before ++ records vs s.after = ap (records vs) s.split ∙ records_append vs s.before s.after in
          let is-new : insert key r (row (rows_of hs slots) c) ≡ new =
          ap (insert key r) (row_is hs slots c w ∙ old)
          ∙ insert_at key r (records vs s.before) (records vs s.after) (passed_low key (key r) (records vs s.before) s.passed) (stopped_high key (key r) (records vs s.after) l.stopped) in
          let same : length (slots_of b') ≡ length slots = sym (length-map (slots_of b') (λ x. x.next)) ∙ ap length h.links ∙ length_relinked (set nx b.spare next) at b.spare ∙ length-set nx b.spare next ∙ slots_are in
          let all : rows_of b'.heads (slots_of b') ≡ set (rows_of hs slots) (c - 1) new =
          (λ i. map (λ q. records (h.items i) (places (h.links i) q)) (h.heads i)) ∙ rows_in hs nx b.spare (c - 1) kept.sound chained at next s.before s.after spot some vs r lengths in
          let few : length new ≡ length (records vs (places nx p)) + 1 = let e = ap length old in let f = length-append (records vs s.before) (records vs s.after) in let g = length-append (records vs s.before) (r ∷ records vs s.after) in omega arith in (
            record {
              all = ap length h.heads ∙ length_retopped hs (c - 1) at b.spare ∙ kept.all;
              sound = subst (Sound (b'.spare ∷ b'.heads)) (sym h.links) (subst (λ ts. Sound ts (relinked (set nx b.spare next) at b.spare)) (λ i. sym h.spare i ∷ sym h.heads i) (sound_in hs nx b.spare (c - 1) kept.sound chained at next s.before s.after spot some));
              counted = omega (arith, h.count, kept.counted, ap total all, recount new, few);
            },
            λ i. record { rows = (all ∙ ap (set (rows_of hs slots) (c - 1)) (sym is-new)) i; room = ap (λ m. m - 1) same i },
          )

    module _ (key : R → ℕ) (k : ℕ) (at next : ℕ) (f : Found key k nx vs p at next) where
      pub found_row : (r : R) → records vs (next ∷ []) ≡ r ∷ [] → FirstWith key k (row (rows_of hs slots) c) r
      found_row r here = subst (λ rs. FirstWith key k rs r) (sym (row_is hs slots c w)) (found_first f r here)

      pub found_there : Lacks key k (row (rows_of hs slots) c) → ⊥
      found_there lacks = first_there key k (row (rows_of hs slots) c) f.stands.0 (found_row f.stands.0 f.stands.1) lacks

      pub found_rules : First (find_rules key (stored b) c k) None
      found_rules = inr (inside hs slots c w, inr (found_there, refl))

      stands_in : (0 < next) × (next < length nx)
      stands_in = in_range nx p (f.before ++ next ∷ f.after) next (subst (Trail nx p) f.split (chain_ends c w)) (in_after next f.before (next ∷ f.after) (inl refl))

      pub place_below : next < length slots
      place_below = omega (arith, stands_in.1, slots_are)

      pub at_of_remove : at < length slots
      at_of_remove = omega (arith, at_below nx p at f.before (next ∷ f.after) (chain_ends c w) f.split f.last (omega (arith, stands_in.1)), slots_are)

      -- the record that is read there
      pub found_item : (d : Slot R) → FirstWith key k (row (rows_of hs slots) c) (get_or slots next d).item
      found_item d = found_row (get_or slots next d).item (item_at slots next d place_below)

      items : records vs (places nx p) ≡ records vs f.before ++ f.stands.0 ∷ records vs f.after
      items = found_items f f.stands.0 f.stands.1

      pub some_stand : 0 < b.count
      some_stand =
          let e = ap length items in
          let g = length-append (records vs f.before) (f.stands.0 ∷ records vs f.after) in
          omega (arith, kept.counted, total_covers (rows_of hs slots) (c - 1), ap length (sym (row_at (rows_of hs slots) c w.least) ∙ row_is hs slots c w))

      -- one record fewer
      pub removed : (b' : Board R N) → Unhung b (c - 1) at next b' → Kept n b' × (stored b' ≡ with_row (stored b) c (without key k (row (rows_of hs slots) c)))
      removed b' h =
          let new = records vs f.before ++ records vs f.after in
          let is-new : without key k (row (rows_of hs slots) c) ≡ new = ap (without key k) (row_is hs slots c w ∙ items) ∙ without_at key k (records vs f.before) f.stands.0 (records vs f.after) f.lacks f.stands.2 in
          let rest = get_or nx next 0 in
          let same : length (slots_of b') ≡ length slots = sym (length-map (slots_of b') (λ x. x.next)) ∙ ap length h.links ∙ length-set (relinked nx at rest) next b.spare ∙ length_relinked nx at rest ∙ slots_are in
          let all : rows_of b'.heads (slots_of b') ≡ set (rows_of hs slots) (c - 1) new =
          (λ i. map (λ q. records (h.items i) (places (h.links i) q)) (h.heads i)) ∙ rows_out hs nx b.spare (c - 1) kept.sound chained at next f.before f.after f.split f.last vs in
          let few : length (records vs (places nx p)) ≡ length new + 1 = let e = ap length items in let g = length-append (records vs f.before) (f.stands.0 ∷ records vs f.after) in let m = length-append (records vs f.before) (records vs f.after) in omega arith in (
            record {
              all = ap length h.heads ∙ length_retopped hs (c - 1) at rest ∙ kept.all;
              sound = subst (Sound (b'.spare ∷ b'.heads)) (sym h.links) (subst (λ ts. Sound ts (set (relinked nx at rest) next b.spare)) (λ i. sym h.spare i ∷ sym h.heads i) (sound_out hs nx b.spare (c - 1) kept.sound chained at next f.before f.after f.split f.last));
              counted = omega (arith, h.count, kept.counted, ap total all, recount new, few);
            },
            λ i. record { rows = (all ∙ ap (set (rows_of hs slots) (c - 1)) (sym is-new)) i; room = ap (λ m. m - 1) same i },
          )

    -- another record in the place of one
    module _ (key : R → ℕ) (at next : ℕ) (r : R) (f : Found key (key r) nx vs p at next) where
      pub replaced : (b' : Board R N) → Rewritten b next r b' → Kept n b' × (stored b' ≡ with_row (stored b) c (replace key r (row (rows_of hs slots) c)))
      replaced b' h =
          let new = records vs f.before ++ r ∷ records vs f.after in
          let is-new : replace key r (row (rows_of hs slots) c) ≡ new = ap (replace key r) (row_is hs slots c w ∙ items key (key r) at next f) ∙ replace_at key r (records vs f.before) f.stands.0 (records vs f.after) f.lacks f.stands.2 in
          let same : length (slots_of b') ≡ length slots = sym (length-map (slots_of b') (λ x. x.next)) ∙ ap length h.links ∙ slots_are in
          let all : rows_of b'.heads (slots_of b') ≡ set (rows_of hs slots) (c - 1) new =
          (λ i. map (λ q. records (h.items i) (places (h.links i) q)) (h.heads i)) ∙ rows_changed hs nx b.spare (c - 1) kept.sound chained at next f.before f.after f.split f.last vs r lengths in
          let few : length new ≡ length (records vs (places nx p)) = let e = ap length (items key (key r) at next f) in let g = length-append (records vs f.before) (f.stands.0 ∷ records vs f.after) in let m = length-append (records vs f.before) (r ∷ records vs f.after) in omega arith in (
            record {
              all = ap length h.heads ∙ kept.all;
              sound = subst (Sound (b'.spare ∷ b'.heads)) (sym h.links) (subst (λ ts. Sound ts nx) (λ i. sym h.spare i ∷ sym h.heads i) kept.sound);
              counted = omega (arith, h.count, kept.counted, ap total all, recount new, few);
            },
            λ i. record { rows = (all ∙ ap (set (rows_of hs slots) (c - 1)) (sym is-new)) i; room = ap (λ m. m - 1) same i },
          )

-- where a chain begins whose number is not refused
pub begun : {R : Type 0} {N : ℕ} (b : Board R N) (c : ℕ) (w : Walk R) (o : Option (Walk R)) (e : ChainRefusal) (r : Result (Walk R) ChainRefusal) → Walks b c o → r ≡ Ok w → r ≡ ok_or o e → Within 1 (length b.heads) c × (w.place ≡ get_or b.heads (c - 1) 0) × (w.slots.now ≡ slots_of b)
begun b c w (Some v) e r walks was is = let same : w ≡ v = cc in (walks.0.0, ap (λ x. x.place) same ∙ walks.0.1, ap (λ x. x.slots.now) same ∙ walks.1)
begun b c w None e r walks was is = absurd (cc)

-- where a record is taken in there is a spare slot
pub spare_left : {R : Type 0} {N : ℕ} (n : ℕ) (b : Board R N) (kept : Kept n b) (key : R → ℕ) (c k : ℕ) → First (insert_rules key (stored b) c k) None → b.spare ≡ 0 → ⊥
spare_left n b kept key c k none e = let (there, (present, (roomy, end))) = none_hold (insert_rules key (stored b) c k) none in roomy (full n b kept e)

-- what a lookup along a walk finds is told of the chains
module _ {R : Type 0} {N : ℕ} (n : ℕ) (b : Board R N) (kept : Kept n b) (c : ℕ) (w : Walk R) (begins : Within 1 (length b.heads) c × (w.place ≡ get_or b.heads (c - 1) 0) × (w.slots.now ≡ slots_of b)) where
  pub there : (Within 1 (length (rows_of b.heads (slots_of b))) c → ⊥) → ⊥
  there = inside b.heads (slots_of b) c begins.0

  module _ (key : R → ℕ) (k : ℕ) where
    abbrev FindsThere : Option (ℕ × ℕ) → Type 0
    FindsThere = FindsPlace key k (nexts (slots_of b)) (values (slots_of b)) (get_or b.heads (c - 1) 0)

    finds : (o : Option (ℕ × ℕ)) → FindsPlace key k (nexts w.slots.now) (values w.slots.now) w.place o → FindsThere o
    finds o f = subst (λ q. FindsPlace key k (nexts (slots_of b)) (values (slots_of b)) q o) begins.1 (subst (λ (ss : List (Slot R)). FindsPlace key k (nexts ss) (values ss) w.place o) begins.2 f)

    lacking : Lacks key k (records (values (slots_of b)) (places (nexts (slots_of b)) (get_or b.heads (c - 1) 0))) → Lacks key k (row (rows_of b.heads (slots_of b)) c)
    lacking = subst (Lacks key k) (sym (row_is b.heads (slots_of b) c begins.0))

    pub sought : (o : Option (ℕ × ℕ)) → FindsPlace key k (nexts w.slots.now) (values w.slots.now) w.place o → Seeks key b c k (ok_or o Absent)
    sought (Some s) f = (begins.0, finds (Some s) f)
    sought None f = inr (there, inl (lacking (finds None f), refl))

    pub some_has : (o : Option (ℕ × ℕ)) → FindsPlace key k (nexts w.slots.now) (values w.slots.now) w.place o → true ≡ is_some o → Lacks key k (row (rows_of b.heads (slots_of b)) c) → ⊥
    some_has (Some s) f is = found_there n b kept c begins.0 key k s.0 s.1 (finds (Some s) f)
    some_has None f is = absurd (cc)

    pub none_has : (o : Option (ℕ × ℕ)) → FindsPlace key k (nexts w.slots.now) (values w.slots.now) w.place o → false ≡ is_some o → Lacks key k (row (rows_of b.heads (slots_of b)) c)
    none_has (Some s) f is = absurd (cc)
    none_has None f is = lacking (finds None f)

    pub goes_there : (at next : ℕ) → Located (UpTo k) key (nexts w.slots.now) (values w.slots.now) w.place at next → Located (UpTo k) key (nexts (slots_of b)) (values (slots_of b)) (get_or b.heads (c - 1) 0) at next
    goes_there at next l = subst (λ q. Located (UpTo k) key (nexts (slots_of b)) (values (slots_of b)) q at next) begins.1 (subst (λ (ss : List (Slot R)). Located (UpTo k) key (nexts ss) (values ss) w.place at next) begins.2 l)

-- what the calls answer where they are refused
module _ {R : Type 0} (key : R → ℕ) (m : Content R) (c k : ℕ) (e : ChainRefusal) where
  pub inserts_not : (r : R) (o : Result (Unit {0}) ChainRefusal) → k ≡ key r → o ≡ Err e → First (insert_rules key m c k) (Some e) → Inserts key m c r o m
  inserts_not r o same is first = subst (λ x. Inserts key m c r x m) (sym is) (subst (λ j. First (insert_rules key m c j) (Some e)) same first, refl)

  pub removes_not : (o : Result R ChainRefusal) → o ≡ Err e → First (find_rules key m c k) (Some e) → Removes key m c k o m
  removes_not o is first = subst (λ x. Removes key m c k x m) (sym is) (first, refl)

-- what the calls leave and answer where they are not refused
module _ {R : Type 0} {N : ℕ} (n : ℕ) (b : Board R N) (kept : Kept n b) (key : R → ℕ) (c : ℕ) where
  pub inserts : (r : R) (k at next : ℕ) (after : Board R N) → k ≡ key r → Seats key b c k (Ok (at, next)) → Hung b (c - 1) at next r after → Kept n after × Inserts key (stored b) c r (Ok tt) (stored after)
  inserts r k at next after e s h =
      let (w, none, l) = subst (λ (j : ℕ). Seats key b c j (Ok (at, next))) e s in
      let (kept', made) = inserted n b kept c w key r at next l (spare_left n b kept key c (key r) none) after h in
      let i : Inserts key (stored b) c r (Ok tt) (stored after) = (none, made) in (kept', i)

  pub removes : (k at place : ℕ) (d : Slot R) (after : Board R N) → Seeks key b c k (Ok (at, place)) → Unhung b (c - 1) at place after → Kept n after × Removes key (stored b) c k (Ok (get_or (slots_of b) place d).item) (stored after)
  removes k at place d after (w, f) h =
      let (kept', made) = removed n b kept c w key k at place f after h in
      let i : Removes key (stored b) c k (Ok (get_or (slots_of b) place d).item) (stored after) = (found_rules n b kept c w key k at place f, found_item n b kept c w key k at place f d, made) in (kept', i)

  pub replaces : (r : R) (k at place : ℕ) (d : Slot R) (after : Board R N) → k ≡ key r → Seeks key b c k (Ok (at, place)) → Rewritten b place r after → Kept n after × Replaces key (stored b) c r (Ok (get_or (slots_of b) place d).item) (stored after)
  replaces r k at place d after e s h =
      let (w, f) = subst (λ (j : ℕ). Seeks key b c j (Ok (at, place))) e s in
      let (kept', made) = replaced n b kept c w key at place r f after h in
      let i : Replaces key (stored b) c r (Ok (get_or (slots_of b) place d).item) (stored after) = (found_rules n b kept c w key (key r) at place f, found_item n b kept c w key (key r) at place f d, made) in (kept', i)
