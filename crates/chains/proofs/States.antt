-- What one more record and one fewer do to all chains. Assumes nothing.
use Rattle.std.proofs.Common.{◌≡◌, ℕ, zero, suc, ◌<◌, eqb, List, [], ◌∷◌, ◌++◌, map, length, get_or, set, sym, refl, ap, ◌∙◌, subst, inl, inr, ⊎_elim, arith, length-set, get_or-set_other, get_or-set_same}
use Rattle.std.proofs.lemmas.List.{length-append, length-map, get_or-map, ext_get_or}
use Rattle.std.proofs.lemmas.Bool.{cases_eq, eq-eqb, ne_eqb, cond-true, cond-false}
use Rattle.chains.specs.Places.{places, records, Trail, Sound}
use Rattle.chains.specs.Records.{In}
use Rattle.chains.specs.Steps.{Last, relinked, topped, retopped}
use Rattle.chains.proofs.Lists.{records_append, records_other, fronted_set}
use Rattle.chains.proofs.Moves.{hang, unhang, Moves, Moved, moved}
use Rattle.chains.proofs.Trails.{in_range, frame, in_before, in_after, in_either, no_repeat}

-- the records of all chains
abbrev pub rows : {R : Type 0} → List ℕ → List ℕ → List R → List (List R)
rows heads nx vs = map (λ p. records vs (places nx p)) heads

-- a place stands once in its chain
pub stands_once : (nx : List ℕ) (p : ℕ) (before : List ℕ) (q : ℕ) (after : List ℕ) → Trail nx p (before ++ q ∷ after) → In q (before ++ after) → ⊥
stands_once nx p [] q after t h = no_repeat nx p q after t h
stands_once nx p (i ∷ before) q after t (inl e) = no_repeat nx p i (before ++ q ∷ after) t (in_after i before (q ∷ after) (inl (sym e)))
stands_once nx p (i ∷ before) q after t (inr h) = stands_once nx (get_or nx i 0) before q after t.3 h

-- the last of some places is one of them
pub last_in : (before : List ℕ) (at : ℕ) → Last before at → (at ≡ 0 → ⊥) → In at before
last_in before at (inl l) some = absurd (some l.1)
last_in before at (inr (front, l)) some = subst (In at) (sym l) (in_after at front (at ∷ []) (inl refl))

-- the last of some places that are followed by others keeps a chain that none of them stands in
frame_relinked : (nx : List ℕ) (p : ℕ) (is before : List ℕ) (at v : ℕ) → Trail nx p is → Last before at → ((i : ℕ) → In i before → In i is → ⊥) → Trail (relinked nx at v) p is
frame_relinked nx p is before at v t l off =
    ⊎_elim
    (λ e. subst (λ ns. Trail ns p is) (sym (cond-true (eqb at 0) nx _ (eq-eqb at 0 e))) t)
    (λ some. subst (λ ns. Trail ns p is) (sym (cond-false (eqb at 0) nx (set nx at v) (ne_eqb at 0 some))) (frame nx p is at v t (off at (last_in before at l some))))
    (cases_eq at 0)

pub length_relinked : (nx : List ℕ) (at v : ℕ) → length (relinked nx at v) ≡ length nx
length_relinked nx at v =
    ⊎_elim (λ e. ap length (cond-true (eqb at 0) nx (set nx at v) (eq-eqb at 0 e))) (λ some. ap length (cond-false (eqb at 0) nx (set nx at v) (ne_eqb at 0 some)) ∙ length-set nx at v) (cases_eq at 0)

pub length_retopped : (heads : List ℕ) (c at v : ℕ) → length (retopped heads c at v) ≡ length heads
length_retopped heads c at v =
    ⊎_elim (λ e. ap length (cond-true (eqb at 0) (set heads c v) heads (eq-eqb at 0 e)) ∙ length-set heads c v) (λ some. ap length (cond-false (eqb at 0) (set heads c v) heads (ne_eqb at 0 some))) (cases_eq at 0)

retopped_own : (heads : List ℕ) (c at v : ℕ) → c < length heads → get_or (retopped heads c at v) c 0 ≡ topped (get_or heads c 0) at v
retopped_own heads c at v l =
    ⊎_elim
    (λ e. ap (λ hs. get_or hs c 0) (cond-true (eqb at 0) (set heads c v) heads (eq-eqb at 0 e)) ∙ get_or-set_same heads c v 0 l ∙ sym (cond-true (eqb at 0) v (get_or heads c 0) (eq-eqb at 0 e)))
    (λ some. ap (λ hs. get_or hs c 0) (cond-false (eqb at 0) (set heads c v) heads (ne_eqb at 0 some)) ∙ sym (cond-false (eqb at 0) v (get_or heads c 0) (ne_eqb at 0 some)))
    (cases_eq at 0)

retopped_other : (heads : List ℕ) (c at v k : ℕ) → (k ≡ c → ⊥) → get_or (retopped heads c at v) k 0 ≡ get_or heads k 0
retopped_other heads c at v k other =
    ⊎_elim
    (λ e. ap (λ hs. get_or hs k 0) (cond-true (eqb at 0) (set heads c v) heads (eq-eqb at 0 e)) ∙ get_or-set_other heads c k v 0 other)
    (λ some. ap (λ hs. get_or hs k 0) (cond-false (eqb at 0) (set heads c v) heads (ne_eqb at 0 some)))
    (cases_eq at 0)

-- the records of all chains, where one chain has others
pub rows_then : {R : Type 0} (hs hs' nx nx' : List ℕ) (vs vs' : List R) (c : ℕ) (new : List R) → length hs' ≡ length hs → c < length hs
    → records vs' (places nx' (get_or hs' c 0)) ≡ new → ((k : ℕ) → k < length hs → (k ≡ c → ⊥) → records vs' (places nx' (get_or hs' k 0)) ≡ records vs (places nx (get_or hs k 0)))
    → rows hs' nx' vs' ≡ set (rows hs nx vs) c new
rows_then hs hs' nx nx' vs vs' c new same l own others =
    let n = length-map hs (λ p. records vs (places nx p)) in
    let n' = length-map hs' (λ p. records vs' (places nx' p)) in
    ext_get_or [] (rows hs' nx' vs') (set (rows hs nx vs) c new) (n' ∙ same ∙ sym (length-set (rows hs nx vs) c new ∙ n))
    (λ k kl.
    let there : k < length hs = omega arith in
    get_or-map (λ p. records vs' (places nx' p)) hs' k 0 [] (omega arith)
    ∙ ⊎_elim
    (λ e. subst (λ j. records vs' (places nx' (get_or hs' j 0)) ≡ get_or (set (rows hs nx vs) c new) j []) (sym e) (own ∙ sym (get_or-set_same (rows hs nx vs) c new [] (omega arith))))
    (λ other. others k there other ∙ sym (get_or-set_other (rows hs nx vs) c k new [] other ∙ get_or-map (λ p. records vs (places nx p)) hs k 0 [] there))
    (cases_eq k c))

-- a chain's place, and where the next and the last before it stand
pub record Spot (nx : List ℕ) (p at next : ℕ) (before after : List ℕ) : Type 0 where
  pub split : places nx p ≡ before ++ after
  pub last : Last before at
  pub trail : Trail nx next after

module _ (hs nx : List ℕ) (sp c : ℕ) (s : Sound (sp ∷ hs) nx) (there : c < length hs) where
  own_trail : Trail nx (get_or hs c 0) (places nx (get_or hs c 0))
  own_trail = s.ends (suc c) (omega arith)

  spare_trail : Trail nx sp (places nx sp)
  spare_trail = s.ends 0 (omega arith)

  -- no spare place stands in a chain
  not_spare : (k i : ℕ) → k < length hs → In i (places nx (get_or hs k 0)) → In i (places nx sp) → ⊥
  not_spare k i l w v = omega (arith, s.apart (suc k) 0 i (omega arith) (omega arith) w v)

  -- two chains that share a place are one
  same_chain : (k i : ℕ) → k < length hs → In i (places nx (get_or hs k 0)) → In i (places nx (get_or hs c 0)) → k ≡ c
  same_chain k i l w v = omega (arith, s.apart (suc k) (suc c) i (omega arith) (omega arith) w v)

  -- the first spare place, and those after it
  first_spare : (sp ≡ 0 → ⊥) → (free : List ℕ) × (places nx sp ≡ sp ∷ free)
  first_spare some =
      elim (places nx sp) as (λ is. Trail nx sp is → (free : List ℕ) × (is ≡ sp ∷ free))
      [ [] ↦ (λ t. absurd (some t)) | (i ∷ is) ↦ (λ t. (is, ap (λ j. j ∷ is) (sym t.0))) ] spare_trail

  -- one more record: the first spare place goes into the chain c
  module _ (at next : ℕ) (before after : List ℕ) (spot : Spot nx (get_or hs c 0) at next before after) (some : sp ≡ 0 → ⊥) where
    free : List ℕ
    free = (first_spare some).0

    spare_is : places nx sp ≡ sp ∷ free
    unfolding free
    spare_is = (first_spare some).1

    spare_goes : Trail nx sp (sp ∷ free)
    spare_goes = subst (Trail nx sp) spare_is spare_trail

    sp_in : In sp (places nx sp)
    sp_in = subst (In sp) (sym spare_is) (inl refl)

    own_split : Trail nx (get_or hs c 0) (before ++ after)
    own_split = subst (Trail nx (get_or hs c 0)) spot.split own_trail

    off_own : In sp (before ++ after) → ⊥
    off_own h = not_spare c sp there (subst (In sp) (sym spot.split) h) sp_in

    before_own : (i : ℕ) → In i before → In i (places nx (get_or hs c 0))
    before_own i h = subst (In i) (sym spot.split) (in_before i before after h)

    hs' : List ℕ
    hs' = retopped hs c at sp

    nx' : List ℕ
    nx' = relinked (set nx sp next) at sp

    others_in : (k : ℕ) → k < length (sp ∷ hs) → (k ≡ 0 → ⊥) → (k ≡ suc c → ⊥) → Trail (relinked (set nx sp next) at sp) (get_or (get_or nx sp 0 ∷ retopped hs c at sp) k 0) (places nx (get_or (sp ∷ hs) k 0))
    others_in zero l n0 nc = absurd (n0 refl)
    others_in (suc k) l n0 nc =
        let k-in : k < length hs = omega arith in
        let other : k ≡ c → ⊥ = λ e. nc (ap suc e) in
        subst (λ p. Trail (relinked (set nx sp next) at sp) p (places nx (get_or hs k 0))) (sym (retopped_other hs c at sp k other))
        (frame_relinked (set nx sp next) (get_or hs k 0) (places nx (get_or hs k 0)) before at sp
        (frame nx (get_or hs k 0) (places nx (get_or hs k 0)) sp next (s.ends (suc k) l) (λ w. not_spare k sp k-in w sp_in)) spot.last
        (λ i b w. other (same_chain k i k-in w (before_own i b))))

    moves_in : Moves (sp ∷ hs) nx (get_or nx sp 0 ∷ hs') nx' sp 0 (suc c) free (before ++ sp ∷ after)
    unfolding hs' nx'
    moves_in = record {
      tops_kept = ap suc (length_retopped hs c at sp);
      nexts_kept = length_relinked (set nx sp next) at sp ∙ length-set nx sp next;
      from = frame_relinked (set nx sp next) (get_or nx sp 0) free before at sp
          (frame nx (get_or nx sp 0) free sp next spare_goes.3 (no_repeat nx sp sp free spare_goes)) spot.last
          (λ i b w. not_spare c i there (before_own i b) (subst (In i) (sym spare_is) (inr w)));
      to = subst (λ p. Trail (relinked (set nx sp next) at sp) p (before ++ sp ∷ after)) (sym (retopped_own hs c at sp there))
          (hang nx (get_or hs c 0) before after at sp next own_split spot.last spot.trail off_own spare_goes.1 spare_goes.2);
      others = others_in;
      less = let e = ap length spare_is in omega arith;
      more = let e = ap length spot.split in let f = length-append before after in let g = length-append before (sp ∷ after) in omega arith;
      gone = λ i w. (λ e. no_repeat nx sp sp free spare_goes (subst (λ j. In j free) e w), subst (In i) (sym spare_is) (inr w));
      come = λ i w. ⊎_elim (λ b. inr (before_own i b)) (⊎_elim (λ e. inl e) (λ a. inr (subst (In i) (sym spot.split) (in_after i before after a)))) (in_either i before (sp ∷ after) w);
      had = sp_in;
    }

    moved_in : Moved (sp ∷ hs) nx (get_or nx sp 0 ∷ hs') nx' 0 (suc c) free (before ++ sp ∷ after)
    moved_in = moved (sp ∷ hs) nx (get_or nx sp 0 ∷ hs') nx' sp 0 (suc c) free (before ++ sp ∷ after) s (omega arith) (omega arith) (λ e. omega arith) moves_in

    pub sound_in : Sound (get_or nx sp 0 ∷ retopped hs c at sp) (relinked (set nx sp next) at sp)
    unfolding hs' nx'
    sound_in = moved_in.sound

    pub rows_in : {R : Type 0} (vs : List R) (r : R) → length vs ≡ length nx → rows (retopped hs c at sp) (relinked (set nx sp next) at sp) (set vs sp r) ≡ set (rows hs nx vs) c (records vs before ++ r ∷ records vs after)
    unfolding hs' nx'
    rows_in vs r same =
        let less : sp < length vs = omega (arith, spare_goes.2) in
        rows_then hs (retopped hs c at sp) nx (relinked (set nx sp next) at sp) vs (set vs sp r) c (records vs before ++ r ∷ records vs after) (length_retopped hs c at sp) there
        (ap (records (set vs sp r)) moved_in.to ∙ records_append (set vs sp r) before (sp ∷ after)
        ∙ (λ i. records_other vs before sp r (λ h. off_own (in_before sp before after h)) i ++ (fronted_set vs sp r (records (set vs sp r) after) less ∙ ap (λ rs. r ∷ rs) (records_other vs after sp r (λ h. off_own (in_after sp before after h)))) i))
        (λ k l other. ap (records (set vs sp r)) (moved_in.others (suc k) (omega arith) (λ e. omega arith) (λ e. other (omega arith))) ∙ records_other vs (places nx (get_or hs k 0)) sp r (λ w. not_spare k sp l w sp_in))

  -- one record fewer: the place q of the chain c becomes the first spare place
  module _ (at q : ℕ) (before after : List ℕ) (split : places nx (get_or hs c 0) ≡ before ++ q ∷ after) (last : Last before at) where
    own_whole : Trail nx (get_or hs c 0) (before ++ q ∷ after)
    own_whole = subst (Trail nx (get_or hs c 0)) split own_trail

    q_own : In q (places nx (get_or hs c 0))
    q_own = subst (In q) (sym split) (in_after q before (q ∷ after) (inl refl))

    before_whole : (i : ℕ) → In i before → In i (places nx (get_or hs c 0))
    before_whole i h = subst (In i) (sym split) (in_before i before (q ∷ after) h)

    nx'' : List ℕ
    nx'' = set (relinked nx at (get_or nx q 0)) q sp

    hs'' : List ℕ
    hs'' = retopped hs c at (get_or nx q 0)

    length_nx : length nx'' ≡ length nx
    unfolding nx''
    length_nx = length-set (relinked nx at (get_or nx q 0)) q sp ∙ length_relinked nx at (get_or nx q 0)

    -- a chain that q does not stand in, nor those before it
    kept : (p : ℕ) (is : List ℕ) → Trail nx p is → (In q is → ⊥) → ((i : ℕ) → In i before → In i is → ⊥) → Trail nx'' p is
    unfolding nx''
    kept p is t off apart = frame (relinked nx at (get_or nx q 0)) p is q sp (frame_relinked nx p is before at (get_or nx q 0) t last apart) off

    spare_kept : Trail nx'' sp (places nx sp)
    spare_kept = kept sp (places nx sp) spare_trail (λ w. not_spare c q there q_own w) (λ i b w. not_spare c i there (before_whole i b) w)

    others_out : (k : ℕ) → k < length (sp ∷ hs) → (k ≡ suc c → ⊥) → (k ≡ 0 → ⊥) → Trail nx'' (get_or (q ∷ hs'') k 0) (places nx (get_or (sp ∷ hs) k 0))
    unfolding hs''
    others_out zero l nc n0 = absurd (n0 refl)
    others_out (suc k) l nc n0 =
        let k-in : k < length hs = omega arith in
        let other : k ≡ c → ⊥ = λ e. nc (ap suc e) in
        subst (λ p. Trail nx'' p (places nx (get_or hs k 0))) (sym (retopped_other hs c at (get_or nx q 0) k other))
        (kept (get_or hs k 0) (places nx (get_or hs k 0)) (s.ends (suc k) l) (λ w. other (same_chain k q k-in w q_own)) (λ i b w. other (same_chain k i k-in w (before_whole i b))))

    heads_kept : length hs'' ≡ length hs
    unfolding hs''
    heads_kept = length_retopped hs c at (get_or nx q 0)

    q_next : q < length nx → get_or nx'' q 0 ≡ sp
    unfolding nx''
    q_next l = get_or-set_same (relinked nx at (get_or nx q 0)) q sp 0 (omega (arith, length_relinked nx at (get_or nx q 0)))

    from_out : (In q (before ++ after) → ⊥) → Trail nx'' (get_or hs'' c 0) (before ++ after)
    unfolding hs'' nx''
    from_out once =
        subst (λ p. Trail nx'' p (before ++ after)) (sym (retopped_own hs c at (get_or nx q 0) there))
        (frame (relinked nx at (get_or nx q 0)) (topped (get_or hs c 0) at (get_or nx q 0)) (before ++ after) q sp (unhang nx (get_or hs c 0) before after at q own_whole last) once)

    moves_out : Moves (sp ∷ hs) nx (q ∷ hs'') nx'' q (suc c) 0 (before ++ after) (q ∷ places nx sp)
    moves_out =
        let q-in = in_range nx (get_or hs c 0) (before ++ q ∷ after) q own_whole (in_after q before (q ∷ after) (inl refl)) in
        let once = stands_once nx (get_or hs c 0) before q after own_whole in
        record {
          tops_kept = ap suc heads_kept;
          nexts_kept = length_nx;
          from = from_out once;
          to = (refl, q-in.0, omega (arith, q-in.1, length_nx), subst (λ p. Trail nx'' p (places nx sp)) (sym (q_next q-in.1)) spare_kept);
          others = others_out;
          less = let e = ap length split in let f = length-append before after in let g = length-append before (q ∷ after) in omega arith;
          more = omega arith;
          gone = λ i w. (λ e. once (subst (λ j. In j (before ++ after)) e w), ⊎_elim (λ b. before_whole i b) (λ a. subst (In i) (sym split) (in_after i before (q ∷ after) (inr a))) (in_either i before after w));
          come = λ i w. w;
          had = q_own;
        }

    moved_out : Moved (sp ∷ hs) nx (q ∷ hs'') nx'' (suc c) 0 (before ++ after) (q ∷ places nx sp)
    moved_out = moved (sp ∷ hs) nx (q ∷ hs'') nx'' q (suc c) 0 (before ++ after) (q ∷ places nx sp) s (omega arith) (omega arith) (λ e. omega arith) moves_out

    pub sound_out : Sound (q ∷ retopped hs c at (get_or nx q 0)) (set (relinked nx at (get_or nx q 0)) q sp)
    unfolding hs'' nx''
    sound_out = moved_out.sound

    pub rows_out : {R : Type 0} (vs : List R) → rows (retopped hs c at (get_or nx q 0)) (set (relinked nx at (get_or nx q 0)) q sp) vs ≡ set (rows hs nx vs) c (records vs before ++ records vs after)
    unfolding hs'' nx''
    rows_out vs =
        rows_then hs (retopped hs c at (get_or nx q 0)) nx (set (relinked nx at (get_or nx q 0)) q sp) vs vs c (records vs before ++ records vs after) (length_retopped hs c at (get_or nx q 0)) there
        (ap (records vs) moved_out.from ∙ records_append vs before after)
        (λ k l other. ap (records vs) (moved_out.others (suc k) (omega arith) (λ e. other (omega arith)) (λ e. omega arith)))

    -- another record at the place q
    pub rows_changed : {R : Type 0} (vs : List R) (r : R) → length vs ≡ length nx → rows hs nx (set vs q r) ≡ set (rows hs nx vs) c (records vs before ++ r ∷ records vs after)
    rows_changed vs r same =
        let q-in = in_range nx (get_or hs c 0) (before ++ q ∷ after) q own_whole (in_after q before (q ∷ after) (inl refl)) in
        let once = stands_once nx (get_or hs c 0) before q after own_whole in
        rows_then hs hs nx nx vs (set vs q r) c (records vs before ++ r ∷ records vs after) refl there
        (ap (records (set vs q r)) split ∙ records_append (set vs q r) before (q ∷ after)
        ∙ (λ i. records_other vs before q r (λ h. once (in_before q before after h)) i ++ (fronted_set vs q r (records (set vs q r) after) (omega (arith, q-in.1)) ∙ ap (λ rs. r ∷ rs) (records_other vs after q r (λ h. once (in_after q before after h)))) i))
        (λ k l other. records_other vs (places nx (get_or hs k 0)) q r (λ w. other (same_chain k q l w q_own)))
