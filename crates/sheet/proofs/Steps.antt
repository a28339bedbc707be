-- A piece is cut where a byte first stands, and so one line or one word more is known. Assumes nothing.
use Rattle.std.proofs.Common.{◌≡◌, ℕ, zero, suc, eqb, Bool, not, cond, true, false, subst, ⊎_elim, ◌+◌, ◌-◌, ◌<◌, ◌≤◌, List, [], ◌∷◌, ◌++◌, map, length, get_or, take, drop, Some, None, Option, IfSome, sym, refl, ap, ◌∙◌, arith, take-append-drop, take_all, get_or-take, length-drop, length-take-le}
use Rattle.std.proofs.lemmas.List.{drop_more}
use Rattle.std.specs.List.{AllWithin, HoldsAt, prefix_len}
use Rattle.std.proofs.lemmas.Bool.Decides.{eqb_tells}
use Rattle.std.proofs.lemmas.Bool.{true≢false}
use Rattle.std.specs.Option.{is_some}
use Rattle.std.specs.Prelude.{◌≢◌}
use Rattle.sheet.specs.Pieces.{pieces, Lacks}
use Rattle.sheet.specs.Lines.{SheetWord, unless_empty, ended, numbered, placed}
use Rattle.sheet.specs.Readers.{seen, parts, lines_on}
use Rattle.sheet.specs.declared.piece.Piece.{Piece}
use Rattle.sheet.proofs.Cuts.{first_piece, only_piece}

module _ (b : ℕ) (bs : List ℕ) where
  -- where b is nowhere, the bytes are their only piece
  pub uncut : AllWithin (λ x. x ≢ b) bs 0 (length bs) → pieces b bs ≡ record { first = bs; rest = [] }
  uncut none = only_piece b bs (λ k l. none k 0 (omega arith) l)

  -- where b stands first, the pieces of what comes after it follow
  pub cut_at : (at : ℕ) → at < length bs → HoldsAt (λ x. x ≡ b) bs at → AllWithin (λ x. x ≢ b) bs 0 at
      → pieces b bs ≡ record { first = take at bs; rest = (pieces b (drop (at + 1) bs)).first ∷ (pieces b (drop (at + 1) bs)).rest }
  cut_at at l here before =
      let lacks : Lacks b (take at bs) = λ k m same. let near : k < at = omega (arith, length-take-le at bs (omega arith)) in before k 0 (omega arith) near (sym (get_or-take at bs k 0 near) ∙ same) in
      ap (pieces b) (sym (take-append-drop at bs) ∙ ap (λ t. take at bs ++ t) (drop_more bs at 0 l ∙ ap (λ x. x ∷ drop (at + 1) bs) (here 0))) ∙ first_piece b (take at bs) (drop (at + 1) bs) lacks

-- the byte x is not b
abbrev pub other : ℕ → ℕ → Bool
other b x = not (eqb x b)

module _ (b x : ℕ) (xs : List ℕ) where
  starts : eqb x b ≡ true → prefix_len (other b) (x ∷ xs) ≡ 0
  starts e = ap (λ t. cond (not t) (1 + prefix_len (other b) xs) 0) e

  goes_on : eqb x b ≡ false → prefix_len (other b) (x ∷ xs) ≡ suc (prefix_len (other b) xs)
  goes_on e = ap (λ t. cond (not t) (1 + prefix_len (other b) xs) 0) e ∙ omega arith

-- b is none of the bytes before the first b
pub before_first : (b : ℕ) (bs : List ℕ) (k d : ℕ) → k < prefix_len (other b) bs → get_or bs k d ≡ b → ⊥
before_first b [] k d near same = omega arith
before_first b (x ∷ xs) zero d near same = ⊎_elim (λ t. omega (arith, starts b x xs t.0)) (λ t. t.1 same) (eqb_tells x b)
before_first b (x ∷ xs) (suc k) d near same = ⊎_elim (λ t. omega (arith, starts b x xs t.0)) (λ t. before_first b xs k d (omega (arith, goes_on b x xs t.0)) same) (eqb_tells x b)

-- b stands where the bytes before the first b end
pub at_first : (b : ℕ) (bs : List ℕ) (d : ℕ) → prefix_len (other b) bs < length bs → get_or bs (prefix_len (other b) bs) d ≡ b
at_first b [] d h = omega arith
at_first b (x ∷ xs) d h =
    ⊎_elim
    (λ t. subst (λ n. get_or (x ∷ xs) n d ≡ b) (sym (starts b x xs t.0)) t.1)
    (λ t. subst (λ n. get_or (x ∷ xs) n d ≡ b) (sym (goes_on b x xs t.0)) (at_first b xs d (omega (arith, goes_on b x xs t.0))))
    (eqb_tells x b)

module _ (b p : ℕ) (bs : List ℕ) where
  -- the one part of bytes that b is nowhere in
  pub parts_all : AllWithin (λ x. x ≢ b) bs 0 (length bs) → placed p ((pieces b bs).first ∷ (pieces b bs).rest) ≡ record { place = p; text = bs } ∷ []
  parts_all none = ap (λ q. placed p (q.first ∷ q.rest)) (uncut b bs none)

  -- the part before the first b, and the parts of what comes after it
  pub parts_at : (at : ℕ) → at < length bs → HoldsAt (λ x. x ≡ b) bs at → AllWithin (λ x. x ≢ b) bs 0 at
      → placed p ((pieces b bs).first ∷ (pieces b bs).rest) ≡ record { place = p; text = take at bs } ∷ placed (p + at + 1) ((pieces b (take (length bs - (at + 1)) (drop (at + 1) bs))).first ∷ (pieces b (take (length bs - (at + 1)) (drop (at + 1) bs))).rest)
  parts_at at l here before =
      let whole : take (length bs - (at + 1)) (drop (at + 1) bs) ≡ drop (at + 1) bs = take_all (length bs - (at + 1)) (drop (at + 1) bs) (omega (arith, length-drop (at + 1) bs)) in
      let begins : p + length (take at bs) + 1 ≡ p + at + 1 = omega (arith, length-take-le at bs (omega arith)) in
      ap (λ q. placed p (q.first ∷ q.rest)) (cut_at b bs at l here before)
      ∙ ap (λ o. record { place = p; text = take at bs } ∷ placed o ((pieces b (drop (at + 1) bs)).first ∷ (pieces b (drop (at + 1) bs)).rest)) begins
      ∙ ap (λ t. record { place = p; text = take at bs } ∷ placed (p + at + 1) ((pieces b t).first ∷ (pieces b t).rest)) (sym whole)

-- the word at an index, or an empty one
abbrev word_at : List SheetWord → ℕ → SheetWord
word_at ws k = get_or ws k (record { place = 0; text = [] })

-- the texts of placed texts
texts : (p : ℕ) (ts : List (List ℕ)) → map (λ w. w.text) (placed p ts) ≡ ts
texts p [] = refl
texts p (t ∷ ts) = ap (λ us. t ∷ us) (texts (p + length t + 1) ts)

-- a text that is not empty is a line
one_line : (t : List ℕ) → 0 < length t → unless_empty t ≡ t ∷ []
one_line [] some = absurd (omega arith)
one_line (x ∷ xs) some = refl

no_line : (t : List ℕ) → length t ≡ 0 → unless_empty t ≡ []
no_line [] none = refl
no_line (x ∷ xs) none = absurd (omega arith)

module _ (b : ℕ) (p f : Piece) (ws : List SheetWord) (cut : parts b (Some p) ≡ seen f ∷ ws) where
  at : p.place ≡ f.place
  at = ap (λ us. (word_at us 0).place) cut

  first : (pieces b p.bytes.now).first ≡ f.bytes.now
  first = ap (λ us. (word_at us 0).text) cut

  rest : placed (p.place + length (pieces b p.bytes.now).first + 1) (pieces b p.bytes.now).rest ≡ ws
  rest = ap (drop 1) cut

  rest_texts : (pieces b p.bytes.now).rest ≡ map (λ w. w.text) ws
  rest_texts = sym (texts _ (pieces b p.bytes.now).rest) ∙ ap (map (λ w. w.text)) rest

-- what is left after a cut begins one byte after what was cut off
after : (b : ℕ) (p f q : Piece) → parts b (Some p) ≡ seen f ∷ parts b (Some q) → q.place ≡ p.place + length f.bytes.now + 1
after b p f q cut =
    let left = parts b (Some q) in
    let same : (pieces b p.bytes.now).rest ≡ (pieces b q.bytes.now).first ∷ (pieces b q.bytes.now).rest = rest_texts b p f left cut ∙ texts q.place ((pieces b q.bytes.now).first ∷ (pieces b q.bytes.now).rest) in
    let begins : p.place + length (pieces b p.bytes.now).first + 1 ≡ q.place = ap (λ ts. (word_at (placed (p.place + length (pieces b p.bytes.now).first + 1) ts) 0).place) (sym same) ∙ ap (λ us. (word_at us 0).place) (rest b p f left cut) in
    omega (arith, ap length (first b p f left cut))

-- a line more makes a count that is still at most the place
pub counted_more : (b n : ℕ) (p f : Piece) (left : Option Piece) → parts b (Some p) ≡ seen f ∷ parts b left → n ≤ p.place → IfSome left (λ q. n + 1 ≤ q.place)
counted_more b n p f None cut h = tt
counted_more b n p f (Some q) cut h = omega (arith, after b p f q cut)

-- an empty piece, with nothing after it, is no line
pub lines_end : (n : ℕ) (p f : Piece) (left : Option Piece) → parts 10 (Some p) ≡ seen f ∷ parts 10 left → is_some left ≡ false → length f.bytes.now ≡ 0 → (lines_on n (Some p) ≡ []) × (lines_on n left ≡ [])
lines_end n p f (Some q) cut gone none = absurd (true≢false gone)
lines_end n p f None cut gone none = (
  ap (λ ts. numbered n p.place (ended (pieces 10 p.bytes.now).first ts)) (rest_texts 10 p f [] cut)
      ∙ ap (λ t. numbered n p.place (unless_empty t)) (first 10 p f [] cut)
      ∙ ap (numbered n p.place) (no_line f.bytes.now none),
  refl,
)

-- every other piece is a line, and the lines of what is left come after it
pub lines_more : (n : ℕ) (p f : Piece) (left : Option Piece) → parts 10 (Some p) ≡ seen f ∷ parts 10 left → (is_some left ≡ false → 0 < length f.bytes.now)
    → lines_on n (Some p) ≡ record { number = n; place = f.place; text = f.bytes.now } ∷ lines_on (n + 1) left
lines_more n p f None cut some =
    ap (λ ts. numbered n p.place (ended (pieces 10 p.bytes.now).first ts)) (rest_texts 10 p f [] cut)
    ∙ ap (λ t. numbered n p.place (unless_empty t)) (first 10 p f [] cut)
    ∙ ap (numbered n p.place) (one_line f.bytes.now (some refl))
    ∙ ap (λ q. numbered n q (f.bytes.now ∷ [])) (at 10 p f [] cut)
lines_more n p f (Some q) cut some =
    let left = parts 10 (Some q) in
    let next = pieces 10 q.bytes.now in
    ap (λ ts. numbered n p.place (ended (pieces 10 p.bytes.now).first ts)) (rest_texts 10 p f left cut ∙ texts q.place (next.first ∷ next.rest))
    ∙ ap (λ t. numbered n p.place (t ∷ ended next.first next.rest)) (first 10 p f left cut)
    ∙ ap (λ o. record { number = n; place = p.place; text = f.bytes.now } ∷ numbered (n + 1) o (ended next.first next.rest)) (sym (after 10 p f q cut))
    ∙ ap (λ o. record { number = n; place = o; text = f.bytes.now } ∷ lines_on (n + 1) (Some q)) (at 10 p f left cut)
