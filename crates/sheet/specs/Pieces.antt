-- The pieces that a byte parts a text into. Assumes nothing.
use Rattle.std.specs.Prelude.{◌≡◌, ℕ, ◌<◌, cond, List, [], ◌∷◌, ◌++◌, length, ◌==◌, ◌≢◌, slice_index}
use Rattle.std.specs.List.{AllByRecursion}

-- the pieces of a text: the first, and those after it
pub record Pieces : Type 0 where
  pub first : List ℕ
  pub rest : List (List ℕ)

-- what the byte b parts a text into: one piece more than b occurs; a piece may be empty
abbrev pub pieces : ℕ → List ℕ → Pieces
pieces b [] = record { first = []; rest = [] }
pieces b (x ∷ xs) = cond (x == b) (record { first = []; rest = (pieces b xs).first ∷ (pieces b xs).rest }) (record { first = x ∷ (pieces b xs).first; rest = (pieces b xs).rest })

-- no byte of the text is b
abbrev pub Lacks : ℕ → List ℕ → Type 0
Lacks b xs = (k : ℕ) → k < length xs → slice_index xs k ≢ b

-- no byte of any piece is b
abbrev pub AllLack : ℕ → Pieces → Type 0
AllLack b p = Lacks b p.first × AllByRecursion (Lacks b) p.rest

-- the texts one after the other, with one b before each
abbrev pub led : ℕ → List (List ℕ) → List ℕ
led b [] = []
led b (t ∷ ts) = b ∷ (t ++ led b ts)

-- the pieces joined, with one b between neighbours
abbrev pub rejoined : ℕ → Pieces → List ℕ
rejoined b p = p.first ++ led b p.rest

-- the pieces of a text lack b and rejoin to the text, and no other pieces do both
abbrev pub PiecesRejoin : Type 0
PiecesRejoin = (b : ℕ) (bs : List ℕ) → (rejoined b (pieces b bs) ≡ bs) × AllLack b (pieces b bs) × ((p : Pieces) → AllLack b p → rejoined b p ≡ bs → p ≡ pieces b bs)
