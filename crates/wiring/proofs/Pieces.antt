-- Pieces that are written one after another. Assumes nothing.
use Rattle.std.proofs.Common.{◌≡◌, ℕ, List, ◌++◌, sym, ap, ◌∙◌, append_assoc}

-- what was written, and the piece that is written next, with those left then
pub next : (written piece left rest all : List ℕ) → rest ≡ piece ++ left → written ++ rest ≡ all → (written ++ piece) ++ left ≡ all
next written piece left rest all split old = append_assoc written piece left ∙ ap (λ x. written ++ x) (sym split) ∙ old
