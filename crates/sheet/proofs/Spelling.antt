-- A text is known by its length and its bytes, and a keyword by its text. Assumes nothing.
use Rattle.std.proofs.Common.{◌≡◌, ℕ, ◌+◌, cond, List, [], ◌∷◌, length, get_or, drop, Some, None, Option, sym, refl, ap, ◌∙◌, arith}
use Rattle.std.proofs.lemmas.List.{drop_more, drop_all}
use Rattle.std.specs.Str.{bytes_eq}
use Rattle.sheet.specs.Keywords.{spelled}
use Rattle.sheet.specs.declared.keyword.Keyword.{Keyword}
use Rattle.sheet.specs.declared.keyword.Keyword.TheVariants as words

-- from the offset k on, the bytes of a text are these, and then it ends
abbrev pub ReadsOn : List ℕ → ℕ → List ℕ → Type 0
ReadsOn text k [] = length text ≡ k
ReadsOn text k (b ∷ bs) = (get_or text k 0 ≡ b) × ReadsOn text (k + 1) bs

long_enough : (text : List ℕ) (k : ℕ) (bs : List ℕ) → ReadsOn text k bs → length text ≡ k + length bs
long_enough text k [] h = omega arith
long_enough text k (b ∷ bs) h = omega (arith, long_enough text (k + 1) bs h.1)

pub reads_on : (text : List ℕ) (k : ℕ) (bs : List ℕ) → ReadsOn text k bs → drop k text ≡ bs
reads_on text k [] h = drop_all k text (omega arith)
reads_on text k (b ∷ bs) h = drop_more text k 0 (omega (arith, long_enough text k (b ∷ bs) h)) ∙ (λ i. h.0 i ∷ reads_on text (k + 1) bs h.1 i)

-- the first of some keywords that is written so
abbrev among : List Keyword → List ℕ → Option Keyword
among [] text = None
among (k ∷ ks) text = cond (bytes_eq text (spelled k)) (Some k) (among ks text)

-- the keyword that is written so
abbrev named : List ℕ → Option Keyword
named = among (words.Net ∷ words.Link ∷ words.Ready ∷ words.Flow ∷ words.Drop ∷ words.Bar ∷ words.Lift ∷ words.Gates ∷ words.Faults ∷ [])

named_spelled : (k : Keyword) → named (spelled k) ≡ Some k
named_spelled words.Net = refl
named_spelled words.Link = refl
named_spelled words.Ready = refl
named_spelled words.Flow = refl
named_spelled words.Drop = refl
named_spelled words.Bar = refl
named_spelled words.Lift = refl
named_spelled words.Gates = refl
named_spelled words.Faults = refl

-- no two keywords are written the same
pub spelled_once : (j k : Keyword) → spelled j ≡ spelled k → j ≡ k
spelled_once j k e = let f : Some j ≡ Some k = sym (named_spelled j) ∙ ap named e ∙ named_spelled k in cc
