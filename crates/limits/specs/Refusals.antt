-- Which refusal counts where several fit. Assumes nothing.
use Rattle.std.specs.Prelude.{◌≡◌, ◌⊎◌, List, [], ◌∷◌, Some, None, Ok, Err, Option, Result}

-- a condition, and the refusal that is given where it holds
pub record Rule (R : Type 0) : Type 1 where
  pub when : Type 0
  pub give : R

-- o is what the first rule whose condition holds gives, or nothing where no condition holds
abbrev pub First : {R : Type 0} → List (Rule R) → Option R → Type 0
First [] o = o ≡ None
First (r ∷ rs) o = (r.when × (o ≡ Some r.give)) ⊎ ((r.when → ⊥) × First rs o)

-- a check gives the refusal that counts, and passes where none does
abbrev pub Checks : {R : Type 0} → List (Rule R) → Result (Unit {0}) R → Type 0
Checks rules (Ok u) = First rules None
Checks rules (Err e) = First rules (Some e)
