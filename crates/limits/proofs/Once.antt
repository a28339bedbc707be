-- Of the rules of a call at most one refusal counts. Assumes nothing.
use Rattle.std.proofs.Common.{◌≡◌, ℕ, List, [], ◌∷◌, ◌++◌, Some, None, Option, sym, ◌∙◌, inl, inr, ⊎_elim, arith}
use Rattle.limits.specs.Ranges.{Within}
use Rattle.limits.specs.Refusals.{Rule, First}
use Rattle.std.proofs.lemmas.Bool.{cases_lt}

pub first_once : {R : Type 0} (rules : List (Rule R)) (o p : Option R) → First rules o → First rules p → o ≡ p
first_once [] o p a b = a ∙ sym b
first_once (r ∷ rs) o p (inl a) (inl b) = a.1 ∙ sym b.1
first_once (r ∷ rs) o p (inl a) (inr b) = absurd (b.0 a.0)
first_once (r ∷ rs) o p (inr a) (inl b) = absurd (a.0 b.0)
first_once (r ∷ rs) o p (inr a) (inr b) = first_once rs o p a.1 b.1

-- what counts among some rules counts with more rules after them
pub first_found : {R : Type 0} (rules more : List (Rule R)) (x : R) → First rules (Some x) → First (rules ++ more) (Some x)
first_found [] more x a = absurd (let z : ◌≡◌ {A = ℕ} 0 1 = cc in omega arith)
first_found (r ∷ rs) more x (inl a) = inl a
first_found (r ∷ rs) more x (inr a) = inr (a.0, first_found rs more x a.1)

-- where none of some rules counts, those after them do
pub first_passed : {R : Type 0} (rules more : List (Rule R)) (o : Option R) → First rules None → First more o → First (rules ++ more) o
first_passed [] more o a b = b
first_passed (r ∷ rs) more o (inl a) b = absurd (let z : ◌≡◌ {A = ℕ} 0 1 = cc in omega arith)
first_passed (r ∷ rs) more o (inr a) b = inr (a.0, first_passed rs more o a.1 b)

-- no rule's condition holds
abbrev pub NoneHold : {R : Type 0} → List (Rule R) → Type 0
NoneHold [] = Unit {0}
NoneHold (r ∷ rs) = (r.when → ⊥) × NoneHold rs

pub none_hold : {R : Type 0} (rules : List (Rule R)) → First rules None → NoneHold rules
none_hold [] a = tt
none_hold (r ∷ rs) (inl a) = absurd (let z : ◌≡◌ {A = ℕ} 0 1 = cc in omega arith)
none_hold (r ∷ rs) (inr a) = (a.0, none_hold rs a.1)

-- a range is decided
pub within_or_not : (low high n : ℕ) → ((Within low high n → ⊥) → ⊥) → Within low high n
within_or_not low high n both = record {
  least = ⊎_elim (λ below. absurd (both (λ w. omega (arith, w.least)))) (λ h. h) (cases_lt n low);
  most = ⊎_elim (λ above. absurd (both (λ w. omega (arith, w.most)))) (λ h. h) (cases_lt high n);
}
