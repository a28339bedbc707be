-- A call as a value has one answer. Assumes nothing.
use Rattle.std.proofs.Common.{◌≡◌, Result, sym, ap, ◌∙◌, subst}
use Rattle.book.proofs.Whole.{answers_alike}
use Rattle.book.specs.Meanings.{Meaning, Formed}
use Rattle.book.specs.declared.refusal.BookRefusal.{BookRefusal}
use Rattle.bookpair.specs.Asked.{Answers, made}
use Rattle.bookpair.specs.declared.call.Answer.{Answer}
use Rattle.bookpair.specs.declared.call.Call.{Call}
use Rattle.bookpair.specs.declared.call.Call.TheVariants.{Run, Holder, Book, Release}

once : (m : Meaning) (call : Call) (a b : Result Answer BookRefusal) (p q : Meaning) → Formed m → Answers m call a p → Answers m call b q → (a ≡ b) × (p ≡ q)
once m (Run link tick) a b p q f x y = (x.0.2 ∙ ap (made _) (answers_alike.run m link tick _ _ x.0.1 y.0.1) ∙ sym y.0.2, x.1 ∙ sym y.1)
once m (Holder link tick) a b p q f x y = (x.0.2 ∙ ap (made _) (answers_alike.holder m link tick _ _ f x.0.1 y.0.1) ∙ sym y.0.2, x.1 ∙ sym y.1)
once m (Book link start ticks flow) a b p q f x y = let same = answers_alike.book m link _ _ _ p q x.1 y.1 in (x.2 ∙ ap (made _) same.0 ∙ sym y.2, same.1)
once m (Release link start) a b p q f x y = let same = answers_alike.release m link start _ _ p q f x.1 y.1 in (x.2 ∙ ap (made _) same.0 ∙ sym y.2, same.1)

-- books that mean the same give one answer
pub same_answer : (m n : Meaning) (call : Call) (a b : Result Answer BookRefusal) (p q : Meaning) → Formed m → Answers m call a p → Answers n call b q → m ≡ n → a ≡ b
same_answer m n call a b p q f x y e = (once m call a b p q f x (subst (λ k. Answers k call b q) (sym e) y)).0

-- and mean the same after
pub same_after : (m n : Meaning) (call : Call) (a b : Result Answer BookRefusal) (p q : Meaning) → Formed m → Answers m call a p → Answers n call b q → m ≡ n → p ≡ q
same_after m n call a b p q f x y e = (once m call a b p q f x (subst (λ k. Answers k call b q) (sym e) y)).1
