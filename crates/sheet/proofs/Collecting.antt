-- The numbers after a line's first word, one more at a time. Assumes nothing.
use Rattle.std.proofs.Common.{◌≡◌, ℕ, suc, ◌+◌, ◌<◌, List, [], ◌∷◌, ◌++◌, map, length, set, take, replicate, None, Ok, Err, Result, sym, refl, ap, ◌∙◌, subst, inl, inr, append_assoc, arith, length-append, length-set}
use mathlib.Core.List.{map-append}
use Rattle.limits.proofs.Once.{first_found, first_passed}
use Rattle.limits.specs.Refusals.{First}
use Rattle.std.proofs.lemmas.List.{length_push, take_more_set}
use Rattle.sheet.specs.Commands.{number_rule, Numerals}
use Rattle.sheet.specs.Lines.{SheetWord}
use Rattle.sheet.specs.Numerals.{Numeral}
use Rattle.sheet.specs.Readers.{Told, token_word}
use Rattle.sheet.specs.Readings.{NumbersOf, noted}
use Rattle.sheet.specs.declared.command.Fault.{Fault}
use Rattle.sheet.specs.declared.token.Token.{Token}
use Rattle.sheet.specs.declared.token.Token.TheVariants.{Word, Number}
use Rattle.std.specs.Prelude.{IfOk}

-- one number more
numerals_push : (ws : List SheetWord) (ns : List ℕ) (w : SheetWord) (n : ℕ) → Numerals ws ns → Numeral w.text n → Numerals (ws ++ (w ∷ [])) (ns ++ (n ∷ []))
numerals_push [] [] w n h last = (last, refl)
numerals_push [] (m ∷ ms) w n h last = absurd (let z : ◌≡◌ {A = ℕ} 0 1 = cc in omega arith)
numerals_push (v ∷ vs) [] w n h last = absurd h
numerals_push (v ∷ vs) (m ∷ ms) w n h last = (h.0, numerals_push vs ms w n h.1 last)

-- there are as many numbers as words
pub numerals_long : (ws : List SheetWord) (ns : List ℕ) → Numerals ws ns → length ns ≡ length ws
numerals_long [] ns h = ap length h
numerals_long (w ∷ ws) [] h = absurd h
numerals_long (w ∷ ws) (n ∷ ns) h = ap suc (numerals_long ws ns h.1)

-- no rule of words that are numbers counts
pub numerals_pass : (ws : List SheetWord) (ns : List ℕ) → Numerals ws ns → First (map number_rule ws) None
numerals_pass [] ns h = refl
numerals_pass (w ∷ ws) [] h = absurd h
numerals_pass (w ∷ ws) (n ∷ ns) h = inr (λ bad. bad n h.0, numerals_pass ws ns h.1)

-- one token more
noted_more : (ws : List SheetWord) (known : Result (List ℕ) Fault) (t : Token) → IfOk known (λ vs. length vs ≡ 7) → length ws < 7 → NumbersOf ws known → Told t → NumbersOf (ws ++ (token_word t ∷ [])) (noted known (length ws) t)
noted_more ws (Ok vs) (Number word value) seven few h told =
    subst (Numerals (ws ++ (token_word (Number word value) ∷ []))) (sym read) (numerals_push ws (take (length ws) vs) (token_word (Number word value)) value h told)
  where
    read : take (length (ws ++ (token_word (Number word value) ∷ []))) (set vs (length ws) value) ≡ take (length ws) vs ++ (value ∷ [])
    read = ap (λ j. take j (set vs (length ws) value)) (length_push ws (token_word (Number word value))) ∙ take_more_set vs (length ws) value (omega (arith, seven))
noted_more ws (Ok vs) (Word word) seven few h told =
    rw map-append (first_passed (map number_rule ws) (number_rule (token_word (Word word)) ∷ []) _ (numerals_pass ws (take (length ws) vs) h) (inl (told, refl)))
noted_more ws (Err f) t seven few h told =
    rw map-append (first_found (map number_rule ws) (number_rule (token_word t) ∷ []) f h)

noted_seven : (known : Result (List ℕ) Fault) (k : ℕ) (t : Token) → IfOk known (λ vs. length vs ≡ 7) → IfOk (noted known k t) (λ vs. length vs ≡ 7)
noted_seven (Ok vs) k (Number word value) seven = length-set vs k value ∙ seven
noted_seven (Ok vs) k (Word word) seven = tt
noted_seven (Err f) k t seven = tt

-- k of the words ws are read so far, and the others are left
pub record Sofar (ws left : List SheetWord) (k : ℕ) (known : Result (List ℕ) Fault) : Type 0 where
  pub done : List SheetWord
  pub split : ws ≡ done ++ left
  pub many : length done ≡ k
  pub seven : IfOk known (λ vs. length vs ≡ 7)
  pub numbers : NumbersOf done known

pub none_yet : (ws : List SheetWord) → Sofar ws ws 0 (Ok (replicate 7 0))
none_yet ws = record { done = []; split = refl; many = refl; seven = refl; numbers = refl }

pub one_more : (ws next left : List SheetWord) (k : ℕ) (known : Result (List ℕ) Fault) (t : Token) → Sofar ws next k known → next ≡ token_word t ∷ left → Told t → k < 7 → Sofar ws left (k + 1) (noted known k t)
one_more ws next left k known t h e told few = record {
  done = h.done ++ (token_word t ∷ []);
  split = h.split ∙ ap (λ l. h.done ++ l) e ∙ sym (append_assoc h.done (token_word t ∷ []) left);
  many = length_push h.done (token_word t) ∙ ap (λ n. n + 1) h.many;
  seven = noted_seven known k t h.seven;
  numbers = subst (λ n. NumbersOf (h.done ++ (token_word t ∷ [])) (noted known n t)) h.many (noted_more h.done known t h.seven (omega (arith, h.many)) h.numbers told);
}

-- with as many words read as there are, none is left
pub too_many : (ws left rest : List SheetWord) (w : SheetWord) (k : ℕ) (known : Result (List ℕ) Fault) → Sofar ws left k known → left ≡ w ∷ rest → length ws ≡ k → ⊥
too_many ws left rest w k known h e same =
    omega (arith, ap length h.split ∙ length-append h.done left, ap length e, h.many)
