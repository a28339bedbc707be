-- What a line says, from its words as they were read. Assumes nothing.
use Rattle.std.proofs.Common.{◌≡◌, ℕ, zero, suc, ◌+◌, ◌≤◌, true, false, List, [], ◌∷◌, ◌++◌, map, length, get_or, take, drop, Some, None, Option, IfSome, Ok, Err, Result, sym, refl, ap, ◌∙◌, subst, inl, inr, arith}
use Rattle.limits.proofs.Once.{first_found, first_passed}
use Rattle.limits.specs.Refusals.{First}
use Rattle.std.proofs.lemmas.List.{nil_from_length, drop_more, length-take}
use Rattle.std.proofs.lemmas.Bool.{true≢false}
use Rattle.sheet.specs.Commands.{Begins, Numerals, Says, line_rules, number_rule, stage_rule}
use Rattle.sheet.specs.Keywords.{arity_of, belongs_in}
use Rattle.sheet.specs.Lines.{SheetLine, SheetWord, arguments}
use Rattle.sheet.specs.Readings.{NumbersOf, Reads, command_of, keyword_of}
use Rattle.sheet.specs.declared.command.Command.{Command}
use Rattle.sheet.specs.declared.command.Fault.{Fault}
use Rattle.sheet.specs.declared.keyword.Keyword.{Keyword}
use Rattle.sheet.specs.declared.keyword.Keyword.TheVariants as words
use Rattle.sheet.specs.declared.keyword.Stage.{Stage}
use Rattle.sheet.specs.declared.refusal.SheetRefusal.TheVariants.{WordCount, OtherSide}
use Rattle.std.specs.Result.{IsErrAnd}
use Rattle.sheet.proofs.Collecting.{numerals_long, numerals_pass}
use Rattle.std.specs.Option.{MatchOption}
use Rattle.sheet.specs.Readers.{words_left}
use Rattle.sheet.specs.declared.lexer.Lexer.{Lexer}
use Rattle.sheet.proofs.Spelling.{spelled_once}

-- n values from the index i on, one by one
abbrev spread : List ℕ → ℕ → ℕ → List ℕ
spread vs i zero = []
spread vs i (suc n) = get_or vs i 0 ∷ spread vs (i + 1) n

spread_out : (vs : List ℕ) (i n : ℕ) → i + n ≤ length vs → take n (drop i vs) ≡ spread vs i n
spread_out vs i zero h = refl
spread_out vs i (suc n) h = ap (take (suc n)) (drop_more vs i 0 (omega arith)) ∙ ap (λ t. get_or vs i 0 ∷ t) (spread_out vs (i + 1) n (omega arith))

-- words that are the first n of some values
numerals_are : (l : SheetLine) (vs : List ℕ) (n : ℕ) → length (arguments l) ≡ n → Numerals (arguments l) (take (length (arguments l)) vs) → Numerals (arguments l) (spread vs 0 n)
numerals_are l vs n counted h =
    let enough : n ≤ length vs = omega (arith, numerals_long (arguments l) _ h, length-take (length (arguments l)) vs) in
    subst (Numerals (arguments l)) (ap (λ m. take m vs) counted ∙ spread_out vs 0 n (omega arith)) h

-- what a line says comes of its keyword and the values of the words after it
pub says_read : (l : SheetLine) (k : Keyword) (vs : List ℕ) → Begins l k → length (arguments l) ≡ arity_of k → Numerals (arguments l) (take (length (arguments l)) vs) → Says l (command_of k vs)
says_read l words.Net vs b n h = (b, numerals_are l vs 5 n h)
says_read l words.Link vs b n h = (b, numerals_are l vs 2 n h)
says_read l words.Ready vs b n h = (b, nil_from_length (arguments l) n)
says_read l words.Flow vs b n h = (b, refl)
says_read l words.Drop vs b n h = (b, refl)
says_read l words.Bar vs b n h = (b, refl)
says_read l words.Lift vs b n h = (b, refl)
says_read l words.Gates vs b n h = (b, refl)
says_read l words.Faults vs b n h = (b, refl)

pub keyword_kept : (k : Keyword) (vs : List ℕ) → keyword_of (command_of k vs) ≡ k
keyword_kept words.Net vs = refl
keyword_kept words.Link vs = refl
keyword_kept words.Ready vs = refl
keyword_kept words.Flow vs = refl
keyword_kept words.Drop vs = refl
keyword_kept words.Bar vs = refl
keyword_kept words.Lift vs = refl
keyword_kept words.Gates vs = refl
keyword_kept words.Faults vs = refl

pub few_words : (k : Keyword) → arity_of k ≤ 7
few_words words.Net = omega arith
few_words words.Link = omega arith
few_words words.Ready = omega arith
few_words words.Flow = omega arith
few_words words.Drop = omega arith
few_words words.Bar = omega arith
few_words words.Lift = omega arith
few_words words.Gates = omega arith
few_words words.Faults = omega arith

-- the line begins with k, and the lexer has the words after it
pub record Opened (l : SheetLine) (k : Keyword) (s : Lexer) : Type 0 where
  begins : Begins l k
  follow : words_left s ≡ arguments l

pub opened : (l : SheetLine) (o : Option (Keyword × Lexer)) (k : Keyword) (s : Lexer) → o ≡ Some (k, s) → MatchOption o ((j : Keyword) → Begins l j → ⊥) (λ p. Begins l p.0) → IfSome o (λ p. words_left p.1 ≡ arguments l) → Opened l k s
opened l o k s is keyword words = record { begins = rw is at keyword; follow = rw is at words }

-- the words are as many as wanted, and what is known of them is told
pub numbered : (o : Option (Result (List ℕ) Fault)) (known : Result (List ℕ) Fault) (ws : List SheetWord) (n : ℕ) → o ≡ Some known → MatchOption o (length ws ≡ n → ⊥) (λ r. length ws ≡ n) → IfSome o (NumbersOf ws) → (length ws ≡ n) × NumbersOf ws known
numbered o known ws n is counted told = (rw is at counted, rw is at told)

module _ (s : Stage) (l : SheetLine) (k : Keyword) (lexer : Lexer) (found : Opened l k lexer) where
  abbrev ws : List SheetWord
  ws = words_left lexer

  pub rule_count : (length ws ≡ arity_of k → ⊥) → (f : Fault) → f ≡ record { refusal = WordCount; place = l.place } → First (line_rules s l) (Some f)
  rule_count other f e = inr (λ none. none k found.begins, inl ((k, found.begins, λ same. other (ap length found.follow ∙ same)), ap Some e))

  module _ (counted : length ws ≡ arity_of k) where
    past_count : (o : Option Fault) → First (map number_rule ws ++ (stage_rule s l ∷ [])) o → First (line_rules s l) o
    past_count o h =
        let same : length (arguments l) ≡ arity_of k = sym (ap length found.follow) ∙ counted in
        inr (λ none. none k found.begins, inr (λ x. x.2 (same ∙ ap arity_of (spelled_once k x.0 (sym found.begins ∙ x.1))), subst (λ us. First (map number_rule us ++ (stage_rule s l ∷ [])) o) found.follow h))

    pub rule_number : (f : Fault) → First (map number_rule ws) (Some f) → (r : Result Command Fault) → IsErrAnd r (λ e. e ≡ f) → Reads s l r
    rule_number f h (Ok c) is = absurd is
    rule_number f h (Err e) is = subst (λ g. First (line_rules s l) (Some g)) (sym is) (past_count (Some f) (first_found (map number_rule ws) (stage_rule s l ∷ []) f h))

    module _ (vs : List ℕ) (numerals : Numerals ws (take (length ws) vs)) where
      pub rule_stage : belongs_in k s ≡ false → (f : Fault) → f ≡ record { refusal = OtherSide; place = l.place } → First (line_rules s l) (Some f)
      rule_stage other f e = past_count (Some f) (first_passed (map number_rule ws) (stage_rule s l ∷ []) _ (numerals_pass ws _ numerals) (inl ((k, found.begins, other), ap Some e)))

      pub rule_none : belongs_in k s ≡ true → (c : Command) → c ≡ command_of k vs → Reads s l (Ok c)
      rule_none here c e = (
        past_count None (first_passed (map number_rule ws) (stage_rule s l ∷ []) _ (numerals_pass ws _ numerals) (inr (λ x. true≢false (sym here ∙ ap (λ j. belongs_in j s) (spelled_once k x.0 (sym found.begins ∙ x.1)) ∙ x.2), refl))),
        subst (Says l) (sym e) (says_read l k vs found.begins (sym (ap length found.follow) ∙ counted) (subst (λ us. Numerals us (take (length us) vs)) found.follow numerals)),
        ap (λ d. belongs_in (keyword_of d) s) e ∙ ap (λ j. belongs_in j s) (keyword_kept k vs) ∙ here,
      )
