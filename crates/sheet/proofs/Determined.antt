-- A line, in a state of its sheet, has one answer and leaves one state. Assumes nothing.
use Rattle.std.proofs.Common.{◌≡◌, ℕ, List, [], ◌∷◌, map, Some, None, Result, sym, refl, ap, ◌∙◌, subst}
use borrow.Author.Tests.{clash}
use Rattle.limits.proofs.Once.{first_once}
use Rattle.network.proofs.Determined.{sets_once, adds_once}
use Rattle.sheet.specs.Commands.{line_rules, Begins, Numerals, Says}
use Rattle.sheet.specs.Lines.{SheetLine, SheetWord, arguments}
use Rattle.sheet.specs.Numerals.{value_of}
use Rattle.sheet.specs.Readings.{command_of, keyword_of}
use Rattle.sheet.specs.Runs.{State, outcome, Executed, reply_to, Answers, faulty, executed, Run}
use Rattle.sheet.specs.declared.command.Command.{Command}
use Rattle.sheet.specs.declared.command.Command.TheVariants.{Net, Link, Ready, Planner}
use Rattle.sheet.specs.declared.keyword.Keyword.TheVariants as words
use Rattle.sheet.specs.declared.refusal.Refusal.{Refusal}
use Rattle.sheet.specs.declared.reply.Reply.{Reply}
use Rattle.sheet.proofs.Spelling.{spelled_once}

-- words that are numbers are their values
numerals_are : (ws : List SheetWord) (ns : List ℕ) → Numerals ws ns → ns ≡ map (λ w. value_of w.text) ws
numerals_are [] ns a = a
numerals_are (w ∷ ws) [] a = absurd a
numerals_are (w ∷ ws) (n ∷ ns) a = λ i. a.0.value i ∷ numerals_are ws ns a.1 i

-- a line begins with the keyword of what it says
begins : (l : SheetLine) (c : Command) → Says l c → Begins l (keyword_of c)
begins l (Net n) h = h.0
begins l (Link a b) h = h.0
begins l Ready h = h.0
begins l (Planner k) h = h.0

-- what a line says comes of its keyword and its numbers
says_made : (l : SheetLine) (c : Command) → Says l c → c ≡ command_of (keyword_of c) (map (λ w. value_of w.text) (arguments l))
says_made l (Net n) h = ap (command_of words.Net) (numerals_are (arguments l) _ h.1)
says_made l (Link a b) h = ap (command_of words.Link) (numerals_are (arguments l) (a ∷ b ∷ []) h.1)
says_made l Ready h = refl
says_made l (Planner words.Net) h = absurd (clash h.1)
says_made l (Planner words.Link) h = absurd (clash h.1)
says_made l (Planner words.Ready) h = absurd (clash h.1)
says_made l (Planner words.Flow) h = refl
says_made l (Planner words.Drop) h = refl
says_made l (Planner words.Bar) h = refl
says_made l (Planner words.Lift) h = refl
says_made l (Planner words.Gates) h = refl
says_made l (Planner words.Faults) h = refl

-- a line says one thing at most
pub says_once : (l : SheetLine) (c d : Command) → Says l c → Says l d → c ≡ d
says_once l c d a b =
    let same = spelled_once (keyword_of c) (keyword_of d) (sym (begins l c a) ∙ begins l d b) in
    says_made l c a ∙ ap (λ k. command_of k (map (λ w. value_of w.text) (arguments l))) same ∙ sym (says_made l d b)

-- what a line says has one outcome, and leaves one state
pub executed_once : (s : State) (c : Command) (o p : Result (Unit {0}) Refusal) (t u : State) → Executed s c o t → Executed s c p u → (o ≡ p) × (t ≡ u)
executed_once s (Net n) o p t u (r, a, g, x) (q, b, h, y) =
    let same = sets_once s.net n r q t.net u.net a b in
    (x ∙ ap outcome same.0 ∙ sym y, λ i. record { stage = (g ∙ sym h) i; net = same.1 i })
executed_once s (Link from to) o p t u (r, a, g, x) (q, b, h, y) =
    let same = adds_once s.net from to r q t.net u.net a b in
    (x ∙ ap outcome same.0 ∙ sym y, λ i. record { stage = (g ∙ sym h) i; net = same.1 i })
executed_once s Ready o p t u (a, x) (b, y) = (x ∙ sym y, a ∙ sym b)
executed_once s (Planner k) o p t u (a, x) (b, y) = (x ∙ sym y, a ∙ sym b)

-- a line has one reply, and leaves one state
pub answers_once : (s : State) (l : SheetLine) (r q : Reply) (t u : State) → Answers s l r t → Answers s l q u → (r ≡ q) × (t ≡ u)
answers_once s l r q t u (faulty f a x g) (faulty e b y h) =
    let first = first_once (line_rules s.stage l) (Some f) (Some e) a b in
    let same : f ≡ e = cc in
    (cc, g ∙ sym h)
answers_once s l r q t u (faulty f a x g) (executed c o b says h y) = absurd (let first = first_once (line_rules s.stage l) (Some f) None a b in clash (cc))
answers_once s l r q t u (executed c o a says g x) (faulty e b y h) = absurd (let first = first_once (line_rules s.stage l) None (Some e) a b in clash (cc))
answers_once s l r q t u (executed c o a says g x) (executed d p b also h y) =
    let same = executed_once s d o p t u (subst (λ e. Executed s e o t) (says_once l c d says also) g) h in
    (x ∙ ap (reply_to l) same.0 ∙ sym y, same.1)

-- lines have one list of replies, and leave one state
pub run_once : (s : State) (ls : List SheetLine) (rs qs : List Reply) (t u : State) → Run s ls rs t → Run s ls qs u → (rs ≡ qs) × (t ≡ u)
run_once s [] rs qs t u (a, x) (b, y) = (a ∙ sym b, x ∙ sym y)
run_once s (l ∷ ls) [] qs t u a b = absurd a
run_once s (l ∷ ls) (r ∷ rs) [] t u a b = absurd b
run_once s (l ∷ ls) (r ∷ rs) (q ∷ qs) t u (v, a, x) (w, b, y) =
    let step = answers_once s l r q v w a b in
    let rest = run_once w ls rs qs t u (subst (λ z. Run z ls rs t) step.1 x) y in
    (λ i. step.0 i ∷ rest.0 i, rest.1)
