-- The laws of whole sheets. Assumes nothing.
use Rattle.std.proofs.Common.{◌≡◌, ℕ, ◌⊎◌, List, [], ◌∷◌, ◌++◌, length, Ok, Err, Result, sym, refl, ap, ◌∙◌, subst, inl, inr, ⊎_elim, append_assoc, append-nil, arith}
use borrow.Author.Tests.{clash}
use Rattle.network.specs.Net as network
use Rattle.network.specs.declared.numbers.Link as network_link
use Rattle.std.proofs.lemmas.Bool.{cases_lt}
use Rattle.sheet.specs.Commands.{Says}
use Rattle.sheet.specs.Laws.{NamesLine, OneReplyEach, OneAccount, LinksGranted, LinksAreThoseGranted, RefusalChangesNothing, RefusedLineIsNothing, SheetLaws}
use Rattle.sheet.specs.Lines.{SheetLine, lines}
use Rattle.sheet.specs.Replies.{written}
use Rattle.sheet.specs.Runs.{State, first_state, Executed, reply_to, Answers, faulty, executed, Run, sheet_max}
use Rattle.sheet.specs.declared.command.Command.{Command}
use Rattle.sheet.specs.declared.command.Command.TheVariants.{Net, Link, Ready, Planner}
use Rattle.sheet.specs.declared.refusal.Refusal.{Refusal}
use Rattle.sheet.specs.declared.reply.Reply.{Reply}
use Rattle.sheet.specs.declared.reply.Reply.TheVariants.{Done}
use Rattle.sheet.proofs.Cuts.{pieces_rejoin}
use Rattle.sheet.proofs.Places.{lines_in_place, words_in_place}
use Rattle.sheet.proofs.Determined.{says_once, run_once}

-- a reply to a line that is read names that line
names_read : (l : SheetLine) (o : Result (Unit {0}) Refusal) → NamesLine l (reply_to l o)
names_read l (Ok u) = tt
names_read l (Err e) = refl

-- an answer names its own line
names : (s : State) (l : SheetLine) (r : Reply) (t : State) → Answers s l r t → NamesLine l r
names s l r t (faulty f a x g) = subst (NamesLine l) (sym x) refl
names s l r t (executed c o a says g x) = subst (NamesLine l) (sym x) (names_read l o)

-- each line has a reply, in turn
pub one_reply_each : OneReplyEach
one_reply_each s [] rs t (a, x) = (ap length a, a)
one_reply_each s (l ∷ ls) [] t a = absurd a
one_reply_each s (l ∷ ls) (r ∷ rs) t (u, a, x) =
    let rest = one_reply_each u ls rs t x in
    (omega (arith, rest.0), (names s l r u a, rest.1))

-- a sheet is too long, or has one list of replies
pub one_account : OneAccount
one_account sheet a b x y = ⊎_elim
    (λ h. x.long h ∙ sym (y.long h))
    (λ h.
    let (rs, t, ran, is) = x.short h in
    let (qs, u, also, was) = y.short h in
    is ∙ ap written (run_once first_state (lines sheet) rs qs t u ran also).0 ∙ sym was)
    (cases_lt sheet_max (length sheet))

-- a line that is read and refused leaves the state as it was
executed_refused : (s : State) (c : Command) (e : Refusal) (t : State) → Executed s c (Err e) t → t ≡ s
executed_refused s (Net n) e t (Ok u, a, g, x) = absurd (clash (cc))
executed_refused s (Net n) e t (Err d, a, g, x) = λ i. record { stage = g i; net = a.1 i }
executed_refused s (Link from to) e t (Ok k, a, g, x) = absurd (clash (cc))
executed_refused s (Link from to) e t (Err d, a, g, x) = λ i. record { stage = g i; net = a.1 i }
executed_refused s Ready e t (a, x) = absurd (clash (cc))
executed_refused s (Planner k) e t (a, x) = a

-- a line that is refused leaves the state as it was
pub refusal_changes_nothing : RefusalChangesNothing
refusal_changes_nothing s l e line place t (faulty f a x g) = g
refusal_changes_nothing s l e line place t (executed c (Ok u) a says g x) = absurd (clash (cc))
refusal_changes_nothing s l e line place t (executed c (Err d) a says g x) = executed_refused s c d t g

-- without a refused line the replies to the others are the same
pub refused_line_is_nothing : RefusedLineIsNothing
refused_line_is_nothing s [] l ms [] e line place qs t long (u, a, x) = subst (λ v. Run v ms qs t) (refusal_changes_nothing s l e line place u a) x
refused_line_is_nothing s [] l ms (r ∷ rs) e line place qs t long a = absurd (omega arith)
refused_line_is_nothing s (k ∷ ks) l ms [] e line place qs t long a = absurd (omega arith)
refused_line_is_nothing s (k ∷ ks) l ms (r ∷ rs) e line place qs t long (u, a, x) = (u, a, refused_line_is_nothing u ks l ms rs e line place qs t (omega arith) x)

-- a line that asks for a link and is answered OK adds that link, and every other line adds none
abbrev Adds : State → SheetLine → Reply → State → Type 0
Adds s l r t =
    ((a b : ℕ) × Says l (Link a b) × (r ≡ Done) × (t.net.links ≡ s.net.links ++ (network.link a b ∷ [])))
    ⊎ (((a b : ℕ) → Says l (Link a b) → r ≡ Done → ⊥) × (t.net.links ≡ s.net.links))

-- a line that is read and says another thing, and leaves the links as they were
other_adds : (s : State) (l : SheetLine) (c : Command) (r : Reply) (t : State) → Says l c → ((a b : ℕ) → c ≡ Link a b → ⊥) → t.net.links ≡ s.net.links → Adds s l r t
other_adds s l c r t says other same = inr (λ a b also done. other a b (says_once l c (Link a b) says also), same)

-- what a line that is read adds to the links
read_adds : (s : State) (l : SheetLine) (c : Command) (o : Result (Unit {0}) Refusal) (t : State) → Says l c → Executed s c o t → Adds s l (reply_to l o) t
read_adds s l (Net n) o t says (Ok u, a, g, x) = other_adds s l (Net n) (reply_to l o) t says (λ a b e. clash (cc)) (ap (λ v. v.links) a.1)
read_adds s l (Net n) o t says (Err d, a, g, x) = other_adds s l (Net n) (reply_to l o) t says (λ a b e. clash (cc)) (ap (λ v. v.links) a.1)
read_adds s l (Link from to) o t says (Ok k, a, g, x) = inl (from, to, says, ap (reply_to l) x, ap (λ v. v.links) a.2)
read_adds s l (Link from to) o t says (Err d, a, g, x) = inr (λ a b also done. clash (cc (sym (ap (reply_to l) x) ∙ done)), ap (λ v. v.links) a.1)
read_adds s l Ready o t says (a, x) = other_adds s l Ready (reply_to l o) t says (λ a b e. clash (cc)) (ap (λ v. v.net.links) a)
read_adds s l (Planner k) o t says (a, x) = other_adds s l (Planner k) (reply_to l o) t says (λ a b e. clash (cc)) (ap (λ v. v.net.links) a)

-- what a line adds to the links
adds : (s : State) (l : SheetLine) (r : Reply) (t : State) → Answers s l r t → Adds s l r t
adds s l r t (faulty f a x g) = inr (λ a b also done. clash (cc), ap (λ v. v.net.links) g)
adds s l r t (executed c o a says g x) = subst (λ q. Adds s l q t) (sym x) (read_adds s l c o t says g)

-- the links after some lines are those before, and then those that the lines were granted
pub granted : (s : State) (ls : List SheetLine) (rs : List Reply) (t : State) → Run s ls rs t → (ks : List network_link.Link) × (t.net.links ≡ s.net.links ++ ks) × LinksGranted ls rs ks
granted s [] rs t (a, x) = ([], ap (λ v. v.net.links) x ∙ sym (append-nil _), refl)
granted s (l ∷ ls) [] t a = absurd a
granted s (l ∷ ls) (r ∷ rs) t (u, a, x) =
    let (ks, is, rest) = granted u ls rs t x in
    ⊎_elim
    (λ (from, to, says, done, more). (network.link from to ∷ ks, is ∙ ap (λ v. v ++ ks) more ∙ append_assoc s.net.links (network.link from to ∷ []) ks, inl (from, to, ks, says, done, refl, rest)))
    (λ (none, same). (ks, is ∙ ap (λ v. v ++ ks) same, inr (none, rest)))
    (adds s l r u a)

-- every sheet begins with no link
pub links_are_those_granted : LinksAreThoseGranted
links_are_those_granted ls rs t a =
    let (ks, is, rest) = granted first_state ls rs t a in
    subst (LinksGranted ls rs) (sym is) rest

-- all of these
pub sheet_laws : SheetLaws
sheet_laws = record {
  pieces_rejoin = pieces_rejoin;
  lines_in_place = lines_in_place;
  words_in_place = words_in_place;
  one_reply_each = one_reply_each;
  one_account = one_account;
  links_are_those_granted = links_are_those_granted;
  refusal_changes_nothing = refusal_changes_nothing;
  refused_line_is_nothing = refused_line_is_nothing;
}
