-- A sheet whose lines are answered one more at a time. Assumes nothing.
use Rattle.std.proofs.Common.{◌≡◌, ℕ, List, [], ◌∷◌, ◌++◌, sym, refl, ap, ◌∙◌, subst, inl, inr, append_assoc, append-nil}
use borrow.Author.Tests.{clash}
use Rattle.sheet.specs.Lines.{SheetLine, lines}
use Rattle.sheet.specs.Replies.{reply_text, written}
use Rattle.sheet.specs.Runs.{State, Answers, Run, first_state}
use Rattle.sheet.specs.Wirings.{IsReady, LeadsTo, UpToReady, only_refused}
use Rattle.sheet.specs.declared.reply.Reply.{Reply}
use Rattle.sheet.specs.declared.reply.Reply.TheVariants.{Done, Refused}

-- one line more after others
pub run_more : (s : State) (ls : List SheetLine) (rs : List Reply) (t : State) (l : SheetLine) (r : Reply) (u : State) → Run s ls rs t → Answers t l r u → Run s (ls ++ (l ∷ [])) (rs ++ (r ∷ [])) u
run_more s [] [] t l r u (e, same) a = (u, subst (λ v. Answers v l r u) same a, (refl, refl))
run_more s [] (q ∷ qs) t l r u (e, same) a = absurd (clash (cc))
run_more s (k ∷ ks) [] t l r u ran a = absurd ran
run_more s (k ∷ ks) (q ∷ qs) t l r u (v, b, ran) a = (v, b, run_more v ks qs t l r u ran a)

-- what is written of replies, one more
written_more : (rs : List Reply) (r : Reply) → written (rs ++ (r ∷ [])) ≡ written rs ++ written (r ∷ [])
written_more [] r = refl
written_more (q ∷ qs) r = ap (λ t. reply_text q ++ (10 ∷ t)) (written_more qs r) ∙ sym (append_assoc (reply_text q) (10 ∷ written qs) (written (r ∷ [])))

refused_more : (rs : List Reply) (r : Reply) → written (only_refused (rs ++ (r ∷ []))) ≡ written (only_refused rs) ++ written (only_refused (r ∷ []))
refused_more [] r = refl
refused_more (Done ∷ qs) r = refused_more qs r
refused_more (Refused e line place ∷ qs) r =
    let q = Refused e line place in
    ap (λ t. reply_text q ++ (10 ∷ t)) (refused_more qs r) ∙ sym (append_assoc (reply_text q) (10 ∷ written (only_refused qs)) (written (only_refused (r ∷ []))))

-- of all lines some are answered, which led to the state s, and the others are left
pub record Sofar (all left : List SheetLine) (s : State) : Type 0 where
  pub seen : List SheetLine
  pub done : List Reply
  pub split : all ≡ seen ++ left
  pub ran : Run first_state seen done s

abbrev pub none_yet : (all left : List SheetLine) (s : State) → left ≡ all → s ≡ first_state → Sofar all left s
none_yet all left s e same = record { seen = []; done = []; split = sym e; ran = (refl, same) }

module _ (all next left : List SheetLine) (s : State) (l : SheetLine) (r : Reply) (u : State) (h : Sofar all next s) (e : next ≡ l ∷ left) (a : Answers s l r u) where
  abbrev pub one_more : Sofar all left u
  one_more = record {
    seen = h.seen ++ (l ∷ []);
    done = h.done ++ (r ∷ []);
    split = h.split ∙ ap (λ ls. h.seen ++ ls) e ∙ sym (append_assoc h.seen (l ∷ []) left);
    ran = run_more first_state h.seen h.done s l r u h.ran a;
  }

-- none of the lines is READY
abbrev pub Unready : List SheetLine → Type 0
Unready [] = Unit {0}
Unready (l ∷ ls) = (IsReady l → ⊥) × Unready ls

pub unready_more : (ls : List SheetLine) (l : SheetLine) → Unready ls → (IsReady l → ⊥) → Unready (ls ++ (l ∷ []))
unready_more [] l h other = (other, tt)
unready_more (k ∷ ks) l h other = (h.0, unready_more ks l h.1 other)

-- lines without READY, and then what is left
up_to : (ls left fs : List SheetLine) → Unready ls → UpToReady left fs → UpToReady (ls ++ left) (ls ++ fs)
up_to [] left fs h e = e
up_to (k ∷ ks) left fs h e = (refl, inr (h.0, up_to ks left fs h.1 e))

-- the text of all replies, and of those that refuse, with one reply more
pub text_more : (done : List Reply) (r : Reply) (old new : List ℕ) → old ≡ written done → new ≡ old ++ written (r ∷ []) → new ≡ written (done ++ (r ∷ []))
text_more done r old new e more = more ∙ ap (λ t. t ++ written (r ∷ [])) e ∙ sym (written_more done r)

pub refusals_more : (done : List Reply) (r : Reply) (old new : List ℕ) → old ≡ written (only_refused done) → new ≡ old ++ written (only_refused (r ∷ [])) → new ≡ written (only_refused (done ++ (r ∷ [])))
refusals_more done r old new e more = more ∙ ap (λ t. t ++ written (only_refused (r ∷ []))) e ∙ sym (refused_more done r)

-- the lines that are answered, and the text of their replies
pub record Accounted (all left : List SheetLine) (s : State) (text : List ℕ) : Type 0 where
  pub sofar : Sofar all left s
  pub replies : text ≡ written sofar.done

-- the lines that are answered, none of them READY, and the text of their refusals
pub record Wired (all left : List SheetLine) (s : State) (text : List ℕ) : Type 0 where
  pub sofar : Sofar all left s
  pub refusals : text ≡ written (only_refused sofar.done)
  pub unready : Unready sofar.seen

module _ (all next left : List SheetLine) (s : State) (l : SheetLine) (r : Reply) (u : State) (e : next ≡ l ∷ left) (a : Answers s l r u) (old new : List ℕ) where
  pub account_more : Accounted all next s old → new ≡ old ++ written (r ∷ []) → Accounted all left u new
  account_more h more = record { sofar = one_more all next left s l r u h.sofar e a; replies = text_more h.sofar.done r old new h.replies more }

  module _ (h : Wired all next s old) (more : new ≡ old ++ written (only_refused (r ∷ []))) where
    pub wired_more : (IsReady l → ⊥) → Wired all left u new
    wired_more other = record {
      sofar = one_more all next left s l r u h.sofar e a;
      refusals = refusals_more h.sofar.done r old new h.refusals more;
      unready = unready_more h.sofar.seen l h.unready other;
    }

    -- the lines up to READY, where it is found
    pub wired_ready : (sheet : List ℕ) → all ≡ lines sheet → IsReady l → LeadsTo sheet u new
    wired_ready sheet whole ready =
        let after = one_more all next left s l r u h.sofar e a in
        let split : all ≡ h.sofar.seen ++ (l ∷ left) = h.sofar.split ∙ ap (λ ls. h.sofar.seen ++ ls) e in (
          after.seen,
          after.done,
          subst (λ ls. UpToReady ls after.seen) (sym split ∙ whole) (up_to h.sofar.seen (l ∷ left) (l ∷ []) h.unready (refl, inl (ready, refl))),
          after.ran,
          refusals_more h.sofar.done r old new h.refusals more,
        )

-- all lines, where READY is not found
pub wired_end : (sheet : List ℕ) (left : List SheetLine) (s : State) (text : List ℕ) → Wired (lines sheet) left s text → left ≡ [] → LeadsTo sheet s text
wired_end sheet left s text h e = (
  h.sofar.seen,
  h.sofar.done,
  subst (UpToReady (lines sheet)) (append-nil h.sofar.seen) (subst (λ ls. UpToReady ls (h.sofar.seen ++ [])) (sym h.sofar.split) (up_to h.sofar.seen left [] h.unready (subst (λ ls. UpToReady ls []) (sym e) refl))),
  h.sofar.ran,
  h.refusals,
)
