-- Questions put in parts: a part that refuses answers for the whole, and one that passes leads on to the next.
use Rattle.std.proofs.Common.{◌≡◌, ℕ, ◌≤◌, Bool, true, false, cond, leb, List, [], ◌∷◌, ◌++◌, is_some, IsErrAnd, Some, None, Ok, Err, Option, Result, sym, refl, ap, ◌∙◌, inl, inr, arith}
use Rattle.std.specs.Option.{ok_or}
use Rattle.std.proofs.lemmas.Result.{err_from_is_err_and}
use Rattle.std.proofs.lemmas.Bool.{cases_Bool, leb-true}
use Rattle.reckoning.specs.Lists.{first, any}
use Rattle.reckoning.specs.Questions.{Question, verdict}
use Rattle.reckoning.proofs.Verdicts.{Not, went_on, stopped}
use Rattle.book.specs.declared.refusal.CallRefusal.{CallRefusal}
use Rattle.book.specs.declared.refusal.CallRefusal.TheVariants.{Unfit, LitAtMaking, NoNumber, NoSite, SameSite, NumberTaken, NotStanding, OrderRoom, WalkRoom, RowRoom, NoTransmitter, NoReceiver, SourceFull, DestinationFull, TooManyMoves}
use Rattle.book.specs.Refusals.{refusal_number, answer_number}

pub refusal_counts : (e : CallRefusal) → refusal_number e ≡ 0 → ⊥
refusal_counts Unfit h = omega arith
refusal_counts LitAtMaking h = omega arith
refusal_counts NoNumber h = omega arith
refusal_counts NoSite h = omega arith
refusal_counts SameSite h = omega arith
refusal_counts NumberTaken h = omega arith
refusal_counts NotStanding h = omega arith
refusal_counts OrderRoom h = omega arith
refusal_counts WalkRoom h = omega arith
refusal_counts RowRoom h = omega arith
refusal_counts NoTransmitter h = omega arith
refusal_counts NoReceiver h = omega arith
refusal_counts SourceFull h = omega arith
refusal_counts DestinationFull h = omega arith
refusal_counts TooManyMoves h = omega arith

-- a refusal that is handed on
pub handed_err : {A : Type 0} (r : Result A CallRefusal) (e : CallRefusal) → IsErrAnd r (λ x. x ≡ e) → Err e ≡ r
handed_err {A} r e h = let p = err_from_is_err_and r h in sym (p.1 ∙ ap Err p.2)

pub handed_on : {A : Type 0} (r : Result A CallRefusal) (e : CallRefusal) → IsErrAnd r (λ x. x ≡ e) → answer_number r ≡ refusal_number e
handed_on {A} r e h = sym (ap (λ (x : Result A CallRefusal). answer_number x) (handed_err r e h))

pub at_first : (e : CallRefusal) (qs rs : List Question) → refusal_number e ≡ verdict qs → refusal_number e ≡ verdict (qs ++ rs)
at_first e qs rs h = h ∙ stopped qs rs (λ z. refusal_counts e (h ∙ z))

pub led_on : (qs rs : List Question) → Not 0 qs → 0 ≡ verdict qs → verdict rs ≡ verdict (qs ++ rs)
led_on qs rs n h = sym (went_on qs rs n (sym h))

-- a question that did not refuse holds
pub passed_ask : (m n : ℕ) (e : CallRefusal) {u : Unit {0}} → ◌≡◌ {A = Result (Unit {0}) CallRefusal} (Ok u) (cond (leb m n) (Ok tt) (Err e)) → m ≤ n
passed_ask m n e {u} h = elim (cases_Bool (leb m n)) [ inl t ↦ leb-true m n t | inr f ↦ let z = h ∙ ap (λ (b : Bool). cond b (Ok tt) (Err e)) f in absurd (ok_err u e z) ]
  where
    ok_err : (v : Unit {0}) (x : CallRefusal) → ◌≡◌ {A = Result (Unit {0}) CallRefusal} (Ok v) (Err x) → ⊥
    ok_err v x z = let y : ◌≡◌ {A = ℕ} 0 1 = cc in omega arith

-- a question that refused, by its number
pub refused_ask : (b : Bool) (x e : CallRefusal) → ◌≡◌ {A = Result (Unit {0}) CallRefusal} (Err x) (cond b (Ok tt) (Err e)) → refusal_number x ≡ cond b 0 (refusal_number e)
refused_ask b x e h = ap (λ (r : Result (Unit {0}) CallRefusal). answer_number r) h ∙ go b
  where
    go : (c : Bool) → answer_number {A = Unit {0}} (cond c (Ok tt) (Err e)) ≡ cond c 0 (refusal_number e)
    go true = refl
    go false = refl

-- does one pass? is there a first that passes?
pub any_first : {A : Type 0} (p : A → Bool) (xs : List A) → is_some (first p xs) ≡ any p xs
any_first p [] = refl
any_first p (x ∷ xs) = go (p x) (any_first p xs)
  where
    go : (b : Bool) → is_some (first p xs) ≡ any p xs → is_some (cond b (Some x) (first p xs)) ≡ cond b true (any p xs)
    go true h = refl
    go false h = h

-- the question whether a session bears the number, behind others that passed
module _ {A : Type 0} (qs : List Question) (p : A → Bool) (xs : List A) where
  by_some : (o : Option A) → answer_number (ok_or o NotStanding) ≡ cond (is_some o) 0 15
  by_some None = refl
  by_some (Some x) = refl

  pub bearer_asked : (o : Option A) (r : Result A CallRefusal) → Not 0 qs → 0 ≡ verdict qs → o ≡ first p xs → r ≡ ok_or o NotStanding → answer_number r ≡ verdict (qs ++ ((any p xs, 15) ∷ []))
  bearer_asked o r n h e d =
      ap (λ (x : Result A CallRefusal). answer_number x) d
      ∙ (by_some o ∙ (ap (λ (b : Bool). cond b 0 15) (ap (λ (x : Option A). is_some x) e ∙ any_first p xs) ∙ led_on qs ((any p xs, 15) ∷ []) n h))
