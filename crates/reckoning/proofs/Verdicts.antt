-- Questions put in order, and the number of the first that is answered no.
use Rattle.std.proofs.Common.{◌≡◌, ℕ, zero, suc, Bool, true, false, List, [], ◌∷◌, ◌++◌, refl, arith}
use Rattle.std.specs.List.{AllByRecursion}
use Rattle.reckoning.specs.declared.session.Session.{Session}
use Rattle.reckoning.specs.Questions.{verdict}
use Rattle.reckoning.specs.Calls.{refused, Reply, unchanged, judged}

-- none of the questions has the number k
abbrev pub Not : ℕ → List (Bool × ℕ) → Type 0
Not k qs = AllByRecursion (λ x. x.1 ≡ k → ⊥) qs

pub never : (k : ℕ) → (0 ≡ k → ⊥) → (qs : List (Bool × ℕ)) → Not k qs → verdict qs ≡ k → ⊥
never k z [] n e = z e
never k z (x ∷ qs) n e = grind (arith, n.0, never k z qs n.1)

pub passed : (qs : List (Bool × ℕ)) → Not 0 qs → verdict qs ≡ 0 → AllByRecursion (λ x. x.0 ≡ true) qs
passed [] n e = tt
passed (x ∷ qs) n e =
    let yes : x.0 ≡ true = grind (arith, n.0) in
    (yes, passed qs n.1 (grind arith))

pub all_passed : (qs : List (Bool × ℕ)) → AllByRecursion (λ x. x.0 ≡ true) qs → verdict qs ≡ 0
all_passed [] h = refl
all_passed (x ∷ qs) h = rw h.0 (all_passed qs h.1)

pub passed_on : (qs rs : List (Bool × ℕ)) → AllByRecursion (λ x. x.0 ≡ true) qs → verdict (qs ++ rs) ≡ verdict rs
passed_on [] rs h = refl
passed_on (x ∷ qs) rs h = rw h.0 (passed_on qs rs h.1)

-- where the answer is k, all before the question of that number were answered yes, and it was answered no
pub reached : (k : ℕ) → (0 ≡ k → ⊥) → (qs : List (Bool × ℕ)) (b : Bool) (rs : List (Bool × ℕ)) → Not k qs → Not k rs → verdict (qs ++ ((b, k) ∷ rs)) ≡ k → AllByRecursion (λ x. x.0 ≡ true) qs × (b ≡ false)
reached k z [] b rs n m e = (tt, grind (arith, never k z rs m))
reached k z (x ∷ qs) b rs n m e =
    let yes : x.0 ≡ true = grind (arith, n.0) in
    let r = reached k z qs b rs n.1 m (grind arith) in
    ((yes, r.0), r.1)

-- ---- questions put in parts

-- a part with no refusal leads on to the next
pub went_on : (qs rs : List (Bool × ℕ)) → Not 0 qs → verdict qs ≡ 0 → verdict (qs ++ rs) ≡ verdict rs
went_on qs rs n e = passed_on qs rs (passed qs n e)

-- a refusal is the answer of the whole
pub stopped : (qs rs : List (Bool × ℕ)) → (verdict qs ≡ 0 → ⊥) → verdict qs ≡ verdict (qs ++ rs)
stopped [] rs n = absurd (n refl)
stopped (x ∷ qs) rs n = grind (arith, stopped qs rs)

-- ---- the reply to a verdict

-- what holds of the accepted reply and of each refusal
pub judged_by : (Q : Reply → Type 0) (ss : List Session) (walk : List ℕ) (v : ℕ) (r : Reply) → (v ≡ 0 → Q r) → ((j : ℕ) → v ≡ suc j → Q (unchanged ss walk (refused (suc j)))) → Q (judged ss walk v r)
judged_by Q ss walk zero r h k = h refl
judged_by Q ss walk (suc j) r h k = k j refl
