-- Bytes cut at the first byte m.
use Rattle.std.proofs.Common.{◌≡◌, ℕ, zero, suc, ◌<◌, false, ◌==◌, Some, List, [], ◌∷◌, ◌++◌, length, get_or, take, drop, position, ap, arith}
use Rattle.std.proofs.lemmas.Bool.{eqb-true, eqb-false}
use Rattle.std.proofs.lemmas.List.Quantifiers.{position-Some}
use Rattle.request.specs.Meaning.{Free}

abbrev Cut : ℕ → ℕ → List ℕ → Type 0
Cut m n bs = Free m (take n bs) × (bs ≡ take n bs ++ m ∷ drop (suc n) bs)

cut : (m n : ℕ) (bs : List ℕ) → n < length bs → get_or bs n 0 ≡ m → ((k : ℕ) → k < n → (get_or bs k 0 == m) ≡ false) → Cut m n bs
cut m n [] l e f = absurd (omega arith)
cut m zero (b ∷ bs) l e f = (tt, ap (λ (x : ℕ). x ∷ bs) e)
cut m (suc n) (b ∷ bs) l e f =
    let r = cut m n bs (omega arith) e (λ k h. f (suc k) (omega arith)) in
    ((eqb-false b m (f 0 (omega arith)), r.0), ap (λ (xs : List ℕ). b ∷ xs) r.1)

pub cut_first : (m n : ℕ) (bs : List ℕ) → position (λ b. b == m) bs ≡ Some n → Cut m n bs
cut_first m n bs h =
    let p = position-Some (λ b. b == m) bs n 0 h in
    cut m n bs p.0 (eqb-true _ m p.1) p.2
