-- The lowest number below a bound that passes a test.
use Rattle.std.proofs.Common.{◌≡◌, ℕ, zero, suc, ◌<◌, ◌≤◌, Bool, true, false, cond, ◌⊎◌, Some, None, Option, MatchOption, sym, refl, ap, ◌∙◌, inl, inr, arith}
use Rattle.std.proofs.lemmas.Bool.{cases_lt}
use Rattle.plant.specs.Switch.{first, or_else}

-- none passes
pub first_none : (p : ℕ → Bool) (n : ℕ) → ((k : ℕ) → k < n → p k ≡ false) → first p n ≡ None
unfolding first
first_none p zero h = refl
first_none p (suc n) h =
    let none : first p n ≡ None = first_none p n (λ k l. h k (omega arith)) in
    let at : p n ≡ false = h n (omega arith) in
    rw (none, at) refl

none_left : (o : Option ℕ) (b : Bool) (n : ℕ) → or_else o (cond b (Some n) None) ≡ None → (o ≡ None) × (b ≡ false)
none_left None false n e = (refl, refl)
none_left None true n e = absurd (let z : ◌≡◌ {A = ℕ} 0 1 = cc in omega arith)
none_left (Some x) b n e = absurd (let z : ◌≡◌ {A = ℕ} 0 1 = cc in omega arith)

pub none_passes : (p : ℕ → Bool) (n : ℕ) → first p n ≡ None → (k : ℕ) → k < n → p k ≡ false
unfolding first
none_passes p zero e k l = absurd (omega arith)
none_passes p (suc n) e k l =
    let r = none_left (first p n) (p n) n e in
    elim (cases_lt k n) [ inl lo ↦ none_passes p n r.0 k lo | inr hi ↦ (let s : k ≡ n = omega arith in ap p s ∙ r.1) ]

-- k passes, and none before it
pub first_is : (p : ℕ → Bool) (n k : ℕ) → k < n → p k ≡ true → ((j : ℕ) → j < k → p j ≡ false) → first p n ≡ Some k
unfolding first
first_is p zero k l t h = absurd (omega arith)
first_is p (suc n) k l t h = elim (cases_lt k n) [
  | inl lo ↦ rw (first_is p n k lo t h) refl
  | inr hi ↦
      (let e : n ≡ k = omega arith in
      let none : first p n ≡ None = first_none p n (λ j m. h j (omega arith)) in
      let at : p n ≡ true = ap p e ∙ t in
      rw (none, at) (ap Some e))
]

-- tests that agree find the same number
pub first_same : (p q : ℕ → Bool) (n : ℕ) → ((k : ℕ) → k < n → p k ≡ q k) → first p n ≡ first q n
unfolding first
first_same p q zero h = refl
first_same p q (suc n) h =
    let ih : first p n ≡ first q n = first_same p q n (λ k l. h k (omega arith)) in
    let at : p n ≡ q n = h n (omega arith) in
    rw (ih, at) refl

chosen : (o : Option ℕ) (b : Bool) (n k : ℕ) → or_else o (cond b (Some n) None) ≡ Some k → (o ≡ Some k) ⊎ ((n ≡ k) × (b ≡ true))
chosen (Some x) b n k e = inl e
chosen None true n k e = inr (cc, refl)
chosen None false n k e = absurd (let z : ◌≡◌ {A = ℕ} 0 1 = cc in omega arith)

-- what is found lies below the bound and passes
pub first_passes : (p : ℕ → Bool) (n k : ℕ) → first p n ≡ Some k → (k < n) × (p k ≡ true)
unfolding first
first_passes p zero k e = absurd (let z : ◌≡◌ {A = ℕ} 0 1 = cc in omega arith)
first_passes p (suc n) k e = elim (chosen (first p n) (p n) n k e) [
  | inl s ↦ (let r = first_passes p n k s in (omega arith, r.1))
  | inr (s, t) ↦ (omega arith, ap p (sym s) ∙ t)
]

-- what a search below n finds
pub first_found : (p : ℕ → Bool) (n : ℕ) (r : Option ℕ)
    → MatchOption r ((k : ℕ) → 0 ≤ k → k < n → p k ≡ false) (λ i. (0 ≤ i) × (i < n) × (p i ≡ true) × ((k : ℕ) → 0 ≤ k → k < i → p k ≡ false)) → r ≡ first p n
first_found p n None h = sym (first_none p n (λ k l. h k (omega arith) l))
first_found p n (Some i) h = sym (first_is p n i h.1 h.2 (λ k l. h.3 k (omega arith) l))
