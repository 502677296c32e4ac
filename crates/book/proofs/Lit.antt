-- What one session more adds to the masks, and one mask written.
use Rattle.std.proofs.Common.{◌≡◌, ℕ, zero, suc, ◌+◌, ◌-◌, ◌*◌, ◌^◌, ◌<◌, ◌≤◌, Bool, true, false, cond, ◌&&◌, ◌||◌, eqb, ltb, List, [], ◌∷◌, sym, refl, ap, ◌∙◌, ap₂, inl, inr, pow-suc, arith}
use lib.Bits.{bit_or}
use Rattle.std.proofs.lemmas.Bool.{cases_eq, cases_lt, eq-eqb, ne_eqb, lt-ltb, le-ltb}
use Rattle.reckoning.specs.declared.session.Session.{Session}
use Rattle.reckoning.specs.Masks.{mask, mask_from, out_mask, into_mask}
use Rattle.reckoning.specs.Parts.{Parts}
use Rattle.reckoning.specs.Standing.{lit_out, lit_into}
use Rattle.reckoning.proofs.Masks.{mask_or}
use Rattle.book.specs.Moves.{marked}

mask_like : (f h : ℕ → Bool) (n a : ℕ) → ((v : ℕ) → a ≤ v → v < a + n → f v ≡ h v) → mask_from f a n ≡ mask_from h a n
mask_like f h zero a e = refl
mask_like f h (suc n) a e =
    ap₂ (λ (b : Bool) (m : ℕ). cond b 1 0 + 2 * m) (e a (omega arith) (omega arith)) (mask_like f h n (a + 1) (λ v l k. e v (omega arith) (omega arith)))

mask_none : (n a : ℕ) → mask_from (λ _. false) a n ≡ 0
mask_none zero a = refl
mask_none (suc n) a = omega (arith, mask_none n (a + 1))

mask_one : (w n a : ℕ) → a ≤ w → w < a + n → mask_from (eqb w) a n ≡ 2 ^ (w - a)
mask_one w zero a l h = let e : ⊥ = omega arith in absurd e
mask_one w (suc n) a l h =
    elim (cases_eq w a) [
      | inl e ↦
          let here : ◌≡◌ {A = ℕ} (cond (eqb w a) 1 0) 1 = ap (λ (b : Bool). cond b 1 0) (eq-eqb w a e) in
          let rest : mask_from (eqb w) (a + 1) n ≡ 0 = mask_like (eqb w) (λ _. false) n (a + 1) (λ v k m. ne_eqb w v (λ d. omega arith)) ∙ mask_none n (a + 1) in
          let z : w - a ≡ 0 = omega arith in
          rw z (omega arith)
      | inr d ↦
          let here : ◌≡◌ {A = ℕ} (cond (eqb w a) 1 0) 0 = ap (λ (b : Bool). cond b 1 0) (ne_eqb w a d) in
          let rest = mask_one w n (a + 1) (omega arith) (omega arith) in
          let z : w - a ≡ suc (w - (a + 1)) = omega arith in
          rw z (omega (arith, pow-suc 2 (w - (a + 1))))
    ]

-- one session on w at group x, seen from group a
module _ (lit : ℕ → Bool) (x w a : ℕ) where
  or_flip : (b c : Bool) → cond (b && true) true c ≡ (c || b)
  or_flip true true = refl
  or_flip true false = refl
  or_flip false true = refl
  or_flip false false = refl

  and_none : (b c : Bool) → cond (b && false) true c ≡ c
  and_none true c = refl
  and_none false c = refl

  pub mask_more : mask (λ v. cond (eqb w v && eqb x a) true (lit v)) ≡ marked x w a (mask lit)
  mask_more = go (eqb x a) refl
    where
      go : (b : Bool) → eqb x a ≡ b → mask (λ v. cond (eqb w v && b) true (lit v)) ≡ cond (b && ltb w 32) (bit_or (mask lit) (2 ^ w)) (mask lit)
      go false e = mask_like (λ v. cond (eqb w v && false) true (lit v)) lit 32 0 (λ v k m. and_none (eqb w v) (lit v))
      go true e =
          elim (cases_lt w 32) [
            | inl l ↦
                let z : w - 0 ≡ w = omega arith in
                let one : mask (eqb w) ≡ 2 ^ w = mask_one w 32 0 (omega arith) (omega arith) ∙ ap (λ (k : ℕ). 2 ^ k) z in
                mask_like (λ v. cond (eqb w v && true) true (lit v)) (λ v. lit v || eqb w v) 32 0 (λ v k m. or_flip (eqb w v) (lit v))
                ∙ (sym (mask_or lit (eqb w) 32 0)
                ∙ (ap (λ (m : ℕ). bit_or (mask lit) m) one ∙ sym (ap (λ (b : Bool). cond b (bit_or (mask lit) (2 ^ w)) (mask lit)) (lt-ltb w 32 l))))
            | inr l ↦
                mask_like (λ v. cond (eqb w v && true) true (lit v)) lit 32 0 (λ v k m. ap (λ (b : Bool). cond (b && true) true (lit v)) (ne_eqb w v (λ d. omega arith)))
                ∙ sym (ap (λ (b : Bool). cond b (bit_or (mask lit) (2 ^ w)) (mask lit)) (le-ltb w 32 l))
          ]

pub out_more : (L : Parts) (s : Session) (ss : List Session) (a : ℕ) → out_mask L (s ∷ ss) a ≡ marked (L.group s.source) s.wavelength a (out_mask L ss a)
unfolding out_mask
out_more L s ss a = mask_more (lit_out L.group ss a) (L.group s.source) s.wavelength a

pub into_more : (L : Parts) (s : Session) (ss : List Session) (b : ℕ) → into_mask L (s ∷ ss) b ≡ marked (L.group s.destination) s.wavelength b (into_mask L ss b)
unfolding into_mask
into_more L s ss b = mask_more (lit_into L.group ss b) (L.group s.destination) s.wavelength b

pub out_none : (L : Parts) (a : ℕ) → out_mask L [] a ≡ 0
unfolding out_mask
out_none L a = mask_none 32 0

pub into_none : (L : Parts) (b : ℕ) → into_mask L [] b ≡ 0
unfolding into_mask
into_none L b = mask_none 32 0
