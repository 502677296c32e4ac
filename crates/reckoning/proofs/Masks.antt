-- Ones counted, trailing ones, and the union of two masks.
use Rattle.std.proofs.Common.{◌≡◌, ℕ, zero, suc, ◌+◌, ◌-◌, ◌*◌, ◌/◌, ◌%◌, ◌^◌, ◌<◌, Bool, true, false, cond, ◌||◌, count_by, sym, refl, ap, ◌∙◌, arith}
use lib.Bits.{bit_or, or_step}
use lib.Count.{ones, ones_step, count_trailing_zeros, under}
use Rattle.std.specs.List.{range_with_len, prefix_len}
use Rattle.std.proofs.lemmas.List.Sums.{sum_by-cons}
use Rattle.reckoning.specs.Masks.{mask_from}

-- a bit and the rest
bit_low : (b : Bool) (m : ℕ) → (cond b 1 0 + 2 * m) % 2 ≡ cond b 1 0
bit_low b m = grind arith

bit_rest : (b : Bool) (m : ℕ) → (cond b 1 0 + 2 * m) / 2 ≡ m
bit_rest b m = grind arith

pub mask_low : (lit : ℕ → Bool) (n a : ℕ) → mask_from lit a n < 2 ^ n
mask_low lit zero a = omega arith
mask_low lit (suc n) a = grind (arith, mask_low lit n (a + 1))

-- as many ones as are lit
pub ones_mask : (lit : ℕ → Bool) (n a : ℕ) → ones (mask_from lit a n) ≡ count_by lit (range_with_len a n)
unfolding ones
ones_mask lit zero a = refl
ones_mask lit (suc n) a =
    let m = mask_from lit (a + 1) n in
    ones_step (cond (lit a) 1 0 + 2 * m)
    ∙ (rw (bit_low (lit a) m, bit_rest (lit a) m) (ap (λ k. cond (lit a) 1 0 + k) (ones_mask lit n (a + 1)))
    ∙ sym (sum_by-cons (λ x. cond (lit x) 1 0) a (range_with_len (a + 1) n)))

-- trailing ones: the lowest that is not lit
pub trailing_mask : (lit : ℕ → Bool) (n a : ℕ) → count_trailing_zeros n (2 ^ n - 1 - mask_from lit a n) ≡ prefix_len lit (range_with_len a n)
unfolding count_trailing_zeros
trailing_mask lit zero a = refl
trailing_mask lit (suc n) a = go (trailing_mask lit n (a + 1)) (mask_low lit n (a + 1)) (lit a)
  where
    m : ℕ
    m = mask_from lit (a + 1) n

    go : count_trailing_zeros n (2 ^ n - 1 - m) ≡ prefix_len lit (range_with_len (a + 1) n) → m < 2 ^ n → (b : Bool) → under ((2 ^ suc n - 1 - (cond b 1 0 + 2 * m)) % 2) (count_trailing_zeros n ((2 ^ suc n - 1 - (cond b 1 0 + 2 * m)) / 2)) ≡ cond b (1 + prefix_len lit (range_with_len (a + 1) n)) 0
    go h l true =
        let low : (2 ^ suc n - 1 - (1 + 2 * m)) % 2 ≡ 0 = omega arith in
        let rest : (2 ^ suc n - 1 - (1 + 2 * m)) / 2 ≡ 2 ^ n - 1 - m = omega arith in
        rw (low, rest) (omega arith)
    go h l false =
        let low : (2 ^ suc n - 1 - (0 + 2 * m)) % 2 ≡ 1 = omega arith in
        rw low

-- lit in the one or in the other
pub mask_or : (f g : ℕ → Bool) (n a : ℕ) → bit_or (mask_from f a n) (mask_from g a n) ≡ mask_from (λ w. f w || g w) a n
mask_or f g zero a = refl
mask_or f g (suc n) a =
    let u = mask_from f (a + 1) n in
    let v = mask_from g (a + 1) n in
    or_step (cond (f a) 1 0 + 2 * u) (cond (g a) 1 0 + 2 * v)
    ∙ (rw (bit_low (f a) u, bit_rest (f a) u, bit_low (g a) v, bit_rest (g a) v) (grind (arith, mask_or f g n (a + 1))))
