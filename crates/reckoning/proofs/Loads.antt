-- What the masks of a group tell: its loads, and the lowest wavelength free there, below W of at most 32.
use Rattle.std.proofs.Common.{◌≡◌, ℕ, zero, suc, ◌+◌, ◌-◌, ◌^◌, ◌≤◌, min, Bool, false, cond, not, ◌&&◌, ◌||◌, List, [], ◌∷◌, count_by, sym, refl, ap, ◌∙◌, ap₂, arith}
use lib.Bits.{bit_or}
use lib.Count.{ones, count_trailing_zeros}
use Rattle.std.specs.List.{range_with_len, prefix_len}
use Rattle.std.proofs.lemmas.List.Sums.{sum_by-cons}
use Rattle.std.proofs.Math.Bool.{not-not}
use Rattle.std.proofs.lemmas.Bool.{false_from_ne_true}
use Rattle.reckoning.specs.declared.session.Session.{Session}
use Rattle.reckoning.specs.Lists.{lowest}
use Rattle.reckoning.specs.Parts.{Parts}
use Rattle.reckoning.specs.Standing.{lit_out, lit_into, leaves, enters, up_load, down_load}
use Rattle.reckoning.specs.Laws.{Sound}
use Rattle.reckoning.specs.Masks.{mask, out_mask, into_mask}
use Rattle.reckoning.proofs.Pigeon.{counting_in, count_all}
use Rattle.reckoning.proofs.Sessions.{any_some, leaves_says, enters_says}
use Rattle.reckoning.proofs.Masks.{ones_mask, trailing_mask, mask_or}

-- what is lit is below a + n
count_cut : (lit : ℕ → Bool) (n m a : ℕ) → n ≤ m → ((w : ℕ) → a + n ≤ w → lit w ≡ false) → count_by lit (range_with_len a m) ≡ count_by lit (range_with_len a n)
count_cut lit zero m a l h = count_all lit false (range_with_len a m) (λ w i. h w (omega (arith, counting_in m a w i)))
count_cut lit (suc n) zero a l h = let e : ⊥ = omega arith in absurd e
count_cut lit (suc n) (suc m) a l h =
    omega (arith, sum_by-cons (λ x. cond (lit x) 1 0) a (range_with_len (a + 1) n), sum_by-cons (λ x. cond (lit x) 1 0) a (range_with_len (a + 1) m), count_cut lit n m (a + 1) (omega arith) (λ w k. h w (omega arith)))

leading_cut : (f : ℕ → Bool) (n m a : ℕ) → n ≤ m → prefix_len f (range_with_len a n) ≡ min n (prefix_len f (range_with_len a m))
leading_cut f zero m a l = omega arith
leading_cut f (suc n) zero a l = let e : ⊥ = omega arith in absurd e
leading_cut f (suc n) (suc m) a l = grind (arith, leading_cut f n m (a + 1) (omega arith))

leading_like : (f h : ℕ → Bool) → ((w : ℕ) → f w ≡ h w) → (xs : List ℕ) → prefix_len f xs ≡ prefix_len h xs
leading_like f h e [] = refl
leading_like f h e (x ∷ xs) = ap₂ (λ (b : Bool) (n : ℕ). cond b (1 + n) 0) (e x) (leading_like f h e xs)

neither : (b c : Bool) → (b || c) ≡ not (not b && not c)
neither b c = grind arith

module _ (L : Parts) (ss : List Session) (k : Sound L ss) (few : L.wavelengths ≤ 32) where
  out_low : (a w : ℕ) → L.wavelengths ≤ w → lit_out L.group ss a w ≡ false
  out_low a w l =
      false_from_ne_true _ (λ t. let r = any_some (leaves L.group w a) ss t in omega (arith, (leaves_says L.group w a r.0 r.2).0, k.low r.0 r.1))

  into_low : (b w : ℕ) → L.wavelengths ≤ w → lit_into L.group ss b w ≡ false
  into_low b w l =
      false_from_ne_true _ (λ t. let r = any_some (enters L.group w b) ss t in omega (arith, (enters_says L.group w b r.0 r.2).0, k.low r.0 r.1))

  pub out_ones : (a m : ℕ) → m ≡ out_mask L ss a → ones m ≡ up_load L.group ss L.wavelengths a
  unfolding out_mask
  out_ones a m e = ap ones e ∙ (ones_mask (lit_out L.group ss a) 32 0 ∙ count_cut (lit_out L.group ss a) L.wavelengths 32 0 few (λ w l. out_low a w (omega arith)))

  pub into_ones : (b m : ℕ) → m ≡ into_mask L ss b → ones m ≡ down_load L.group ss L.wavelengths b
  unfolding into_mask
  into_ones b m e = ap ones e ∙ (ones_mask (lit_into L.group ss b) 32 0 ∙ count_cut (lit_into L.group ss b) L.wavelengths 32 0 few (λ w l. into_low b w (omega arith)))

  lowest_is : (f : ℕ → Bool) (h : ℕ → Bool) (m : ℕ) → ((w : ℕ) → h w ≡ not (f w)) → m ≡ mask h → min L.wavelengths (count_trailing_zeros 32 (2 ^ 32 - 1 - m)) ≡ lowest f L.wavelengths
  lowest_is f h m same e =
      ap (λ (x : ℕ). min L.wavelengths (count_trailing_zeros 32 (2 ^ 32 - 1 - x))) e
      ∙ (ap (min L.wavelengths) (trailing_mask h 32 0)
      ∙ (sym (leading_cut h L.wavelengths 32 0 few) ∙ leading_like h (λ w. not (f w)) same (range_with_len 0 L.wavelengths)))

  pub out_lowest : (a m : ℕ) → m ≡ out_mask L ss a → min L.wavelengths (count_trailing_zeros 32 (2 ^ 32 - 1 - m)) ≡ lowest (λ w. not (lit_out L.group ss a w)) L.wavelengths
  unfolding out_mask
  out_lowest a m e = lowest_is (λ w. not (lit_out L.group ss a w)) (lit_out L.group ss a) m (λ w. sym (not-not (lit_out L.group ss a w))) e

  pub into_lowest : (b m : ℕ) → m ≡ into_mask L ss b → min L.wavelengths (count_trailing_zeros 32 (2 ^ 32 - 1 - m)) ≡ lowest (λ w. not (lit_into L.group ss b w)) L.wavelengths
  unfolding into_mask
  into_lowest b m e = lowest_is (λ w. not (lit_into L.group ss b w)) (lit_into L.group ss b) m (λ w. sym (not-not (lit_into L.group ss b w))) e

  pub both_lowest : (a b m n : ℕ) → m ≡ out_mask L ss a → n ≡ into_mask L ss b → min L.wavelengths (count_trailing_zeros 32 (2 ^ 32 - 1 - bit_or m n)) ≡ lowest (λ w. not (lit_out L.group ss a w) && not (lit_into L.group ss b w)) L.wavelengths
  unfolding out_mask into_mask
  both_lowest a b m n d e =
      lowest_is (λ w. not (lit_out L.group ss a w) && not (lit_into L.group ss b w)) (λ w. lit_out L.group ss a w || lit_into L.group ss b w) (bit_or m n)
      (λ w. neither (lit_out L.group ss a w) (lit_into L.group ss b w))
      (ap₂ bit_or d e ∙ mask_or (lit_out L.group ss a) (lit_into L.group ss b) 32 0)
