-- What the masks of a book tell of free wavelengths.
use Rattle.std.proofs.Common.{◌≡◌, ℕ, ◌<◌, ◌≤◌, min, Bool, cond, not, ◌&&◌, slice_index, count_ones, Some, None, IfSome, IfNone, Option, sym, refl, ap, ◌∙◌, inl, inr, arith}
use lib.Bits.{bit_or}
use Rattle.std.specs.Int.{w32, trailing_ones}
use Rattle.std.proofs.lemmas.Option.{same_Some, none-some}
use Rattle.std.proofs.lemmas.Bool.{cases_lt, lt-ltb, le-ltb}
use Rattle.reckoning.specs.Lists.{lowest}
use Rattle.reckoning.specs.Standing.{lit_out, lit_into, up_load, down_load}
use Rattle.reckoning.proofs.Loads.{out_ones, into_ones, out_lowest, into_lowest, both_lowest}
use Rattle.reckoning.proofs.Sessions.{lowest_free}
use Rattle.reckoning.proofs.Soundness.{sound_from}
use Rattle.book.specs.declared.book.Book.{Book}
use Rattle.book.specs.Books.{parts_in, standing_in}
use Rattle.book.specs.Moves.{found_below}

some_none : {x : ℕ} → ◌≡◌ {A = Option ℕ} (Some x) None → ⊥
some_none e = cc

-- a wavelength found below W, where t is the lowest that passes
module _ (W t l : ℕ) (same : min W t ≡ l) where
  pub found_low : l < W → found_below W t ≡ Some l
  found_low h =
      let e : t ≡ l = omega (arith, same) in
      ap (λ (b : Bool). cond b (Some t) None) (lt-ltb t W (omega arith)) ∙ ap Some e

  pub found_some : (w : ℕ) → found_below W t ≡ Some w → (w ≡ l) × (w < W)
  found_some w h =
      elim (cases_lt t W) [
        | inl m ↦ let e : w ≡ t = sym (same_Some t w (sym (ap (λ (b : Bool). cond b (Some t) None) (lt-ltb t W m)) ∙ h)) in (omega (arith, same), omega arith)
        | inr m ↦ absurd (none-some w (sym (ap (λ (b : Bool). cond b (Some t) None) (le-ltb t W m)) ∙ h))
      ]

  pub found_none : found_below W t ≡ None → W ≤ l
  found_none h =
      elim (cases_lt t W) [
        | inl m ↦ absurd (some_none (sym (ap (λ (b : Bool). cond b (Some t) None) (lt-ltb t W m)) ∙ h))
        | inr m ↦ omega (arith, same)
      ]

-- as many ones as wavelengths are lit
module _ (b : Book) (x n : ℕ) (l : x < 32) (y : ℕ) (e : y ≡ x) where
  pub up_load_is : n ≡ count_ones (slice_index b.outward.lit y) → n ≡ up_load (parts_in b).group (standing_in b) b.setting.waves x
  up_load_is d =
      d
      ∙ (ap (λ (k : ℕ). count_ones (slice_index b.outward.lit k)) e
      ∙ out_ones (parts_in b) (standing_in b) (sound_from (parts_in b) (standing_in b) b.sound) b.setting.small.1 x _ (b.leaving x l))

  pub down_load_is : n ≡ count_ones (slice_index b.inward.lit y) → n ≡ down_load (parts_in b).group (standing_in b) b.setting.waves x
  down_load_is d =
      d
      ∙ (ap (λ (k : ℕ). count_ones (slice_index b.inward.lit k)) e
      ∙ into_ones (parts_in b) (standing_in b) (sound_from (parts_in b) (standing_in b) b.sound) b.setting.small.1 x _ (b.entering x l))

-- out of the group x, and into it, where m is its mask
module _ (b : Book) (x : ℕ) (l : x < 32) (m : ℕ) where
  pub out_is : m ≡ slice_index b.outward.lit x → min b.setting.waves (trailing_ones w32 m) ≡ lowest (λ v. not (lit_out (parts_in b).group (standing_in b) x v)) b.setting.waves
  out_is e = out_lowest (parts_in b) (standing_in b) (sound_from (parts_in b) (standing_in b) b.sound) b.setting.small.1 x m (e ∙ b.leaving x l)

  pub into_is : m ≡ slice_index b.inward.lit x → min b.setting.waves (trailing_ones w32 m) ≡ lowest (λ v. not (lit_into (parts_in b).group (standing_in b) x v)) b.setting.waves
  into_is e = into_lowest (parts_in b) (standing_in b) (sound_from (parts_in b) (standing_in b) b.sound) b.setting.small.1 x m (e ∙ b.entering x l)

-- one that is free at x is found where not all are lit
pub out_found : (b : Book) (x : ℕ) → x < 32 → up_load (parts_in b).group (standing_in b) b.setting.waves x < b.setting.waves → found_below b.setting.waves (trailing_ones w32 (slice_index b.outward.lit x)) ≡ Some (lowest (λ v. not (lit_out (parts_in b).group (standing_in b) x v)) b.setting.waves)
out_found b x l h = found_low b.setting.waves _ _ (out_is b x l _ refl) (lowest_free (lit_out (parts_in b).group (standing_in b) x) b.setting.waves h)

pub into_found : (b : Book) (x : ℕ) → x < 32 → down_load (parts_in b).group (standing_in b) b.setting.waves x < b.setting.waves → found_below b.setting.waves (trailing_ones w32 (slice_index b.inward.lit x)) ≡ Some (lowest (λ v. not (lit_into (parts_in b).group (standing_in b) x v)) b.setting.waves)
into_found b x l h = found_low b.setting.waves _ _ (into_is b x l _ refl) (lowest_free (lit_into (parts_in b).group (standing_in b) x) b.setting.waves h)

-- the one found is that one
pub unwrapped : (o : Option ℕ) (p l : ℕ) → o ≡ Some l → o ≡ Some p → p ≡ l
unwrapped o p l e d = same_Some p l (sym d ∙ e)

-- out of x and into y, whose masks are m and n
module _ (b : Book) (x y : ℕ) (lx : x < 32) (ly : y < 32) (m n : ℕ) (hm : m ≡ slice_index b.outward.lit x) (hn : n ≡ slice_index b.inward.lit y) where
  abbrev low : ℕ
  low = lowest (λ v. not (lit_out (parts_in b).group (standing_in b) x v) && not (lit_into (parts_in b).group (standing_in b) y v)) b.setting.waves

  both_is : min b.setting.waves (trailing_ones w32 (bit_or m n)) ≡ low
  both_is = both_lowest (parts_in b) (standing_in b) (sound_from (parts_in b) (standing_in b) b.sound) b.setting.small.1 x y m n (hm ∙ b.leaving x lx) (hn ∙ b.entering y ly)

  pub both_found : (o : Option ℕ) → o ≡ found_below b.setting.waves (trailing_ones w32 (bit_or m n)) → IfSome o (λ w. (w < b.setting.waves) × (w ≡ low))
  both_found None e = tt
  both_found (Some w) e = let h = found_some b.setting.waves _ _ both_is w (sym e) in (h.1, h.0)

  pub both_none : (o : Option ℕ) → o ≡ found_below b.setting.waves (trailing_ones w32 (bit_or m n)) → IfNone o (b.setting.waves ≤ low)
  both_none None e = found_none b.setting.waves _ _ both_is (sym e)
  both_none (Some w) e = tt
