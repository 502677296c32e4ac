-- Where `all` over a range from 0 answers true, each number below its end passed.
use Rattle.std.proofs.Common.{◌≡◌, ℕ, ◌<◌, Bool, true, get_or, refl, subst, arith}
use Rattle.std.proofs.iter.Yields.{nat_range_steps}
use Rattle.std.proofs.lemmas.Bool.{MatchBool-at_true}
use Rattle.std.proofs.lemmas.Iterator.{cases_from_all, YieldsList-from_range}
use Rattle.std.proofs.lemmas.List.FromFn.{length-range_with_len, get_or-range_with_len}
use Rattle.std.specs.Bool.{⊤}
use Rattle.std.specs.Fn.{Called}
use Rattle.std.specs.Iterator.{ChecksAll}
use Rattle.std.specs.List.{range_with_len}
use Rattle.std.specs.declared.ops.Range.{Range}
use denote.Param.Members.{Mut}

module _ {F : Type 0} {g : Mut F (ℕ × Unit {0}) Bool} (n : ℕ) (u : Range ℕ) (f : F) (r : Bool) (P : ℕ → Type 0) where
  pub each_of_Range : ChecksAll nat_range_steps g (record { start = 0; end = n }) f r u → ((x : ℕ) (q : F) → Called g f (x, tt) true q → (q ≡ f) × P x) → r ≡ true → (k : ℕ) → k < n → P k
  each_of_Range ran here t k h =
      let each = MatchBool-at_true _ _ t (cases_from_all u f r P (λ _. ⊤) ran (YieldsList-from_range 0 n n refl (omega arith)) here (λ _ _ _. tt)) in
      subst P {x = get_or (range_with_len 0 n) k 0} {y = k} (omega (arith, get_or-range_with_len 0 n k 0 h)) (each k 0 (omega arith) (omega (arith, length-range_with_len 0 n)))
