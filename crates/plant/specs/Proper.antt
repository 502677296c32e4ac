-- Both makes keep the law of a plant's counts and range; an `impl` can cite its proof from here alone.
use Rattle.std.specs.Prelude.{◌≡◌, ℕ, ◌<◌, Bool, true, false, cond, ◌&&◌, List, is_some, None, Option, nat_lt, refl}
use Rattle.std.proofs.Common.{arith}
use Rattle.std.proofs.lemmas.Bool.{and_parts, ltb-true, false≢true}
use Rattle.plant.specs.Mirrors.{Sound, mirror_switch}
use Rattle.plant.specs.Registers.{fabric_switch}
use Rattle.plant.specs.Switch.{Proper}

-- what is told only where the test holds
only_where : (t : Bool) (o : Option ℕ) → is_some (cond t o None) ≡ true → t ≡ true
only_where true o h = refl
only_where false o h = absurd (false≢true h)

within : (waves groups w b : ℕ) (o : Option ℕ) → is_some (cond (nat_lt w waves && nat_lt b groups) o None) ≡ true → (w < waves) × (b < groups)
within waves groups w b o h =
    let p = and_parts (nat_lt w waves) (nat_lt b groups) (only_where (nat_lt w waves && nat_lt b groups) o h) in
    (ltb-true w waves p.0, ltb-true b groups p.1)

pub hub_proper : (waves groups : ℕ) (mirrors : List (List (Option ℕ))) → Sound waves groups mirrors → Proper (mirror_switch waves groups mirrors)
hub_proper waves groups mirrors s =
    record { few_waves = s.few_waves; few_groups = s.few_groups; both = s.both; inside = λ w b h. within waves groups w b _ h }

pub fabric_proper : (waves groups : ℕ) (bytes : List ℕ) → Proper (fabric_switch waves groups bytes)
fabric_proper waves groups bytes =
    record { few_waves = grind arith; few_groups = grind arith; both = ((λ e. grind arith), (λ e. grind arith)); inside = λ w b h. within _ _ w b _ h }
