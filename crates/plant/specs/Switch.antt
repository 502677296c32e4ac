-- What a plant means: for each wavelength and destination group, the source group heard there, or none;
-- what a call answers, and the meaning after it.
use Rattle.std.specs.Prelude.{◌≡◌, ℕ, zero, suc, ◌<◌, ◌≤◌, Bool, true, false, cond, ◌&&◌, is_some, is_ok, Some, None, Ok, Err, Option, Result, ◌==◌, nat_lt}
use Rattle.plant.specs.declared.refusal.PlantRefusal.{PlantRefusal}
use Rattle.plant.specs.declared.refusal.PlantRefusal.TheVariants.{NoWavelength, NoGroup, SourceLit, DestinationLit, NotHeard}

pub record Switch : Type 0 where
  pub waves : ℕ
  pub groups : ℕ
  -- by wavelength and destination group
  pub hears : ℕ → ℕ → Option ℕ

-- 1 to 32 wavelengths and groups, or 0 of both; nothing is heard out of range
pub record Proper (t : Switch) : Type 0 where
  pub few_waves : t.waves ≤ 32
  pub few_groups : t.groups ≤ 32
  pub both : (t.waves ≡ 0 → t.groups ≡ 0) × (t.groups ≡ 0 → t.waves ≡ 0)
  pub inside : (w b : ℕ) → is_some (t.hears w b) ≡ true → (w < t.waves) × (b < t.groups)

-- on each wavelength what is lit is a matching: no source is heard at two destinations, and no destination hears two sources, since it hears one or none
pub record Matching (t : Switch) : Type 0 where
  pub one : (w a b c : ℕ) → t.hears w b ≡ Some a → t.hears w c ≡ Some a → b ≡ c
  pub inside : (w b : ℕ) → is_some (t.hears w b) ≡ true → (w < t.waves) × (b < t.groups)

-- is it the source group a?
abbrev pub is_from : Option ℕ → ℕ → Bool
is_from None a = false
is_from (Some x) a = x == a

abbrev pub or_else : Option ℕ → Option ℕ → Option ℕ
or_else None o = o
or_else (Some x) o = Some x

-- the lowest number below n that passes the test, or none
unfoldable pub first : (ℕ → Bool) → ℕ → Option ℕ
first p zero = None
first p (suc n) = or_else (first p n) (cond (p n) (Some n) None)

-- the lowest group that hears a on w, or none
abbrev pub steered : Switch → ℕ → ℕ → Option ℕ
steered t w a = cond (nat_lt w t.waves && nat_lt a t.groups) (first (λ b. is_from (t.hears w b) a) t.groups) None

-- the questions of a light order, by the counts and what is steered and heard there
abbrev pub light_verdict : ℕ → ℕ → ℕ → ℕ → ℕ → Bool → Bool → Result (Unit {0}) PlantRefusal
light_verdict waves groups w a b is_steered is_heard =
    cond (nat_lt w waves)
    (cond (nat_lt a groups && nat_lt b groups)
    (cond is_steered (Err SourceLit)
    (cond is_heard (Err DestinationLit) (Ok tt)))
    (Err NoGroup))
    (Err NoWavelength)

-- the questions of a darken order; from_a: does b hear a?
abbrev pub darken_verdict : ℕ → ℕ → ℕ → ℕ → ℕ → Bool → Result (Unit {0}) PlantRefusal
darken_verdict waves groups w a b from_a =
    cond (nat_lt w waves)
    (cond (nat_lt a groups && nat_lt b groups)
    (cond from_a (Ok tt) (Err NotHeard))
    (Err NoGroup))
    (Err NoWavelength)

unfoldable pub light_answer : Switch → ℕ → ℕ → ℕ → Result (Unit {0}) PlantRefusal
light_answer t w a b = light_verdict t.waves t.groups w a b (is_some (steered t w a)) (is_some (t.hears w b))

unfoldable pub darken_answer : Switch → ℕ → ℕ → ℕ → Result (Unit {0}) PlantRefusal
darken_answer t w a b = darken_verdict t.waves t.groups w a b (is_from (t.hears w b) a)

-- what is heard once b hears s on w, and all else is kept
abbrev pub tuned : (ℕ → ℕ → Option ℕ) → ℕ → ℕ → Option ℕ → ℕ → ℕ → Option ℕ
tuned hears w b s v c = cond (v == w && c == b) s (hears v c)

-- accepted, b hears a on w; a refusal keeps everything
abbrev pub lit_after : Switch → ℕ → ℕ → ℕ → Switch
lit_after t w a b = record { waves = t.waves; groups = t.groups; hears = cond (is_ok (light_answer t w a b)) (tuned t.hears w b (Some a)) t.hears }

-- accepted, b hears nothing on w; a refusal keeps everything
abbrev pub dark_after : Switch → ℕ → ℕ → ℕ → Switch
dark_after t w a b = record { waves = t.waves; groups = t.groups; hears = cond (is_ok (darken_answer t w a b)) (tuned t.hears w b None) t.hears }

-- a plant of these counts that hears nothing
abbrev pub dark_switch : ℕ → ℕ → Switch
dark_switch waves groups = record { waves = waves; groups = groups; hears = λ _ _. None }
