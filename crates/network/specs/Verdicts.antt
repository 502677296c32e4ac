-- What is known of the lists that a layout keeps: the empty ones, and those that passed the check.
use Rattle.std.specs.Prelude.{◌≡◌, ℕ, ◌<◌, ◌≤◌, true, List, [], ◌∷◌, length, nat_lt, slice_index, slice_index_or, refl}
use Rattle.std.specs.List.{list_all}
use Rattle.std.proofs.Common.{arith, inl, inr}
use Rattle.std.proofs.lemmas.List.{get_or_past}
use Rattle.std.proofs.lemmas.List.Sums.{AllPass-from_list_all}
use Rattle.std.proofs.lemmas.Bool.{cases_lt}
use Rattle.network.specs.Checks.{between, all_ported}
use Rattle.network.specs.Network.{sound_star, sound_splitter}

-- each number of a list that passes lies between the two
pub at_between : (a b : ℕ) (xs : List ℕ) (i d : ℕ) → list_all (between a b) xs ≡ true → i < length xs → (a ≤ slice_index_or xs i d) × (slice_index_or xs i d ≤ b)
at_between a b xs i d h l = let p = AllPass-from_list_all (between a b) xs h i d l in grind arith

-- few enough sites, with 1 to 32 ports each
pub record Ported (limit : ℕ) (ports : List ℕ) : Type 0 where
  pub few : length ports ≤ limit
  pub fit : all_ported ports ≡ true

-- an empty list passes
some_fit : (ports : List ℕ) → (0 < length ports → all_ported ports ≡ true) → all_ported ports ≡ true
some_fit [] h = refl
some_fit (x ∷ xs) h = h (omega arith)

pub star_ported : (ports : List ℕ) → sound_star ports ≡ true → Ported 32 ports
star_ported ports sound = record { few = grind arith; fit = some_fit ports (λ some. grind arith) }

pub few_ports : (limit : ℕ) (ports : List ℕ) → Ported limit ports → (s : ℕ) → slice_index ports s ≤ 32
few_ports limit ports p s =
    elim (cases_lt s (length ports)) [
      | inl l ↦ (at_between 1 32 ports s 0 p.fit l).1
      | inr l ↦ let e = get_or_past ports s 0 l in omega arith
    ]

pub some_port : (limit : ℕ) (ports : List ℕ) → Ported limit ports → (s : ℕ) → s < length ports → 1 ≤ slice_index ports s
some_port limit ports p s l = (at_between 1 32 ports s 0 p.fit l).0

-- and each site lies in one of at most 32 branches
pub record Branched (ports entries : List ℕ) (branches : ℕ) : Type 0 where
  pub ported : Ported 128 ports
  pub each : length entries ≡ length ports
  pub few : branches ≤ 32
  pub below : (s : ℕ) → s < length ports → slice_index_or entries s branches < branches

module _ (ports entries : List ℕ) (branches : ℕ) (sound : sound_splitter ports entries branches ≡ true) where
  entries_fit : 0 < length ports → list_all (λ e. nat_lt e branches) entries ≡ true
  entries_fit some = grind arith

  pub splitter_branched : Branched ports entries branches
  splitter_branched =
      let each : length entries ≡ length ports = grind arith in
      record {
        ported = record { few = grind arith; fit = some_fit ports (λ some. grind arith) };
        each = each;
        few = grind arith;
        below = λ s l.
            let b = AllPass-from_list_all (λ e. nat_lt e branches) entries (entries_fit (omega arith)) s branches (omega arith) in
            grind arith;
      }

pub group_few : (ports entries : List ℕ) (branches : ℕ) → Branched ports entries branches → (s : ℕ) → slice_index_or entries s branches ≤ 32
group_few ports entries branches k s =
    elim (cases_lt s (length ports)) [
      | inl l ↦ let b = k.below s l in omega (arith, k.few)
      | inr l ↦ let e = get_or_past entries s branches (omega (arith, k.each)) in omega (arith, k.few)
    ]
