-- What layout and plant told, number by number.
use Rattle.std.proofs.Common.{◌≡◌, ℕ, zero, suc, ◌+◌, ◌<◌, Bool, true, false, ◌&&◌, List, map, length, slice_get, slice_index_or, Some, sym, refl, ap, ◌∙◌, inl, inr, arith}
use Rattle.std.specs.List.{list_all, range_with_len}
use Rattle.std.proofs.lemmas.Bool.{cases_lt}
use Rattle.std.proofs.lemmas.List.FromFn.{length-map-range_with_len, get_or-map-range_with_len}
use Rattle.std.proofs.lemmas.Option.{slice_get-get_or, slice_get_past}
use Rattle.network.specs.Network.{Network, Outside}
use Rattle.plant.specs.Switch.{Switch}
use Rattle.reckoning.specs.Parts.{Parts, is_dark, parts_told}
use Rattle.book.specs.declared.setting.Site.{Site}
use Rattle.book.specs.Sites.{ports_there, group_there}

and_first : (a b c : Bool) → (a && (b && c)) ≡ (b && (a && c))
and_first true b c = refl
and_first false true c = refl
and_first false false c = refl

-- the last of a range asked first
all_last : (p : ℕ → Bool) (a n : ℕ) → list_all p (range_with_len a (suc n)) ≡ (p (a + n) && list_all p (range_with_len a n))
all_last p a zero = let z : a + 0 ≡ a = omega arith in rw z refl
all_last p a (suc n) =
    let z : a + 1 + n ≡ a + suc n = omega arith in
    ap (λ b. p a && b) (all_last p (a + 1) n)
    ∙ (and_first (p a) (p (a + 1 + n)) (list_all p (range_with_len (a + 1) n)) ∙ ap (λ k. p k && (p a && list_all p (range_with_len (a + 1) n))) z)

-- a test of all numbers below n that asks the last first
pub all_below : (p q : ℕ → Bool) → q 0 ≡ true → ((n : ℕ) → q (suc n) ≡ (p n && q n)) → (n : ℕ) → list_all p (range_with_len 0 n) ≡ q n
all_below p q none more zero = sym none
all_below p q none more (suc n) =
    let z : 0 + n ≡ n = omega arith in
    all_last p 0 n ∙ (ap (λ k. p k && list_all p (range_with_len 0 n)) z ∙ (ap (λ b. p n && b) (all_below p q none more n) ∙ sym (more n)))

-- ---- the sites of a layout, one by one

abbrev pub site_of : Network → ℕ → Site
site_of n s = record { ports = n.ports s; group = n.group s }

module _ (n : Network) (out : Outside n) (sites : List Site) (is : sites ≡ map (site_of n) (range_with_len 0 n.sites)) where
  pub sites_long : length sites ≡ n.sites
  sites_long = ap length is ∙ length-map-range_with_len (site_of n) 0 n.sites

  site_in : (s : ℕ) → s < n.sites → slice_get sites s ≡ Some (site_of n s)
  site_in s l =
      let z : 0 + s ≡ s = omega arith in
      slice_get-get_or sites s (site_of n 0) (omega (arith, sites_long))
      ∙ ap Some (ap (λ xs. slice_index_or xs s (site_of n 0)) is ∙ get_or-map-range_with_len (site_of n) 0 n.sites s s (site_of n 0) l z)

  ports_is : (s : ℕ) → ports_there (slice_get sites s) ≡ n.ports s
  ports_is s =
      elim (cases_lt s n.sites) [
        | inl l ↦ ap ports_there (site_in s l)
        | inr l ↦ ap ports_there (slice_get_past sites s (omega (arith, sites_long))) ∙ sym (out.no_ports s l)
      ]

  module _ (groups : ℕ) (same : groups ≡ n.groups) where
    pub group_is : (s : ℕ) → group_there groups (slice_get sites s) ≡ n.group s
    group_is s =
        elim (cases_lt s n.sites) [
          | inl l ↦ ap (group_there groups) (site_in s l)
          | inr l ↦ ap (group_there groups) (slice_get_past sites s (omega (arith, sites_long))) ∙ (same ∙ sym (out.no_group s l))
        ]

    -- over the fields one by one, since a setting has ghost fields
    pub parts_are : (w : Switch) (waves span : ℕ) (dark : Bool) → waves ≡ w.waves → span ≡ w.groups → dark ≡ is_dark w
        → ◌≡◌ {A = Parts} (record { sites = length sites; groups = groups; ports = λ s. ports_there (slice_get sites s); group = λ s. group_there groups (slice_get sites s); wavelengths = waves; plant_groups = span; dark = dark }) (parts_told n w)
    parts_are w waves span dark b c d = λ i. record { sites = sites_long i; groups = same i; ports = λ s. ports_is s i; group = λ s. group_is s i; wavelengths = b i; plant_groups = c i; dark = d i }
