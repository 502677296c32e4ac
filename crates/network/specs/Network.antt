-- What a layout means, and the laws that every layout keeps; the meaning of a star and of a splitter.
use Rattle.std.specs.Prelude.{◌≡◌, ℕ, ◌+◌, ◌*◌, ◌<◌, ◌≤◌, Bool, true, false, cond, not, ◌&&◌, ◌||◌, ◌⊎◌, List, map, length, is_ok, ◌==◌, ◌≢◌, nat_lt, slice_index, slice_index_or}
use Rattle.network.specs.declared.splitter.Site.{Site}
use Rattle.network.specs.Checks.{star_verdict, splitter_verdict}

-- lights s d f: the session from s to d lights the fibre f
pub record Network : Type 0 where
  pub sites : ℕ
  pub groups : ℕ
  pub fibres : ℕ
  pub ports : ℕ → ℕ
  pub group : ℕ → ℕ
  pub lights : ℕ → ℕ → ℕ → Bool

-- s and d are two different sites, so a session can go from s to d
pub record Ends (sites s d : ℕ) : Type 0 where
  pub source : s < sites
  pub destination : d < sites
  pub differ : s ≡ d → ⊥

-- ---- the laws

-- no number has more than 32 ports, and a site has one at least
pub record Bounded (n : Network) : Type 0 where
  pub few_sites : n.sites ≤ 128
  pub few_groups : n.groups ≤ 32
  pub few_ports : (s : ℕ) → n.ports s ≤ 32
  pub some_port : (s : ℕ) → s < n.sites → 1 ≤ n.ports s

-- a number that is no site has no port, and the number of groups as its group;
-- what is lit is a fibre that exists, and lit by a session between two different sites
pub record Outside (n : Network) : Type 0 where
  pub no_ports : (s : ℕ) → n.sites ≤ s → n.ports s ≡ 0
  pub no_group : (s : ℕ) → n.sites ≤ s → n.group s ≡ n.groups
  pub lit_ends : (s d f : ℕ) → n.lights s d f ≡ true → Ends n.sites s d
  pub lit_fibre : (s d f : ℕ) → n.lights s d f ≡ true → f < n.fibres

abbrev pub Grouped : Network → Type 0
Grouped n = (s : ℕ) → s < n.sites → n.group s < n.groups

-- two sessions that differ in source group and in destination group light no common fibre
abbrev pub Separate : Network → Type 0
Separate n =
    (s d s' d' f : ℕ) → (n.group s ≢ n.group s') → (n.group d ≢ n.group d') →
    n.lights s d f ≡ true → n.lights s' d' f ≢ true

-- two sessions with one source group, or with one destination group, light some common fibre
abbrev pub Meeting : Network → Type 0
Meeting n =
    (s d s' d' : ℕ) → Ends n.sites s d → Ends n.sites s' d' → (n.group s ≡ n.group s') ⊎ (n.group d ≡ n.group d') →
    (f : ℕ) × (n.lights s d f ≡ true) × (n.lights s' d' f ≡ true)

-- ---- star and splitter

abbrev pub empty_network : Network
empty_network =
    record { sites = 0; groups = 0; fibres = 0; ports = λ _. 0; group = λ _. 0; lights = λ _ _ _. false }

abbrev pub two_sites : ℕ → ℕ → ℕ → Bool
two_sites sites s d = nat_lt s sites && nat_lt d sites && not (s == d)

-- the fibres from `first` on are the up-fibre and the down-fibre of 0, of 1, ..: f is the up-fibre of a or the down-fibre of b
abbrev pub up_or_down : ℕ → ℕ → ℕ → ℕ → Bool
up_or_down first a b f = f == first + 2 * a || f == first + 2 * b + 1

-- each site is a group of its own
abbrev pub star : List ℕ → Network
star ports =
    record {
      sites = length ports;
      groups = length ports;
      fibres = 2 * length ports;
      ports = λ s. slice_index ports s;
      group = λ s. cond (nat_lt s (length ports)) s (length ports);
      lights = λ s d f. two_sites (length ports) s d && up_or_down 0 s d f;
    }

-- the ports of each site of a splitter, and its branch
abbrev pub ports_of : List Site → List ℕ
ports_of sites = map (λ s. s.ports) sites

abbrev pub entries_of : List Site → List ℕ
entries_of sites = map (λ s. s.branch) sites

-- entries: the branch of each site; the trunks' fibres come after the sites'
abbrev pub splitter : List ℕ → List ℕ → ℕ → Network
splitter ports entries branches =
    record {
      sites = length ports;
      groups = branches;
      fibres = 2 * length ports + 2 * branches;
      ports = λ s. slice_index ports s;
      group = λ s. slice_index_or entries s branches;
      lights = λ s d f.
          two_sites (length ports) s d
          && (up_or_down 0 s d f || up_or_down (2 * length ports) (slice_index_or entries s branches) (slice_index_or entries d branches) f);
    }

-- the network that lists make: an empty one where they are refused
abbrev pub star_network : List ℕ → Network
star_network ports = cond (is_ok (star_verdict ports)) (star ports) empty_network

abbrev pub splitter_network : List ℕ → List ℕ → ℕ → Network
splitter_network ports entries branches =
    cond (is_ok (splitter_verdict ports entries branches)) (splitter ports entries branches) empty_network

-- what is stored is nothing, or passes the check
abbrev pub sound_star : List ℕ → Bool
sound_star ports = length ports == 0 || is_ok (star_verdict ports)

abbrev pub sound_splitter : List ℕ → List ℕ → ℕ → Bool
sound_splitter ports entries branches =
    (length ports == 0 && length entries == 0 && branches == 0) || is_ok (splitter_verdict ports entries branches)
