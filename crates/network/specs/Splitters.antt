-- A splitter keeps the laws of a layout.
use Rattle.std.specs.Prelude.{◌≡◌, ℕ, ◌+◌, ◌*◌, true, List, length, slice_index_or}
use Rattle.std.proofs.Common.{arith}
use Rattle.std.proofs.lemmas.List.{get_or_past}
use Rattle.network.specs.Network.{Bounded, Outside, Grouped, Separate, Meeting, Ends, splitter}
use Rattle.network.specs.Verdicts.{Branched, few_ports, some_port}
use Rattle.network.specs.Lit.{ends_from, from_ends, Laid, separate_from, meeting_from}

module _ (ports entries : List ℕ) (branches : ℕ) where
  abbrev group : ℕ → ℕ
  group s = slice_index_or entries s branches

  lit : (s d f : ℕ) → (splitter ports entries branches).lights s d f ≡ true → Ends (length ports) s d × Laid (splitter ports entries branches) s d f
  lit s d f h = (ends_from (length ports) s d (grind arith), grind arith)

  pub splitter_separate : Separate (splitter ports entries branches)
  splitter_separate = separate_from (splitter ports entries branches) lit

  -- the sessions of a branch share its trunk
  pub splitter_meeting : Meeting (splitter ports entries branches)
  splitter_meeting =
      meeting_from (splitter ports entries branches) (2 * length ports) (λ s d e. (by_up s d e, by_down s d e))
    where
      by_up : (s d : ℕ) → Ends (length ports) s d → (splitter ports entries branches).lights s d (2 * length ports + 2 * group s) ≡ true
      by_up s d e = let t = from_ends (length ports) s d e in grind arith

      by_down : (s d : ℕ) → Ends (length ports) s d → (splitter ports entries branches).lights s d (2 * length ports + 2 * group d + 1) ≡ true
      by_down s d e = let t = from_ends (length ports) s d e in grind arith

  module _ (b : Branched ports entries branches) where
    pub splitter_bounded : Bounded (splitter ports entries branches)
    splitter_bounded =
        record { few_sites = b.ported.few; few_groups = b.few; few_ports = few_ports 128 ports b.ported; some_port = some_port 128 ports b.ported }

    pub splitter_grouped : Grouped (splitter ports entries branches)
    splitter_grouped = b.below

    pub splitter_outside : Outside (splitter ports entries branches)
    splitter_outside =
        record {
          no_ports = λ s l. get_or_past ports s 0 l;
          no_group = λ s l. get_or_past entries s branches (omega (arith, b.each));
          lit_ends = λ s d f h. (lit s d f h).0;
          lit_fibre = λ s d f h.
              let p = lit s d f h in
              let i = b.below s p.0.source in
              let j = b.below d p.0.destination in
              grind arith;
        }
