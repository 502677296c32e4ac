-- A star keeps the laws of a layout.
use Rattle.std.specs.Prelude.{◌≡◌, ℕ, ◌+◌, ◌*◌, ◌<◌, true, ◌⊎◌, List, length}
use Rattle.std.proofs.Common.{arith, inl}
use Rattle.std.proofs.lemmas.List.{get_or_past}
use Rattle.network.specs.Network.{Bounded, Outside, Grouped, Separate, Meeting, Ends, star, sound_star}
use Rattle.network.specs.Verdicts.{star_ported, few_ports, some_port}
use Rattle.network.specs.Lit.{ends_from, from_ends, separate_from, meeting_from}

module _ (ports : List ℕ) where
  lit : (s d f : ℕ) → (star ports).lights s d f ≡ true → Ends (length ports) s d × ((f ≡ 2 * s) ⊎ (f ≡ 2 * d + 1))
  lit s d f h = (ends_from (length ports) s d (grind arith), grind arith)

  pub star_outside : Outside (star ports)
  star_outside =
      record {
        no_ports = λ s l. get_or_past ports s 0 l;
        no_group = λ s l. grind arith;
        lit_ends = λ s d f h. (lit s d f h).0;
        lit_fibre = λ s d f h. grind arith;
      }

  pub star_grouped : Grouped (star ports)
  star_grouped s l = grind arith

  pub star_separate : Separate (star ports)
  star_separate = separate_from (star ports) (λ s d f h. let p = lit s d f h in (p.0, inl p.1))

  own : (s : ℕ) → s < length ports → s ≡ (star ports).group s
  own s l = grind arith

  -- a site is its own group, so its own fibres serve
  pub star_meeting : Meeting (star ports)
  star_meeting = meeting_from (star ports) 0 (λ s d e. (by_up s d e, by_down s d e))
    where
      by_up : (s d : ℕ) → Ends (length ports) s d → (star ports).lights s d (0 + 2 * (star ports).group s) ≡ true
      by_up s d e = let a = own s e.source in let t = from_ends (length ports) s d e in grind arith

      by_down : (s d : ℕ) → Ends (length ports) s d → (star ports).lights s d (0 + 2 * (star ports).group d + 1) ≡ true
      by_down s d e = let b = own d e.destination in let t = from_ends (length ports) s d e in grind arith

  pub star_bounded : sound_star ports ≡ true → Bounded (star ports)
  star_bounded sound =
      let p = star_ported ports sound in
      record { few_sites = omega (arith, p.few); few_groups = p.few; few_ports = few_ports 32 ports p; some_port = some_port 32 ports p }
