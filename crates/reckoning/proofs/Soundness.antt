-- The test of soundness says that the sessions are sound, and passes where they are.
use Rattle.std.proofs.Common.{◌≡◌, ℕ, ◌<◌, Bool, true, false, not, ◌&&◌, List, [], ◌∷◌, refl, ap, ◌∙◌, inl, inr, arith}
use Rattle.std.proofs.lemmas.Bool.{both_ways, false_from_ne_true, and_parts, and_from, not-true, not_from_false}
use Rattle.network.specs.Network.{Ends}
use Rattle.reckoning.specs.declared.session.Session.{Session}
use Rattle.reckoning.specs.Lists.{In, Pairwise, any}
use Rattle.reckoning.specs.Parts.{Parts}
use Rattle.reckoning.specs.Laws.{Clear, Unlike, Sound}
use Rattle.reckoning.specs.Soundness.{clash, placed, sound_test, SoundTested}
use Rattle.reckoning.proofs.Sessions.{any_hit, any_some}

module _ (g : ℕ → ℕ) (s t : Session) where
  clear_from : clash g s t ≡ false → Clear g s t
  clear_from h w = (λ e. grind arith, λ e. grind arith)

  unlike_from : clash g s t ≡ false → Unlike s t
  unlike_from h e = grind arith

  no_clash : Clear g s t → Unlike s t → clash g s t ≡ true → ⊥
  no_clash c u h = grind arith

any_out : (p : Session → Bool) (xs : List Session) → any p xs ≡ false → (x : Session) → In x xs → p x ≡ false
any_out p xs h x i = false_from_ne_true _ (λ t. both_ways _ h (any_hit p xs x i t))

-- what one session's part of the test says
record Placed (L : Parts) (s : Session) : Type 0 where
  low : s.wavelength < L.wavelengths
  grouped : (L.group s.source < L.plant_groups) × (L.group s.destination < L.plant_groups)
  ends : Ends L.sites s.source s.destination

placed_says : (L : Parts) (s : Session) → placed L s ≡ true → Placed L s
placed_says L s h =
    record { low = grind arith; grouped = (grind arith, grind arith); ends = record { source = grind arith; destination = grind arith; differ = λ e. grind arith } }

placed_from : (L : Parts) (s : Session) → Placed L s → placed L s ≡ true
placed_from L s h = grind arith

module _ (L : Parts) where
  parts : (s : Session) (ss : List Session) → sound_test L (s ∷ ss) ≡ true → (placed L s ≡ true) × (any (clash L.group s) ss ≡ false) × (sound_test L ss ≡ true)
  unfolding sound_test
  parts s ss h =
      let k = and_parts (placed L s) (not (any (clash L.group s) ss) && sound_test L ss) h in
      let m = and_parts (not (any (clash L.group s) ss)) (sound_test L ss) k.1 in
      (k.0, not-true (any (clash L.group s) ss) m.0, m.1)

  apart_all : (R : Session → Session → Type 0) → ((s t : Session) → clash L.group s t ≡ false → R s t) → (ss : List Session) → sound_test L ss ≡ true → Pairwise R ss
  apart_all R from [] h = tt
  apart_all R from (s ∷ ss) h =
      let k = parts s ss h in
      (λ y i. from s y (any_out (clash L.group s) ss k.1 y i), apart_all R from ss k.2)

  each_placed : (ss : List Session) → sound_test L ss ≡ true → (s : Session) → In s ss → Placed L s
  each_placed [] h s i = absurd i
  each_placed (t ∷ ss) h s (inl e) = placed_says L s (ap (placed L) e ∙ (parts t ss h).0)
  each_placed (t ∷ ss) h s (inr i) = each_placed ss (parts t ss h).2 s i

  pub sound_from : (ss : List Session) → sound_test L ss ≡ true → Sound L ss
  sound_from ss h =
      record {
        clear = apart_all (Clear L.group) (clear_from L.group) ss h;
        unlike = apart_all Unlike (unlike_from L.group) ss h;
        low = λ s i. (each_placed ss h s i).low;
        grouped = λ s i. (each_placed ss h s i).grouped;
        placed = λ s i. (each_placed ss h s i).ends;
      }

  test_from : (ss : List Session) → Pairwise (Clear L.group) ss → Pairwise Unlike ss → ((s : Session) → In s ss → Placed L s) → sound_test L ss ≡ true
  unfolding sound_test
  test_from [] c u p = refl
  test_from (s ∷ ss) c u p =
      and_from _ _ (placed_from L s (p s (inl refl))) (and_from _ _ (not_from_false _ apart) (test_from ss c.1 u.1 (λ t i. p t (inr i))))
    where
      apart : any (clash L.group s) ss ≡ false
      apart =
          false_from_ne_true _ (λ t. let r = any_some (clash L.group s) ss t in no_clash L.group s r.0 (c.0 r.0 r.1) (u.0 r.0 r.1) r.2)

  pub sound_to : (ss : List Session) → Sound L ss → sound_test L ss ≡ true
  sound_to ss k = test_from ss k.clear k.unlike (λ s i. record { low = k.low s i; grouped = k.grouped s i; ends = k.placed s i })

pub sound_tested : SoundTested
sound_tested L ss = (sound_from L ss, sound_to L ss)
