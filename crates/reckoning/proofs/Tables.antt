-- Where all wavelengths are lit out of a group, or into it, no table has room for one session more there.
use Rattle.std.proofs.Common.{◌≡◌, ℕ, ◌<◌, ◌≤◌, Bool, true, List, ◌∷◌, map, length, count_by, filter, sym, ap, ◌∙◌, subst, inl, inr, arith, ◌==◌}
use Rattle.std.specs.List.{range_with_len}
use Rattle.std.proofs.lemmas.Bool.{eqb-true, eq-eqb}
use Rattle.std.proofs.lemmas.List.Sums.{length-filter}
use Rattle.std.proofs.lemmas.List.{length-map}
use Rattle.reckoning.specs.Lists.{In, Pairwise}
use Rattle.reckoning.specs.declared.session.Session.{Session}
use Rattle.reckoning.proofs.Pigeon.{pigeon, pigeon_below, distinct_counting, map_in, in_map, in_kept, kept_in, pairwise_kept, pairwise_map}

-- h: the group that a session leaves, or the one that it enters
pub crowded : (W : ℕ) (n : Session) (ss : List Session) (h : Session → ℕ) (lit : ℕ → Bool) → ((w : ℕ) → lit w ≡ true → (x : Session) × In x ss × (x.wavelength ≡ w) × (h x ≡ h n)) → W ≤ count_by lit (range_with_len 0 W) → (wave : Session → ℕ) → ((s : Session) → In s (n ∷ ss) → wave s < W) → Pairwise (λ s t. h s ≡ h t → wave s ≡ wave t → ⊥) (n ∷ ss) → ⊥
crowded W n ss h lit shown full wave low differ =
    omega (arith, many, room, full, length-filter lit (range_with_len 0 W), length-map xs (λ x. x.wavelength), length-map (n ∷ xs) wave)
  where
    here : Session → Bool
    here s = h s == h n

    xs : List Session
    xs = filter here ss

    many : length (filter lit (range_with_len 0 W)) ≤ length (map (λ x. x.wavelength) xs)
    many =
        pigeon (filter lit (range_with_len 0 W)) (map (λ x. x.wavelength) xs)
        (pairwise_kept (λ x y. x ≡ y → ⊥) lit (range_with_len 0 W) (distinct_counting W 0))
        (λ w i.
        let r = shown w (in_kept lit w (range_with_len 0 W) i).1 in
        subst (λ (v : ℕ). In v (map (λ (x : Session). x.wavelength) xs)) r.2 (map_in (λ (x : Session). x.wavelength) r.0 xs (kept_in here r.0 ss r.1 (eq-eqb _ _ r.3))))

    there : (s : Session) → In s (n ∷ xs) → h s ≡ h n
    there s (inl e) = ap h e
    there s (inr i) = eqb-true _ _ (in_kept here s ss i).1

    within : (s : Session) → In s (n ∷ xs) → In s (n ∷ ss)
    within s (inl e) = inl e
    within s (inr i) = inr (in_kept here s ss i).0

    room : length (map wave (n ∷ xs)) ≤ W
    room =
        pigeon_below W (map wave (n ∷ xs))
        (pairwise_map (λ s t. h s ≡ h t → wave s ≡ wave t → ⊥) (λ x y. x ≡ y → ⊥) wave (n ∷ xs)
        (λ y i. differ.0 y (in_kept here y ss i).0, pairwise_kept (λ s t. h s ≡ h t → wave s ≡ wave t → ⊥) here ss differ.1)
        (λ s t i j k. k (there s i ∙ sym (there t j))))
        (λ v i. let r = in_map wave v (n ∷ xs) i in omega (arith, r.2, low r.0 (within r.0 r.1)))
