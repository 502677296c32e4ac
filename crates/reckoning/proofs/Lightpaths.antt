-- A plant that carries the standing sessions and nothing else has as many lit lightpaths as sessions stand.
use Rattle.std.proofs.Common.{◌≡◌, ℕ, ◌<◌, ◌≤◌, true, false, List, [], ◌∷◌, ◌++◌, map, length, is_some, Some, None, sum_by, count_by, filter, Option, sym, refl, ap, ◌∙◌, subst, ap₂, inl, inr, arith}
use Rattle.std.specs.List.{range_with_len}
use Rattle.std.proofs.lemmas.List.Sums.{length-filter, sum_by-cons}
use Rattle.std.proofs.lemmas.List.{length-map, length-append}
use Rattle.std.proofs.lemmas.Bool.{both_ways}
use Rattle.reckoning.specs.Lists.{In, Distinct}
use Rattle.reckoning.specs.declared.session.Session.{Session}
use Rattle.reckoning.specs.Laws.{Clear}
use Rattle.reckoning.proofs.Sessions.{Colouring}
use Rattle.reckoning.proofs.Plants.{Hears, Carrying}
use Rattle.reckoning.proofs.Pigeon.{pigeon, in_counting, distinct_counting, in_map, map_in, in_kept, kept_in, in_either, in_left, in_right, pairwise_kept, pairwise_map, pairwise_append}

module _ (G : ℕ) (hears : Hears) where
  -- the groups that hear any on w, each beside w
  row : ℕ → List (ℕ × ℕ)
  row w = map (λ b. (w, b)) (filter (λ b. is_some (hears w b)) (range_with_len 0 G))

  rows : List ℕ → List (ℕ × ℕ)
  rows [] = []
  rows (w ∷ ws) = row w ++ rows ws

  rows_length : (ws : List ℕ) → length (rows ws) ≡ sum_by (λ w. count_by (λ b. is_some (hears w b)) (range_with_len 0 G)) ws
  unfolding rows row
  rows_length [] = refl
  rows_length (w ∷ ws) =
      let lit : List ℕ = filter (λ b. is_some (hears w b)) (range_with_len 0 G) in
      omega (arith, rows_length ws, sum_by-cons (λ w. count_by (λ b. is_some (hears w b)) (range_with_len 0 G)) w ws, length-append (row w) (rows ws), length-map {B = ℕ × ℕ} lit (λ b. (w, b)), length-filter (λ b. is_some (hears w b)) (range_with_len 0 G))

  in_row : (w : ℕ) (z : ℕ × ℕ) → In z (row w) → (z.0 ≡ w) × (is_some (hears w z.1) ≡ true)
  unfolding row
  in_row w z i =
      let r = in_map (λ b. (w, b)) z (filter (λ b. is_some (hears w b)) (range_with_len 0 G)) i in
      let k = in_kept (λ b. is_some (hears w b)) r.0 (range_with_len 0 G) r.1 in
      (ap (λ (x : ℕ × ℕ). x.0) r.2, ap (λ (x : ℕ × ℕ). is_some (hears w x.1)) r.2 ∙ k.1)

  in_rows : (ws : List ℕ) (z : ℕ × ℕ) → In z (rows ws) → In z.0 ws × (is_some (hears z.0 z.1) ≡ true)
  unfolding rows
  in_rows [] z i = absurd i
  in_rows (w ∷ ws) z i =
      elim (in_either z (row w) (rows ws) i) [
        | inl h ↦ let r = in_row w z h in (inl r.0, subst (λ (v : ℕ). is_some (hears v z.1) ≡ true) (sym r.0) r.1)
        | inr h ↦ let r = in_rows ws z h in (inr r.0, r.1)
      ]

  rows_in : (ws : List ℕ) (w b : ℕ) → In w ws → b < G → is_some (hears w b) ≡ true → In (w, b) (rows ws)
  unfolding rows row
  rows_in [] w b i l h = absurd i
  rows_in (v ∷ ws) w b (inl e) l h =
      subst (λ (u : ℕ). In (w, b) (row u ++ rows ws)) e
      (in_left (w, b) (row w) (rows ws) (map_in (λ y. (w, y)) b (filter (λ y. is_some (hears w y)) (range_with_len 0 G)) (kept_in (λ y. is_some (hears w y)) b (range_with_len 0 G) (in_counting G 0 b (omega arith) (omega arith)) h)))
  rows_in (v ∷ ws) w b (inr i) l h = in_right (w, b) (row v) (rows ws) (rows_in ws w b i l h)

  rows_distinct : (ws : List ℕ) → Distinct ws → Distinct (rows ws)
  unfolding rows row
  rows_distinct [] d = tt
  rows_distinct (w ∷ ws) d =
      pairwise_append (λ x y. x ≡ y → ⊥) (row w) (rows ws)
      (pairwise_map (λ x y. x ≡ y → ⊥) (λ x y. x ≡ y → ⊥) (λ b. (w, b)) (filter (λ b. is_some (hears w b)) (range_with_len 0 G))
      (pairwise_kept (λ x y. x ≡ y → ⊥) (λ b. is_some (hears w b)) (range_with_len 0 G) (distinct_counting G 0))
      (λ x y i j ne e. ne (ap (λ (z : ℕ × ℕ). z.1) e)))
      (rows_distinct ws d.1)
      (λ x y i j e. d.0 y.0 (in_rows ws y j).0 (sym (in_row w x i).0 ∙ ap (λ (z : ℕ × ℕ). z.0) e))

heard : (o : Option ℕ) → is_some o ≡ true → (a : ℕ) × (o ≡ Some a)
heard None h = absurd (both_ways false refl h)
heard (Some a) h = (a, refl)

pub one_for_each : (g : ℕ → ℕ) (W G : ℕ) (ss : List Session) → Colouring g W G ss → (hears : Hears) → Carrying g (λ s. In s ss) hears → sum_by (λ w. count_by (λ b. is_some (hears w b)) (range_with_len 0 G)) (range_with_len 0 W) ≡ length ss
one_for_each g W G ss sound hears c =
    omega (arith, rows_length G hears (range_with_len 0 W), at_most, at_least, length-map ss place)
  where
    place : Session → ℕ × ℕ
    place s = (s.wavelength, g s.destination)

    at_most : length (rows G hears (range_with_len 0 W)) ≤ length (map place ss)
    at_most =
        pigeon (rows G hears (range_with_len 0 W)) (map place ss) (rows_distinct G hears (range_with_len 0 W) (distinct_counting W 0))
        (λ z i.
        let h = in_rows G hears (range_with_len 0 W) z i in
        let o = heard (hears z.0 z.1) h.1 in
        let r = c.nothing_else z.0 z.1 o.0 o.1 in
        subst (λ (y : ℕ × ℕ). In y (map place ss)) (ap₂ (λ (u v : ℕ). (u, v)) r.2 r.3) (map_in place r.0 ss r.1))

    at_least : length (map place ss) ≤ length (rows G hears (range_with_len 0 W))
    at_least =
        pigeon (map place ss) (rows G hears (range_with_len 0 W))
        (pairwise_map (Clear g) (λ x y. x ≡ y → ⊥) place ss sound.clear (λ x y i j h e. (h (ap (λ (z : ℕ × ℕ). z.0) e)).1 (ap (λ (z : ℕ × ℕ). z.1) e)))
        (λ z i.
        let r = in_map place z ss i in
        let low = sound.low r.0 r.1 in
        subst (λ (y : ℕ × ℕ). In y (rows G hears (range_with_len 0 W))) (sym r.2)
        (rows_in G hears (range_with_len 0 W) r.0.wavelength (g r.0.destination) (in_counting W 0 r.0.wavelength (omega arith) (omega arith)) (sound.grouped r.0 r.1).1 (ap is_some (c.each r.0 r.1))))
