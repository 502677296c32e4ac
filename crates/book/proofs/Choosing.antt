-- The choice: the two ways of the plan, and the walk list that holds both chains.
use Rattle.std.proofs.Common.{◌≡◌, ℕ, ◌+◌, ◌-◌, ◌<◌, ◌≤◌, Bool, true, false, not, ◌&&◌, leb, List, ◌++◌, length, take, drop, Option, sym, refl, ap, ◌∙◌, ap₂, arith}
use Rattle.std.proofs.Math.Seq.{take-append_seam, drop-append_seam}
use Rattle.std.proofs.lemmas.List.{append_assoc, length-append, length-map, length-drop, drop-drop, map-append}
use Rattle.std.proofs.lemmas.Bool.{le-ltb, le-leb, lt-leb, true≢false}
use Rattle.reckoning.specs.declared.session.Session.{Session}
use Rattle.reckoning.specs.Lists.{first, lowest}
use Rattle.reckoning.specs.Parts.{Parts}
use Rattle.reckoning.specs.Standing.{leaves, enters, lit_out, lit_into}
use Rattle.reckoning.specs.Plans.{Plan, direct, shorter, exchange}
use Rattle.reckoning.specs.Sheets.{code, codes, walked}
use Rattle.reckoning.specs.Laws.{Sound}
use Rattle.reckoning.proofs.Admissions.{colouring}
use Rattle.reckoning.proofs.Plans.{Good, plan_good}
use Rattle.book.specs.Walks.{chained, laid}
use Rattle.book.specs.Courses.{Open, Chosen, plan_for}
use Rattle.book.proofs.Walking.{laid_part}

-- xs laid first, ys behind them
module _ (xs ys old out new : List ℕ) (d : out ≡ laid xs old) (e : new ≡ take (length xs) out ++ laid ys (drop (length xs) out)) where
  first_laid : take (length xs) out ≡ xs
  first_laid = ap (take (length xs)) d ∙ take-append_seam xs (drop (length xs) old)

  rest_laid : drop (length xs) out ≡ drop (length xs) old
  rest_laid = ap (drop (length xs)) d ∙ drop-append_seam xs (drop (length xs) old)

  pub both_laid : new ≡ (xs ++ ys) ++ drop (length (xs ++ ys)) old
  both_laid =
      e
      ∙ (ap₂ (λ (s t : List ℕ). s ++ laid ys t) first_laid rest_laid
      ∙ (ap (λ (t : List ℕ). xs ++ (ys ++ t)) behind ∙ sym (append_assoc xs ys (drop (length (xs ++ ys)) old))))
    where
      behind : drop (length ys) (drop (length xs) old) ≡ drop (length (xs ++ ys)) old
      behind = drop-drop (length ys) (length xs) old ∙ ap (λ (k : ℕ). drop k old) (sym (length-append xs ys))

  pub front_laid : take (length xs) new ≡ xs
  front_laid = ap (take (length xs)) (both_laid ∙ append_assoc xs ys (drop (length (xs ++ ys)) old)) ∙ take-append_seam xs (ys ++ drop (length (xs ++ ys)) old)

  pub back_laid : take (length ys) (drop (length xs) new) ≡ ys
  back_laid =
      ap (λ (t : List ℕ). take (length ys) (drop (length xs) t)) (both_laid ∙ append_assoc xs ys (drop (length (xs ++ ys)) old))
      ∙ (ap (take (length ys)) (drop-append_seam xs (ys ++ drop (length (xs ++ ys)) old)) ∙ take-append_seam ys (drop (length (xs ++ ys)) old))

picked : (c : Bool) → c ≡ false → (x y : Plan) → elim c [ true ↦ x | false ↦ y ] ≡ y
picked true e x y = absurd (true≢false e)
picked false e x y = refl

module _ (L : Parts) (ss : List Session) (a b : ℕ) (old : List ℕ) (k : Sound L ss) (o : Open L ss a b old) where
  pub good : Good L.group L.wavelengths L.plant_groups ss a b (plan_for L ss a b)
  good = plan_good L.group L.wavelengths L.plant_groups ss (colouring L ss k) a b o.out o.up o.down

  -- no wavelength is free at both ends
  module _ (p q : ℕ) (s t : Option Session) (full : L.wavelengths ≤ lowest (λ v. not (lit_out L.group ss a v) && not (lit_into L.group ss b v)) L.wavelengths)
      (hp : p ≡ lowest (λ v. not (lit_out L.group ss a v)) L.wavelengths) (hq : q ≡ lowest (λ v. not (lit_into L.group ss b v)) L.wavelengths)
      (hs : s ≡ first (leaves L.group q a) ss) (ht : t ≡ first (enters L.group p b) ss) where
    abbrev es : List Session
    es = chained L ss p q s

    abbrev fs : List Session
    fs = chained L ss p q t

    exchange_plan : plan_for L ss a b ≡ shorter p q es fs (leb (length es) (length fs))
    unfolding chained
    exchange_plan =
        picked _ (le-ltb _ _ full) (direct (lowest (λ v. not (lit_out L.group ss a v) && not (lit_into L.group ss b v)) L.wavelengths))
        (exchange L.group ss L.plant_groups a b (lowest (λ v. not (lit_out L.group ss a v)) L.wavelengths) (lowest (λ v. not (lit_into L.group ss b v)) L.wavelengths))
        ∙ (ap₂ (exchange L.group ss L.plant_groups a b) (sym hp) (sym hq)
        ∙ ap₂ (λ (x y : Option Session). shorter p q (chained L ss p q x) (chained L ss p q y) (leb (length (chained L ss p q x)) (length (chained L ss p q y)))) (sym hs) (sym ht))

    from_source : (c : Bool) → (shorter p q es fs c).from_source ≡ es
    from_source true = refl
    from_source false = refl

    from_destination : (c : Bool) → (shorter p q es fs c).from_destination ≡ fs
    from_destination true = refl
    from_destination false = refl

    source_is : (plan_for L ss a b).from_source ≡ es
    source_is = ap (λ (P : Plan). P.from_source) exchange_plan ∙ from_source _

    destination_is : (plan_for L ss a b).from_destination ≡ fs
    destination_is = ap (λ (P : Plan). P.from_destination) exchange_plan ∙ from_destination _

    pub rooms : length es + length fs ≤ length old
    rooms = omega (arith, good.both, o.room, ap length source_is, ap length destination_is)

    codes_long : (xs : List Session) → length (codes L.group xs) ≡ length xs
    codes_long xs = length-map xs (code L.group)

    -- both chains are written, the second into the part behind the first
    module _ (m n : ℕ) (out part : List ℕ) (hm : m ≡ length es) (ho : out ≡ laid (codes L.group es) old) (hn : n ≡ length fs) (hl : part ≡ laid (codes L.group fs) (take (length out - m) (drop m out))) where
      abbrev new : List ℕ
      new = take m out ++ (part ++ drop (length out - m) (drop m out))

      out_long : length out ≡ length old
      out_long = omega (arith, rooms, ap length ho, length-append (codes L.group es) (drop (length (codes L.group es)) old), length-drop (length (codes L.group es)) old, codes_long es)

      hl' : new ≡ take (length (codes L.group es)) out ++ laid (codes L.group fs) (drop (length (codes L.group es)) out)
      hl' =
          ap (λ (t : List ℕ). take m out ++ (t ++ drop (length out - m) (drop m out))) hl
          ∙ (ap (λ (t : List ℕ). take m out ++ t) (laid_part (codes L.group fs) (drop m out) (length out - m) (omega (arith, length-drop m out)) (omega (arith, rooms, out_long, hm, codes_long fs)))
          ∙ ap (λ (k : ℕ). take k out ++ laid (codes L.group fs) (drop k out)) (hm ∙ sym (codes_long es)))

      walk_is : new ≡ walked L.group (plan_for L ss a b) old
      walk_is =
          both_laid (codes L.group es) (codes L.group fs) old out new ho hl'
          ∙ (ap (λ (xs : List ℕ). xs ++ drop (length xs) old) (sym (map-append (code L.group) es fs))
          ∙ ap₂ (λ (x y : List Session). codes L.group (x ++ y) ++ drop (length (codes L.group (x ++ y))) old) (sym source_is) (sym destination_is))

      new_long : length new ≡ length old
      new_long =
          let xs : List ℕ = codes L.group es ++ codes L.group fs in
          omega (arith, rooms, ap length (both_laid (codes L.group es) (codes L.group fs) old out new ho hl'), length-append xs (drop (length xs) old), length-drop (length xs) old, length-append (codes L.group es) (codes L.group fs), codes_long es, codes_long fs)

      pub source_chosen : m ≤ n → Chosen L ss a b old new (record { gives = q; exchange = record { p = p; q = q }; begin = 0; moves = m })
      source_chosen h =
          let e : plan_for L ss a b ≡ shorter p q es fs true = exchange_plan ∙ ap (shorter p q es fs) (le-leb _ _ (omega arith)) in
          record {
            gives = sym (ap (λ (P : Plan). P.gives) e);
            p = sym (ap (λ (P : Plan). P.p) e);
            q = sym (ap (λ (P : Plan). P.q) e);
            moves = hm ∙ sym (ap (λ (P : Plan). length P.moving) e);
            walk = walk_is;
            moving =
                ap (λ (i : ℕ). take i new) (hm ∙ sym (codes_long es))
                ∙ (front_laid (codes L.group es) (codes L.group fs) old out new ho hl' ∙ sym (ap (λ (P : Plan). codes L.group P.moving) e));
            within = omega (arith, rooms, new_long);
          }

      pub destination_chosen : n < m → Chosen L ss a b old new (record { gives = p; exchange = record { p = p; q = q }; begin = m; moves = n })
      destination_chosen h =
          let e : plan_for L ss a b ≡ shorter p q es fs false = exchange_plan ∙ ap (shorter p q es fs) (lt-leb _ _ (omega arith)) in
          record {
            gives = sym (ap (λ (P : Plan). P.gives) e);
            p = sym (ap (λ (P : Plan). P.p) e);
            q = sym (ap (λ (P : Plan). P.q) e);
            moves = hn ∙ sym (ap (λ (P : Plan). length P.moving) e);
            walk = walk_is;
            moving =
                ap₂ (λ (i j : ℕ). take i (drop j new)) (hn ∙ sym (codes_long fs)) (hm ∙ sym (codes_long es))
                ∙ (back_laid (codes L.group es) (codes L.group fs) old out new ho hl' ∙ sym (ap (λ (P : Plan). codes L.group P.moving) e));
            within = omega (arith, rooms, new_long);
          }
