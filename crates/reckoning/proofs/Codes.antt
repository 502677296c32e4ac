-- A code names one standing session, since at most 32 wavelengths and groups make codes that differ; and so a chain by its codes is the chain.
use Rattle.std.proofs.Common.{◌≡◌, ℕ, ◌*◌, ◌/◌, ◌%◌, ◌<◌, ◌≤◌, Bool, true, false, cond, not, ◌&&◌, ◌==◌, List, [], ◌∷◌, map, length, Some, sym, refl, ap, ◌∙◌, ap₂, inl, inr, arith, nat_lt, nat_le}
use Rattle.std.proofs.lemmas.Bool.{eqb-true, eq-eqb}
use Rattle.std.proofs.lemmas.List.{length-map}
use Rattle.reckoning.specs.declared.session.Session.{Session}
use Rattle.reckoning.specs.Lists.{In, Distinct, first, any, chain, lowest}
use Rattle.reckoning.specs.Parts.{Parts}
use Rattle.reckoning.specs.Standing.{leaves, enters, lit_out, lit_into}
use Rattle.reckoning.specs.Plans.{Plan, next, direct, shorter, exchange, planned, among, moved, move}
use Rattle.reckoning.specs.Sheets.{code, codes}
use Rattle.reckoning.specs.Laws.{Clear, Sound}
use Rattle.reckoning.proofs.Pigeon.{pigeon_below, pairwise_map, in_map}
use Rattle.reckoning.proofs.Chains.{along}
use Rattle.reckoning.proofs.Exchange.{same_number, bool_same}
use Rattle.reckoning.proofs.Sessions.{first_found, first_hit, leaves_says, leaves_from, same_source, next_says}

module _ (L : Parts) (ss : List Session) (k : Sound L ss) (few : L.wavelengths ≤ 32) (small : L.plant_groups ≤ 32) where
  low : (e : Session) → In e ss → (e.wavelength < 32) × (L.group e.source < 32)
  low e i = (omega (arith, k.low e i), omega (arith, (k.grouped e i).0))

  pub code_wavelength : (e : Session) → In e ss → code L.group e / 32 ≡ e.wavelength
  code_wavelength e i = let l = low e i in omega (arith, l)

  pub code_group : (e : Session) → In e ss → code L.group e % 32 ≡ L.group e.source
  code_group e i = let l = low e i in omega (arith, l)

  -- the session out of the group on the wavelength that a code names
  pub at_code : (e : Session) → In e ss → first (leaves L.group (code L.group e / 32) (code L.group e % 32)) ss ≡ Some e
  at_code e i =
      let w = code L.group e / 32 in
      let a = code L.group e % 32 in
      let h = first_hit (leaves L.group w a) ss e i (leaves_from L.group w a e (sym (code_wavelength e i)) (sym (code_group e i))) in
      let f = first_found (leaves L.group w a) ss h.0 h.1 in
      let s = leaves_says L.group w a h.0 f.1 in
      h.1 ∙ ap Some (same_source L.group ss k.clear h.0 e f.0 i (s.0 ∙ code_wavelength e i) (s.1 ∙ code_group e i))

  code_same : (e s : Session) → In e ss → In s ss → (code L.group e == code L.group s) ≡ (e.number == s.number)
  code_same e s i j =
      bool_same _ _
      (λ h.
      let c = eqb-true _ _ h in
      let l = low e i in
      let m = low s j in
      let w : e.wavelength ≡ s.wavelength = omega (arith, l, m, c) in
      let a : L.group e.source ≡ L.group s.source = omega (arith, l, m, c) in
      eq-eqb _ _ (ap (λ (x : Session). x.number) (same_source L.group ss k.clear e s i j w a)))
      (λ h. eq-eqb _ _ (ap (λ (x : Session). code L.group x) (same_number ss k.unlike e s i j (eqb-true _ _ h))))

  pub among_codes : (es : List Session) → ((x : Session) → In x es → In x ss) → (s : Session) → In s ss → any (λ x. x == code L.group s) (codes L.group es) ≡ among es s
  among_codes [] h s j = refl
  among_codes (e ∷ es) h s j = ap₂ (λ (b c : Bool). cond b true c) (code_same e s (h e (inl refl)) j) (among_codes es (λ x i. h x (inr i)) s j)

  map_like : (f h : Session → Session) (xs : List Session) → ((x : Session) → In x xs → f x ≡ h x) → map f xs ≡ map h xs
  map_like f h [] e = refl
  map_like f h (x ∷ xs) e = ap₂ (λ (y : Session) (ys : List Session). y ∷ ys) (e x (inl refl)) (map_like f h xs (λ y i. e y (inr i)))

  -- what moves by its code is what the plan moves
  pub move_codes : (P : Plan) → ((x : Session) → In x P.moving → In x ss) → map (λ s. cond (any (λ x. x == code L.group s) (codes L.group P.moving)) (moved P.p P.q s) s) ss ≡ map (move P) ss
  move_codes P h =
      map_like (λ s. cond (any (λ x. x == code L.group s) (codes L.group P.moving)) (moved P.p P.q s) s) (move P) ss
      (λ s i. ap (λ (b : Bool). cond b (moved P.p P.q s) s) (among_codes P.moving h s i))

  -- no more sessions than codes
  pub few_sessions : length ss ≤ 1024
  few_sessions =
      let d : Distinct (map (code L.group) ss) =
      pairwise_map (Clear L.group) (λ x y. x ≡ y → ⊥) (code L.group) ss k.clear
      (λ x y i j c e.
      let l = low x i in
      let m = low y j in
      (c (omega (arith, l, m, e))).0 (omega (arith, l, m, e)))
      in
      omega (arith, length-map ss (code L.group), pigeon_below 1024 (map (code L.group) ss) d (λ x i. let r = in_map (code L.group) x ss i in omega (arith, low r.0 r.1, r.2)))

-- the chain that moves is a part of the standing sessions
module _ (L : Parts) (ss : List Session) (s d : ℕ) where
  chain_in : (p q n : ℕ) (t : Session → Bool) (x : Session) → In x (chain (next L.group ss p q) n (first t ss)) → In x ss
  chain_in p q n t x i =
      along (next L.group ss p q) (λ y. In y ss) (λ y z e. (next_says L.group ss p q y z e).0) n (first t ss) (λ s e. (first_found t ss s e).0) x i

  shorter_in : (p q : ℕ) (es fs : List Session) (c : Bool) (x : Session) → ((y : Session) → In y es → In y ss) → ((y : Session) → In y fs → In y ss) → In x (shorter p q es fs c).moving → In x ss
  shorter_in p q es fs true x h k i = h x i
  shorter_in p q es fs false x h k i = k x i

  pub moving_stands : (x : Session) → In x (planned L ss s d).moving → In x ss
  moving_stands x i = go (nat_lt (lowest free L.wavelengths) L.wavelengths) i
    where
      free : ℕ → Bool
      free v = not (lit_out L.group ss (L.group s) v) && not (lit_into L.group ss (L.group d) v)

      go : (c : Bool) → In x (elim c as (λ (v : Bool). Plan) [ true ↦ direct (lowest free L.wavelengths) | false ↦ exchange L.group ss L.plant_groups (L.group s) (L.group d) (lowest (λ w. not (lit_out L.group ss (L.group s) w)) L.wavelengths) (lowest (λ w. not (lit_into L.group ss (L.group d) w)) L.wavelengths) ]).moving → In x ss
      go true j = absurd j
      go false j =
          let p = lowest (λ w. not (lit_out L.group ss (L.group s) w)) L.wavelengths in
          let q = lowest (λ w. not (lit_into L.group ss (L.group d) w)) L.wavelengths in
          let es : List Session = chain (next L.group ss p q) (2 * L.plant_groups) (first (leaves L.group q (L.group s)) ss) in
          let fs : List Session = chain (next L.group ss p q) (2 * L.plant_groups) (first (enters L.group p (L.group d)) ss) in
          shorter_in p q es fs (nat_le (length es) (length fs)) x (chain_in p q (2 * L.plant_groups) (leaves L.group q (L.group s))) (chain_in p q (2 * L.plant_groups) (enters L.group p (L.group d))) j
