-- What an admission plans keeps the sessions clear of one another and moves fewer sessions than there are groups.
use Rattle.std.proofs.Common.{◌≡◌, ℕ, zero, suc, ◌+◌, ◌*◌, ◌<◌, ◌≤◌, Bool, true, false, cond, not, ◌&&◌, ◌⊎◌, List, [], ◌∷◌, ◌++◌, map, reverse, length, Some, count_by, filter, Option, sym, refl, ◌∙◌, subst, inl, inr, arith, ◌==◌, nat_lt, nat_le}
use Rattle.std.proofs.lemmas.List.Sums.{length-filter}
use Rattle.std.proofs.lemmas.Bool.{true_from_ne_false, both_ways, and_from, and_parts, not-true, not_from_false, not_from_true, eq-eqb, ne_eqb, ltb-true, ltb-false, leb-true, leb-false}
use Rattle.reckoning.specs.Lists.{In, Pairwise, first, lowest, chain}
use Rattle.reckoning.specs.declared.session.Session.{Session}
use Rattle.reckoning.specs.declared.order.Kind.TheVariants.{Light}
use Rattle.reckoning.specs.Standing.{leaves, enters, lit_out, lit_into, up_load, down_load}
use Rattle.reckoning.specs.Plans.{Plan, next, swap, moved, among, direct, shorter, exchange, plan, move}
use Rattle.reckoning.specs.Sheets.{order, orders, chain_orders}
use Rattle.reckoning.specs.Laws.{Clear}
use Rattle.reckoning.proofs.Plants.{Hears, Carrying, Led}
use Rattle.reckoning.proofs.Pigeon.{count_all, pigeon, in_kept, kept_in, pairwise_kept, pairwise_map, in_map, map_in, in_reverse, distinct_reverse}
use Rattle.reckoning.proofs.Chains.{Unreached}
use Rattle.reckoning.proofs.Orders.{Linked, Ended, Ready, chain_linked, chain_ended, light_only, all_served}
use Rattle.reckoning.proofs.Sessions.{Colouring, unlike_distinct, first_found, first_hit, any_hit, any_some, leaves_says, enters_says, leaves_from, enters_from, lowest_passes, lowest_none, lowest_free}
use Rattle.reckoning.proofs.Exchange.{among_says, among_from, Starts, differ, whole_standing, whole_distinct, whole_clear, whole_short, both_short, q_free, p_free, s_unreached, t_unreached}

pub record Good (g : ℕ → ℕ) (W G : ℕ) (ss : List Session) (a b : ℕ) (P : Plan) : Type 0 where
  pub clear : Pairwise (Clear g) (map (move P) ss)
  pub free : (x : Session) → In x ss → (move P x).wavelength ≡ P.gives → (g x.source ≡ a → ⊥) × (g x.destination ≡ b → ⊥)
  pub gives_low : P.gives < W
  pub stays_low : (x : Session) → In x ss → (move P x).wavelength < W
  pub few : length P.moving + 1 ≤ G
  pub serves : (n : Session) → n.wavelength ≡ P.gives → g n.source ≡ a → g n.destination ≡ b → g n.source < G → g n.destination < G → (hears : Hears) → Carrying g (λ y. In y ss) hears → Led W G (Carrying g (λ y. In y (n ∷ map (move P) ss))) hears [] (orders g P n)
  pub changed : count_by (λ x. not ((move P x).wavelength == x.wavelength)) ss ≡ length P.moving
  pub both : length P.from_source + length P.from_destination + 2 ≤ 2 * G

module _ (g : ℕ → ℕ) (W G : ℕ) (ss : List Session) (sound : Colouring g W G ss) (a b : ℕ) (a_low : a < G) where
  module _ (w : ℕ) (w-low : w < W) (unlit-out : lit_out g ss a w ≡ false) (unlit-in : lit_into g ss b w ≡ false) where
    both_free : (x : Session) → In x ss → x.wavelength ≡ w → (g x.source ≡ a → ⊥) × (g x.destination ≡ b → ⊥)
    both_free x i e = (
      λ d. both_ways (lit_out g ss a w) unlit-out (any_hit (leaves g w a) ss x i (leaves_from g w a x e d)),
      λ d. both_ways (lit_into g ss b w) unlit-in (any_hit (enters g w b) ss x i (enters_from g w b x e d)),
    )

    direct_good : Good g W G ss a b (direct w)
    direct_good =
        record {
          clear = pairwise_map (Clear g) (Clear g) (move (direct w)) ss sound.clear (λ x y i j h. h);
          free = both_free;
          gives_low = w-low;
          stays_low = sound.low;
          few = omega arith;
          serves =
              λ n e d c la lb.
              light_only g W G (λ y. In y ss) (λ y. In y (n ∷ map (move (direct w)) ss)) n (rw e w-low) la lb
              (λ y i v. let h = both_free y i (sym v ∙ e) in (λ u. h.0 (sym u ∙ d), λ u. h.1 (sym u ∙ c)))
              (λ y i. elim i [ inl h ↦ inr h | inr k ↦ let r = in_map (move (direct w)) y ss k in inl (subst (λ (z : Session). In z ss) (sym r.2) r.1) ])
              (λ y i. inr (map_in (move (direct w)) y ss i)) (inl refl);
          changed = count_all (λ (x : Session). not (x.wavelength == x.wavelength)) false ss (λ x i. not_from_true _ (eq-eqb x.wavelength x.wavelength refl));
          both = omega arith;
        }

  swap_low : (p q w : ℕ) → p < W → q < W → w < W → swap p q w < W
  swap_low p q w h k l = grind arith

  shift_low : (p q : ℕ) → p < W → q < W → (c : Bool) (x : Session) → In x ss → (cond c (moved p q x) x).wavelength < W
  shift_low p q h k true x i = swap_low p q x.wavelength h k (sound.low x i)
  shift_low p q h k false x i = sound.low x i

  start_linked : (f : Session → Option Session) (n : ℕ) (r : Session) → Unreached (λ x. In x ss) f r → Linked ss f (reverse (chain f n (Some r)))
  start_linked f zero r h = tt
  start_linked f (suc n) r h = chain_linked ss f n r [] (f r) refl h

  start_ended : (f : Session → Option Session) (n : ℕ) (r : Session) → length (chain f n (Some r)) < n → Ended f (reverse (chain f n (Some r)))
  start_ended f zero r l = let absurdity : ⊥ = omega arith in absurd absurdity
  start_ended f (suc n) r l = chain_ended f n r [] (f r) refl (omega arith)

  module _ (p q : ℕ) (p_low : p < W) (q_low : q < W) (s t : Session) (m : Starts g ss a b p q s t) where
    whole_ready : (r : Session) (r-in : In r ss) (r-on : (r.wavelength ≡ p) ⊎ (r.wavelength ≡ q)) (r-unreached : Unreached (λ x. In x ss) (next g ss p q) r) → Ready g ss p q (reverse (chain (next g ss p q) (2 * G) (Some r)))
    whole_ready r i o unreached =
        let es : List Session = chain (next g ss p q) (2 * G) (Some r) in
        record {
          stands = λ x k. elim (in_reverse x es [] k) [ inl h ↦ (whole_standing g W G ss sound a b p q s t m r i o unreached x h).0 | inr h ↦ absurd h ];
          distinct = distinct_reverse es [] (whole_distinct g W G ss sound a b p q s t m r i o unreached) tt (λ x u v. v);
          linked = start_linked (next g ss p q) (2 * G) r unreached;
          ended = start_ended (next g ss p q) (2 * G) r (omega (arith, whole_short g W G ss sound a b p q s t m r i o unreached));
        }

    whole_serves : (r : Session) (r-in : In r ss) (r-on : (r.wavelength ≡ p) ⊎ (r.wavelength ≡ q)) (r-unreached : Unreached (λ x. In x ss) (next g ss p q) r) → (v : ℕ) → v < W → ((x : Session) → In x ss → (cond (among (chain (next g ss p q) (2 * G) (Some r)) x) (moved p q x) x).wavelength ≡ v → (g x.source ≡ a → ⊥) × (g x.destination ≡ b → ⊥)) → (n : Session) → n.wavelength ≡ v → g n.source ≡ a → g n.destination ≡ b → g n.source < G → g n.destination < G → (hears : Hears) → Carrying g (λ y. In y ss) hears → Led W G (Carrying g (λ y. In y (n ∷ map (λ x. cond (among (chain (next g ss p q) (2 * G) (Some r)) x) (moved p q x) x) ss))) hears [] (chain_orders g p q (reverse (chain (next g ss p q) (2 * G) (Some r))) ++ (order g Light n ∷ []))
    whole_serves r i o unreached v v_low free n e d c la lb =
        all_served g W G ss sound p q p_low q_low (differ g W G ss sound a b p q s t m) (chain (next g ss p q) (2 * G) (Some r))
        (λ x k. (whole_standing g W G ss sound a b p q s t m r i o unreached x k).0) (whole_ready r i o unreached) n (rw e v_low) la lb
        (λ x k h. let f = free x k (h ∙ e) in (λ u. f.0 (u ∙ d), λ u. f.1 (u ∙ c)))

    -- each session of the chain gets another wavelength, and no other does
    whole_changed : (r : Session) (r-in : In r ss) (r-on : (r.wavelength ≡ p) ⊎ (r.wavelength ≡ q)) (r-unreached : Unreached (λ x. In x ss) (next g ss p q) r) → count_by (λ x. not ((cond (among (chain (next g ss p q) (2 * G) (Some r)) x) (moved p q x) x).wavelength == x.wavelength)) ss ≡ length (chain (next g ss p q) (2 * G) (Some r))
    whole_changed r i o unreached =
        omega (arith, length-filter changes ss, at_most, at_least)
      where
        es : List Session
        es = chain (next g ss p q) (2 * G) (Some r)

        standing : (x : Session) → In x es → In x ss × ((x.wavelength ≡ p) ⊎ (x.wavelength ≡ q))
        standing = whole_standing g W G ss sound a b p q s t m r i o unreached

        part : (x : Session) → In x es → In x ss
        part x k = (standing x k).0

        changes : Session → Bool
        changes x = not ((cond (among es x) (moved p q x) x).wavelength == x.wavelength)

        stayed : (x : Session) → changes x ≡ true → among es x ≡ true
        stayed x h = grind arith

        differs : (x : Session) → In x es → swap p q x.wavelength ≡ x.wavelength → ⊥
        differs x k e = let n = differ g W G ss sound a b p q s t m in elim (standing x k).1 [ inl u ↦ grind (arith, n) | inr u ↦ grind (arith, n) ]

        at_most : length (filter changes ss) ≤ length es
        at_most =
            pigeon (filter changes ss) es (pairwise_kept (λ x y. x ≡ y → ⊥) changes ss (unlike_distinct ss sound.unlike))
            (λ x k. let h = in_kept changes x ss k in among_says ss sound.unlike es part x h.0 (stayed x h.1))

        at_least : length es ≤ length (filter changes ss)
        at_least =
            pigeon es (filter changes ss) (whole_distinct g W G ss sound a b p q s t m r i o unreached)
            (λ x k. kept_in changes x ss (part x k) (rw (among_from ss sound.unlike es part x k) (not_from_false _ (ne_eqb (swap p q x.wavelength) x.wavelength (differs x k)))))

    -- the chain from r moves, and v is free afterwards
    chain_good : (r : Session) (r-in : In r ss) (r-on : (r.wavelength ≡ p) ⊎ (r.wavelength ≡ q)) (r-unreached : Unreached (λ x. In x ss) (next g ss p q) r) → (v : ℕ) → v < W → ((x : Session) → In x ss → (cond (among (chain (next g ss p q) (2 * G) (Some r)) x) (moved p q x) x).wavelength ≡ v → (g x.source ≡ a → ⊥) × (g x.destination ≡ b → ⊥)) → length (chain (next g ss p q) (2 * G) (Some r)) + 1 ≤ G → Good g W G ss a b (record { gives = v; p = p; q = q; from_source = chain (next g ss p q) (2 * G) (Some s); from_destination = chain (next g ss p q) (2 * G) (Some t); moving = chain (next g ss p q) (2 * G) (Some r) })
    chain_good r i o unreached v v_low free few =
        record {
          clear = whole_clear g W G ss sound a b p q s t m r i o unreached;
          free = free;
          gives_low = v_low;
          stays_low = λ x k. shift_low p q p_low q_low _ x k;
          few = few;
          serves = whole_serves r i o unreached v v_low free;
          changed = whole_changed r i o unreached;
          both = both_short g W G ss sound a b p q s t m;
        }

    shorter_good : (c : Bool) → nat_le (length (chain (next g ss p q) (2 * G) (Some s))) (length (chain (next g ss p q) (2 * G) (Some t))) ≡ c → Good g W G ss a b (shorter p q (chain (next g ss p q) (2 * G) (Some s)) (chain (next g ss p q) (2 * G) (Some t)) c)
    shorter_good true e =
        chain_good s m.s_in (inr m.s_on) (s_unreached g W G ss sound a b p q s t m) q q_low (q_free g W G ss sound a b p q s t m)
        (omega (arith, leb-true _ _ e, both_short g W G ss sound a b p q s t m))
    shorter_good false e =
        chain_good t m.t_in (inl m.t_on) (t_unreached g W G ss sound a b p q s t m) p p_low (p_free g W G ss sound a b p q s t m)
        (omega (arith, leb-false _ _ e, both_short g W G ss sound a b p q s t m))

    exchange_good : first (leaves g q a) ss ≡ Some s → first (enters g p b) ss ≡ Some t → Good g W G ss a b (exchange g ss G a b p q)
    exchange_good d e = rw (d, e) (shorter_good _ refl)

  pub plan_good : up_load g ss W a < W → down_load g ss W b < W → Good g W G ss a b (plan g ss W G a b)
  plan_good up down = go (nat_lt (lowest free W) W) refl
    where
      free : ℕ → Bool
      free v = not (lit_out g ss a v) && not (lit_into g ss b v)

      p : ℕ
      p = lowest (λ w. not (lit_out g ss a w)) W

      q : ℕ
      q = lowest (λ w. not (lit_into g ss b w)) W

      p_low : p < W
      p_low = lowest_free (lit_out g ss a) W up

      q_low : q < W
      q_low = lowest_free (lit_into g ss b) W down

      p_out : lit_out g ss a p ≡ false
      p_out = not-true (lit_out g ss a p) (lowest_passes (λ w. not (lit_out g ss a w)) W p_low)

      q_in : lit_into g ss b q ≡ false
      q_in = not-true (lit_into g ss b q) (lowest_passes (λ w. not (lit_into g ss b w)) W q_low)

      -- no wavelength is free at both ends, so q is lit out of a, and p into b
      q_out : W ≤ lowest free W → lit_out g ss a q ≡ true
      q_out l =
          true_from_ne_false _ (λ e. both_ways (free q) (lowest_none free W l q q_low) (and_from _ _ (not_from_false _ e) (not_from_false _ q_in)))

      p_in : W ≤ lowest free W → lit_into g ss b p ≡ true
      p_in l =
          true_from_ne_false _ (λ e. both_ways (free p) (lowest_none free W l p p_low) (and_from _ _ (not_from_false _ p_out) (not_from_false _ e)))

      go : (c : Bool) → nat_lt (lowest free W) W ≡ c → Good g W G ss a b (elim c [ true ↦ direct (lowest free W) | false ↦ exchange g ss G a b p q ])
      go true e =
          let l = ltb-true _ _ e in
          let k = and_parts _ _ (lowest_passes free W l) in
          direct_good (lowest free W) l (not-true _ k.0) (not-true _ k.1)
      go false e =
          let l = ltb-false _ _ e in
          let x = any_some (leaves g q a) ss (q_out l) in
          let y = any_some (enters g p b) ss (p_in l) in
          let s = first_hit (leaves g q a) ss x.0 x.1 x.2 in
          let t = first_hit (enters g p b) ss y.0 y.1 y.2 in
          let u = first_found (leaves g q a) ss s.0 s.1 in
          let v = first_found (enters g p b) ss t.0 t.1 in
          let h = leaves_says g q a s.0 u.1 in
          let k = enters_says g p b t.0 v.1 in
          exchange_good p q p_low q_low s.0 t.0
          (record { free_out = p_out; free_in = q_in; s_in = u.0; s_on = h.0; s_out = h.1; t_in = v.0; t_on = k.0; t_into = k.1 }) s.1 t.1
