-- What an admission's questions say, and what its acceptance keeps, moves and writes.
use Rattle.std.proofs.Common.{◌≡◌, ℕ, zero, suc, ◌+◌, ◌*◌, ◌<◌, ◌≤◌, Bool, true, false, cond, not, ◌⊎◌, List, [], ◌∷◌, map, reverse, length, take, count_by, sym, refl, ap, ◌∙◌, subst, subst₂, inl, inr, arith, ◌==◌}
use Rattle.std.specs.List.{AllByRecursion}
use Rattle.std.proofs.lemmas.Bool.{both_ways, and_parts, not-true, ltb-true, leb-false, eqb-true, eq-eqb, ne_eqb}
use Rattle.std.proofs.lemmas.List.{length-append, length-reverse}
use Rattle.std.proofs.ByRecursion.{All-take, All-drop}
use Rattle.std.proofs.lemmas.List.Sums.{sum_by-cons}
use Rattle.network.specs.Network.{Ends}
use Rattle.plant.specs.Switch.{Switch}
use Rattle.reckoning.specs.declared.session.Session.{Session}
use Rattle.reckoning.specs.declared.order.Order.{Order}
use Rattle.reckoning.specs.declared.order.Kind.TheVariants.{Light}
use Rattle.reckoning.specs.Lists.{In, Pairwise}
use Rattle.reckoning.specs.Parts.{Parts}
use Rattle.reckoning.specs.Standing.{bears, up_load, down_load}
use Rattle.reckoning.specs.Plans.{Plan, planned, among, moved, move}
use Rattle.reckoning.specs.Sheets.{back, chain_orders, order, orders, walked}
use Rattle.reckoning.specs.Questions.{Room, Question, verdict, admit_before, admit_questions}
use Rattle.reckoning.specs.Calls.{Answer, refused, admitted, Reply, judged, new_session, admission, admit}
use Rattle.reckoning.specs.Laws.{Clear, Unlike, Sound, Carries, CarriedOut, written, SameEnds, where_is, retuned}
use Rattle.reckoning.proofs.Pigeon.{in_map, map_in, pairwise_map}
use Rattle.reckoning.proofs.Sessions.{Colouring, any_hit}
use Rattle.reckoning.proofs.Plans.{Good, plan_good}
use Rattle.reckoning.proofs.Plants.{Carrying, Led, put_to}
use Rattle.reckoning.proofs.Verdicts.{passed, reached, judged_by}

-- ---- between the words of the laws and those of the lemmas

pub colouring : (L : Parts) (ss : List Session) → Sound L ss → Colouring L.group L.wavelengths L.plant_groups ss
colouring L ss k = record { clear = k.clear; unlike = k.unlike; low = k.low; grouped = k.grouped }

pub carrying : (L : Parts) (ss : List Session) (t : Switch) → Carries L ss t → Carrying L.group (λ s. In s ss) t.hears
carrying L ss t c = record { each = c.each; nothing_else = c.nothing_else }

-- orders that lead to these sessions over what is heard do so on a plant
pub carried_out : (L : Parts) (ss later : List Session) (os : List Order) (t : Switch) → Carries L ss t →
    Led L.wavelengths L.plant_groups (Carrying L.group (λ s. In s later)) t.hears [] os → CarriedOut (Carries L later) t [] os
carried_out L ss later os t c =
    put_to L.wavelengths L.plant_groups (Carrying L.group (λ s. In s later)) (Carries L later)
    (λ u w g h. record { waves = w; groups = g; each = h.each; nothing_else = h.nothing_else }) os t [] c.waves c.groups

-- ---- what the questions say

-- of those before the questions on wavelengths
pub record Asked (L : Parts) (ss : List Session) (n s d : ℕ) : Type 0 where
  pub fit : L.groups ≡ L.plant_groups
  pub ends : Ends L.sites s d
  pub unborne : (x : Session) → In x ss → n ≡ x.number → ⊥

pub asked : (L : Parts) (room : Room) (ss : List Session) (walk : List ℕ) (n s d : ℕ) → AllByRecursion (λ x. x.0 ≡ true) (admit_before L room ss walk n s d) → Asked L ss n s d
asked L room ss walk n s d h =
    let q = h.1.1 in
    let sites = and_parts _ _ q.1.0 in
    record {
      fit = eqb-true _ _ (and_parts _ _ h.0).0;
      ends = record { source = ltb-true _ _ sites.0; destination = ltb-true _ _ sites.1; differ = λ e. both_ways _ (not-true _ q.1.1.0) (eq-eqb _ _ e) };
      unborne = λ x i e. both_ways _ (not-true _ q.1.1.1.0) (any_hit (bears n) ss x i (eq-eqb _ _ (sym e)));
    }

-- ---- a move

-- it keeps number and ends
pub move_keeps : (b : Bool) (p q : ℕ) (x : Session) → ((cond b (moved p q x) x).number ≡ x.number) × ((cond b (moved p q x) x).source ≡ x.source) × ((cond b (moved p q x) x).destination ≡ x.destination)
move_keeps true p q x = (refl, refl, refl)
move_keeps false p q x = (refl, refl, refl)

-- what stands after a move, by what stood before
pub record Was (ss : List Session) (P : Plan) (y : Session) : Type 0 where
  pub before : Session
  pub stood : In before ss
  pub number : y.number ≡ before.number
  pub source : y.source ≡ before.source
  pub destination : y.destination ≡ before.destination
  pub wavelength : y.wavelength ≡ (move P before).wavelength

pub was : (ss : List Session) (P : Plan) (y : Session) → In y (map (move P) ss) → Was ss P y
was ss P y i =
    let r = in_map (move P) y ss i in
    let k = move_keeps (among P.moving r.0) P.p P.q r.0 in
    record {
      before = r.0;
      stood = r.1;
      number = ap (λ s. s.number) r.2 ∙ k.0;
      source = ap (λ s. s.source) r.2 ∙ k.1;
      destination = ap (λ s. s.destination) r.2 ∙ k.2;
      wavelength = ap (λ s. s.wavelength) r.2;
    }

-- ---- a look-up by number

where_in : (xs : List Session) → Pairwise Unlike xs → (x : Session) → In x xs → where_is xs x.number ≡ x.wavelength
where_in [] u x i = absurd i
where_in (y ∷ xs) u x (inl e) = rw (eq-eqb y.number x.number (ap (λ (z : Session). z.number) (sym e))) (ap (λ (z : Session). z.wavelength) (sym e))
where_in (y ∷ xs) u x (inr i) = rw (ne_eqb y.number x.number (u.0 x i)) (where_in xs u.1 x i)

count_same : (p q : Session → Bool) (xs : List Session) → ((x : Session) → In x xs → p x ≡ q x) → count_by p xs ≡ count_by q xs
count_same p q [] h = refl
count_same p q (x ∷ xs) h =
    grind (arith, h x (inl refl), sum_by-cons (λ y. cond (p y) 1 0) x xs, sum_by-cons (λ y. cond (q y) 1 0) x xs, count_same p q xs (λ y i. h y (inr i)))

-- ---- how many orders

back_length : (g : ℕ → ℕ) (p q : ℕ) (e : Session) (es : List Session) → length (back g p q (e ∷ es)) ≡ 2 * length es + 1
back_length g p q e [] = refl
back_length g p q e (d ∷ es) = omega (arith, back_length g p q d es)

pub chain_length : (g : ℕ → ℕ) (p q : ℕ) (es : List Session) → length (chain_orders g p q es) ≡ 2 * length es
chain_length g p q [] = refl
chain_length g p q (e ∷ es) = omega (arith, back_length g p q e es)

pub orders_length : (g : ℕ → ℕ) (P : Plan) (n : Session) → length (orders g P n) ≡ 2 * length P.moving + 1
orders_length g P n =
    omega (arith, length-append (chain_orders g P.p P.q (reverse P.moving)) (order g Light n ∷ []), chain_length g P.p P.q (reverse P.moving), length-reverse P.moving)

-- ---- the new session and those that moved

module _ (L : Parts) (low_group : (s : ℕ) → s < L.sites → L.group s < L.groups) (ss : List Session) (k : Sound L ss) (n s d : ℕ) (q : Asked L ss n s d) where
  pub source_low : L.group s < L.plant_groups
  source_low = omega (arith, q.fit, low_group s q.ends.source)

  pub destination_low : L.group d < L.plant_groups
  destination_low = omega (arith, q.fit, low_group d q.ends.destination)

  pub good : up_load L.group ss L.wavelengths (L.group s) < L.wavelengths → down_load L.group ss L.wavelengths (L.group d) < L.wavelengths → Good L.group L.wavelengths L.plant_groups ss (L.group s) (L.group d) (planned L ss s d)
  good up down = plan_good L.group L.wavelengths L.plant_groups ss (colouring L ss k) (L.group s) (L.group d) source_low up down

  pub sound_admission : (P : Plan) → Good L.group L.wavelengths L.plant_groups ss (L.group s) (L.group d) P → Sound L (new_session n s d P.gives ∷ map (move P) ss)
  sound_admission P h =
      record {
        clear = (new_clear, h.clear);
        unlike = (new_unlike, pairwise_map Unlike Unlike (move P) ss k.unlike still_unlike);
        low = low;
        grouped = grouped;
        placed = placed;
      }
    where
      new_clear : (y : Session) → In y (map (move P) ss) → Clear L.group (new_session n s d P.gives) y
      new_clear y i w =
          let r = was ss P y i in
          let f = h.free r.before r.stood (sym r.wavelength ∙ sym w) in
          (λ e. f.0 (ap L.group (sym r.source) ∙ sym e), λ e. f.1 (ap L.group (sym r.destination) ∙ sym e))

      new_unlike : (y : Session) → In y (map (move P) ss) → Unlike (new_session n s d P.gives) y
      new_unlike y i e = let r = was ss P y i in q.unborne r.before r.stood (e ∙ r.number)

      still_unlike : (x y : Session) → In x ss → In y ss → Unlike x y → Unlike (move P x) (move P y)
      still_unlike x y i j u e =
          u (sym (move_keeps (among P.moving x) P.p P.q x).0 ∙ (e ∙ (move_keeps (among P.moving y) P.p P.q y).0))

      low : (x : Session) → In x (new_session n s d P.gives ∷ map (move P) ss) → x.wavelength < L.wavelengths
      low x (inl e) = rw e h.gives_low
      low x (inr i) = let r = was ss P x i in rw r.wavelength (h.stays_low r.before r.stood)

      grouped : (x : Session) → In x (new_session n s d P.gives ∷ map (move P) ss) → (L.group x.source < L.plant_groups) × (L.group x.destination < L.plant_groups)
      grouped x (inl e) = rw e (source_low, destination_low)
      grouped x (inr i) = let r = was ss P x i in subst₂ (λ (u v : ℕ). (L.group u < L.plant_groups) × (L.group v < L.plant_groups)) (sym r.source) (sym r.destination) (k.grouped r.before r.stood)

      placed : (x : Session) → In x (new_session n s d P.gives ∷ map (move P) ss) → Ends L.sites x.source x.destination
      placed x (inl e) = rw e q.ends
      placed x (inr i) = let r = was ss P x i in subst₂ (Ends L.sites) (sym r.source) (sym r.destination) (k.placed r.before r.stood)

-- ---- the answer

-- r accepts the session n from s to d on w, with m moves
pub record Accepted (L : Parts) (ss : List Session) (r : Reply) (n s d w m : ℕ) : Type 0 where
  pub stands : In (new_session n s d w) r.after
  pub others : (x : Session) → In x ss → (y : Session) × In y r.after × SameEnds y x
  pub only : (y : Session) → In y r.after → (y ≡ new_session n s d w) ⊎ ((x : Session) × In x ss × SameEnds y x)
  -- as many sessions get another wavelength as it answers
  pub told : retuned ss r.after ≡ m
  pub few : m + 1 ≤ L.groups
  pub orders : length (written r.orders) ≡ 2 * m + 1

module _ (L : Parts) (low_group : (s : ℕ) → s < L.sites → L.group s < L.groups) (room : Room) (ss : List Session) (k : Sound L ss) (walk : List ℕ) (n s d limit : ℕ) where
  -- the questions, the plan, and the reply to each verdict
  abbrev qs : List Question
  qs = admit_questions L room ss walk n s d limit

  abbrev P : Plan
  P = planned L ss s d

  abbrev pub answered : ℕ → Reply
  answered v = judged ss (cond (v == 25) (walked L.group (planned L ss s d) walk) walk) v (admission L ss walk n s d (planned L ss s d))

  pub all_asked : verdict (admit_questions L room ss walk n s d limit) ≡ 0 → Asked L ss n s d × Good L.group L.wavelengths L.plant_groups ss (L.group s) (L.group d) (planned L ss s d)
  all_asked e =
      let h = passed qs (omega arith) e in
      let q = asked L room ss walk n s d (All-take (λ x. x.0 ≡ true) 10 qs h) in
      let loads = All-drop (λ x. x.0 ≡ true) 10 qs h in
      (q, good L low_group ss k n s d q (ltb-true _ _ loads.0) (ltb-true _ _ loads.1.0))

  pub sound_admit : Sound L (admit L room ss walk n s d limit).after
  sound_admit = judged_by (λ (r : Reply). Sound L r.after) ss _ (verdict qs) (admission L ss walk n s d P) (λ e. let h = all_asked e in sound_admission L low_group ss k n s d h.0 P h.1) (λ _ _. k)

  same_wave : (w m : ℕ) → ◌≡◌ {A = Answer} (admitted P.gives (length P.moving)) (admitted w m) → P.gives ≡ w
  same_wave w m e = cc

  same_moves : (w m : ℕ) → ◌≡◌ {A = Answer} (admitted P.gives (length P.moving)) (admitted w m) → length P.moving ≡ m
  same_moves w m e = cc

  not_admitted : (j w m : ℕ) → ◌≡◌ {A = Answer} (refused j) (admitted w m) → ⊥
  not_admitted j w m e = cc

  moves_told : Asked L ss n s d → (h : Good L.group L.wavelengths L.plant_groups ss (L.group s) (L.group d) P) → retuned ss (new_session n s d P.gives ∷ map (move P) ss) ≡ length P.moving
  moves_told q h =
      let later : List Session = new_session n s d P.gives ∷ map (move P) ss in
      let unlike = (sound_admission L low_group ss k n s d q P h).unlike in
      count_same (λ x. not (where_is later x.number == x.wavelength)) (λ x. not ((move P x).wavelength == x.wavelength)) ss
      (λ x i.
      let same : where_is later x.number ≡ (move P x).wavelength =
      ap (where_is later) (sym (move_keeps (among P.moving x) P.p P.q x).0) ∙ where_in later unlike (move P x) (inr (map_in (move P) x ss i))
      in
      ap (λ v. not (v == x.wavelength)) same)
      ∙ h.changed

  pub moves : (w m : ℕ) → (admit L room ss walk n s d limit).answer ≡ admitted w m → Accepted L ss (admit L room ss walk n s d limit) n s d w m
  moves w m = go (verdict qs) refl
    where
      go : (v : ℕ) → verdict qs ≡ v → (answered v).answer ≡ admitted w m → Accepted L ss (answered v) n s d w m
      go zero e a =
          let h = all_asked e in
          let on : new_session n s d P.gives ≡ new_session n s d w = ap (new_session n s d) (same_wave w m a) in
          let same = same_moves w m a in
          record {
            stands = inl (sym on);
            others = λ x i. (move P x, inr (map_in (move P) x ss i), move_keeps (among P.moving x) P.p P.q x);
            only = λ y i. elim i [ inl d ↦ inl (d ∙ on) | inr j ↦ let r = was ss P y j in inr (r.before, r.stood, (r.number, r.source, r.destination)) ];
            told = moves_told h.0 h.1 ∙ same;
            few = omega (arith, same, h.0.fit, h.1.few);
            orders = omega (arith, same, orders_length L.group P (new_session n s d P.gives));
          }
      go (suc j) e a = absurd (not_admitted (suc j) w m a)

  pub admit_serves : (t : Switch) → Carries L ss t → CarriedOut (Carries L (admit L room ss walk n s d limit).after) t [] (written (admit L room ss walk n s d limit).orders)
  admit_serves t c =
      judged_by (λ (r : Reply). CarriedOut (Carries L r.after) t [] (written r.orders)) ss _ (verdict qs) (admission L ss walk n s d P)
      (λ e.
      let h = all_asked e in
      let new : Session = new_session n s d P.gives in
      carried_out L ss (new ∷ map (move P) ss) (orders L.group P new) t c
      (h.1.serves new refl refl refl (source_low L low_group ss k n s d h.0) (destination_low L low_group ss k n s d h.0) t.hears (carrying L ss t c)))
      (λ _ _. c)

  -- the verdict behind a refusal
  pub from_answer : (j : ℕ) → (admit L room ss walk n s d limit).answer ≡ refused j → verdict (admit_questions L room ss walk n s d limit) ≡ j
  from_answer j = judged_by (λ (r : Reply). r.answer ≡ refused j → verdict qs ≡ j) ss _ (verdict qs) (admission L ss walk n s d P) (λ _ a. cc) (λ i e a. cc)

  pub to_answer : (j : ℕ) → verdict (admit_questions L room ss walk n s d limit) ≡ suc j → (admit L room ss walk n s d limit).answer ≡ refused (suc j)
  to_answer j e = subst (λ (v : ℕ). (answered v).answer ≡ refused (suc j)) (sym e) refl

  pub limit_serves : L.groups ≤ limit + 1 → (admit L room ss walk n s d limit).answer ≡ refused 25 → ⊥
  limit_serves l a =
      let r = reached 25 (omega arith) (take 12 qs) _ [] (omega arith) tt (from_answer 25 a) in
      let q = asked L room ss walk n s d (All-take (λ x. x.0 ≡ true) 10 (take 12 qs) r.0) in
      let loads = All-drop (λ x. x.0 ≡ true) 10 (take 12 qs) r.0 in
      let h = good L low_group ss k n s d q (ltb-true _ _ loads.0) (ltb-true _ _ loads.1.0) in
      omega (arith, q.fit, h.few, leb-false _ _ r.1)
