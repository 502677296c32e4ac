-- A quote and the admission that it asks about answer alike.
use Rattle.std.proofs.Common.{◌≡◌, ℕ, zero, suc, ◌+◌, ◌-◌, ◌*◌, ◌<◌, ◌≤◌, true, List, length, sym, refl, subst, arith}
use Rattle.std.specs.List.{AllByRecursion}
use Rattle.std.proofs.lemmas.Bool.{le-leb}
use Rattle.reckoning.specs.declared.session.Session.{Session}
use Rattle.reckoning.specs.Parts.{Parts}
use Rattle.reckoning.specs.Plans.{Plan, planned}
use Rattle.reckoning.specs.Sheets.{walked}
use Rattle.reckoning.specs.Questions.{Room, Question, verdict, admit_questions, quote_questions}
use Rattle.reckoning.specs.Calls.{admitted, quoted, Reply, unchanged, judged, admit, quote}
use Rattle.reckoning.specs.Laws.{Sound}
use Rattle.reckoning.proofs.Verdicts.{passed, all_passed}
use Rattle.reckoning.proofs.Admissions.{answered}

abbrev Hold : List Question → Type 0
Hold qs = AllByRecursion (λ x. x.0 ≡ true) qs

module _ (L : Parts) (low_group : (s : ℕ) → s < L.sites → L.group s < L.groups) (room : Room) (ss : List Session) (k : Sound L ss) (walk : List ℕ) (n s d limit : ℕ) where
  abbrev P : Plan
  P = planned L ss s d

  abbrev quote_of : ℕ → Reply
  quote_of v = judged ss walk v (unchanged ss (walked L.group P walk) (quoted P.gives (length P.moving)))

  to_quote : Hold (admit_questions L room ss walk n s d limit) → Hold (quote_questions L ss walk n s d)
  to_quote h =
      let a = h.1.1.1.1.1.1.1 in
      (h.0, (h.1.0, (h.1.1.0, (h.1.1.1.0, (h.1.1.1.1.0, (h.1.1.1.1.1.0, (a.0, (a.1.0, (a.1.1.0, (a.1.1.1.0, (a.1.1.1.1.0, tt)))))))))))

  to_admit : 2 * L.plant_groups ≤ room.orders + 1 → length P.moving ≤ limit → Hold (quote_questions L ss walk n s d) → Hold (admit_questions L room ss walk n s d limit)
  to_admit orders high h =
      let a = h.1.1.1.1.1.1 in
      let order_room_lem = le-leb (2 * L.plant_groups - 1) room.orders (omega arith) in
      let few = le-leb (length P.moving) limit high in
      (h.0, (h.1.0, (h.1.1.0, (h.1.1.1.0, (h.1.1.1.1.0, (h.1.1.1.1.1.0, (order_room_lem, (a.0, (a.1.0, (a.1.1.0, (a.1.1.1.0, (a.1.1.1.1.0, (few, tt)))))))))))))

  pub quoted_if : (w m : ℕ) → (admit L room ss walk n s d limit).answer ≡ admitted w m → (quote L ss walk n s d).answer ≡ quoted w m
  quoted_if w m = go (verdict (admit_questions L room ss walk n s d limit)) refl
    where
      go : (v : ℕ) → verdict (admit_questions L room ss walk n s d limit) ≡ v → (answered L low_group room ss k walk n s d limit v).answer ≡ admitted w m → (quote L ss walk n s d).answer ≡ quoted w m
      go zero e a =
          let z = all_passed (quote_questions L ss walk n s d) (to_quote (passed (admit_questions L room ss walk n s d limit) (omega arith) e)) in
          subst (λ (v : ℕ). (quote_of v).answer ≡ quoted w m) (sym z) (cc)
      go (suc j) e a = cc

  pub admitted_if : 2 * L.plant_groups ≤ room.orders + 1 → (w m : ℕ) → m ≤ limit → (quote L ss walk n s d).answer ≡ quoted w m → (admit L room ss walk n s d limit).answer ≡ admitted w m
  admitted_if orders w m high = go (verdict (quote_questions L ss walk n s d)) refl
    where
      go : (v : ℕ) → verdict (quote_questions L ss walk n s d) ≡ v → (quote_of v).answer ≡ quoted w m → (admit L room ss walk n s d limit).answer ≡ admitted w m
      go zero e a =
          let same : length P.moving ≡ m = cc in
          let z = all_passed (admit_questions L room ss walk n s d limit) (to_admit orders (omega (arith, same)) (passed (quote_questions L ss walk n s d) (omega arith) e)) in
          subst (λ (v : ℕ). (answered L low_group room ss k walk n s d limit v).answer ≡ admitted w m) (sym z) (cc)
      go (suc j) e a = cc
