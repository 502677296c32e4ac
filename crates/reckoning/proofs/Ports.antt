-- No call brings a site to use more ports than it has.
use Rattle.std.proofs.Common.{◌≡◌, ℕ, ◌+◌, ◌<◌, ◌≤◌, Bool, true, cond, not, List, [], ◌∷◌, map, Some, None, count_by, filter, Option, sym, refl, ap, subst, arith, ◌==◌}
use Rattle.std.proofs.lemmas.Bool.{eqb-true, ltb-true}
use Rattle.std.proofs.ByRecursion.{All-drop}
use Rattle.std.proofs.lemmas.List.Sums.{sum_by-cons}
use Rattle.reckoning.specs.declared.session.Session.{Session}
use Rattle.reckoning.specs.declared.call.Call.{Call}
use Rattle.reckoning.specs.declared.call.Call.TheVariants.{Admit, Release, Quote, Where, List as Rows}
use Rattle.reckoning.specs.Lists.{first}
use Rattle.reckoning.specs.Parts.{Parts}
use Rattle.reckoning.specs.Standing.{bears, without, sent, received}
use Rattle.reckoning.specs.Plans.{Plan, planned, among, move}
use Rattle.reckoning.specs.Questions.{Room, verdict, admit_questions, release_questions}
use Rattle.reckoning.specs.Calls.{Reply, new_session, admission, release_of, reply}
use Rattle.reckoning.specs.Runs.{PortsServe}
use Rattle.reckoning.proofs.Verdicts.{passed, judged_by}
use Rattle.reckoning.proofs.Admissions.{move_keeps}
use Rattle.reckoning.proofs.Runs.{still_quote, still_locate, still_list}

-- ---- counts

module _ (p : Session → Bool) where
  count_cons : (x : Session) (xs : List Session) → count_by p (x ∷ xs) ≡ cond (p x) 1 0 + count_by p xs
  count_cons = sum_by-cons (λ y. cond (p y) 1 0)

  count_map : (f : Session → Session) → ((x : Session) → p (f x) ≡ p x) → (xs : List Session) → count_by p (map f xs) ≡ count_by p xs
  count_map f h [] = refl
  count_map f h (x ∷ xs) = grind (arith, h x, count_cons (f x) (map f xs), count_cons x xs, count_map f h xs)

  count_kept : (q : Session → Bool) (xs : List Session) → count_by p (filter q xs) ≤ count_by p xs
  count_kept q [] = omega arith
  count_kept q (x ∷ xs) = grind (arith, count_kept q xs, count_cons x (filter q xs), count_cons x xs)

  -- one more is counted only where there was room for it
  count_new : (f : Session → Session) → ((x : Session) → p (f x) ≡ p x) → (new : Session) (xs : List Session) (most : ℕ) →
      (p new ≡ true → count_by p xs < most) → count_by p xs ≤ most → count_by p (new ∷ map f xs) ≤ most
  count_new f h new xs most room few = grind (arith, room, count_cons new (map f xs), count_map f h xs)

-- ---- the calls

module _ (L : Parts) (room : Room) (ss : List Session) (walk : List ℕ) (k : PortsServe L ss) where
  -- questions 21 and 22 passed, and moves keep both sites
  ports_admission : (n s d : ℕ) → sent ss s < L.ports s → received ss d < L.ports d → PortsServe L (admission L ss walk n s d (planned L ss s d)).after
  ports_admission n s d out into site =
      let P : Plan = planned L ss s d in
      let new = new_session n s d P.gives in (
        count_new (λ y. y.source == site) (move P) (λ x. ap (λ v. v == site) (move_keeps (among P.moving x) P.p P.q x).1) new ss (L.ports site)
            (λ e. subst (λ (v : ℕ). sent ss v < L.ports v) (eqb-true s site e) out) (k site).0,
        count_new (λ y. y.destination == site) (move P) (λ x. ap (λ v. v == site) (move_keeps (among P.moving x) P.p P.q x).2) new ss (L.ports site)
            (λ e. subst (λ (v : ℕ). received ss v < L.ports v) (eqb-true d site e) into) (k site).1,
      )

  ports_without : (n : ℕ) → PortsServe L (without ss n)
  ports_without n site =
      let q : Session → Bool = λ s. not (bears n s) in
      (omega (arith, (k site).0, count_kept (λ y. y.source == site) q ss), omega (arith, (k site).1, count_kept (λ y. y.destination == site) q ss))

  ports_release : (o : Option Session) → PortsServe L (release_of L ss walk o).after
  ports_release None = k
  ports_release (Some s) = ports_without s.number

  pub ports_reply : (c : Call) → PortsServe L (reply L room ss walk c).after
  ports_reply (Admit n s d limit) =
      let qs = admit_questions L room ss walk n s d limit in
      judged_by (λ (r : Reply). PortsServe L r.after) ss _ (verdict qs) (admission L ss walk n s d (planned L ss s d))
      (λ e.
      let h = All-drop (λ x. x.0 ≡ true) 8 qs (passed qs (omega arith) e) in
      ports_admission n s d (ltb-true _ _ h.0) (ltb-true _ _ h.1.0))
      (λ _ _. k)
  ports_reply (Release n) =
      judged_by (λ (r : Reply). PortsServe L r.after) ss walk (verdict (release_questions L room ss n)) (release_of L ss walk (first (bears n) ss)) (λ _. ports_release (first (bears n) ss)) (λ _ _. k)
  ports_reply (Quote n s d) = subst (PortsServe L) (sym (still_quote L room ss walk n s d).after) k
  ports_reply (Where n) = subst (PortsServe L) (sym (still_locate L room ss walk n).after) k
  ports_reply Rows = subst (PortsServe L) (sym (still_list L room ss walk).after) k
