-- Runs put together and taken apart, what they answer, and the start of a controller that is new.
use Rattle.std.proofs.Common.{◌≡◌, ℕ, zero, suc, ◌<◌, true, false, List, [], ◌∷◌, ◌++◌, map, is_some, None, Option, sym, refl, ap, ◌∙◌, subst, inl, inr, arith}
use Rattle.std.proofs.lemmas.Bool.{cases_eq, both_ways, and_parts, and_from}
use Rattle.network.specs.Network.{Network}
use Rattle.plant.specs.Switch.{Switch, Proper, dark_switch}
use Rattle.reckoning.specs.declared.session.Session.{Session}
use Rattle.reckoning.specs.declared.call.Call.{Call}
use Rattle.reckoning.specs.Parts.{Parts, parts_told, quiet, dark_below, is_dark}
use Rattle.reckoning.specs.Questions.{Room}
use Rattle.reckoning.specs.Calls.{Answer, Reply, replies, standing_after}
use Rattle.reckoning.specs.Laws.{Sound, Carries}
use Rattle.reckoning.specs.Runs.{Moment, room_in, reply_in, Answered, Run, Start}
use Rattle.reckoning.proofs.Runs.{sound_none}

-- ---- runs put together and taken apart

module _ (R : Call → Answer → Moment → Moment → Type 0) where
  pub run_nothing : (m : Moment) → Run R [] [] m m
  run_nothing m = refl

  pub run_more : (calls : List Call) (answers : List Answer) (c : Call) (a : Answer) (m m' m'' : Moment) → Run R calls answers m m' → R c a m' m'' → Run R (calls ++ (c ∷ [])) (answers ++ (a ∷ [])) m m''
  run_more [] [] c a m m' m'' e x = (m'', subst (λ (y : Moment). R c a y m'') (sym e) x, refl)
  run_more [] (b ∷ rest) c a m m' m'' e x = absurd e
  run_more (d ∷ cs) [] c a m m' m'' e x = absurd e
  run_more (d ∷ cs) (b ∷ rest) c a m m' m'' (u, y, run) x = (u, y, run_more cs rest c a u m' m'' run x)

  -- the last call, and the run before it
  pub run_last : (calls : List Call) (c : Call) (answers : List Answer) (m m'' : Moment) → Run R (calls ++ (c ∷ [])) answers m m'' →
      (m' : Moment) × (before : List Answer) × (a : Answer) × Run R calls before m m' × R c a m' m'' × (answers ≡ before ++ (a ∷ []))
  run_last [] c [] m m'' e = absurd e
  run_last [] c (a ∷ []) m m'' (u, x, e) = (m, [], a, refl, subst (λ (y : Moment). R c a m y) e x, refl)
  run_last [] c (a ∷ b ∷ rest) m m'' (u, x, e) = absurd e
  run_last (d ∷ cs) c [] m m'' e = absurd e
  run_last (d ∷ cs) c (b ∷ rest) m m'' (u, y, run) =
      let r = run_last cs c rest u m'' run in
      (r.0, b ∷ r.1, r.2, (u, y, r.3), r.4, ap (λ (l : List Answer). b ∷ l) r.5)

-- ---- what a run answers

pub run_replies : (L : Parts) (calls : List Call) (answers : List Answer) (m m'' : Moment) → Run (Answered L) calls answers m m'' →
    (answers ≡ map (λ r. r.answer) (replies L (room_in m) m.standing m.walk calls))
    × (m''.standing ≡ standing_after m.standing (replies L (room_in m) m.standing m.walk calls))
    × (room_in m'' ≡ room_in m)
run_replies L [] [] m m'' e = (refl, ap (λ (x : Moment). x.standing) (sym e), ap (λ (x : Moment). room_in x) (sym e))
run_replies L [] (a ∷ rest) m m'' e = absurd e
run_replies L (c ∷ cs) [] m m'' e = absurd e
run_replies L (c ∷ cs) (a ∷ rest) m m'' (m', x, run) =
    let r = run_replies L cs rest m' m'' run in
    let after : List Session = (reply_in L m c).after in
    let walk : List ℕ = (reply_in L m c).walk in
    let same : replies L (room_in m') m'.standing m'.walk cs ≡ replies L (room_in m) after walk cs =
    ap (λ (y : Room). replies L y m'.standing m'.walk cs) x.room
    ∙ (ap (λ (ss : List Session). replies L (room_in m) ss m'.walk cs) x.standing ∙ ap (λ (ns : List ℕ). replies L (room_in m) after ns cs) x.walk)
    in (
      ap (λ (y : Answer). y ∷ rest) x.answer ∙ ap (λ (l : List Answer). (reply_in L m c).answer ∷ l) (r.0 ∙ ap (λ (rs : List Reply). map (λ y. y.answer) rs) same),
      r.1 ∙ (ap (λ (ss : List Session). standing_after ss (replies L (room_in m') m'.standing m'.walk cs)) x.standing ∙ ap (standing_after after) same),
      r.2 ∙ x.room,
    )

-- ---- the start

quiet_says : (hears : ℕ → ℕ → Option ℕ) (w n : ℕ) → quiet hears w n ≡ true → (b : ℕ) → b < n → is_some (hears w b) ≡ false
quiet_says hears w zero q b l = let e : ⊥ = omega arith in absurd e
quiet_says hears w (suc n) q b l = grind (arith, quiet_says hears w n)

dark_says : (hears : ℕ → ℕ → Option ℕ) (G W : ℕ) → dark_below hears G W ≡ true → (w b : ℕ) → w < W → b < G → is_some (hears w b) ≡ false
dark_says hears G zero q w b l u = let e : ⊥ = omega arith in absurd e
dark_says hears G (suc W) q w b l u =
    let p = and_parts (quiet hears W G) (dark_below hears G W) q in
    elim (cases_eq w W) [ inl e ↦ rw e (quiet_says hears W G p.0 b u) | inr e ↦ dark_says hears G W p.1 w b (omega arith) u ]

-- a dark plant carries no session, and nothing else
carries_none : (n : Network) (t : Switch) → is_dark t ≡ true → Proper t → Carries (parts_told n t) [] t
carries_none n t dark proper =
    record {
      waves = refl;
      groups = refl;
      each = λ s i. absurd i;
      nothing_else = λ w b a e.
          let heard : is_some (t.hears w b) ≡ true = ap is_some e in
          let i = proper.inside w b heard in
          absurd (both_ways _ (dark_says t.hears t.groups t.waves dark w b i.0 i.1) heard);
    }

pub start_made : (n : Network) (t : Switch) (m : Moment) → m.standing ≡ [] → m.plant ≡ t → is_dark t ≡ true → Proper t → Start n (parts_told n t) m
start_made n t m none is dark proper =
    let L : Parts = parts_told n t in
    record {
      told = (t, refl);
      sound = subst (Sound L) (sym none) (sound_none L);
      carried = subst (λ (ss : List Session). Carries L ss m.plant) (sym none) (subst (Carries L []) (sym is) (carries_none n t dark proper));
    }

-- a plant that hears nothing is dark
quiet_dark : (w n : ℕ) → quiet (λ _ _. None) w n ≡ true
quiet_dark w zero = refl
quiet_dark w (suc n) = quiet_dark w n

below_dark : (G W : ℕ) → dark_below (λ _ _. None) G W ≡ true
below_dark G zero = refl
below_dark G (suc w) = and_from _ _ (quiet_dark w G) (below_dark G w)

pub dark_is_dark : (t : Switch) (W G : ℕ) → t ≡ dark_switch W G → is_dark t ≡ true
dark_is_dark t W G e = ap is_dark e ∙ below_dark G W
