-- What mirrors let be heard, and what turning one mirror does to it.
use Rattle.std.proofs.Common.{◌≡◌, ℕ, ◌<◌, ◌≤◌, ◌≢◌, cond, ◌&&◌, ltb, List, [], length, get_or, set, replicate, Some, None, Ok, Option, sym, refl, ap, ◌∙◌, inl, inr, arith, get_or-set_other, get_or-set_same, length-set}
use Rattle.std.proofs.lemmas.List.{get_or-replicate}
use Rattle.std.proofs.lemmas.Bool.{lt-ltb, ltb-true, cases_eq, and_from, and_parts, cond-true, cond-false, cond_both}
use Rattle.plant.specs.Mirrors.{Sound, mirror, mirror_switch}
use Rattle.plant.specs.Switch.{first, is_from, steered, tuned, dark_switch, light_answer, darken_answer, lit_after, dark_after}
use Rattle.plant.proofs.Answers.{Lightable, Darkenable, lightable, darkenable, put, lit, darkened, is_it, from_there, not_from, steered_at}
use Rattle.plant.proofs.Cells.{same_or_other, same_test}
use Rattle.plant.proofs.First.{first_none, first_is, first_same, first_passes}

abbrev pub Table : Type 0
Table = List (List (Option ℕ))

module _ (n g : ℕ) (ms : Table) (sound : Sound n g ms) (w : ℕ) (hw : w < n) where
  pub heard_in : (b : ℕ) → b < g → (mirror_switch n g ms).hears w b ≡ first (λ a. is_from (mirror ms w a) b) g
  heard_in b hb = cond-true _ _ _ (and_from _ _ (lt-ltb w n hw) (lt-ltb b g hb))

  -- the source that points at b is heard there
  pub heard_from : (a b : ℕ) → a < g → b < g → mirror ms w a ≡ Some b → (mirror_switch n g ms).hears w b ≡ Some a
  heard_from a b ha hb e =
      heard_in b hb
      ∙ first_is _ g a ha (is_it _ b e) (λ j hj. not_from _ b (λ f. let s : j ≡ a = sound.apart w j a b hw (omega arith) ha f e in omega arith))

  pub heard_back : (a b : ℕ) → b < g → (mirror_switch n g ms).hears w b ≡ Some a → (a < g) × (mirror ms w a ≡ Some b)
  heard_back a b hb e = let r = first_passes _ g a (sym (heard_in b hb) ∙ e) in (r.0, from_there _ b r.1)

  -- the group that hears a is the one at which its mirror points
  pub steered_mirror : (a : ℕ) → a < g → first (λ y. is_from ((mirror_switch n g ms).hears w y) a) g ≡ mirror ms w a
  steered_mirror a ha = at (mirror ms w a) refl where
    at : (o : Option ℕ) → mirror ms w a ≡ o → first (λ y. is_from ((mirror_switch n g ms).hears w y) a) g ≡ o
    at None e = first_none _ g (λ j hj. not_from _ a (λ f. let r : ◌≡◌ {A = Option ℕ} None (Some j) = sym e ∙ (heard_back a j hj f).1 in cc))
    at (Some b) e =
        let hb : b < g = sound.ranged w a b hw ha e in
        first_is _ g b hb (is_it _ a (heard_from a b ha hb e))
        (λ j hj. not_from _ a (λ f. let r : ◌≡◌ {A = Option ℕ} (Some j) (Some b) = sym (heard_back a j (omega arith) f).1 ∙ e in let s : j ≡ b = cc in omega arith))

  pub target_told : (a : ℕ) → a < g → mirror ms w a ≡ steered (mirror_switch n g ms) w a
  target_told a ha = sym (steered_mirror a ha) ∙ steered_at (mirror_switch n g ms) w a hw ha

  -- where nothing is heard, no source points
  pub silent : (b : ℕ) → b < g → (mirror_switch n g ms).hears w b ≡ None → (c : ℕ) → c < g → mirror ms w c ≡ Some b → ⊥
  silent b hb z c hc e = let r : ◌≡◌ {A = Option ℕ} (Some c) None = sym (heard_from c b hc hb e) ∙ z in cc

abbrev pub turn : Table → ℕ → ℕ → Option ℕ → Table
turn ms w a v = set ms w (set (get_or ms w []) a v)

module _ (n g : ℕ) (ms : Table) (sound : Sound n g ms) (long : length ms ≡ 32) (w a : ℕ) (v : Option ℕ) (hw : w < n) (ha : a < g) where
  wave_in : w < length ms
  wave_in = omega (arith, sound.few_waves)

  source_in : a < length (get_or ms w [])
  source_in = omega (arith, sound.few_groups, sound.rows w (omega (arith, sound.few_waves)))

  row_here : get_or (turn ms w a v) w [] ≡ set (get_or ms w []) a v
  row_here = get_or-set_same ms w (set (get_or ms w []) a v) [] wave_in

  row_there : (x : ℕ) → (x ≡ w → ⊥) → get_or (turn ms w a v) x [] ≡ get_or ms x []
  row_there x nay = get_or-set_other ms w x (set (get_or ms w []) a v) [] nay

  here : (x c : ℕ) → (x ≡ w) × (c ≡ a) → mirror (turn ms w a v) x c ≡ v
  here x c s =
      ap (λ (i : ℕ). mirror (turn ms w a v) i c) s.0 ∙ ap (λ (i : ℕ). mirror (turn ms w a v) w i) s.1
      ∙ ap (λ (r : List (Option ℕ)). get_or r a None) row_here ∙ get_or-set_same (get_or ms w []) a v None source_in

  there : (x c : ℕ) → ((x ≡ w) × (c ≡ a) → ⊥) → mirror (turn ms w a v) x c ≡ mirror ms x c
  there x c nay = elim (cases_eq x w) [
    | inl e ↦
        (let ne : c ≢ a = λ f. nay (e, f) in
        ap (λ (i : ℕ). mirror (turn ms w a v) i c) e ∙ ap (λ (r : List (Option ℕ)). get_or r c None) row_here
        ∙ get_or-set_other (get_or ms w []) a c v None ne ∙ ap (λ (i : ℕ). mirror ms i c) (sym e))
    | inr o ↦ ap (λ (r : List (Option ℕ)). get_or r c None) (row_there x o)
  ]

  was : (x c : ℕ) → (x ≡ w) × (c ≡ a) → mirror ms x c ≡ mirror ms w a
  was x c s = ap (λ (i : ℕ). mirror ms i c) s.0 ∙ ap (λ (i : ℕ). mirror ms w i) s.1

  -- a group at which the mirror points neither before nor after hears what it heard
  heard_other : (x y : ℕ) → (x ≡ w → (v ≡ Some y → ⊥) × (mirror ms w a ≡ Some y → ⊥)) → (mirror_switch n g (turn ms w a v)).hears x y ≡ (mirror_switch n g ms).hears x y
  heard_other x y nay =
      ap (λ (o : Option ℕ). cond (ltb x n && ltb y g) o None)
      (first_same _ _ g
      (λ c hc. elim (same_or_other x w c a) [
        | inl s ↦ (not_from _ y (λ e. (nay s.0).0 (sym (here x c s) ∙ e)) ∙ sym (not_from _ y (λ e. (nay s.0).1 (sym (was x c s) ∙ e))))
        | inr (o, f) ↦ ap (λ (k : Option ℕ). is_from k y) (there x c o)
      ]))

  -- the switch with the one place changed
  pub turned : (b : ℕ) (s : Option ℕ) → (mirror_switch n g (turn ms w a v)).hears w b ≡ s → ((y : ℕ) → (y ≡ b → ⊥) → (v ≡ Some y → ⊥) × (mirror ms w a ≡ Some y → ⊥))
      → mirror_switch n g (turn ms w a v) ≡ put (mirror_switch n g ms) w b s
  turned b s at nay =
      let place : (x y : ℕ) → (mirror_switch n g (turn ms w a v)).hears x y ≡ tuned (mirror_switch n g ms).hears w b s x y =
      λ x y. elim (same_or_other x w y b) [
        | inl e ↦ (ap (λ (i : ℕ). (mirror_switch n g (turn ms w a v)).hears i y) e.0 ∙ ap (λ (i : ℕ). (mirror_switch n g (turn ms w a v)).hears w i) e.1 ∙ at ∙ sym (cond-true _ _ _ (same_test x w y b e)))
        | inr (o, f) ↦ (heard_other x y (λ ex. nay y (λ ey. o (ex, ey))) ∙ sym (cond-false _ _ _ f))
      ] in
      λ i. record { waves = n; groups = g; hears = λ x y. place x y i }

  -- at a group within range, at which no other source of the wavelength points
  pub stays_sound : ((b : ℕ) → v ≡ Some b → (b < g) × ((d : ℕ) → d < g → (d ≡ a → ⊥) → mirror ms w d ≡ Some b → ⊥)) → Sound n g (turn ms w a v)
  stays_sound free = record { few_waves = sound.few_waves; few_groups = sound.few_groups; both = sound.both; rows = rows; ranged = ranged; apart = apart } where
    rows : (x : ℕ) → x < 32 → length (get_or (turn ms w a v) x []) ≡ 32
    rows x hx = elim (cases_eq x w) [
      | inl e ↦
          (ap (λ (i : ℕ). length (get_or (turn ms w a v) i [])) e ∙ ap length row_here ∙ length-set (get_or ms w []) a v ∙ ap (λ (i : ℕ). length (get_or ms i [])) (sym e) ∙ sound.rows x hx)
      | inr o ↦ (ap length (row_there x o) ∙ sound.rows x hx)
    ]

    ranged : (x c b : ℕ) → x < n → c < g → mirror (turn ms w a v) x c ≡ Some b → b < g
    ranged x c b hx hc e = elim (same_or_other x w c a) [
      | inl s ↦ (free b (sym (here x c s) ∙ e)).0
      | inr (o, f) ↦ sound.ranged x c b hx hc (sym (there x c o) ∙ e)
    ]

    apart : (x c d b : ℕ) → x < n → c < g → d < g → mirror (turn ms w a v) x c ≡ Some b → mirror (turn ms w a v) x d ≡ Some b → c ≡ d
    apart x c d b hx hc hd e f = elim (same_or_other x w c a) [
      | inl s ↦ elim (same_or_other x w d a) [
        | inl k ↦ (s.1 ∙ sym k.1)
        | inr (o, _) ↦ absurd ((free b (sym (here x c s) ∙ e)).1 d hd (λ q. o (s.0, q)) (ap (λ (i : ℕ). mirror ms i d) (sym s.0) ∙ sym (there x d o) ∙ f))
      ]
      | inr (o, _) ↦ elim (same_or_other x w d a) [
        | inl k ↦ absurd ((free b (sym (here x d k) ∙ f)).1 c hc (λ q. o (k.0, q)) (ap (λ (i : ℕ). mirror ms i c) (sym k.0) ∙ sym (there x c o) ∙ e))
        | inr (q, _) ↦ sound.apart x c d b hx hc hd (sym (there x c o) ∙ e) (sym (there x d q) ∙ f)
      ]
    ]

-- the mirrors of a hub, and an order that it accepts
module _ (n g : ℕ) (ms : Table) (sound : Sound n g ms) (long : length ms ≡ 32) (w a b : ℕ) where
  -- a dark source is pointed at a group that hears nothing
  module _ (ok : light_answer (mirror_switch n g ms) w a b ≡ Ok tt) where
    able : Lightable (mirror_switch n g ms) w a b
    able = lightable (mirror_switch n g ms) w a b ok

    none_points : (c : ℕ) → c < g → mirror ms w c ≡ Some b → ⊥
    none_points = silent n g ms sound w able.wave b able.destination able.unheard

    pub pointed_sound : Sound n g (turn ms w a (Some b))
    pointed_sound =
        stays_sound n g ms sound long w a (Some b) able.wave able.source
        (λ d e. let s : b ≡ d = cc in (omega (arith, able.destination), λ c hc _ f. none_points c hc (f ∙ ap Some (sym s))))

    pub pointed : mirror_switch n g (turn ms w a (Some b)) ≡ lit_after (mirror_switch n g ms) w a b
    pointed =
        let dark : mirror ms w a ≡ None = sym (steered_mirror n g ms sound w able.wave a able.source) ∙ able.unsteered in
        turned n g ms sound long w a (Some b) able.wave able.source b (Some a)
        (heard_from n g _ pointed_sound w able.wave a b able.source able.destination (here n g ms sound long w a (Some b) able.wave able.source w a (refl, refl)))
        (λ y nay. ((λ e. let s : b ≡ y = cc in nay (sym s)), (λ e. let r : ◌≡◌ {A = Option ℕ} None (Some y) = sym dark ∙ e in cc)))
        ∙ lit (mirror_switch n g ms) w a b ok

  -- the mirror of a lit source is turned away
  module _ (ok : darken_answer (mirror_switch n g ms) w a b ≡ Ok tt) where
    bright : Darkenable (mirror_switch n g ms) w a b
    bright = darkenable (mirror_switch n g ms) w a b ok

    points : mirror ms w a ≡ Some b
    points = (heard_back n g ms sound w bright.wave a b bright.destination bright.heard).1

    pub cleared_sound : Sound n g (turn ms w a None)
    cleared_sound = stays_sound n g ms sound long w a None bright.wave bright.source (λ d e. cc)

    pub cleared : mirror_switch n g (turn ms w a None) ≡ dark_after (mirror_switch n g ms) w a b
    cleared =
        turned n g ms sound long w a None bright.wave bright.source b None
        (heard_in n g _ cleared_sound w bright.wave b bright.destination ∙ first_none _ g (λ c hc. not_from _ b (unpointed c hc)))
        (λ y nay. ((λ e. cc), (λ e. let r : ◌≡◌ {A = Option ℕ} (Some b) (Some y) = sym points ∙ e in let s : b ≡ y = cc in nay (sym s))))
        ∙ darkened (mirror_switch n g ms) w a b ok where
          unpointed : (c : ℕ) → c < g → mirror (turn ms w a None) w c ≡ Some b → ⊥
          unpointed c hc e = elim (same_or_other w w c a) [
            | inl s ↦ (let r : ◌≡◌ {A = Option ℕ} None (Some b) = sym (here n g ms sound long w a None bright.wave bright.source w c s) ∙ e in cc)
            | inr (o, f) ↦ o (refl, sound.apart w c a b bright.wave hc bright.source (sym (there n g ms sound long w a None bright.wave bright.source w c o) ∙ e) points)
          ]

-- mirrors that all point nowhere
module _ (n g : ℕ) (hn : n ≤ 32) (hg : g ≤ 32) where
  abbrev pub dark_table : Table
  dark_table = replicate 32 (replicate 32 None)

  all_dark : (w a : ℕ) → w < n → a < g → mirror dark_table w a ≡ None
  all_dark w a hw ha =
      ap (λ (r : List (Option ℕ)). get_or r a None) (get_or-replicate 32 w (replicate 32 None) [] (omega arith)) ∙ get_or-replicate 32 a None None (omega arith)

  pub dark_sound : (n ≡ 0 → g ≡ 0) × (g ≡ 0 → n ≡ 0) → Sound n g dark_table
  dark_sound both = record {
    few_waves = hn;
    few_groups = hg;
    both = both;
    rows = λ w hw. ap length (get_or-replicate 32 w (replicate 32 None) [] hw);
    ranged = λ w a b hw ha e. let r : ◌≡◌ {A = Option ℕ} None (Some b) = sym (all_dark w a hw ha) ∙ e in cc;
    apart = λ w a c b hw ha hc e f. let r : ◌≡◌ {A = Option ℕ} None (Some b) = sym (all_dark w a hw ha) ∙ e in cc;
  }

  pub dark_mirrors : mirror_switch n g dark_table ≡ dark_switch n g
  dark_mirrors =
      let place : (w b : ℕ) → (mirror_switch n g dark_table).hears w b ≡ None =
      λ w b. cond_both (ltb w n && ltb b g) _ _ (λ (o : Option ℕ). o ≡ None)
      (λ t. first_none _ g
      (λ c hc. not_from _ b (λ e. let r : ◌≡◌ {A = Option ℕ} None (Some b) = sym (all_dark w c (ltb-true w n (and_parts (ltb w n) (ltb b g) t).0) hc) ∙ e in cc)))
      (λ f. refl) in
      λ i. record { waves = n; groups = g; hears = λ w b. place w b i }
