-- An admission is refused for want of a wavelength exactly when no table exists for the sessions with the new one.
use Rattle.std.proofs.Common.{◌≡◌, ℕ, ◌<◌, ◌≤◌, Bool, true, false, cond, ◌⊎◌, List, ◌∷◌, take, drop, sym, refl, ap, ◌∙◌, inl, inr, arith, ◌==◌, nat_lt}
use Rattle.std.specs.List.{AllByRecursion}
use Rattle.std.proofs.lemmas.Bool.{ltb-true, ltb-false, eq-eqb, ne_eqb}
use Rattle.std.proofs.ByRecursion.{All-take}
use Rattle.network.specs.Network.{Ends}
use Rattle.reckoning.specs.declared.session.Session.{Session}
use Rattle.reckoning.specs.Lists.{In}
use Rattle.reckoning.specs.Parts.{Parts}
use Rattle.reckoning.specs.Standing.{leaves, enters, lit_out, lit_into, up_load, down_load}
use Rattle.reckoning.specs.Plans.{Plan, planned, among, move}
use Rattle.reckoning.specs.Questions.{Room, Question, verdict, admit_before, admit_questions}
use Rattle.reckoning.specs.Calls.{new_session, admit}
use Rattle.reckoning.specs.Laws.{Clear, Sound, Meet, Table, NoTable, Blocked}
use Rattle.reckoning.proofs.Pigeon.{pairwise_weaker, pairwise_unmap}
use Rattle.reckoning.proofs.Sessions.{any_some, leaves_says, enters_says}
use Rattle.reckoning.proofs.Plans.{Good}
use Rattle.reckoning.proofs.Tables.{crowded}
use Rattle.reckoning.proofs.Verdicts.{passed, passed_on, all_passed, reached}
use Rattle.reckoning.proofs.Admissions.{Asked, asked, move_keeps, good, from_answer, to_answer}

-- two sessions of one source group, or of one destination group, light a common fibre
abbrev pub Common : Parts → (ℕ → ℕ → ℕ → Bool) → Type 0
Common L lights =
    (s d s' d' : ℕ) → Ends L.sites s d → Ends L.sites s' d' → (L.group s ≡ L.group s') ⊎ (L.group d ≡ L.group d') →
    (f : ℕ) × (lights s d f ≡ true) × (lights s' d' f ≡ true)

-- two that light a common fibre have one source group, or one destination group
abbrev pub Shared : Parts → (ℕ → ℕ → ℕ → Bool) → Type 0
Shared L lights =
    (s d s' d' f : ℕ) → lights s d f ≡ true → lights s' d' f ≡ true → (L.group s ≡ L.group s') ⊎ (L.group d ≡ L.group d')

-- the session that is asked for, on no wavelength yet
abbrev wanted : ℕ → ℕ → ℕ → Session
wanted n s d = new_session n s d 0

module _ (L : Parts) (lights : ℕ → ℕ → ℕ → Bool) (ss : List Session) (k : Sound L ss) (n s d : ℕ) (q : Asked L ss n s d) where
  module _ (common : Common L lights) where
    ends_of : (x : Session) → In x (wanted n s d ∷ ss) → Ends L.sites x.source x.destination
    ends_of x (inl e) = rw e q.ends
    ends_of x (inr i) = k.placed x i

    full_out : L.wavelengths ≤ up_load L.group ss L.wavelengths (L.group s) → NoTable lights L.wavelengths (new_session n s d 0 ∷ ss)
    full_out full wave t =
        crowded L.wavelengths (wanted n s d) ss (λ x. L.group x.source) (lit_out L.group ss (L.group s))
        (λ w h. let r = any_some (leaves L.group w (L.group s)) ss h in let l = leaves_says L.group w (L.group s) r.0 r.2 in (r.0, r.1, l.0, l.1))
        full wave t.low
        (pairwise_weaker (λ u v. Meet lights u v → wave u ≡ wave v → ⊥) (λ u v. L.group u.source ≡ L.group v.source → wave u ≡ wave v → ⊥) (wanted n s d ∷ ss)
        (λ u v i j differ e. differ (common u.source u.destination v.source v.destination (ends_of u i) (ends_of v j) (inl e))) t.differ)

    full_into : L.wavelengths ≤ down_load L.group ss L.wavelengths (L.group d) → NoTable lights L.wavelengths (new_session n s d 0 ∷ ss)
    full_into full wave t =
        crowded L.wavelengths (wanted n s d) ss (λ x. L.group x.destination) (lit_into L.group ss (L.group d))
        (λ w h. let r = any_some (enters L.group w (L.group d)) ss h in let l = enters_says L.group w (L.group d) r.0 r.2 in (r.0, r.1, l.0, l.1))
        full wave t.low
        (pairwise_weaker (λ u v. Meet lights u v → wave u ≡ wave v → ⊥) (λ u v. L.group u.destination ≡ L.group v.destination → wave u ≡ wave v → ⊥) (wanted n s d ∷ ss)
        (λ u v i j differ e. differ (common u.source u.destination v.source v.destination (ends_of u i) (ends_of v j) (inr e))) t.differ)

  -- the wavelengths after the admission are a table
  module _ (shared : Shared L lights) (P : Plan) (h : Good L.group L.wavelengths L.plant_groups ss (L.group s) (L.group d) P) where
    given : Session → ℕ
    given x = cond (x.number == n) P.gives (move P x).wavelength

    given_new : (x : Session) → x ≡ wanted n s d → given x ≡ P.gives
    unfolding given
    given_new x e = rw (eq-eqb x.number n (ap (λ (y : Session). y.number) e))

    given_old : (x : Session) → In x ss → given x ≡ (move P x).wavelength
    unfolding given
    given_old x i = rw (ne_eqb x.number n (λ e. q.unborne x i (sym e)))

    new_table : Table lights L.wavelengths (new_session n s d 0 ∷ ss) given
    new_table = record { low = low; differ = (new_differs, pairwise_weaker (λ x y. Clear L.group (move P x) (move P y)) (λ x y. Meet lights x y → given x ≡ given y → ⊥) ss old_differ (pairwise_unmap (Clear L.group) (move P) ss h.clear)) }
      where
        low : (x : Session) → In x (wanted n s d ∷ ss) → given x < L.wavelengths
        low x (inl e) = rw (given_new x e) h.gives_low
        low x (inr i) = rw (given_old x i) (h.stays_low x i)

        new_differs : (y : Session) → In y ss → Meet lights (wanted n s d) y → given (wanted n s d) ≡ given y → ⊥
        new_differs y i m e =
            let f = h.free y i (sym (given_old y i) ∙ (sym e ∙ given_new (wanted n s d) refl)) in
            elim (shared s d y.source y.destination m.0 m.1 m.2) [ inl g ↦ f.0 (sym g) | inr g ↦ f.1 (sym g) ]

        old_differ : (x y : Session) → In x ss → In y ss → Clear L.group (move P x) (move P y) → Meet lights x y → given x ≡ given y → ⊥
        old_differ x y i j clear m e =
            let f = clear (sym (given_old x i) ∙ (e ∙ given_old y j)) in
            let u = move_keeps (among P.moving x) P.p P.q x in
            let v = move_keeps (among P.moving y) P.p P.q y in
            elim (shared x.source x.destination y.source y.destination m.0 m.1 m.2) [
              | inl g ↦ f.0 (ap L.group u.1 ∙ (g ∙ sym (ap L.group v.1)))
              | inr g ↦ f.1 (ap L.group u.2 ∙ (g ∙ sym (ap L.group v.2)))
            ]

module _ (L : Parts) (low_group : (s : ℕ) → s < L.sites → L.group s < L.groups) (lights : ℕ → ℕ → ℕ → Bool) (room : Room) (ss : List Session) (k : Sound L ss) (walk : List ℕ) (n s d limit : ℕ) where
  abbrev qs : List Question
  qs = admit_questions L room ss walk n s d limit

  pub blocked_then : Common L lights → Blocked (admit L room ss walk n s d limit).answer → (verdict (admit_before L room ss walk n s d) ≡ 0) × NoTable lights L.wavelengths (new_session n s d 0 ∷ ss)
  blocked_then common (inl e) =
      let r = reached 23 (omega arith) (take 10 qs) _ (drop 11 qs) (omega arith) (omega arith) (from_answer L low_group room ss k walk n s d limit 23 e) in
      (all_passed (take 10 qs) r.0, full_out L lights ss k n s d (asked L room ss walk n s d r.0) common (ltb-false _ _ r.1))
  blocked_then common (inr e) =
      let r = reached 24 (omega arith) (take 11 qs) _ (drop 12 qs) (omega arith) (omega arith) (from_answer L low_group room ss k walk n s d limit 24 e) in
      let ten = All-take (λ x. x.0 ≡ true) 10 (take 11 qs) r.0 in
      (all_passed (take 10 qs) ten, full_into L lights ss k n s d (asked L room ss walk n s d ten) common (ltb-false _ _ r.1))

  pub blocked_when : Shared L lights → verdict (admit_before L room ss walk n s d) ≡ 0 → NoTable lights L.wavelengths (new_session n s d 0 ∷ ss) → Blocked (admit L room ss walk n s d limit).answer
  blocked_when shared e none =
      go (nat_lt (up_load L.group ss L.wavelengths (L.group s)) L.wavelengths) refl
      (nat_lt (down_load L.group ss L.wavelengths (L.group d)) L.wavelengths) refl
    where
      ten : AllByRecursion (λ x. x.0 ≡ true) (take 10 qs)
      ten = passed (take 10 qs) (omega arith) e

      go : (u : Bool) → nat_lt (up_load L.group ss L.wavelengths (L.group s)) L.wavelengths ≡ u → (v : Bool) → nat_lt (down_load L.group ss L.wavelengths (L.group d)) L.wavelengths ≡ v → Blocked (admit L room ss walk n s d limit).answer
      go true up true down =
          let q = asked L room ss walk n s d ten in
          let h = good L low_group ss k n s d q (ltb-true _ _ up) (ltb-true _ _ down) in
          absurd (none (given L lights ss k n s d q shared (planned L ss s d) h) (new_table L lights ss k n s d q shared (planned L ss s d) h))
      go true up false down = inr (to_answer L low_group room ss k walk n s d limit 23 (passed_on (take 10 qs) (drop 10 qs) ten ∙ rw (up, down)))
      go false up v down = inl (to_answer L low_group room ss k walk n s d limit 22 (passed_on (take 10 qs) (drop 10 qs) ten ∙ rw up))
