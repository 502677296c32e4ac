-- An admission that is prepared by codes and carried out is the reckoning's.
use Rattle.std.proofs.Common.{◌≡◌, ℕ, ◌+◌, ◌-◌, ◌*◌, ◌/◌, ◌%◌, ◌<◌, ◌≤◌, true, List, [], ◌∷◌, ◌++◌, map, length, take, drop, Ok, Option, unwrap_or, sym, refl, ap, ◌∙◌, subst, ap₂, inl, inr, arith}
use Rattle.std.proofs.lemmas.List.{length-map}
use Rattle.plant.specs.declared.change_over.Retuning.{Retuning}
use Rattle.plant.specs.declared.lightpath.Lightpath.{Lightpath}
use Rattle.plant.specs.Orders.{change_over, light}
use Rattle.reckoning.specs.declared.demand.Demand.{Demand}
use Rattle.reckoning.specs.declared.session.Session.{Session}
use Rattle.reckoning.specs.declared.order.Order.{Order}
use Rattle.reckoning.specs.Calls.{Reply, admitted, new_session, admit}
use Rattle.reckoning.specs.Laws.{Sound, put, written}
use Rattle.reckoning.specs.Lists.{In, first}
use Rattle.reckoning.specs.Parts.{Parts}
use Rattle.reckoning.specs.Plans.{Plan, planned, move}
use Rattle.reckoning.specs.Questions.{Room, verdict, admit_questions}
use Rattle.sheet.specs.Sheets.{Page, rewritten}
use Rattle.reckoning.specs.Sheets.{code, codes}
use Rattle.reckoning.specs.Soundness.{sound_test}
use Rattle.reckoning.specs.Standing.{leaves}
use Rattle.reckoning.proofs.Admissions.{all_asked, sound_admission}
use Rattle.reckoning.proofs.ChangeOvers.{put_orders}
use Rattle.reckoning.proofs.Codes.{at_code, code_wavelength, few_sessions, moving_stands}
use Rattle.reckoning.proofs.Soundness.{sound_to, sound_from}
use Rattle.book.specs.declared.book.Book.{Book}
use Rattle.book.specs.declared.change.Change.{Change}
use Rattle.book.specs.declared.course.Course.{Course}
use Rattle.book.specs.Books.{parts_in, standing_in}
use Rattle.book.specs.Calls.{Booked, Carried, Prepared, admit_answer, changes, told}
use Rattle.book.specs.Courses.{Chosen}
use Rattle.book.specs.Moves.{session_at, shift, nobody}
use Rattle.book.proofs.Preparing.{accepted, admit_room}

-- codes of standing sessions name these
module _ (L : Parts) (ss : List Session) (k : Sound L ss) (few : L.wavelengths ≤ 32) (small : L.plant_groups ≤ 32) where
  at_own_code : (e : Session) → In e ss → session_at L ss (code L.group e) ≡ e
  unfolding session_at
  at_own_code e i =
      let w = code_wavelength L ss k few small e i in
      let l = k.low e i in
      let z : code L.group e / 32 % 256 ≡ code L.group e / 32 = omega (arith, w) in
      ap (λ (v : ℕ). unwrap_or (first (leaves L.group v (code L.group e % 32)) ss) nobody) z
      ∙ ap (λ (o : Option Session). unwrap_or o nobody) (at_code L ss k few small e i)

  pub all_at : (es : List Session) → ((x : Session) → In x es → In x ss) → map (session_at L ss) (codes L.group es) ≡ es
  all_at [] h = refl
  all_at (e ∷ es) h = ap₂ (λ (x : Session) (xs : List Session). x ∷ xs) (at_own_code e (h e (inl refl))) (all_at es (λ x i. h x (inr i)))

-- the course r was chosen, and all questions hold
module _ (L : Parts) (low : (x : ℕ) → x < L.sites → L.group x < L.groups) (few : L.wavelengths ≤ 32) (small : L.plant_groups ≤ 32) (room : Room) (ss : List Session) (k : Sound L ss) (walk : List ℕ) (n s d limit : ℕ)
    (e : verdict (admit_questions L room ss walk n s d limit) ≡ 0) (new : List ℕ) (r : Course) (h : Chosen L ss (L.group s) (L.group d) walk new r) where
  pub moves_few : r.moves + 1 ≤ L.plant_groups
  moves_few = omega (arith, h.moves, (all_asked L low room ss k walk n s d limit e).1.few)

  -- the codes between begin and end are those of the chain that moves
  pub part_is : take (r.begin + r.moves - r.begin) (drop r.begin new) ≡ codes L.group (planned L ss s d).moving
  part_is = let z : r.begin + r.moves - r.begin ≡ r.moves = omega arith in ap (λ (j : ℕ). take j (drop r.begin new)) z ∙ h.moving

  pub part_long : length (take (r.begin + r.moves - r.begin) (drop r.begin new)) ≡ r.moves
  part_long = ap length part_is ∙ (length-map (planned L ss s d).moving (code L.group) ∙ sym h.moves)

  pub chain_is : (found : List Session) (part : List ℕ) → part ≡ take (r.begin + r.moves - r.begin) (drop r.begin new) → found ≡ map (session_at L ss) part → found ≡ (planned L ss s d).moving
  chain_is found part u v = v ∙ (ap (map (session_at L ss)) (u ∙ part_is) ∙ all_at L ss k few small (planned L ss s d).moving (moving_stands L ss s d))

  sound_after : Sound L (new_session n s d (planned L ss s d).gives ∷ map (move (planned L ss s d)) ss)
  sound_after = let q = all_asked L low room ss k walk n s d limit e in sound_admission L low ss k n s d q.0 (planned L ss s d) q.1

  pub place_is : length ss < 1024
  place_is = omega (arith, few_sessions L _ sound_after few small, length-map ss (move (planned L ss s d)))

  -- what a chain with these wavelengths leaves is what the plan leaves
  module _ (chain : List Session) (c : chain ≡ (planned L ss s d).moving) where
    same_after : new_session n s d r.gives ∷ map (shift chain r.exchange.p r.exchange.q) ss ≡ new_session n s d (planned L ss s d).gives ∷ map (move (planned L ss s d)) ss
    same_after =
        ap₂ (λ (x : Session) (xs : List Session). x ∷ xs) (ap (new_session n s d) h.gives)
        (ap (λ (es : List Session). map (shift es r.exchange.p r.exchange.q) ss) c ∙ ap₂ (λ (x y : ℕ). map (shift (planned L ss s d).moving x y) ss) h.p h.q)

    pub sound_is : sound_test L (new_session n s d r.gives ∷ map (shift chain r.exchange.p r.exchange.q) ss) ≡ true
    sound_is = ap (sound_test L) same_after ∙ sound_to L _ sound_after

-- ---- what is booked

module _ (room : Room) (walk : List ℕ) (n s d limit : ℕ) (b b' : Book) (o o' : Page Order) (x : Change) where
  by_plan : verdict (admit_questions (parts_in b) room (standing_in b) walk n s d limit) ≡ 0 → Carried (planned (parts_in b) (standing_in b) s d).moving (planned (parts_in b) (standing_in b) s d).p (planned (parts_in b) (standing_in b) s d).q (new_session n s d (planned (parts_in b) (standing_in b) s d).gives) b b' o o' x
      → Booked (admit (parts_in b) room (standing_in b) walk n s d limit) (admit_answer (Ok x)) (told changes (Ok x)) b b' o o'
  by_plan e h =
      let L = parts_in b in
      let ss = standing_in b in
      let Q : Plan = planned L ss s d in
      let y = sym (accepted L room ss walk n s d limit e) in
      let new : Session = new_session n s d Q.gives in
      record {
        answer = ap₂ (λ (v : Lightpath) (k : ℕ). admitted v.wavelength k) h.path h.moves ∙ ap (λ (z : Reply). z.answer) y;
        setting = h.setting;
        standing = h.standing ∙ ap (λ (z : Reply). z.after) y;
        puts =
            ap₂ (λ (es : List Retuning) (v : Lightpath). change_over es ++ (light v.wavelength v.source v.destination ∷ [])) h.chain_changes h.path
            ∙ (sym (put_orders L.group Q new) ∙ ap (λ (z : Reply). map put (written z.orders)) y);
        orders = h.orders ∙ ap (λ (z : Reply). rewritten z.orders o) y;
        room = h.room;
      }

  pub accepted_booked : verdict (admit_questions (parts_in b) room (standing_in b) walk n s d limit) ≡ 0 → (chain : List Session) (p q w : ℕ) → chain ≡ (planned (parts_in b) (standing_in b) s d).moving → p ≡ (planned (parts_in b) (standing_in b) s d).p → q ≡ (planned (parts_in b) (standing_in b) s d).q → w ≡ (planned (parts_in b) (standing_in b) s d).gives
      → Carried chain p q (new_session n s d w) b b' o o' x → Booked (admit (parts_in b) room (standing_in b) walk n s d limit) (admit_answer (Ok x)) (told changes (Ok x)) b b' o o'
  accepted_booked e chain p q w hc hp hq hw h =
      let Q : Plan = planned (parts_in b) (standing_in b) s d in
      by_plan e
      (subst (λ (z : List Session). Carried z Q.p Q.q (new_session n s d Q.gives) b b' o o' x) hc
      (subst (λ (z : ℕ). Carried chain z Q.q (new_session n s d Q.gives) b b' o o' x) hp
      (subst (λ (z : ℕ). Carried chain p z (new_session n s d Q.gives) b b' o o' x) hq
      (subst (λ (z : ℕ). Carried chain p q (new_session n s d z) b b' o o' x) hw h))))

-- ---- an admission that was prepared over so many places for orders

module _ (b : Book) (places : ℕ) (walk : List ℕ) (d : Demand) (limit : ℕ) (new : List ℕ) (r : Course)
    (m : Prepared (parts_in b) (record { orders = places; rows = 0 }) (standing_in b) walk d.number d.source d.destination limit new (Ok r)) where
  abbrev Q : Plan
  Q = planned (parts_in b) (standing_in b) d.source d.destination

  abbrev room : Room
  room = record { orders = places; rows = 0 }

  sound : Sound (parts_in b) (standing_in b)
  sound = sound_from (parts_in b) (standing_in b) b.sound

  few : r.moves + 1 ≤ b.setting.span
  few = moves_few (parts_in b) b.setting.grouped b.setting.small.1 b.setting.small.2 room (standing_in b) sound walk d.number d.source d.destination limit m.0 new r m.1

  pub codes_few : length (take (r.begin + r.moves - r.begin) (drop r.begin new)) ≤ 32
  codes_few = omega (arith, part_long (parts_in b) b.setting.grouped b.setting.small.1 b.setting.small.2 room (standing_in b) sound walk d.number d.source d.destination limit m.0 new r m.1, few, b.setting.small)

  pub found_is : (found : List Session) → found ≡ map (session_at (parts_in b) (standing_in b)) (take (r.begin + r.moves - r.begin) (drop r.begin new)) → found ≡ (planned (parts_in b) (standing_in b) d.source d.destination).moving
  found_is found e = chain_is (parts_in b) b.setting.grouped b.setting.small.1 b.setting.small.2 room (standing_in b) sound walk d.number d.source d.destination limit m.0 new r m.1 found _ refl e

  pub walked_so : (n : ℕ) → places ≡ n → new ≡ (admit (parts_in b) (record { orders = n; rows = 0 }) (standing_in b) walk d.number d.source d.destination limit).walk
  walked_so n e =
      subst (λ (k : ℕ). new ≡ (admit (parts_in b) (record { orders = k; rows = 0 }) (standing_in b) walk d.number d.source d.destination limit).walk) e
      (m.1.walk ∙ sym (ap (λ (y : Reply). y.walk) (accepted (parts_in b) room (standing_in b) walk d.number d.source d.destination limit m.0)))

  module _ (chain : List Session) (is : chain ≡ (planned (parts_in b) (standing_in b) d.source d.destination).moving) where
    moved_so : length chain ≡ r.moves
    moved_so = ap length is ∙ sym m.1.moves

    pub chain_few : length chain ≤ 32
    chain_few = omega (arith, moved_so, few, b.setting.small)

    pub orders_fit : 2 * length chain + 1 ≤ places
    orders_fit = omega (arith, moved_so, few, admit_room (parts_in b) room (standing_in b) walk d.number d.source d.destination limit m.0)

    pub place_free : length (standing_in b) < 1024
    place_free = place_is (parts_in b) b.setting.grouped b.setting.small.1 b.setting.small.2 room (standing_in b) sound walk d.number d.source d.destination limit m.0 new r m.1

    pub stays_sound : sound_test (parts_in b) (new_session d.number d.source d.destination r.gives ∷ map (shift chain r.exchange.p r.exchange.q) (standing_in b)) ≡ true
    stays_sound = sound_is (parts_in b) b.setting.grouped b.setting.small.1 b.setting.small.2 room (standing_in b) sound walk d.number d.source d.destination limit m.0 new r m.1 chain is

    pub booked_so : (b' : Book) (o o' : Page Order) (x : Change) → places ≡ length o.places → Carried chain r.exchange.p r.exchange.q (new_session d.number d.source d.destination r.gives) b b' o o' x
        → Booked (admit (parts_in b) (record { orders = length o.places; rows = 0 }) (standing_in b) walk d.number d.source d.destination limit) (admit_answer (Ok x)) (told changes (Ok x)) b b' o o'
    booked_so b' o o' x e h =
        subst (λ (k : ℕ). Booked (admit (parts_in b) (record { orders = k; rows = 0 }) (standing_in b) walk d.number d.source d.destination limit) (admit_answer (Ok x)) (told changes (Ok x)) b b' o o') e
        (accepted_booked room walk d.number d.source d.destination limit b b' o o' x m.0 chain r.exchange.p r.exchange.q r.gives is m.1.p m.1.q m.1.gives h)
