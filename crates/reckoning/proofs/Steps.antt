-- One call keeps to the law: what it answers and what it leaves, from a start that is sound.
use Rattle.std.proofs.Common.{◌≡◌, ℕ, ◌+◌, ◌*◌, ◌<◌, Bool, true, cond, not, List, [], ◌∷◌, length, drop, Some, None, Option, sym, refl, ap, ◌∙◌, subst, inl, inr, arith}
use Rattle.std.proofs.lemmas.List.{take_at}
use Rattle.std.proofs.lemmas.Bool.{both_ways, eqb-true, eq-eqb, ne_eqb, not-true, not_from_false}
use Rattle.network.specs.Network.{Network, Grouped, Separate, Meeting}
use Rattle.network.proofs.Laws.{one_group}
use Rattle.plant.specs.Switch.{Switch}
use Rattle.reckoning.specs.declared.session.Session.{Session}
use Rattle.reckoning.specs.declared.order.Order.{Order}
use Rattle.reckoning.specs.declared.call.Call.{Call}
use Rattle.reckoning.specs.declared.call.Call.TheVariants.{Admit, Release, Quote, Where, List as Rows}
use Rattle.reckoning.specs.Lists.{In, Pairwise, first}
use Rattle.reckoning.specs.Parts.{Parts, parts_told}
use Rattle.reckoning.specs.Standing.{bears, borne, without}
use Rattle.reckoning.specs.Sheets.{rows_of}
use Rattle.reckoning.specs.Questions.{Room, verdict, numbered, where_questions, list_questions}
use Rattle.reckoning.specs.Calls.{Answer, found, listed, released, Reply, new_session, unchanged, judged, where_of, locate, list, is_admitted, is_released}
use Rattle.reckoning.specs.Laws.{Clear, Unlike, Sound, Meet, Carries, CarriedOut, written, retuned, Blocked}
use Rattle.sheet.specs.Sheets.{Page, records, rewritten}
use Rattle.reckoning.specs.Runs.{Moment, room_in, reply_in, Answered, OfAdmit, OfRelease, OfQuote, OfWhere, Before, OfList, OfCall, PortsServe, Step}
use Rattle.reckoning.proofs.Pigeon.{in_kept, kept_in, pairwise_weaker}
use Rattle.reckoning.proofs.Sessions.{first_found, first_hit, any_hit}
use Rattle.reckoning.proofs.Exchange.{same_number}
use Rattle.reckoning.proofs.Verdicts.{went_on, judged_by}
use Rattle.reckoning.proofs.Admissions.{moves, limit_serves}
use Rattle.reckoning.proofs.Blocking.{Shared, Common, blocked_then, blocked_when}
use Rattle.reckoning.proofs.Quotes.{quoted_if, admitted_if}
use Rattle.reckoning.proofs.Releases.{released_says}
use Rattle.reckoning.proofs.Rows.{row_of, of_row, rows_sorted, rows_length}
use Rattle.reckoning.proofs.Runs.{sound_reply, reply_serves, reply_tally, lit_count}
use Rattle.reckoning.proofs.Ports.{ports_reply}
use Rattle.reckoning.proofs.ChangeOvers.{none_refused}

-- ---- the network behind the parts

pub record Behind (n : Network) (L : Parts) : Type 0 where
  pub low_group : (s : ℕ) → s < L.sites → L.group s < L.groups
  pub shared : Shared L n.lights
  pub common : Meeting n → Common L n.lights

pub behind : (n : Network) → Grouped n → Separate n → (L : Parts) → (t : Switch) × (L ≡ parts_told n t) → Behind n L
behind n grouped separate L told = subst (Behind n) (sym told.1) (record { low_group = grouped; shared = one_group n separate; common = λ meeting. meeting })

pub unblinded : (n : Network) (L : Parts) → Behind n L → (ss : List Session) → Sound L ss → Pairwise (λ s t. Meet n.lights s t → s.wavelength ≡ t.wavelength → ⊥) ss
unblinded n L f ss k =
    pairwise_weaker (Clear L.group) (λ s t. Meet n.lights s t → s.wavelength ≡ t.wavelength → ⊥) ss
    (λ s t i j clear m e. elim (f.shared s.source s.destination t.source t.destination m.0 m.1 m.2) [ inl d ↦ (clear e).0 d | inr d ↦ (clear e).1 d ])
    k.clear

-- ---- sheets

on_page : {X : Type 0} (s s' : Page X) (xs : List X) → s' ≡ rewritten (Some xs) s → (s'.count ≡ length xs) × (records s' ≡ xs)
on_page {X} s s' xs e = (ap (λ (p : Page X). p.count) e, ap (λ (p : Page X). records p) e ∙ take_at xs (drop (length xs) s.places) (length xs) refl)

orders_on_page : (o : Option (List Order)) (s s' : Page Order) → s' ≡ rewritten o s → 0 < length (written o) → (s'.count ≡ length (written o)) × (records s' ≡ written o)
orders_on_page None s s' e l = let z : ⊥ = omega arith in absurd z
orders_on_page (Some os) s s' e l = on_page s s' os e

-- ---- what is found, and what is listed

found_is : (x : Session) (n w s d : ℕ) → x.number ≡ n → found x.wavelength x.source x.destination ≡ found w s d → new_session n s d w ≡ x
found_is x n w s d e a = let same : new_session n s d w ≡ new_session x.number x.source x.destination x.wavelength = cc in same

found_of : (ss : List Session) (n w s d : ℕ) (o : Option Session) → ((x : Session) → o ≡ Some x → In x ss × (bears n x ≡ true)) → where_of o ≡ found w s d → In (new_session n s d w) ss
found_of ss n w s d None h a = let no : ⊥ = cc in absurd no
found_of ss n w s d (Some x) h a =
    let i = h x refl in
    subst (λ (y : Session). In y ss) (sym (found_is x n w s d (eqb-true _ _ i.1) a)) i.0

found_says : (L : Parts) (ss : List Session) (walk : List ℕ) (n w s d : ℕ) → (locate L ss walk n).answer ≡ found w s d → In (new_session n s d w) ss
found_says L ss walk n w s d =
    judged_by (λ (r : Reply). r.answer ≡ found w s d → In (new_session n s d w) ss) ss walk (verdict (where_questions L ss n)) (unchanged ss walk (where_of (first (bears n) ss)))
    (λ _. found_of ss n w s d (first (bears n) ss) (first_found (bears n) ss)) (λ _ _ a. let no : ⊥ = cc in absurd no)

-- numbers differ, so the first session that bears it is the only one
found_there : (L : Parts) (ss : List Session) → Pairwise Unlike ss → (walk : List ℕ) (n : ℕ) → verdict (numbered L n) ≡ 0 →
    (s : Session) → In s ss → s.number ≡ n → (locate L ss walk n).answer ≡ found s.wavelength s.source s.destination
found_there L ss u walk n e s i d =
    let hit : bears n s ≡ true = eq-eqb s.number n d in
    let passes : verdict (where_questions L ss n) ≡ 0 =
    went_on (numbered L n) ((borne ss n, 15) ∷ []) (omega arith) e ∙ ap (λ (b : Bool). cond b 0 15) (any_hit (bears n) ss s i hit)
    in
    let y = first_hit (bears n) ss s i hit in
    let z = first_found (bears n) ss y.0 y.1 in
    let same : y.0 ≡ s = same_number ss u y.0 s z.0 i (eqb-true _ _ z.1 ∙ sym d) in
    ap (λ (v : ℕ). (judged ss walk v (unchanged ss walk (where_of (first (bears n) ss)))).answer) passes
    ∙ ap where_of (y.1 ∙ ap Some same)

module _ (L : Parts) (room : Room) (ss : List Session) (walk : List ℕ) (k : ℕ) where
  abbrev listing : Reply
  listing = record { answer = listed (length ss); orders = None; rows = Some (rows_of L ss); walk = walk; after = ss }

  listed_says : (list L room ss walk).answer ≡ listed k → (k ≡ length ss) × ((list L room ss walk).rows ≡ Some (rows_of L ss))
  listed_says =
      judged_by (λ (r : Reply). r.answer ≡ listed k → (k ≡ length ss) × (r.rows ≡ Some (rows_of L ss))) ss walk (verdict (list_questions L room ss)) listing
      (λ _ a. let same : k ≡ length ss = cc in (same, refl)) (λ _ _ a. let no : ⊥ = cc in absurd no)

-- ---- the call

module _ (n : Network) (L : Parts) (f : Behind n L) (m m' : Moment) (k : Sound L m.standing) (h : Carries L m.standing m.plant) where
  module _ (c : Call) (a : Answer) (x : Answered L c a m m') where
    -- each order is accepted, and the plant comes to carry the sessions
    served : CarriedOut (λ t. t ≡ m'.plant) m.plant [] (written (reply_in L m c).orders) × Carries L (reply_in L m c).after m'.plant
    served =
        none_refused (Carries L (reply_in L m c).after) (written (reply_in L m c).orders) m.plant m'.plant
        (reply_serves L f.low_group (room_in m) m.standing k m.walk c m.plant h) x.plant

    on_sheet : 0 < length (written (reply_in L m c).orders) → (m'.orders.count ≡ length (written (reply_in L m c).orders)) × CarriedOut (λ t. t ≡ m'.plant) m.plant [] (records m'.orders)
    on_sheet l =
        let s = orders_on_page (reply_in L m c).orders m.orders m'.orders x.orders l in
        (s.0, subst (λ (os : List Order). CarriedOut (λ t. t ≡ m'.plant) m.plant [] os) (sym s.1) served.0)

    pub sound_after : Sound L m'.standing
    sound_after = subst (Sound L) (sym x.standing) (sound_reply L f.low_group (room_in m) m.standing k m.walk c)

    pub carried_after : Carries L m'.standing m'.plant
    carried_after = subst (λ (ss : List Session). Carries L ss m'.plant) (sym x.standing) served.1

    pub tally_after : length m'.standing + cond (is_released a) 1 0 ≡ length m.standing + cond (is_admitted a) 1 0
    tally_after = rw (x.standing, x.answer) (reply_tally L f.low_group (room_in m) m.standing k m.walk c)

  of_admit : (number source destination limit : ℕ) (a : Answer) → Answered L (Admit number source destination limit) a m m' → OfAdmit n L number source destination limit a m m'
  of_admit number source destination limit a x =
      record {
        blocked_then = λ meeting b.
            blocked_then L f.low_group n.lights (room_in m) m.standing k m.walk number source destination limit (f.common meeting) (subst Blocked x.answer b);
        blocked_when = λ e none.
            subst Blocked (sym x.answer) (blocked_when L f.low_group n.lights (room_in m) m.standing k m.walk number source destination limit f.shared e none);
        accepted = λ w j e.
            let r = moves L f.low_group (room_in m) m.standing k m.walk number source destination limit w j (sym x.answer ∙ e) in
            let s = on_sheet (Admit number source destination limit) a x (omega (arith, r.orders)) in
            let after : (reply_in L m (Admit number source destination limit)).after ≡ m'.standing = sym x.standing in
            record {
              stands = subst (λ (ss : List Session). In (new_session number source destination w) ss) after r.stands;
              others = λ y i. let o = r.others y i in (o.0, subst (λ (ss : List Session). In o.0 ss) after o.1, o.2);
              only = λ y i. r.only y (subst (λ (ss : List Session). In y ss) x.standing i);
              moves_told = ap (retuned m.standing) x.standing ∙ r.told;
              moves_few = r.few;
              orders_counted = s.0 ∙ r.orders;
              orders_safe = s.1;
            };
        limit_serves = λ l e. limit_serves L f.low_group (room_in m) m.standing k m.walk number source destination limit l (sym x.answer ∙ e);
      }

  of_release : (number : ℕ) (a : Answer) → Answered L (Release number) a m m' → (w : ℕ) → a ≡ released w → OfRelease number w m m'
  of_release number a x w e =
      let r = released_says L (room_in m) m.standing m.walk number w (sym x.answer ∙ e) in
      let left : m'.standing ≡ without m.standing number = x.standing ∙ r.after in
      record {
        stood = (r.gone, r.stood, r.number, r.wavelength);
        others = λ s i ne.
            subst (λ (ss : List Session). In s ss) (sym left) (kept_in (λ y. not (bears number y)) s m.standing i (not_from_false _ (ne_eqb s.number number ne)));
        only = λ s i.
            let j = in_kept (λ y. not (bears number y)) s m.standing (subst (λ (ss : List Session). In s ss) left i) in
            (j.0, λ d. both_ways _ (not-true _ j.1) (eq-eqb s.number number d));
        orders_safe = (on_sheet (Release number) a x (omega (arith, r.ordered))).1;
      }

  of_quote : (number source destination : ℕ) (a : Answer) → Answered L (Quote number source destination) a m m' → OfQuote L number source destination a m
  of_quote number source destination a x =
      record {
        -- they are those of an admission with ample room
        moves_few = λ w j e.
            let ample : Room = record { orders = 2 * L.plant_groups; rows = 0 } in
            let so = admitted_if L f.low_group ample m.standing k m.walk number source destination j (omega arith) w j (omega arith) (sym x.answer ∙ e) in
            (moves L f.low_group ample m.standing k m.walk number source destination j w j so).few;
        admitted_so = λ room limit w j large high e.
            admitted_if L f.low_group room m.standing k m.walk number source destination limit large w j high (sym x.answer ∙ e);
        quoted_so = λ room limit w j e. x.answer ∙ quoted_if L f.low_group room m.standing k m.walk number source destination limit w j e;
      }

  of_where : (number : ℕ) (a : Answer) → Answered L (Where number) a m m' → OfWhere L number a m
  of_where number a x =
      record {
        stands = λ w s d e. found_says L m.standing m.walk number w s d (sym x.answer ∙ e);
        finds = λ e s i d. x.answer ∙ found_there L m.standing k.unlike m.walk number e s i d;
      }

  of_list : (a : Answer) → Answered L Rows a m m' → (j : ℕ) → a ≡ listed j → OfList L j m m'
  of_list a x j e =
      let r = listed_says L (room_in m) m.standing m.walk j (sym x.answer ∙ e) in
      let s = on_page m.rows m'.rows (rows_of L m.standing) (x.rows ∙ ap (λ (o : Option (List Session)). rewritten o m.rows) r.1) in
      record {
        count = (r.0, s.0 ∙ rows_length L m.standing k ∙ sym r.0);
        each = λ y i. subst (λ (ss : List Session). In y ss) (sym s.1) (row_of L m.standing k y i);
        only = λ y i. of_row L m.standing k y (subst (λ (ss : List Session). In y ss) s.1 i);
        sorted = subst (Pairwise (Before L)) (sym s.1) (rows_sorted L m.standing k);
      }

  of_call : (c : Call) (a : Answer) → Answered L c a m m' → OfCall n L c a m m'
  of_call (Admit number source destination limit) a x = of_admit number source destination limit a x
  of_call (Release number) a x = of_release number a x
  of_call (Quote number source destination) a x = of_quote number source destination a x
  of_call (Where number) a x = of_where number a x
  of_call Rows a x = of_list a x

  pub step : (c : Call) (a : Answer) → Answered L c a m m' → Step n L c a m m'
  step c a x =
      let sound = sound_after c a x in
      let carried = carried_after c a x in
      record {
        answered = x;
        carried = carried;
        unblinded = unblinded n L f m'.standing sound;
        lit_each = lit_count L m'.standing sound m'.plant carried;
        ports_kept = λ p. subst (PortsServe L) (sym x.standing) (ports_reply L (room_in m) m.standing m.walk p c);
        of_call = of_call c a x;
      }
