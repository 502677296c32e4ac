-- What the questions of an admission give once they are answered yes, and the reply on each way.
use Rattle.std.proofs.Common.{◌≡◌, ℕ, zero, suc, ◌-◌, ◌*◌, ◌<◌, ◌≤◌, Bool, true, cond, eqb, leb, List, [], ◌∷◌, ◌++◌, length, sym, ap, ◌∙◌, subst, arith}
use Rattle.std.specs.List.{AllByRecursion}
use Rattle.std.proofs.lemmas.Bool.{and_parts, eqb-true, ltb-true, leb-true, le-leb, lt-leb, ne_eqb}
use Rattle.reckoning.specs.declared.session.Session.{Session}
use Rattle.reckoning.specs.Calls.{Reply, refused, unchanged, judged, admission, admit}
use Rattle.reckoning.specs.Parts.{Parts}
use Rattle.reckoning.specs.Plans.{planned}
use Rattle.reckoning.specs.Questions.{Room, Question, verdict, loads, admit_before, admit_questions}
use Rattle.reckoning.specs.Sheets.{walked}
use Rattle.reckoning.specs.Standing.{up_load, down_load}
use Rattle.reckoning.proofs.Verdicts.{passed, never, passed_on, stopped}
use Rattle.book.specs.declared.refusal.CallRefusal.{CallRefusal}
use Rattle.book.specs.declared.course.Course.{Course}
use Rattle.book.specs.Courses.{Open, Chosen}
use Rattle.book.specs.Refusals.{refusal_number}
use Rattle.book.proofs.Asking.{refusal_counts}

-- what is chosen between groups is chosen between sites of these groups
pub at_groups : (L : Parts) (ss : List Session) (s d a b : ℕ) (old new : List ℕ) (r : Course) → a ≡ L.group s → b ≡ L.group d → Chosen L ss a b old new r → Chosen L ss (L.group s) (L.group d) old new r
at_groups L ss s d a b old new r e f h = subst (λ (x : ℕ). Chosen L ss x (L.group d) old new r) e (subst (λ (x : ℕ). Chosen L ss a x old new r) f h)

-- what the questions of an admission and of a quote give alike, once they are answered yes
pub record Fitting (L : Parts) (ss : List Session) (walk : List ℕ) (s d : ℕ) : Type 0 where
  pub source : s < L.sites
  pub destination : d < L.sites
  pub groups : L.groups ≡ L.plant_groups
  pub up : up_load L.group ss L.wavelengths (L.group s) < L.wavelengths
  pub down : down_load L.group ss L.wavelengths (L.group d) < L.wavelengths
  pub room : 2 * L.plant_groups - 2 ≤ length walk

module _ (L : Parts) (ss : List Session) (walk : List ℕ) (s d : ℕ) (f : Fitting L ss walk s d) (low : (x : ℕ) → x < L.sites → L.group x < L.groups) where
  pub opening : Open L ss (L.group s) (L.group d) walk
  opening = record { out = omega (arith, low s f.source, f.groups); into = omega (arith, low d f.destination, f.groups); up = f.up; down = f.down; room = f.room }

  -- for groups that are told
  pub opening_at : (a b : ℕ) → a ≡ L.group s → b ≡ L.group d → Open L ss a b walk
  opening_at a b e h = subst (λ (x : ℕ). Open L ss x b walk) (sym e) (subst (λ (x : ℕ). Open L ss (L.group s) x walk) (sym h) opening)

module _ (L : Parts) (room : Room) (ss : List Session) (walk : List ℕ) (n s d limit : ℕ) where
  -- all but the limit
  abbrev pub asked : List Question
  asked = admit_before L room ss walk n s d ++ loads L ss s d

  module _ (e : verdict (admit_before L room ss walk n s d ++ loads L ss s d) ≡ 0) where
    all : AllByRecursion (λ (x : Question). x.0 ≡ true) (admit_before L room ss walk n s d ++ loads L ss s d)
    all = passed (admit_before L room ss walk n s d ++ loads L ss s d) (omega arith) e

    pub fitting : Fitting L ss walk s d
    fitting =
        let k = and_parts _ _ all.1.1.1.0 in
        record {
          source = ltb-true _ _ k.0;
          destination = ltb-true _ _ k.1;
          groups = eqb-true _ _ (and_parts _ _ all.0).0;
          up = ltb-true _ _ all.1.1.1.1.1.1.1.1.1.1.0;
          down = ltb-true _ _ all.1.1.1.1.1.1.1.1.1.1.1.0;
          room = leb-true _ _ all.1.1.1.1.1.1.1.0;
        }

    at_limit : verdict (admit_questions L room ss walk n s d limit) ≡ cond (leb (length (planned L ss s d).moving) limit) 0 25
    at_limit = passed_on (admit_before L room ss walk n s d ++ loads L ss s d) ((leb (length (planned L ss s d).moving) limit, 25) ∷ []) all

    pub few_moves : length (planned L ss s d).moving ≤ limit → verdict (admit_questions L room ss walk n s d limit) ≡ 0
    few_moves l = at_limit ∙ ap (λ (b : Bool). cond b 0 25) (le-leb _ _ l)

    pub many_moves : (new : List ℕ) → new ≡ walked L.group (planned L ss s d) walk → limit < length (planned L ss s d).moving → admit L room ss walk n s d limit ≡ unchanged ss new (refused 25)
    many_moves new h l =
        ap (λ (v : ℕ). judged ss (cond (eqb v 25) (walked L.group (planned L ss s d) walk) walk) v (admission L ss walk n s d (planned L ss s d))) (at_limit ∙ ap (λ (b : Bool). cond b 0 25) (lt-leb _ _ l))
        ∙ ap (λ (w : List ℕ). unchanged ss w (refused 25)) (sym h)

  judged_refused : (v : ℕ) (x : CallRefusal) → refusal_number x ≡ v → (v ≡ 25 → ⊥) → judged ss (cond (eqb v 25) (walked L.group (planned L ss s d) walk) walk) v (admission L ss walk n s d (planned L ss s d)) ≡ unchanged ss walk (refused (refusal_number x))
  judged_refused zero x h k = absurd (refusal_counts x h)
  judged_refused (suc j) x h k =
      ap (λ (b : Bool). unchanged ss (cond b (walked L.group (planned L ss s d) walk) walk) (refused (suc j))) (ne_eqb (suc j) 25 k)
      ∙ ap (λ (v : ℕ). unchanged ss walk (refused v)) (sym h)

  pub refused_before : (x : CallRefusal) → refusal_number x ≡ verdict (admit_before L room ss walk n s d ++ loads L ss s d) → admit L room ss walk n s d limit ≡ unchanged ss walk (refused (refusal_number x))
  refused_before x h =
      let qs : List Question = admit_before L room ss walk n s d ++ loads L ss s d in
      let whole = h ∙ stopped qs ((leb (length (planned L ss s d).moving) limit, 25) ∷ []) (λ z. refusal_counts x (h ∙ z)) in
      judged_refused (verdict (admit_questions L room ss walk n s d limit)) x whole (λ z. never 25 (omega arith) qs (omega arith) (sym h ∙ (whole ∙ z)))

  pub admit_room : verdict (admit_questions L room ss walk n s d limit) ≡ 0 → 2 * L.plant_groups - 1 ≤ room.orders
  admit_room e = let all = passed (admit_questions L room ss walk n s d limit) (omega arith) e in leb-true _ _ all.1.1.1.1.1.1.0

  pub accepted : verdict (admit_questions L room ss walk n s d limit) ≡ 0 → admit L room ss walk n s d limit ≡ admission L ss walk n s d (planned L ss s d)
  accepted e = ap (λ (v : ℕ). judged ss (cond (eqb v 25) (walked L.group (planned L ss s d) walk) walk) v (admission L ss walk n s d (planned L ss s d))) e

-- the reply to a call that is judged by its verdict
pub judged_no : (ss : List Session) (walk : List ℕ) (v : ℕ) (y : Reply) (x : CallRefusal) → refusal_number x ≡ v → judged ss walk v y ≡ unchanged ss walk (refused (refusal_number x))
judged_no ss walk zero y x h = absurd (refusal_counts x h)
judged_no ss walk (suc j) y x h = ap (λ (v : ℕ). unchanged ss walk (refused v)) (sym h)

pub judged_yes : (ss : List Session) (walk : List ℕ) (v : ℕ) (y : Reply) → 0 ≡ v → judged ss walk v y ≡ y
judged_yes ss walk v y h = ap (λ (u : ℕ). judged ss walk u y) (sym h)
