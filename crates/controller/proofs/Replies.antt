-- Which sheets the reply to a call leaves as they are.
use Rattle.std.proofs.Common.{◌≡◌, ℕ, zero, suc, cond, eqb, List, length, Some, None, Option, refl}
use Rattle.reckoning.specs.declared.session.Session.{Session}
use Rattle.reckoning.specs.Calls.{Reply, quoted, listed, unchanged, judged, admission, admit, quote, release_of, release, where_of, locate, list}
use Rattle.reckoning.specs.Lists.{first}
use Rattle.reckoning.specs.Parts.{Parts}
use Rattle.reckoning.specs.Plans.{planned}
use Rattle.reckoning.specs.Questions.{Room, verdict, admit_questions, quote_questions, release_questions, where_questions, list_questions}
use Rattle.reckoning.specs.Sheets.{rows_of, walked}
use Rattle.reckoning.specs.Standing.{bears}

module _ (L : Parts) (room : Room) (ss : List Session) (walk : List ℕ) where
  judged_rows : (w : List ℕ) (v : ℕ) (y : Reply) → y.rows ≡ None → (judged ss w v y).rows ≡ None
  judged_rows w zero y h = h
  judged_rows w (suc j) y h = refl

  judged_walk : (v : ℕ) (y : Reply) → y.walk ≡ walk → (judged ss walk v y).walk ≡ walk
  judged_walk zero y h = h
  judged_walk (suc j) y h = refl

  pub admit_rows : (n s d limit : ℕ) → (admit L room ss walk n s d limit).rows ≡ None
  admit_rows n s d limit =
      let v = verdict (admit_questions L room ss walk n s d limit) in
      judged_rows (cond (eqb v 25) (walked L.group (planned L ss s d) walk) walk) v (admission L ss walk n s d (planned L ss s d)) refl

  pub quote_rows : (n s d : ℕ) → (quote L ss walk n s d).rows ≡ None
  quote_rows n s d =
      judged_rows walk (verdict (quote_questions L ss walk n s d)) (unchanged ss (walked L.group (planned L ss s d) walk) (quoted (planned L ss s d).gives (length (planned L ss s d).moving))) refl

  of_rows : (o : Option Session) → (release_of L ss walk o).rows ≡ None
  of_rows None = refl
  of_rows (Some s) = refl

  of_walk : (o : Option Session) → (release_of L ss walk o).walk ≡ walk
  of_walk None = refl
  of_walk (Some s) = refl

  pub release_rows : (n : ℕ) → (release L room ss walk n).rows ≡ None
  release_rows n = judged_rows walk (verdict (release_questions L room ss n)) (release_of L ss walk (first (bears n) ss)) (of_rows (first (bears n) ss))

  pub release_walk : (n : ℕ) → (release L room ss walk n).walk ≡ walk
  release_walk n = judged_walk (verdict (release_questions L room ss n)) (release_of L ss walk (first (bears n) ss)) (of_walk (first (bears n) ss))

  pub where_rows : (n : ℕ) → (locate L ss walk n).rows ≡ None
  where_rows n = judged_rows walk (verdict (where_questions L ss n)) (unchanged ss walk (where_of (first (bears n) ss))) refl

  pub where_walk : (n : ℕ) → (locate L ss walk n).walk ≡ walk
  where_walk n = judged_walk (verdict (where_questions L ss n)) (unchanged ss walk (where_of (first (bears n) ss))) refl

  pub list_walk : (list L room ss walk).walk ≡ walk
  list_walk = judged_walk (verdict (list_questions L room ss)) (record { answer = listed (length ss); orders = None; rows = Some (rows_of L ss); walk = walk; after = ss }) refl
