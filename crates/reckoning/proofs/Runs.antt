-- What every call of a run keeps: sound sessions, orders that serve, and a tally of what is admitted and released.
use Rattle.std.proofs.Common.{◌≡◌, ℕ, zero, suc, ◌+◌, ◌<◌, false, cond, List, [], length, Some, None, Option, sym, refl, subst, arith}
use Rattle.std.proofs.lemmas.List.{length-map}
use Rattle.plant.specs.Switch.{Switch}
use Rattle.reckoning.specs.declared.session.Session.{Session}
use Rattle.reckoning.specs.declared.call.Call.{Call}
use Rattle.reckoning.specs.declared.call.Call.TheVariants.{Admit, Release, Quote, Where, List as Rows}
use Rattle.reckoning.specs.Lists.{first}
use Rattle.reckoning.specs.Parts.{Parts}
use Rattle.reckoning.specs.Standing.{bears}
use Rattle.reckoning.specs.Plans.{planned, move}
use Rattle.reckoning.specs.Sheets.{walked, rows_of}
use Rattle.reckoning.specs.Questions.{Room, verdict, admit_questions, quote_questions, where_questions, list_questions}
use Rattle.reckoning.specs.Calls.{quoted, listed, Reply, unchanged, judged, is_admitted, is_released, where_of, reply}
use Rattle.reckoning.specs.Laws.{Sound, Carries, CarriedOut, written, lightpaths}
use Rattle.reckoning.proofs.Sessions.{Colouring}
use Rattle.reckoning.proofs.Lightpaths.{one_for_each}
use Rattle.reckoning.proofs.Admissions.{colouring, carrying, answered, sound_admit, admit_serves}
use Rattle.reckoning.proofs.Releases.{sound_release, release_tally, release_serves}

pub sound_none : (L : Parts) → Sound L []
sound_none L = record { clear = tt; unlike = tt; low = λ s i. absurd i; grouped = λ s i. absurd i; placed = λ s i. absurd i }

-- ---- calls that change no session

-- neither accepted nor refused does it write an order, admit or release
pub record Still (ss : List Session) (r : Reply) : Type 0 where
  pub after : r.after ≡ ss
  pub orders : r.orders ≡ None
  pub not_admitted : is_admitted r.answer ≡ false
  pub not_released : is_released r.answer ≡ false

still_judged : (ss : List Session) (walk : List ℕ) (v : ℕ) (r : Reply) → Still ss r → Still ss (judged ss walk v r)
still_judged ss walk zero r h = h
still_judged ss walk (suc j) r h = record { after = refl; orders = refl; not_admitted = refl; not_released = refl }

still_where : (ss : List Session) (walk : List ℕ) (o : Option Session) → Still ss (unchanged ss walk (where_of o))
still_where ss walk None = record { after = refl; orders = refl; not_admitted = refl; not_released = refl }
still_where ss walk (Some s) = record { after = refl; orders = refl; not_admitted = refl; not_released = refl }

module _ (L : Parts) (room : Room) (ss : List Session) (walk : List ℕ) where
  pub still_quote : (n s d : ℕ) → Still ss (reply L room ss walk (Quote n s d))
  still_quote n s d =
      still_judged ss walk (verdict (quote_questions L ss walk n s d))
      (unchanged ss (walked L.group (planned L ss s d) walk) (quoted (planned L ss s d).gives (length (planned L ss s d).moving)))
      (record { after = refl; orders = refl; not_admitted = refl; not_released = refl })

  pub still_locate : (n : ℕ) → Still ss (reply L room ss walk (Where n))
  still_locate n = still_judged ss walk (verdict (where_questions L ss n)) (unchanged ss walk (where_of (first (bears n) ss))) (still_where ss walk (first (bears n) ss))

  pub still_list : Still ss (reply L room ss walk Rows)
  still_list =
      still_judged ss walk (verdict (list_questions L room ss)) (record { answer = listed (length ss); orders = None; rows = Some (rows_of L ss); walk = walk; after = ss })
      (record { after = refl; orders = refl; not_admitted = refl; not_released = refl })

still_serves : (L : Parts) (ss : List Session) (r : Reply) → Still ss r → (t : Switch) → Carries L ss t → CarriedOut (Carries L r.after) t [] (written r.orders)
still_serves L ss r h t c = rw (h.orders, h.after) c

-- ---- one call

module _ (L : Parts) (low_group : (s : ℕ) → s < L.sites → L.group s < L.groups) (room : Room) (ss : List Session) (k : Sound L ss) (walk : List ℕ) where
  pub sound_reply : (c : Call) → Sound L (reply L room ss walk c).after
  sound_reply (Admit n s d limit) = sound_admit L low_group room ss k walk n s d limit
  sound_reply (Release n) = sound_release L room ss k walk n
  sound_reply (Quote n s d) = subst (Sound L) (sym (still_quote L room ss walk n s d).after) k
  sound_reply (Where n) = subst (Sound L) (sym (still_locate L room ss walk n).after) k
  sound_reply Rows = subst (Sound L) (sym (still_list L room ss walk).after) k

  pub reply_serves : (c : Call) (t : Switch) → Carries L ss t → CarriedOut (Carries L (reply L room ss walk c).after) t [] (written (reply L room ss walk c).orders)
  reply_serves (Admit n s d limit) = admit_serves L low_group room ss k walk n s d limit
  reply_serves (Release n) = release_serves L room ss k walk n
  reply_serves (Quote n s d) = still_serves L ss (reply L room ss walk (Quote n s d)) (still_quote L room ss walk n s d)
  reply_serves (Where n) = still_serves L ss (reply L room ss walk (Where n)) (still_locate L room ss walk n)
  reply_serves Rows = still_serves L ss (reply L room ss walk Rows) (still_list L room ss walk)

  -- what is gained and lost
  abbrev Tallied : Reply → Type 0
  Tallied r = length r.after + cond (is_released r.answer) 1 0 ≡ length ss + cond (is_admitted r.answer) 1 0

  still_tally : (r : Reply) → Still ss r → Tallied r
  still_tally r h = rw (h.after, h.not_admitted, h.not_released)

  pub reply_tally : (c : Call) → Tallied (reply L room ss walk c)
  reply_tally (Admit n s d limit) = go (verdict (admit_questions L room ss walk n s d limit))
    where
      go : (v : ℕ) → Tallied (answered L low_group room ss k walk n s d limit v)
      go zero = omega (arith, length-map ss (move (planned L ss s d)))
      go (suc j) = refl
  reply_tally (Release n) = let h = release_tally L room ss k walk n in rw h.1 (omega (arith, h.0))
  reply_tally (Quote n s d) = still_tally (reply L room ss walk (Quote n s d)) (still_quote L room ss walk n s d)
  reply_tally (Where n) = still_tally (reply L room ss walk (Where n)) (still_locate L room ss walk n)
  reply_tally Rows = still_tally (reply L room ss walk Rows) (still_list L room ss walk)

pub lit_count : (L : Parts) (ss : List Session) → Sound L ss → (t : Switch) → Carries L ss t → lightpaths t ≡ length ss
lit_count L ss k t c =
    one_for_each L.group t.waves t.groups ss
    (subst (λ (W : ℕ). Colouring L.group W t.groups ss) (sym c.waves) (subst (λ (G : ℕ). Colouring L.group L.wavelengths G ss) (sym c.groups) (colouring L ss k)))
    t.hears (carrying L ss t c)
