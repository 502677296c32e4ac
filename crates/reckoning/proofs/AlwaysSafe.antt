-- Every run of calls keeps the laws.
use Rattle.std.proofs.Common.{◌≡◌, ℕ, ◌+◌, ◌<◌, cond, List, [], ◌∷◌, length, refl, arith}
use Rattle.std.proofs.lemmas.List.Sums.{sum_by-cons}
use Rattle.network.specs.Network.{Network, Grouped, Separate}
use Rattle.plant.specs.Switch.{Switch}
use Rattle.reckoning.specs.declared.session.Session.{Session}
use Rattle.reckoning.specs.declared.call.Call.{Call}
use Rattle.reckoning.specs.Parts.{Parts, parts_told}
use Rattle.reckoning.specs.Questions.{Room}
use Rattle.reckoning.specs.Calls.{Reply, is_admitted, is_released, reply, replies, standing_after, admissions, releases}
use Rattle.reckoning.specs.Laws.{Sound, Safe, AlwaysSafe}
use Rattle.reckoning.proofs.Admissions.{moves, limit_serves}
use Rattle.reckoning.proofs.Blocking.{blocked_then, blocked_when}
use Rattle.reckoning.proofs.Quotes.{quoted_if, admitted_if}
use Rattle.reckoning.proofs.Rows.{row_of, rows_length}
use Rattle.reckoning.proofs.Runs.{sound_none, sound_reply, reply_serves, reply_tally, lit_count}
use Rattle.reckoning.proofs.Steps.{Behind, behind, unblinded}

module _ (L : Parts) (low_group : (s : ℕ) → s < L.sites → L.group s < L.groups) (room : Room) where
  pub sound_run : (ss : List Session) → Sound L ss → (walk : List ℕ) (cs : List Call) → Sound L (standing_after ss (replies L room ss walk cs))
  sound_run ss k walk [] = k
  sound_run ss k walk (c ∷ cs) =
      let r : Reply = reply L room ss walk c in
      sound_run r.after (sound_reply L low_group room ss k walk c) r.walk cs

  tally : (ss : List Session) → Sound L ss → (walk : List ℕ) (cs : List Call) → length ss + admissions (replies L room ss walk cs) ≡ length (standing_after ss (replies L room ss walk cs)) + releases (replies L room ss walk cs)
  tally ss k walk [] = refl
  tally ss k walk (c ∷ cs) =
      let r : Reply = reply L room ss walk c in
      let rs : List Reply = replies L room r.after r.walk cs in
      omega (
        arith,
        reply_tally L low_group room ss k walk c,
        tally r.after (sound_reply L low_group room ss k walk c) r.walk cs,
        sum_by-cons (λ (x : Reply). cond (is_admitted x.answer) 1 0) r rs,
        sum_by-cons (λ (x : Reply). cond (is_released x.answer) 1 0) r rs,
      )

safe : (n : Network) (p : Switch) → Grouped n → Separate n → (ss : List Session) → Sound (parts_told n p) ss → Safe n (parts_told n p) ss
safe n p grouped separate ss k =
    let L : Parts = parts_told n p in
    let f : Behind n L = behind n grouped separate L (p, refl) in
    record {
      sound = k;
      no_clash = unblinded n L f ss k;
      lit_count = lit_count L ss k;
      rows_whole = (rows_length L ss k, row_of L ss k);
      orders_serve = λ room walk c t h. reply_serves L grouped room ss k walk c t h;
      admits = λ room walk number source destination limit.
          record {
            blocked_then = blocked_then L grouped n.lights room ss k walk number source destination limit;
            blocked_when = blocked_when L grouped n.lights room ss k walk number source destination limit f.shared;
            moves = λ w m e.
                let r = moves L grouped room ss k walk number source destination limit w m e in
                record { told = r.told; few = r.few; orders = r.orders };
            limit_serves = limit_serves L grouped room ss k walk number source destination limit;
          };
      quotes = λ room walk number source destination limit.
          record {
            quoted_if = quoted_if L grouped room ss k walk number source destination limit;
            -- as many moves as are quoted are fewer than the groups, as those of an admission with that limit show
            admitted_if = λ orders high w m e.
                let so = admitted_if L grouped room ss k walk number source destination m orders w m (omega arith) e in
                let r = moves L grouped room ss k walk number source destination m w m so in
                admitted_if L grouped room ss k walk number source destination limit orders w m (omega (arith, high, r.few)) e;
          };
    }

pub always_safe : AlwaysSafe
always_safe n p grouped separate =
    let L : Parts = parts_told n p in (
      sound_none L,
      λ start k room walk calls.
          record {
            safe = safe n p grouped separate (standing_after start (replies L room start walk calls)) (sound_run L grouped room start k walk calls);
            tally = tally L grouped room start k walk calls;
          },
    )
