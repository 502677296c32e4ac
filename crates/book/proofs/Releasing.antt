-- The reply to a release on each way; a refusal leaves the book and the order sheet as they were.
use Rattle.std.proofs.Common.{◌≡◌, ℕ, ◌≤◌, Bool, cond, List, [], ◌∷◌, map, length, Some, sym, refl, ap, ◌∙◌, arith}
use Rattle.std.proofs.lemmas.Bool.{eqb-true, le-leb}
use Rattle.plant.specs.declared.lightpath.Lightpath.{Lightpath}
use Rattle.reckoning.specs.declared.session.Session.{Session}
use Rattle.reckoning.specs.declared.order.Order.{Order}
use Rattle.reckoning.specs.declared.order.Kind.TheVariants.{Darken}
use Rattle.reckoning.specs.Calls.{Reply, refused, released, unchanged, release, release_of}
use Rattle.reckoning.specs.Laws.{put, written}
use Rattle.reckoning.specs.Lists.{first}
use Rattle.reckoning.specs.Parts.{Parts}
use Rattle.reckoning.specs.Questions.{Room, verdict, bearer, order_room, release_questions}
use Rattle.sheet.specs.Sheets.{Page, rewritten}
use Rattle.reckoning.specs.Sheets.{order, lightpath}
use Rattle.reckoning.specs.Standing.{bears, without}
use Rattle.reckoning.proofs.Sessions.{first_found}
use Rattle.book.specs.declared.book.Book.{Book}
use Rattle.book.specs.declared.refusal.CallRefusal.{CallRefusal}
use Rattle.book.specs.Books.{parts_in, standing_in}
use Rattle.book.specs.Calls.{Booked, darkens}
use Rattle.book.specs.Refusals.{refusal_number}
use Rattle.book.proofs.Asking.{at_first, led_on}
use Rattle.book.proofs.Listing.{page_long}
use Rattle.book.proofs.Preparing.{judged_no, judged_yes}

pub refused_booked : (y : Reply) (b : Book) (walk : List ℕ) (o : Page Order) (x : CallRefusal) → y ≡ unchanged (standing_in b) walk (refused (refusal_number x)) → Booked y (refused (refusal_number x)) [] b b o o
refused_booked y b walk o x h =
    record {
      answer = sym (ap (λ (z : Reply). z.answer) h);
      setting = refl;
      standing = sym (ap (λ (z : Reply). z.after) h);
      puts = sym (ap (λ (z : Reply). map put (written z.orders)) h);
      orders = sym (ap (λ (z : Reply). rewritten z.orders o) h);
      room = refl;
    }

module _ (L : Parts) (room : Room) (ss : List Session) (walk : List ℕ) (n : ℕ) where
  pub release_refused : (x : CallRefusal) → refusal_number x ≡ verdict (release_questions L room ss n) → release L room ss walk n ≡ unchanged ss walk (refused (refusal_number x))
  release_refused x h = judged_no ss walk (verdict (release_questions L room ss n)) (release_of L ss walk (first (bears n) ss)) x h

  pub not_borne : (x : CallRefusal) → refusal_number x ≡ verdict (bearer L ss n) → refusal_number x ≡ verdict (release_questions L room ss n)
  not_borne x h = at_first x (bearer L ss n) (order_room 1 room ∷ []) h

  module _ (e : 0 ≡ verdict (bearer L ss n)) where
    pub at_room : verdict (order_room 1 room ∷ []) ≡ verdict (release_questions L room ss n)
    at_room = led_on (bearer L ss n) (order_room 1 room ∷ []) (omega arith) e

    release_accepted : (s : Session) → 1 ≤ room.orders → first (bears n) ss ≡ Some s → release L room ss walk n ≡ release_of L ss walk (Some s)
    release_accepted s l h =
        judged_yes ss walk (verdict (release_questions L room ss n)) (release_of L ss walk (first (bears n) ss)) (ap (λ (b : Bool). cond b 0 16) (sym (le-leb 1 room.orders l)) ∙ at_room)
        ∙ ap (release_of L ss walk) h

-- x is the lightpath of the session that goes
pub released_booked : (room : Room) (walk : List ℕ) (n : ℕ) (b b' : Book) (o o' : Page Order) (s : Session) (x : Lightpath) → 0 ≡ verdict (bearer (parts_in b) (standing_in b) n) → 1 ≤ room.orders → 1 ≤ length o.places → first (bears n) (standing_in b) ≡ Some s
    → b'.setting ≡ b.setting → standing_in b' ≡ without (standing_in b) n → x ≡ lightpath (parts_in b).group s → o' ≡ rewritten (Some (order (parts_in b).group Darken s ∷ [])) o
    → Booked (release (parts_in b) room (standing_in b) walk n) (released x.wavelength) (darkens x) b b' o o'
released_booked room walk n b b' o o' s x e l fit h t u v z =
    let y = sym (release_accepted (parts_in b) room (standing_in b) walk n e s l h) in
    let same : s.number ≡ n = eqb-true _ _ (first_found (bears n) (standing_in b) s h).1 in
    record {
      answer = ap (λ (p : Lightpath). released p.wavelength) v ∙ ap (λ (r : Reply). r.answer) y;
      setting = t;
      standing = u ∙ (ap (without (standing_in b)) (sym same) ∙ ap (λ (r : Reply). r.after) y);
      puts = ap darkens v ∙ ap (λ (r : Reply). map put (written r.orders)) y;
      orders = z ∙ ap (λ (r : Reply). rewritten r.orders o) y;
      room = (page_long (order (parts_in b).group Darken s ∷ []) o o' z fit).1;
    }
