-- What a book answers on paper and a plant carries out is a call of the controller.
use Rattle.std.proofs.Common.{◌≡◌, ℕ, List, map, length, None, Option, Err, Result, sym, refl, ap, ◌∙◌, subst}
use Rattle.network.specs.Network.{Grouped, Separate}
use Rattle.network.specs.declared.layout.Layout.{Ghosts as LayoutGhosts}
use Rattle.plant.specs.declared.Plant.{Ghosts as PlantGhosts}
use Rattle.plant.specs.Orders.{until_refused, Order as Put}
use Rattle.reckoning.specs.declared.call.Call.{Call}
use Rattle.reckoning.specs.declared.order.Order.{Order}
use Rattle.reckoning.specs.declared.session.Session.{Session}
use Rattle.reckoning.specs.Calls.{Answer, refused, reply}
use Rattle.reckoning.specs.Laws.{put, written}
use Rattle.sheet.specs.Sheets.{Page, rewritten}
use Rattle.reckoning.specs.Runs.{Moment, Answered}
use Rattle.reckoning.proofs.LawOfRuns.{one_call}
use Rattle.reckoning.proofs.Runs.{Still}
use Rattle.book.specs.declared.refusal.CallRefusal.{CallRefusal}
use Rattle.book.specs.Books.{parts_in, standing_in}
use Rattle.book.specs.Calls.{Booked}
use Rattle.book.specs.Refusals.{refusal_number}
use Rattle.controller.specs.declared.controller.Controller.{Controller}
use Rattle.controller.specs.declared.answer.Answer.{Answer as Accepted}
use Rattle.controller.specs.Service.{Same, Serves, answer_of, moment}

module _ {N P : Type 0} (E : LayoutGhosts N) (D : PlantGhosts P) (c c' : Controller N P) (grouped : Grouped (E.network c.layout)) (separate : Separate (E.network c.layout)) where
  -- what is answered keeps the law
  pub serves : (call : Call) (a : Answer) (m m' : Moment) → Answered (parts_in c.book) call a m m' → Serves E c call a m m'
  serves call a m m' x =
      record { answered = x; lawful = λ s. one_call (E.network c.layout) grouped separate (parts_in c.book) call a m m' s x }

  -- an admission or a release, booked and put to the plant
  module _ (call : Call) (a : Answer) (puts : List Put) (o o' : Page Order) (rows : Page Session) (walk walk' : List ℕ)
      (b : Booked (reply (parts_in c.book) (record { orders = length o.places; rows = length rows.places }) (standing_in c.book) walk call) a puts c.book c'.book o o')
      (driven : D.state c'.plant ≡ until_refused (D.state c.plant) puts) where
    pub carried_out : (reply (parts_in c.book) (record { orders = length o.places; rows = length rows.places }) (standing_in c.book) walk call).rows ≡ None
        → walk' ≡ (reply (parts_in c.book) (record { orders = length o.places; rows = length rows.places }) (standing_in c.book) walk call).walk
        → Serves E c call a (moment D c o rows walk) (moment D c' o' rows walk')
    carried_out none w =
        serves call a (moment D c o rows walk) (moment D c' o' rows walk')
        (record {
          answer = b.answer;
          standing = b.standing;
          plant = driven ∙ ap (until_refused (D.state c.plant)) b.puts;
          orders = b.orders;
          rows = sym (ap (λ (x : Option (List Session)). rewritten x rows) none);
          walk = w;
          room = ap (λ (k : ℕ). record { orders = k; rows = length rows.places }) b.room;
        })

-- a call that changes no session, and so no plant
module _ {N P : Type 0} (E : LayoutGhosts N) (D : PlantGhosts P) (c : Controller N P) (grouped : Grouped (E.network c.layout)) (separate : Separate (E.network c.layout)) where
  pub looked : (call : Call) (a : Answer) (o : Page Order) (rows rows' : Page Session) (walk walk' : List ℕ) → let y = reply (parts_in c.book) (record { orders = length o.places; rows = length rows.places }) (standing_in c.book) walk call in
      Still (standing_in c.book) y → a ≡ y.answer → rows' ≡ rewritten y.rows rows → walk' ≡ y.walk → length rows'.places ≡ length rows.places
      → Serves E c call a (moment D c o rows walk) (moment D c o rows' walk')
  looked call a o rows rows' walk walk' still answer r w room =
      serves E D c c grouped separate call a (moment D c o rows walk) (moment D c o rows' walk')
      (record {
        answer = answer;
        standing = sym still.after;
        plant = sym (ap (λ (x : Option (List Order)). until_refused (D.state c.plant) (map put (written x))) still.orders);
        orders = sym (ap (λ (x : Option (List Order)). rewritten x o) still.orders);
        rows = r;
        walk = w;
        room = ap (λ (k : ℕ). record { orders = length o.places; rows = k }) room;
      })

pub as_call : {N P : Type 0} (E : LayoutGhosts N) (c : Controller N P) (x y : Call) (a : Answer) (m m' : Moment) → x ≡ y → Serves E c y a m m' → Serves E c x a m m'
as_call E c x y a m m' e s = subst (λ (z : Call). Serves E c z a m m') (sym e) s

-- a refusal is handed on as it is
pub as_refused : {N P : Type 0} (E : LayoutGhosts N) (c : Controller N P) (x y : Call) (e : CallRefusal) (r : Result Accepted CallRefusal) (m m' : Moment) → Err e ≡ r → x ≡ y → Serves E c y (refused (refusal_number e)) m m' → Serves E c x (answer_of r) m m'
as_refused E c x y e r m m' h d s = subst (λ (q : Result Accepted CallRefusal). Serves E c x (answer_of q) m m') h (as_call E c x y (refused (refusal_number e)) m m' d s)

pub same_as : {N P : Type 0} (D : PlantGhosts P) (c : Controller N P) → Same D c c
same_as D c = record { layout = refl; setting = refl; kept = refl }
