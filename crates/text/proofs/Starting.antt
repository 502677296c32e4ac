-- A controller that is new answers a text from its parts as told, and from a dark plant its run is lawful.
use Rattle.std.proofs.Common.{◌≡◌, ℕ, true, List, [], map, length, refl, ap, ◌∙◌, subst}
use Rattle.network.specs.Network.{Network, Meeting}
use Rattle.network.specs.declared.layout.Layout.{Ghosts as LayoutGhosts}
use Rattle.plant.specs.Switch.{Switch}
use Rattle.plant.specs.declared.Plant.{Ghosts as PlantGhosts}
use Rattle.request.specs.Lines.{read_text}
use Rattle.reckoning.specs.declared.order.Order.{Order}
use Rattle.reckoning.specs.declared.session.Session.{Session}
use Rattle.reckoning.specs.Calls.{Reply, standing_after}
use Rattle.reckoning.specs.Parts.{Parts, is_dark, parts_told}
use Rattle.sheet.specs.Sheets.{Page}
use Rattle.reckoning.specs.Runs.{Moment, room_in, Lawful}
use Rattle.book.specs.Books.{parts_in, standing_in}
use Rattle.controller.specs.declared.controller.Controller.{Controller}
use Rattle.controller.specs.Service.{Made, moment}
use Rattle.text.specs.Asked.{calls_of}
use Rattle.text.specs.Lists.{last_rows}
use Rattle.text.specs.Served.{ServedText, output_bytes, text_replies}
use Rattle.text.specs.Stars.{small_walk, new_replies, new_bytes, NewRun}

module _ {N P : Type 0} (E : LayoutGhosts N) (D : PlantGhosts P) (layout : N) (plant : P) (c : Controller N P) (new : Made E D layout plant c)
    (o : Page Order) (r : Page Session) (walk : List ℕ) (m' : Moment) (seven : length o.places ≡ 7) (eight : length r.places ≡ 8) (six : walk ≡ small_walk)
    (text output : List ℕ) (s : ServedText E c text output (moment D c o r walk) m') where
  replies_so : text_replies (parts_in c.book) (room_in (moment D c o r walk)) (standing_in c.book) walk text ≡ new_replies (E.network layout) (D.state plant) text
  replies_so = simp (new.told, new.none, seven, eight, six) refl

  pub new_bytes_lem : output ≡ new_bytes (E.network layout) (D.state plant) text
  unfolding new_bytes
  new_bytes_lem = s.bytes ∙ ap (λ (ys : List Reply). output_bytes (read_text text) (map (λ y. y.answer) ys) (last_rows ys)) replies_so

  pub new_run : is_dark (D.state plant) ≡ true → NewRun (E.network layout) (D.state plant) text
  new_run dark =
      let m = moment D c o r walk in
      let answers = s.served.0 in
      let told = s.served.1 in
      record {
        answers = answers;
        start = m;
        end = m';
        none = new.none;
        plant = ap D.state new.driven;
        answered = told.replied.0 ∙ ap (λ (ys : List Reply). map (λ y. y.answer) ys) replies_so;
        standing =
            told.replied.1 ∙ ap (λ (ss : List Session). standing_after ss (text_replies (parts_in c.book) (room_in m) (standing_in c.book) walk text)) new.none
            ∙ ap (standing_after []) replies_so;
        lawful =
            subst (λ (n : Network). Lawful n (parts_told (E.network layout) (D.state plant)) (calls_of (read_text text)) answers m m') (ap E.network new.held)
            (subst (λ (K : Parts). Lawful (E.network c.layout) K (calls_of (read_text text)) answers m m') new.told (told.lawful (new.start dark o r walk)));
        meeting = subst Meeting (ap E.network new.held) told.meeting;
      }

-- parts that are known
pub dark_run : (n n' : Network) (t t' : Switch) (text : List ℕ) → n ≡ n' → t ≡ t' → is_dark t' ≡ true → (is_dark t ≡ true → NewRun n t text) → NewRun n' t' text
dark_run n n' t t' text e k dark run =
    subst (λ (x : Network). NewRun x t' text) e (subst (λ (x : Switch). NewRun n x text) k (run (ap is_dark k ∙ dark)))
