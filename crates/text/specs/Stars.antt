-- What a new controller answers a text with; above all on a star of four sites with two ports each and a hub of two wavelengths.
use Rattle.std.specs.Prelude.{◌≡◌, ℕ, List, [], ◌∷◌, map, replicate}
use Rattle.network.specs.Network.{Network, Meeting, star_network}
use Rattle.plant.specs.Switch.{Switch, dark_switch}
use Rattle.reckoning.specs.Calls.{Answer, Reply, standing_after}
use Rattle.reckoning.specs.Parts.{parts_told}
use Rattle.reckoning.specs.Questions.{Room}
use Rattle.reckoning.specs.Runs.{Moment, Lawful}
use Rattle.request.specs.Lines.{read_text}
use Rattle.text.specs.Asked.{calls_of}
use Rattle.text.specs.Served.{text_bytes, text_replies}

-- ample for four groups and two wavelengths: an admission writes at most 7 orders, and at most 8 sessions stand
abbrev pub small_room : Room
small_room = record { orders = 7; rows = 8 }

-- both chains of an admission have at most 6 codes
abbrev pub small_walk : List ℕ
small_walk = replicate 6 0

-- what the reckoning replies on a new controller, where no session stands yet
abbrev pub new_replies : Network → Switch → List ℕ → List Reply
new_replies n t text = text_replies (parts_told n t) small_room [] small_walk text

-- what a new controller's text is answered with
unfoldable pub new_bytes : Network → Switch → List ℕ → List ℕ
new_bytes n t text = text_bytes (parts_told n t) small_room [] small_walk text

-- the run of a text's calls, from the plant t and no session
pub record NewRun (n : Network) (t : Switch) (text : List ℕ) : Type 0 where
  pub answers : List Answer
  pub start : Moment
  pub end : Moment
  pub none : start.standing ≡ []
  pub plant : start.plant ≡ t
  -- the answers are those that are written, and the sessions at the end those that are listed
  pub answered : answers ≡ map (λ y. y.answer) (new_replies n t text)
  pub standing : end.standing ≡ standing_after [] (new_replies n t text)
  -- the law of runs, and what one half of "refused exactly when no table exists" asks
  pub lawful : Lawful n (parts_told n t) (calls_of (read_text text)) answers start end
  pub meeting : Meeting n

-- ---- the star

-- four sites with two ports each
abbrev pub four_sites : Network
four_sites = star_network (2 ∷ 2 ∷ 2 ∷ 2 ∷ [])

-- two wavelengths, four groups, and nothing lit
abbrev pub dark_hub : Switch
dark_hub = dark_switch 2 4

-- what a text is answered with on the star, from nothing
abbrev pub star_bytes : List ℕ → List ℕ
star_bytes text = new_bytes four_sites dark_hub text

-- the run of its calls, which keeps the law
abbrev pub StarRun : List ℕ → Type 0
StarRun text = NewRun four_sites dark_hub text
