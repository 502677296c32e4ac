-- What a text is answered with, and that the law of runs holds of it.
use Rattle.std.specs.Prelude.{◌≡◌, ℕ, ◌⊎◌, List, ◌++◌, map}
use Rattle.network.specs.declared.layout.Layout.{Ghosts as LayoutGhosts}
use Rattle.reckoning.specs.declared.session.Session.{Session}
use Rattle.reckoning.specs.Calls.{Answer, Reply, replies}
use Rattle.reckoning.specs.Parts.{Parts}
use Rattle.reckoning.specs.Questions.{Room}
use Rattle.reckoning.specs.Runs.{Moment, room_in}
use Rattle.book.specs.Books.{parts_in}
use Rattle.controller.specs.declared.controller.Controller.{Controller}
use Rattle.controller.specs.Service.{Served}
use Rattle.request.specs.Lines.{read_text}
use Rattle.request.specs.declared.reader.Entry.{Entry}
use Rattle.text.specs.Answered.{rows_for}
use Rattle.text.specs.Asked.{calls_of}
use Rattle.text.specs.Lists.{last_rows, list_bytes}
use Rattle.text.specs.Rows.{table_bytes}

-- what the reckoning replies to the calls of a text
abbrev pub text_replies : Parts → Room → List Session → List ℕ → List ℕ → List Reply
text_replies L room ss walk text = replies L room ss walk (calls_of (read_text text))

-- the answer table, and the list of the sessions that then stand
abbrev pub output_bytes : List Entry → List Answer → List Session → List ℕ
output_bytes es xs ss = table_bytes (rows_for es xs) ++ list_bytes ss

-- what a text is answered with, by parts L, the room of the sheets, the sessions that stand and the walk list
abbrev pub text_bytes : Parts → Room → List Session → List ℕ → List ℕ → List ℕ
text_bytes L room ss walk text =
    let ys : List Reply = text_replies L room ss walk text in
    output_bytes (read_text text) (map (λ y. y.answer) ys) (last_rows ys)

-- a text that was served by c, from m to m', and answered with these bytes
pub record ServedText {N P : Type 0} (E : LayoutGhosts N) (c : Controller N P) (text output : List ℕ) (m m' : Moment) : Type 0 where
  -- just the bytes that the reckoning's replies give
  pub bytes : output ≡ text_bytes (parts_in c.book) (room_in m) m.standing m.walk text
  -- its calls are served as one list, which keeps the law of runs
  pub served : (answers : List Answer) × Served E c (calls_of (read_text text)) answers m m'

-- where memory is not found: nothing was served, or all of the text's calls were
abbrev pub NothingOrAll : {N P : Type 0} → LayoutGhosts N → Controller N P → List ℕ → Moment → Moment → Type 0
NothingOrAll E c text m m' = (m' ≡ m) ⊎ ((answers : List Answer) × Served E c (calls_of (read_text text)) answers m m')
