-- What the calls of a book answer, and what a plant is to be told, in the words of the reckoning.
use Rattle.std.specs.Prelude.{◌≡◌, ℕ, List, [], ◌∷◌, ◌++◌, map, reverse, length, take, Some, Ok, Err, Result}
use Rattle.std.specs.List.{range_with_len}
use Rattle.plant.specs.declared.lightpath.Lightpath.{Lightpath}
use Rattle.plant.specs.Orders.{change_over, darken, light, Order as Put}
use Rattle.reckoning.specs.declared.session.Session.{Session}
use Rattle.reckoning.specs.declared.order.Order.{Order}
use Rattle.reckoning.specs.declared.order.Kind.TheVariants.{Light}
use Rattle.reckoning.specs.Calls.{Answer, refused, admitted, quoted, released, found, listed, Reply, unchanged, admit}
use Rattle.reckoning.specs.Laws.{put, written}
use Rattle.reckoning.specs.Lists.{first, flat, as_list}
use Rattle.reckoning.specs.Parts.{Parts}
use Rattle.reckoning.specs.Questions.{Room, verdict, admit_questions}
use Rattle.sheet.specs.Sheets.{Page, rewritten}
use Rattle.reckoning.specs.Sheets.{order, chain_orders, lightpath, retuning}
use Rattle.reckoning.specs.Standing.{leaves}
use Rattle.book.specs.declared.book.Book.{Book}
use Rattle.book.specs.declared.change.Change.{Change}
use Rattle.book.specs.declared.course.Course.{Course}
use Rattle.book.specs.declared.refusal.CallRefusal.{CallRefusal}
use Rattle.book.specs.Books.{parts_in, standing_in}
use Rattle.book.specs.Courses.{Chosen}
use Rattle.book.specs.Moves.{shift}
use Rattle.book.specs.Refusals.{refusal_number}

-- an answer, or the number of the refusal
abbrev pub answered : {A : Type 0} → (A → Answer) → Result A CallRefusal → Answer
answered accepted (Ok x) = accepted x
answered accepted (Err e) = refused (refusal_number e)

abbrev pub admit_answer : Result Change CallRefusal → Answer
admit_answer r = answered (λ x. admitted x.path.wavelength x.moves) r

abbrev pub quote_answer : Result (ℕ × ℕ) CallRefusal → Answer
quote_answer r = answered (λ x. quoted x.0 x.1) r

abbrev pub release_answer : Result Lightpath CallRefusal → Answer
release_answer r = answered (λ x. released x.wavelength) r

abbrev pub where_answer : Result Session CallRefusal → Answer
where_answer r = answered (λ s. found s.wavelength s.source s.destination) r

abbrev pub list_answer : Result ℕ CallRefusal → Answer
list_answer r = answered listed r

-- the standing sessions on w, by source group
abbrev pub rows_on : Parts → List Session → ℕ → List Session
rows_on L ss w = flat (λ a. as_list (first (leaves L.group w a) ss)) (range_with_len 0 L.plant_groups)

-- what a plant is to be told once a call is accepted
abbrev pub told : {A : Type 0} → (A → List Put) → Result A CallRefusal → List Put
told puts (Ok x) = puts x
told puts (Err e) = []

-- the chain changes over, and the new lightpath is lit
abbrev pub changes : Change → List Put
changes x = change_over (take x.moves x.chain) ++ (light x.path.wavelength x.path.source x.path.destination ∷ [])

abbrev pub darkens : Lightpath → List Put
darkens x = darken x.wavelength x.source x.destination ∷ []

-- a call that was answered by a, with these orders for the plant: the book, the order sheet and the walk list are the reply's
pub record Booked (y : Reply) (a : Answer) (ps : List Put) (b b' : Book) (o o' : Page Order) : Type 0 where
  pub answer : a ≡ y.answer
  pub setting : b'.setting ≡ b.setting
  pub standing : standing_in b' ≡ y.after
  pub puts : ps ≡ map put (written y.orders)
  pub orders : o' ≡ rewritten y.orders o
  pub room : length o'.places ≡ length o.places

-- what is left once a chain has moved and `new` stands
pub record Carried (chain : List Session) (p q : ℕ) (new : Session) (b b' : Book) (o o' : Page Order) (x : Change) : Type 0 where
  pub setting : b'.setting ≡ b.setting
  pub standing : standing_in b' ≡ new ∷ map (shift chain p q) (standing_in b)
  pub orders : o' ≡ rewritten (Some (chain_orders (parts_in b).group p q (reverse chain) ++ (order (parts_in b).group Light new ∷ []))) o
  pub room : length o'.places ≡ length o.places
  pub moves : x.moves ≡ length chain
  pub chain_changes : take x.moves x.chain ≡ map (retuning (parts_in b).group p q) chain
  pub path : x.path ≡ lightpath (parts_in b).group new

-- what is known once the questions are answered and the chains are walked; `new` is the walk list then
abbrev pub Prepared : Parts → Room → List Session → List ℕ → ℕ → ℕ → ℕ → ℕ → List ℕ → Result Course CallRefusal → Type 0
Prepared L room ss walk n s d limit new (Ok r) =
    (verdict (admit_questions L room ss walk n s d limit) ≡ 0) × Chosen L ss (L.group s) (L.group d) walk new r
Prepared L room ss walk n s d limit new (Err e) = admit L room ss walk n s d limit ≡ unchanged ss new (refused (refusal_number e))
