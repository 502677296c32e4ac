-- A line as five words with one space between.
use Rattle.std.specs.Prelude.{ℕ, Option, Some, None, zero, suc, Bool, true, false, cond, List, [], ◌∷◌, Ok, Err, Result, ◌==◌, slice_index_or}
use Rattle.std.specs.Borrow.{Bor}
use Rattle.request.specs.declared.words.Words.{Words}
use Rattle.request.specs.declared.fault.LineFault.{LineFault}
use Rattle.request.specs.declared.fault.LineFault.TheVariants.{Spacing}

abbrev pub grow : ℕ → List (List ℕ) → List (List ℕ)
grow b [] = (b ∷ []) ∷ []
grow b (w ∷ ws) = (b ∷ w) ∷ ws

-- what stands between the spaces, empty pieces too: one piece more than there are spaces
abbrev pub split_spaces : List ℕ → List (List ℕ)
split_spaces [] = [] ∷ []
split_spaces (b ∷ bs) = cond (b == 32) ([] ∷ split_spaces bs) (grow b (split_spaces bs))

-- the pieces of what is left of a line, which may be nothing
abbrev pub pieces_left : Option (Bor (List ℕ)) → List (List ℕ)
pieces_left None = []
pieces_left (Some bs) = split_spaces bs.now

-- whether there are n pieces, none of them empty
abbrev pub just_words : ℕ → List (List ℕ) → Bool
just_words zero [] = true
just_words zero (w ∷ ws) = false
just_words (suc n) [] = false
just_words (suc n) ([] ∷ ws) = false
just_words (suc n) ((b ∷ w) ∷ ws) = just_words n ws

pub record Five : Type 0 where
  pub act : List ℕ
  pub session : List ℕ
  pub from : List ℕ
  pub to : List ℕ
  pub limit : List ℕ

-- the words, where the code has them
abbrev pub five_of : Words → Five
five_of w = record { act = w.act.now; session = w.session.now; from = w.from.now; to = w.to.now; limit = w.limit.now }

abbrev pub in_order : List (List ℕ) → Five
in_order ws = record { act = slice_index_or ws 0 []; session = slice_index_or ws 1 []; from = slice_index_or ws 2 []; to = slice_index_or ws 3 []; limit = slice_index_or ws 4 [] }

abbrev pub five_words : List (List ℕ) → Result Five LineFault
five_words ps = cond (just_words 5 ps) (Ok (in_order ps)) (Err Spacing)
