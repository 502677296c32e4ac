-- The words in which the laws of the format are stated.
use Rattle.std.specs.Prelude.{◌≡◌, ℕ, ◌+◌, ◌^◌, ◌<◌, true, false, cond, List, [], ◌∷◌, ◌++◌, length, Ok, codes, decimal, ◌≢◌}
use Rattle.std.specs.List.{flat_map, AllByRecursion}
use Rattle.std.specs.Str.{all_ascii_digits}
use Rattle.request.specs.Lines.{Line}
use Rattle.request.specs.Numbers.{value}
use Rattle.request.specs.Words.{Five}
use Rattle.request.specs.declared.reader.Entry.{Entry}
use Rattle.request.specs.declared.act.Act.{Act}
use Rattle.request.specs.declared.act.Act.TheVariants.{Add, Drop, Quote, Find}
use Rattle.request.specs.declared.act.Request.{Request}

-- no byte of bs is m
abbrev pub Free : ℕ → List ℕ → Type 0
Free m bs = AllByRecursion (λ b. b ≢ m) bs

-- the bytes of a line, with its byte 10 if it has one
abbrev pub line_bytes : Line → List ℕ
line_bytes l = l.bytes ++ cond l.ended (10 ∷ []) []

-- no line holds a byte 10, and a line without one is the last and not empty
abbrev pub Lined : List Line → Type 0
Lined [] = Unit {0}
Lined (l ∷ ls) = Free 10 l.bytes × (l.ended ≡ false → (ls ≡ []) × (0 < length l.bytes)) × Lined ls

-- five words with one space between
abbrev pub spaced : Five → List ℕ
spaced w = w.act ++ 32 ∷ (w.session ++ 32 ∷ (w.from ++ 32 ∷ (w.to ++ 32 ∷ w.limit)))

-- one byte or more, and no space
abbrev pub Word : List ℕ → Type 0
Word bs = (0 < length bs) × Free 32 bs

abbrev pub Worded : Five → Type 0
Worded w = Word w.act × Word w.session × Word w.from × Word w.to × Word w.limit

-- digits that write the number n, which is below 2 ^ 32
abbrev pub Writes : List ℕ → ℕ → Type 0
Writes ds n = (0 < length ds) × (all_ascii_digits ds ≡ true) × (value ds ≡ n) × (n < 2 ^ 32)

abbrev pub Dashed : List ℕ → Type 0
Dashed bs = bs ≡ codes "-"

-- five words that ask for an act
abbrev pub Spells : Five → Act → Type 0
Spells w (Add s f t l) = (w.act ≡ codes "add") × Writes w.session s × Writes w.from f × Writes w.to t × Writes w.limit l
Spells w (Drop s) = (w.act ≡ codes "drop") × Writes w.session s × Dashed w.from × Dashed w.to × Dashed w.limit
Spells w (Quote s f t) = (w.act ≡ codes "quote") × Writes w.session s × Writes w.from f × Writes w.to t × Dashed w.limit
Spells w (Find s) = (w.act ≡ codes "find") × Writes w.session s × Dashed w.from × Dashed w.to × Dashed w.limit

-- a line that asks for the request q, as line n
pub record Asks (n : ℕ) (l : Line) (q : Request) : Type 0 where
  pub ended : l.ended ≡ true
  pub line : q.line ≡ n
  pub words : Five
  pub bytes : spaced words ≡ l.bytes
  pub spells : Spells words q.act

-- the one plain spelling of an act: no leading zeros
abbrev pub plain : Act → Five
plain (Add s f t l) = record { act = codes "add"; session = decimal s; from = decimal f; to = decimal t; limit = decimal l }
plain (Drop s) = record { act = codes "drop"; session = decimal s; from = codes "-"; to = codes "-"; limit = codes "-" }
plain (Quote s f t) = record { act = codes "quote"; session = decimal s; from = decimal f; to = decimal t; limit = codes "-" }
plain (Find s) = record { act = codes "find"; session = decimal s; from = codes "-"; to = codes "-"; limit = codes "-" }

abbrev pub Small : Act → Type 0
Small (Add s f t l) = (s < 2 ^ 32) × (f < 2 ^ 32) × (t < 2 ^ 32) × (l < 2 ^ 32)
Small (Drop s) = s < 2 ^ 32
Small (Quote s f t) = (s < 2 ^ 32) × (f < 2 ^ 32) × (t < 2 ^ 32)
Small (Find s) = s < 2 ^ 32

-- a text of requests, written out
abbrev pub written : List Act → List ℕ
written acts = codes "op session from to limit\n" ++ flat_map (λ a. spaced (plain a) ++ 10 ∷ []) acts

-- requests in turn, the first on line n
abbrev pub requests : ℕ → List Act → List Entry
requests n [] = []
requests n (a ∷ acts) = record { line = n; outcome = Ok (record { line = n; act = a }) } ∷ requests (n + 1) acts
