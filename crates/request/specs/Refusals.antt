-- What each fault of a line says of the line.
use Rattle.std.specs.Prelude.{◌≡◌, ℕ, ◌+◌, ◌^◌, ◌≤◌, Bool, true, false, not, List, [], ◌∷◌, map, codes, ◌≢◌}
use Rattle.std.specs.Str.{all_ascii_digits}
use Rattle.request.specs.Faults.{number_word}
use Rattle.request.specs.Lines.{Line}
use Rattle.request.specs.Meaning.{Worded, Writes, spaced}
use Rattle.request.specs.Numbers.{value}
use Rattle.request.specs.Requests.{is_dash, no_sites, no_limit}
use Rattle.request.specs.Words.{Five}
use Rattle.request.specs.declared.act.Verb.{Verb}
use Rattle.request.specs.declared.act.Verb.TheVariants as verb
use Rattle.request.specs.declared.fault.LineFault.{LineFault}
use Rattle.request.specs.declared.fault.LineFault.TheVariants.{Unended, Spacing, UnknownAct, Dash, Number}
use Rattle.request.specs.declared.fault.NumberFault.{NumberFault}
use Rattle.request.specs.declared.fault.NumberFault.TheVariants.{NotDigits, TooLarge}

abbrev pub verb_name : Verb → List ℕ
verb_name verb.Add = codes "add"
verb_name verb.Drop = codes "drop"
verb_name verb.Quote = codes "quote"
verb_name verb.Find = codes "find"

-- words 2 to 5, and at which of them `-` belongs
abbrev pub fields : Five → List (List ℕ)
fields w = w.session ∷ w.from ∷ w.to ∷ w.limit ∷ []

abbrev pub dash_places : Verb → List Bool
dash_places v = false ∷ no_sites v ∷ no_sites v ∷ no_limit v ∷ []

-- word m is the first bad one of words that are counted from k; p tells whether `-` belongs there
pub data First (Good Bad : Bool → List ℕ → Type 0) : ℕ → ℕ → List Bool → List (List ℕ) → Type 0 where
  here : (k : ℕ) (p : Bool) (ps : List Bool) (d : List ℕ) (ds : List (List ℕ)) → Bad p d → First Good Bad k k (p ∷ ps) (d ∷ ds)
  past : (k m : ℕ) (p : Bool) (ps : List Bool) (d : List ℕ) (ds : List (List ℕ)) → Good p d → First Good Bad (k + 1) m ps ds → First Good Bad k m (p ∷ ps) (d ∷ ds)

-- `-` stands where it belongs, and only there
abbrev pub DashRight : Bool → List ℕ → Type 0
DashRight p d = is_dash d ≡ p

abbrev pub DashWrong : Bool → List ℕ → Type 0
DashWrong p d = is_dash d ≡ not p

-- a number stands where one belongs
abbrev pub NumberRight : Bool → List ℕ → Type 0
NumberRight true d = Unit {0}
NumberRight false d = (n : ℕ) × Writes d n

abbrev pub NoNumber : NumberFault → List ℕ → Type 0
NoNumber (NotDigits k) d = all_ascii_digits d ≡ false
NoNumber (TooLarge k) d = (all_ascii_digits d ≡ true) × (2 ^ 32 ≤ value d)

abbrev pub NumberWrong : NumberFault → Bool → List ℕ → Type 0
NumberWrong f p d = (p ≡ false) × NoNumber f d

-- a line of five words
pub record Spaced (l : Line) (w : Five) : Type 0 where
  pub ended : l.ended ≡ true
  pub bytes : spaced w ≡ l.bytes
  pub words : Worded w

abbrev pub Refused : Line → LineFault → Type 0
Refused l Unended = l.ended ≡ false
Refused l Spacing = (l.ended ≡ true) × ((w : Five) → Worded w → spaced w ≢ l.bytes)
Refused l UnknownAct = (w : Five) × Spaced l w × ((v : Verb) → w.act ≢ verb_name v)
Refused l (Dash k) = (w : Five) × (v : Verb) × Spaced l w × (w.act ≡ verb_name v) × First DashRight DashWrong 2 k (dash_places v) (fields w)
Refused l (Number f) =
    (w : Five) × (v : Verb) × Spaced l w × (w.act ≡ verb_name v) × (map is_dash (fields w) ≡ dash_places v) × First NumberRight (NumberWrong f) 2 (number_word f) (dash_places v) (fields w)
