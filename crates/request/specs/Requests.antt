-- The act that five words ask for.
use Rattle.std.specs.Prelude.{ℕ, Bool, true, false, cond, not, List, Ok, Err, codes, Result}
use Rattle.std.specs.Str.{bytes_eq}
use Rattle.request.specs.Numbers.{read_number}
use Rattle.request.specs.Words.{Five}
use Rattle.request.specs.declared.fault.LineFault.{LineFault}
use Rattle.request.specs.declared.fault.LineFault.TheVariants.{UnknownAct, Dash, Number}
use Rattle.request.specs.declared.act.Verb.{Verb}
use Rattle.request.specs.declared.act.Verb.TheVariants as verb
use Rattle.request.specs.declared.act.Act.{Act}
use Rattle.request.specs.declared.act.Act.TheVariants.{Add, Drop, Quote, Find}

-- a step that may be refused, and what follows it; the fault is stored whole
abbrev pub then : {X Y E F : Type 0} → (E → F) → Result X E → (X → Result Y F) → Result Y F
then store (Ok x) next = next x
then store (Err e) next = Err (store e)

abbrev pub keep : LineFault → LineFault
keep f = f

abbrev pub verb_of : List ℕ → Result Verb LineFault
verb_of w =
    cond (bytes_eq w (codes "add")) (Ok verb.Add)
    (cond (bytes_eq w (codes "drop")) (Ok verb.Drop) (cond (bytes_eq w (codes "quote")) (Ok verb.Quote) (cond (bytes_eq w (codes "find")) (Ok verb.Find) (Err UnknownAct))))

-- where the act has `-`: for both sites, and for the limit
abbrev pub no_sites : Verb → Bool
no_sites verb.Add = false
no_sites verb.Drop = true
no_sites verb.Quote = false
no_sites verb.Find = true

abbrev pub no_limit : Verb → Bool
no_limit verb.Add = false
no_limit verb.Drop = true
no_limit verb.Quote = true
no_limit verb.Find = true

abbrev pub is_dash : List ℕ → Bool
is_dash w = bytes_eq w (codes "-")

abbrev pub agree : Bool → Bool → Bool
agree true t = t
agree false t = not t

-- word k is `-` just where it belongs
abbrev pub dash_at : ℕ → List ℕ → Bool → Result (Unit {0}) LineFault
dash_at k w dash = cond (agree (is_dash w) dash) (Ok tt) (Err (Dash k))

abbrev pub dashes : Verb → Five → Result (Unit {0}) LineFault
dashes v w =
    then keep (dash_at 2 w.session false) (λ _. then keep (dash_at 3 w.from (no_sites v)) (λ _. then keep (dash_at 4 w.to (no_sites v)) (λ _.
    dash_at 5 w.limit (no_limit v))))

-- the numbers, word by word
abbrev pub act_of : Verb → Five → Result Act LineFault
act_of verb.Add w =
    then Number (read_number 2 w.session) (λ s. then Number (read_number 3 w.from) (λ f. then Number (read_number 4 w.to) (λ t.
    then Number (read_number 5 w.limit) (λ l. Ok (Add s f t l)))))
act_of verb.Drop w = then Number (read_number 2 w.session) (λ s. Ok (Drop s))
act_of verb.Quote w =
    then Number (read_number 2 w.session) (λ s. then Number (read_number 3 w.from) (λ f. then Number (read_number 4 w.to) (λ t. Ok (Quote s f t))))
act_of verb.Find w = then Number (read_number 2 w.session) (λ s. Ok (Find s))

abbrev pub words_act : Five → Result Act LineFault
words_act w = then keep (verb_of w.act) (λ v. then keep (dashes v w) (λ _. act_of v w))
