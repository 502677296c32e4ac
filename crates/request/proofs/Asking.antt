-- A line that reads as a request has five words that ask for its act.
use Rattle.std.proofs.Common.{◌≡◌, ℕ, ◌^◌, ◌<◌, Bool, true, false, cond, nat_lt, List, [], ◌∷◌, Ok, Err, codes, Result, sym, refl, ap, ◌∙◌, subst, arith}
use Rattle.std.specs.Str.{all_ascii_digits, bytes_eq}
use Rattle.std.proofs.lemmas.Slice.Eq.{bytes_eq-Decides}
use Rattle.std.proofs.lemmas.Bool.{ltb-true}
use Rattle.request.specs.Meaning.{Writes, Dashed, Spells, Asks}
use Rattle.request.specs.Lines.{Line, read_line}
use Rattle.request.specs.Numbers.{value, sized, read_number}
use Rattle.request.specs.Refusals.{verb_name}
use Rattle.request.specs.Requests.{then, keep, verb_of, no_sites, no_limit, agree, is_dash, dash_at, dashes, act_of, words_act}
use Rattle.request.specs.Words.{Five, split_spaces, five_words}
use Rattle.request.specs.declared.fault.LineFault.{LineFault}
use Rattle.request.specs.declared.fault.LineFault.TheVariants.{Unended, Dash, UnknownAct, Number}
use Rattle.request.specs.declared.fault.NumberFault.{NumberFault}
use Rattle.request.specs.declared.fault.NumberFault.TheVariants.{NotDigits, TooLarge}
use Rattle.request.specs.declared.act.Act.{Act}
use Rattle.request.specs.declared.act.Act.TheVariants.{Add, Drop, Quote, Find}
use Rattle.request.specs.declared.act.Request.{Request}
use Rattle.request.specs.declared.act.Verb.{Verb}
use Rattle.request.specs.declared.act.Verb.TheVariants as verb
use Rattle.request.proofs.Joining.{words_join}

pub refusal : {X E : Type 0} (e : E) (x : X) → Err e ≡ Ok x → ⊥
refusal e x h = let z : ◌≡◌ {A = ℕ} 0 1 = cc in omega arith

-- what a step gave, where all that follows it was read too
then_parts : {X Y E F : Type 0} (store : E → F) (r : Result X E) (next : X → Result Y F) (y : Y) → then store r next ≡ Ok y → (x : X) × (r ≡ Ok x) × (next x ≡ Ok y)
then_parts store (Ok x) next y h = (x, refl, h)
then_parts store (Err e) next y h = absurd (refusal (store e) y h)

pub number_writes : (k : ℕ) (ds : List ℕ) (n : ℕ) → read_number k ds ≡ Ok n → Writes ds n
unfolding read_number
number_writes k [] n h = absurd (refusal _ n h)
number_writes k (d ∷ ds) n h = go (all_ascii_digits (d ∷ ds)) refl h
  where
    size : (t : Bool) → nat_lt (value (d ∷ ds)) 4294967296 ≡ t → cond {A = Result ℕ NumberFault} t (Ok (value (d ∷ ds))) (Err (TooLarge k)) ≡ Ok n → (value (d ∷ ds) ≡ n) × (n < 2 ^ 32)
    size true e h =
        let v : value (d ∷ ds) ≡ n = cc in
        (v, omega (arith, ltb-true _ _ e))
    size false e h = absurd (refusal (TooLarge k) n h)

    go : (t : Bool) → all_ascii_digits (d ∷ ds) ≡ t → cond t (sized k (value (d ∷ ds))) (Err (NotDigits k)) ≡ Ok n → Writes (d ∷ ds) n
    go true e h = let p = size (nat_lt (value (d ∷ ds)) 4294967296) refl h in (omega arith, e, p.0, p.1)
    go false e h = absurd (refusal (NotDigits k) n h)

dash_is : (k : ℕ) (bs : List ℕ) → dash_at k bs true ≡ Ok tt → Dashed bs
dash_is k bs = go (is_dash bs) refl
  where
    go : (t : Bool) → is_dash bs ≡ t → cond {A = Result (Unit {0}) LineFault} (agree t true) (Ok tt) (Err (Dash k)) ≡ Ok tt → Dashed bs
    go true e h = (bytes_eq-Decides bs (codes "-")).0 e
    go false e h = absurd (refusal (Dash k) tt h)

-- one name more to compare with
named : (w name : List ℕ) (u v : Verb) (rest : Result Verb LineFault) → (bytes_eq w name ≡ true → w ≡ verb_name u) → (rest ≡ Ok v → w ≡ verb_name v) → cond (bytes_eq w name) (Ok u) rest ≡ Ok v → w ≡ verb_name v
named w name u v rest same other = go (bytes_eq w name) refl
  where
    go : (t : Bool) → bytes_eq w name ≡ t → cond t (Ok u) rest ≡ Ok v → w ≡ verb_name v
    go true e h = let q : u ≡ v = cc in same e ∙ ap verb_name q
    go false e h = other h

pub verb_named : (w : List ℕ) (v : Verb) → verb_of w ≡ Ok v → w ≡ verb_name v
verb_named w v =
    named w (codes "add") verb.Add v _ (bytes_eq-Decides w (codes "add")).0
    (named w (codes "drop") verb.Drop v _ (bytes_eq-Decides w (codes "drop")).0
    (named w (codes "quote") verb.Quote v _ (bytes_eq-Decides w (codes "quote")).0
    (named w (codes "find") verb.Find v (Err UnknownAct) (bytes_eq-Decides w (codes "find")).0 (λ h. absurd (refusal UnknownAct v h)))))

-- each `-` that was looked at
pub record Looked (v : Verb) (w : Five) : Type 0 where
  pub session : dash_at 2 w.session false ≡ Ok tt
  pub from : dash_at 3 w.from (no_sites v) ≡ Ok tt
  pub to : dash_at 4 w.to (no_sites v) ≡ Ok tt
  pub limit : dash_at 5 w.limit (no_limit v) ≡ Ok tt

pub looked : (v : Verb) (w : Five) → dashes v w ≡ Ok tt → Looked v w
looked v w h =
    let two = then_parts keep (dash_at 2 w.session false) _ tt h in
    let three = then_parts keep (dash_at 3 w.from (no_sites v)) _ tt two.2 in
    let four = then_parts keep (dash_at 4 w.to (no_sites v)) _ tt three.2 in
    record { session = two.1; from = three.1; to = four.1; limit = four.2 }

spelt : (w : Five) (a b : Act) → a ≡ b → Spells w a → Spells w b
spelt w a b e h = subst (Spells w) e h

act_spells : (v : Verb) (w : Five) (a : Act) → w.act ≡ verb_name v → Looked v w → act_of v w ≡ Ok a → Spells w a
act_spells verb.Add w a e d h =
    let s = then_parts Number (read_number 2 w.session) _ a h in
    let f = then_parts Number (read_number 3 w.from) _ a s.2 in
    let t = then_parts Number (read_number 4 w.to) _ a f.2 in
    let l = then_parts Number (read_number 5 w.limit) _ a t.2 in
    let q : Add s.0 f.0 t.0 l.0 ≡ a = cc l.2 in
    spelt w _ a q (e, number_writes 2 _ _ s.1, number_writes 3 _ _ f.1, number_writes 4 _ _ t.1, number_writes 5 _ _ l.1)
act_spells verb.Drop w a e d h =
    let s = then_parts Number (read_number 2 w.session) _ a h in
    let q : Drop s.0 ≡ a = cc s.2 in
    spelt w _ a q (e, number_writes 2 _ _ s.1, dash_is 3 _ d.from, dash_is 4 _ d.to, dash_is 5 _ d.limit)
act_spells verb.Quote w a e d h =
    let s = then_parts Number (read_number 2 w.session) _ a h in
    let f = then_parts Number (read_number 3 w.from) _ a s.2 in
    let t = then_parts Number (read_number 4 w.to) _ a f.2 in
    let q : Quote s.0 f.0 t.0 ≡ a = cc t.2 in
    spelt w _ a q (e, number_writes 2 _ _ s.1, number_writes 3 _ _ f.1, number_writes 4 _ _ t.1, dash_is 5 _ d.limit)
act_spells verb.Find w a e d h =
    let s = then_parts Number (read_number 2 w.session) _ a h in
    let q : Find s.0 ≡ a = cc s.2 in
    spelt w _ a q (e, number_writes 2 _ _ s.1, dash_is 3 _ d.from, dash_is 4 _ d.to, dash_is 5 _ d.limit)

words_spell : (w : Five) (a : Act) → words_act w ≡ Ok a → Spells w a
words_spell w a h =
    let v = then_parts keep (verb_of w.act) _ a h in
    let d = then_parts keep (dashes v.0 w) _ a v.2 in
    act_spells v.0 w a (verb_named w.act v.0 v.1) (looked v.0 w d.1) d.2

pub read_asks : (n : ℕ) (l : Line) (q : Request) → read_line n l ≡ Ok q → Asks n l q
read_asks n l q = go l.ended refl
  where
    go : (t : Bool) → l.ended ≡ t → cond t (then keep (five_words (split_spaces l.bytes)) (λ w. then keep (words_act w) (λ a. Ok (record { line = n; act = a })))) (Err Unended) ≡ Ok q → Asks n l q
    go true e h =
        let w = then_parts keep (five_words (split_spaces l.bytes)) _ q h in
        let a = then_parts keep (words_act w.0) _ q w.2 in
        let r : record { line = n; act = a.0 } ≡ q = cc a.2 in
        record { ended = e; line = ap (λ (x : Request). x.line) (sym r); words = w.0; bytes = (words_join l.bytes w.0 w.1).0; spells = subst (Spells w.0) (ap (λ (x : Request). x.act) r) (words_spell w.0 a.0 a.1) }
    go false e h = absurd (refusal Unended q h)
