-- A line that is refused has the fault that it is refused for.
use Rattle.std.proofs.Common.{◌≡◌, ℕ, ◌+◌, ◌<◌, Bool, true, false, cond, not, nat_lt, ◌⊎◌, List, [], ◌∷◌, map, length, Ok, Err, codes, Result, sym, refl, ap, ◌∙◌, subst, inl, inr, ⊎_elim, arith}
use Rattle.std.specs.Str.{all_ascii_digits, bytes_eq}
use Rattle.std.proofs.lemmas.Bool.{ltb-false}
use Rattle.request.specs.Faults.{number_word}
use Rattle.request.specs.Lines.{Line, read_line}
use Rattle.request.specs.Meaning.{Worded}
use Rattle.request.specs.Numbers.{value, sized, read_number}
use Rattle.request.specs.Refusals.{verb_name, fields, dash_places, First, here, past, DashRight, DashWrong, NumberRight, NoNumber, NumberWrong, Spaced, Refused}
use Rattle.request.specs.Requests.{then, keep, verb_of, no_sites, no_limit, agree, is_dash, dash_at, dashes, act_of, words_act}
use Rattle.request.specs.Words.{Five, split_spaces, just_words, in_order, five_words}
use Rattle.request.specs.declared.act.Act.{Act}
use Rattle.request.specs.declared.act.Request.{Request}
use Rattle.request.specs.declared.act.Verb.{Verb}
use Rattle.request.specs.declared.act.Verb.TheVariants as verb
use Rattle.request.specs.declared.fault.LineFault.{LineFault}
use Rattle.request.specs.declared.fault.LineFault.TheVariants.{Unended, Spacing, UnknownAct, Dash, Number}
use Rattle.request.specs.declared.fault.NumberFault.{NumberFault}
use Rattle.request.specs.declared.fault.NumberFault.TheVariants.{NotDigits, TooLarge}
use Rattle.request.proofs.Asking.{refusal, number_writes, verb_named, Looked, looked}
use Rattle.request.proofs.Joining.{words_alone, words_join}

-- the step that was refused, or what it gave and the rest that was refused
stopped : {X Y E F : Type 0} (store : E → F) (r : Result X E) (next : X → Result Y F) (f : F) → then store r next ≡ Err f → ((e : E) × (r ≡ Err e) × (store e ≡ f)) ⊎ ((x : X) × (r ≡ Ok x) × (next x ≡ Err f))
stopped store (Ok x) next f h = inr (x, refl, h)
stopped store (Err e) next f h = let q : store e ≡ f = cc in inl (e, refl, q)

given : {X E : Type 0} (e : E) (x : X) → Ok x ≡ Err e → ⊥
given e x h = refusal e x (sym h)

-- dashes
agreed : (d p : Bool) → agree d p ≡ true → d ≡ p
agreed true p h = sym h
agreed false true h = h
agreed false false h = refl

differed : (d p : Bool) → agree d p ≡ false → d ≡ not p
differed true true h = h
differed true false h = refl
differed false true h = refl
differed false false h = sym h

abbrev Dashing : LineFault → ℕ → List Bool → List (List ℕ) → Type 0
Dashing f k ps ds = (m : ℕ) × (Dash m ≡ f) × First DashRight DashWrong k m ps ds

at_dash : (k : ℕ) (d : List ℕ) (p : Bool) (ps : List Bool) (ds : List (List ℕ)) (f : LineFault) (next : Unit {0} → Result (Unit {0}) LineFault)
    → then keep (dash_at k d p) next ≡ Err f → (next tt ≡ Err f → Dashing f (k + 1) ps ds) → Dashing f k (p ∷ ps) (d ∷ ds)
at_dash k d p ps ds f next = go (agree (is_dash d) p) refl
  where
    go : (t : Bool) → agree (is_dash d) p ≡ t → then keep (cond t (Ok tt) (Err (Dash k))) next ≡ Err f → (next tt ≡ Err f → Dashing f (k + 1) ps ds) → Dashing f k (p ∷ ps) (d ∷ ds)
    go true e h on = let r = on h in (r.0, r.1, past k r.0 p ps d ds (agreed (is_dash d) p e) r.2)
    go false e h on = let q : Dash k ≡ f = cc in (k, q, here k p ps d ds (differed (is_dash d) p e))

abbrev done : Unit {0} → Result (Unit {0}) LineFault
done x = Ok x

dashes_wrong : (v : Verb) (w : Five) (f : LineFault) → dashes v w ≡ Err f → Dashing f 2 (dash_places v) (fields w)
dashes_wrong v w f h =
    at_dash 2 w.session _ _ _ f _ h (λ h3. at_dash 3 w.from _ _ _ f _ h3 (λ h4. at_dash 4 w.to _ _ _ f _ h4 (λ h5.
    at_dash 5 w.limit _ [] [] f done (ap (λ (r : Result (Unit {0}) LineFault). then keep r done) h5) (λ z. absurd (given f _ z)))))

dash_right : (k : ℕ) (d : List ℕ) (p : Bool) → dash_at k d p ≡ Ok tt → is_dash d ≡ p
dash_right k d p = go (agree (is_dash d) p) refl
  where
    go : (t : Bool) → agree (is_dash d) p ≡ t → cond {A = Result (Unit {0}) LineFault} t (Ok tt) (Err (Dash k)) ≡ Ok tt → is_dash d ≡ p
    go true e h = agreed (is_dash d) p e
    go false e h = absurd (refusal (Dash k) tt h)

dashes_right : (v : Verb) (w : Five) → Looked v w → map is_dash (fields w) ≡ dash_places v
dashes_right v w h =
    let s : is_dash w.session ≡ false = dash_right 2 w.session false h.session in
    let f : is_dash w.from ≡ no_sites v = dash_right 3 w.from (no_sites v) h.from in
    let t : is_dash w.to ≡ no_sites v = dash_right 4 w.to (no_sites v) h.to in
    let l : is_dash w.limit ≡ no_limit v = dash_right 5 w.limit (no_limit v) h.limit in
    cc

-- numbers
abbrev Says : ℕ → List ℕ → NumberFault → Type 0
Says k d e = (number_word e ≡ k) × NoNumber e d

no_number : (k : ℕ) (d : List ℕ) (e : NumberFault) → 0 < length d → read_number k d ≡ Err e → Says k d e
unfolding read_number
no_number k [] e p h = absurd (omega arith)
no_number k (b ∷ d) e p h = go (all_ascii_digits (b ∷ d)) refl h
  where
    size : (t : Bool) → nat_lt (value (b ∷ d)) 4294967296 ≡ t → all_ascii_digits (b ∷ d) ≡ true → cond t (Ok (value (b ∷ d))) (Err (TooLarge k)) ≡ Err e → Says k (b ∷ d) e
    size true l a h = absurd (given e _ h)
    size false l a h = let q : TooLarge k ≡ e = cc in subst (Says k (b ∷ d)) q (refl, (a, ltb-false _ _ l))

    go : (t : Bool) → all_ascii_digits (b ∷ d) ≡ t → cond t (sized k (value (b ∷ d))) (Err (NotDigits k)) ≡ Err e → Says k (b ∷ d) e
    go true a h = size (nat_lt (value (b ∷ d)) 4294967296) refl a h
    go false a h = let q : NotDigits k ≡ e = cc in subst (Says k (b ∷ d)) q (refl, a)

abbrev Counting : LineFault → ℕ → List Bool → List (List ℕ) → Type 0
Counting f k ps ds = (e : NumberFault) × (Number e ≡ f) × First NumberRight (NumberWrong e) k (number_word e) ps ds

at_number : (k : ℕ) (d : List ℕ) (ps : List Bool) (ds : List (List ℕ)) (f : LineFault) (next : ℕ → Result Act LineFault)
    → 0 < length d → then Number (read_number k d) next ≡ Err f → ((n : ℕ) → next n ≡ Err f → Counting f (k + 1) ps ds) → Counting f k (false ∷ ps) (d ∷ ds)
at_number k d ps ds f next p h on =
    ⊎_elim
    (λ (r : (e : NumberFault) × (read_number k d ≡ Err e) × (Number e ≡ f)).
    let q = no_number k d r.0 p r.1 in
    let P : ℕ → Type 0 = λ m. First NumberRight (NumberWrong r.0) k m (false ∷ ps) (d ∷ ds) in
    (r.0, r.2, subst P (sym q.0) (here k false ps d ds (refl, q.1))))
    (λ (r : (n : ℕ) × (read_number k d ≡ Ok n) × (next n ≡ Err f)).
    let s = on r.0 r.2 in
    (s.0, s.1, past k (number_word s.0) false ps d ds (r.0, number_writes k d r.0 r.1) s.2))
    (stopped Number (read_number k d) next f h)

act_wrong : (v : Verb) (w : Five) (f : LineFault) → Worded w → act_of v w ≡ Err f → Counting f 2 (dash_places v) (fields w)
act_wrong verb.Add w f g h =
    at_number 2 _ _ _ f _ g.1.0 h (λ s h3. at_number 3 _ _ _ f _ g.2.0 h3 (λ t h4. at_number 4 _ _ _ f _ g.3.0 h4 (λ u h5.
    at_number 5 _ _ _ f _ g.4.0 h5 (λ l z. absurd (given f _ z)))))
act_wrong verb.Drop w f g h = at_number 2 _ _ _ f _ g.1.0 h (λ s z. absurd (given f _ z))
act_wrong verb.Quote w f g h =
    at_number 2 _ _ _ f _ g.1.0 h (λ s h3. at_number 3 _ _ _ f _ g.2.0 h3 (λ t h4. at_number 4 _ _ _ f _ g.3.0 h4 (λ u z. absurd (given f _ z))))
act_wrong verb.Find w f g h = at_number 2 _ _ _ f _ g.1.0 h (λ s z. absurd (given f _ z))

-- acts
verb_read : (v : Verb) → verb_of (verb_name v) ≡ Ok v
verb_read verb.Add = refl
verb_read verb.Drop = refl
verb_read verb.Quote = refl
verb_read verb.Find = refl

verb_fault : (w : List ℕ) (f : LineFault) → verb_of w ≡ Err f → UnknownAct ≡ f
verb_fault w f = named (codes "add") verb.Add _ (named (codes "drop") verb.Drop _ (named (codes "quote") verb.Quote _ (named (codes "find") verb.Find (Err UnknownAct) (λ h. cc))))
  where
    named : (name : List ℕ) (u : Verb) (rest : Result Verb LineFault) → (rest ≡ Err f → UnknownAct ≡ f) → cond (bytes_eq w name) (Ok u) rest ≡ Err f → UnknownAct ≡ f
    named name u rest on = go (bytes_eq w name)
      where
        go : (t : Bool) → cond t (Ok u) rest ≡ Err f → UnknownAct ≡ f
        go true h = absurd (given f u h)
        go false h = on h

words_refused : (l : Line) (w : Five) (f : LineFault) → Spaced l w → words_act w ≡ Err f → Refused l f
words_refused l w f s h =
    ⊎_elim
    (λ (r : (e : LineFault) × (verb_of w.act ≡ Err e) × (e ≡ f)).
    subst (Refused l) (verb_fault w.act r.0 r.1 ∙ r.2) (w, s, λ v e. given r.0 v (sym (verb_read v) ∙ ap verb_of (sym e) ∙ r.1)))
    (λ (r : (v : Verb) × (verb_of w.act ≡ Ok v) × (then keep (dashes v w) (λ _. act_of v w) ≡ Err f)). behind r.0 r.1 r.2)
    (stopped keep (verb_of w.act) _ f h)
  where
    behind : (v : Verb) → verb_of w.act ≡ Ok v → then keep (dashes v w) (λ _. act_of v w) ≡ Err f → Refused l f
    behind v e h =
        ⊎_elim
        (λ (r : (x : LineFault) × (dashes v w ≡ Err x) × (x ≡ f)).
        let d = dashes_wrong v w r.0 r.1 in
        subst (Refused l) (d.1 ∙ r.2) (w, v, s, verb_named w.act v e, d.2))
        (λ (r : (x : Unit {0}) × (dashes v w ≡ Ok x) × (act_of v w ≡ Err f)).
        let n = act_wrong v w f s.words r.2 in
        subst (Refused l) n.1 (w, v, s, verb_named w.act v e, dashes_right v w (looked v w r.1), n.2))
        (stopped keep (dashes v w) (λ _. act_of v w) f h)

five_fault : (ps : List (List ℕ)) (f : LineFault) → five_words ps ≡ Err f → Spacing ≡ f
five_fault ps f = go (just_words 5 ps)
  where
    go : (t : Bool) → cond {A = Result Five LineFault} t (Ok (in_order ps)) (Err Spacing) ≡ Err f → Spacing ≡ f
    go true h = absurd (given f _ h)
    go false h = cc

abbrev request : ℕ → Act → Result Request LineFault
request n a = Ok (record { line = n; act = a })

pub read_refused : (n : ℕ) (l : Line) (f : LineFault) → read_line n l ≡ Err f → Refused l f
read_refused n l f = go l.ended refl
  where
    go : (t : Bool) → l.ended ≡ t → cond t (then keep (five_words (split_spaces l.bytes)) (λ w. then keep (words_act w) (request n))) (Err Unended) ≡ Err f → Refused l f
    go false e h = let q : Unended ≡ f = cc in subst (Refused l) q e
    go true e h =
        ⊎_elim
        (λ (r : (x : LineFault) × (five_words (split_spaces l.bytes) ≡ Err x) × (x ≡ f)).
        subst (Refused l) (five_fault (split_spaces l.bytes) r.0 r.1 ∙ r.2)
        (e, λ w g b. given r.0 w (sym (words_alone w g) ∙ ap (λ (bs : List ℕ). five_words (split_spaces bs)) b ∙ r.1)))
        (λ (r : (w : Five) × (five_words (split_spaces l.bytes) ≡ Ok w) × (then keep (words_act w) (request n) ≡ Err f)).
        let j = words_join l.bytes r.0 r.1 in
        ⊎_elim
        (λ (u : (x : LineFault) × (words_act r.0 ≡ Err x) × (x ≡ f)).
        subst (Refused l) u.2 (words_refused l r.0 u.0 (record { ended = e; bytes = j.0; words = j.1 }) u.1))
        (λ (u : (a : Act) × (words_act r.0 ≡ Ok a) × (request n a ≡ Err f)). absurd (given f _ u.2))
        (stopped keep (words_act r.0) (request n) f r.2))
        (stopped keep (five_words (split_spaces l.bytes)) (λ w. then keep (words_act w) (request n)) f h)
