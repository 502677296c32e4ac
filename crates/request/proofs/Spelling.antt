-- Words that ask for an act read as that act, and no others do.
use Rattle.std.proofs.Common.{◌≡◌, ℕ, ◌+◌, ◌<◌, ◌≤◌, Bool, true, false, cond, not, ◌&&◌, ◌==◌, nat_le, List, [], ◌∷◌, ◌++◌, length, Ok, Err, codes, Result, sym, refl, ap, ◌∙◌, subst, arith}
use Rattle.std.specs.List.{flat_map, AllByRecursion}
use Rattle.std.proofs.ByRecursion.{All-append}
use Rattle.std.proofs.lemmas.List.{append_assoc}
use Rattle.std.proofs.lemmas.Bool.{and_parts, not-true, eqb-false, cond-true, le-leb}
use Rattle.request.specs.Meaning.{Free, Word, Worded, Writes, Dashed, Spells, Asks, spaced, plain, Small, written, requests}
use Rattle.request.specs.Lines.{Line, lines_of, read_line, read_lines, behind_names, answered, read_text}
use Rattle.request.specs.Requests.{then, keep, verb_of, no_sites, no_limit, agree, dash_at, dashes, act_of, words_act}
use Rattle.request.specs.Words.{Five}
use Rattle.request.specs.declared.fault.LineFault.{LineFault}
use Rattle.request.specs.declared.fault.LineFault.TheVariants.{Dash}
use Rattle.request.specs.declared.fault.RunFault.TheVariants as run
use Rattle.request.specs.declared.reader.Entry.{Entry}
use Rattle.request.specs.declared.act.Act.{Act}
use Rattle.request.specs.declared.act.Act.TheVariants.{Add, Drop, Quote, Find}
use Rattle.request.specs.declared.act.Request.{Request}
use Rattle.request.specs.declared.act.Verb.{Verb}
use Rattle.request.specs.declared.act.Verb.TheVariants as verb
use Rattle.request.proofs.Joining.{words_alone}
use Rattle.request.proofs.Lining.{line_first}
use Rattle.request.proofs.Values.{value_plain, writes_read, digits_free, digits_no_dash}

-- bytes that are written out
abbrev lacks : ℕ → List ℕ → Bool
lacks m [] = true
lacks m (b ∷ bs) = not (b == m) && lacks m bs

free_from_lacks : (m : ℕ) (bs : List ℕ) → lacks m bs ≡ true → Free m bs
free_from_lacks m [] h = tt
free_from_lacks m (b ∷ bs) h = let p = and_parts (not (b == m)) (lacks m bs) h in (eqb-false b m (not-true (b == m) p.0), free_from_lacks m bs p.1)

-- a word of a request, and what it may be
data Part : List ℕ → Type 0 where
  digits : (ds : List ℕ) (n : ℕ) → Writes ds n → Part ds
  named : (name bs : List ℕ) → bs ≡ name → 0 < length name → lacks 32 name ≡ true → lacks 10 name ≡ true → Part bs

part_word : (bs : List ℕ) → Part bs → Word bs
part_word _ (digits ds n w) = (w.0, digits_free 32 ds (omega arith) w.1)
part_word _ (named name bs e p h k) = subst Word (sym e) (p, free_from_lacks 32 name h)

part_free : (bs : List ℕ) → Part bs → Free 10 bs
part_free _ (digits ds n w) = digits_free 10 ds (omega arith) w.1
part_free _ (named name bs e p h k) = subst (Free 10) (sym e) (free_from_lacks 10 name k)

dash : (bs : List ℕ) → Dashed bs → Part bs
dash bs e = named (codes "-") bs e (omega arith) refl refl

pub record Parts (w : Five) : Type 0 where
  act : Part w.act
  session : Part w.session
  from : Part w.from
  to : Part w.to
  limit : Part w.limit

parts : (w : Five) (a : Act) → Spells w a → Parts w
parts w (Add s f t l) h = record { act = named (codes "add") _ h.0 (omega arith) refl refl; session = digits _ s h.1; from = digits _ f h.2; to = digits _ t h.3; limit = digits _ l h.4 }
parts w (Drop s) h = record { act = named (codes "drop") _ h.0 (omega arith) refl refl; session = digits _ s h.1; from = dash _ h.2; to = dash _ h.3; limit = dash _ h.4 }
parts w (Quote s f t) h = record { act = named (codes "quote") _ h.0 (omega arith) refl refl; session = digits _ s h.1; from = digits _ f h.2; to = digits _ t h.3; limit = dash _ h.4 }
parts w (Find s) h = record { act = named (codes "find") _ h.0 (omega arith) refl refl; session = digits _ s h.1; from = dash _ h.2; to = dash _ h.3; limit = dash _ h.4 }

worded : (w : Five) → Parts w → Worded w
worded w p = (part_word _ p.act, part_word _ p.session, part_word _ p.from, part_word _ p.to, part_word _ p.limit)

spaced_free : (w : Five) → Parts w → Free 10 (spaced w)
spaced_free w p =
    space w.act _ (part_free _ p.act) (space w.session _ (part_free _ p.session) (space w.from _ (part_free _ p.from) (space w.to _ (part_free _ p.to) (part_free _ p.limit))))
  where
    space : (xs ys : List ℕ) → Free 10 xs → Free 10 ys → Free 10 (xs ++ 32 ∷ ys)
    space xs ys h k = All-append (λ b. b ≡ 10 → ⊥) xs (32 ∷ ys) h (λ e. omega arith, k)

-- a step that is not refused
then_ok : {X Y E F : Type 0} (store : E → F) {r : Result X E} {x : X} (next : X → Result Y F) → r ≡ Ok x → then store r next ≡ next x
then_ok {X} {E} store next e = ap (λ (r : Result X E). then store r next) e

number_dash : (k : ℕ) (ds : List ℕ) (n : ℕ) → Writes ds n → dash_at k ds false ≡ Ok tt
number_dash k ds n w = ap (λ (t : Bool). cond (agree t false) (Ok tt) (Err (Dash k))) (digits_no_dash ds w.0 w.1)

dash_dash : (k : ℕ) (bs : List ℕ) → Dashed bs → dash_at k bs true ≡ Ok tt
dash_dash k bs e = ap (λ (b : List ℕ). dash_at k b true) e

dashes_ok : (v : Verb) (w : Five) → dash_at 2 w.session false ≡ Ok tt → dash_at 3 w.from (no_sites v) ≡ Ok tt → dash_at 4 w.to (no_sites v) ≡ Ok tt → dash_at 5 w.limit (no_limit v) ≡ Ok tt → dashes v w ≡ Ok tt
dashes_ok v w s f t l = then_ok keep _ s ∙ then_ok keep _ f ∙ then_ok keep _ t ∙ l

acted : (v : Verb) (w : Five) (a : Act) → verb_of w.act ≡ Ok v → dashes v w ≡ Ok tt → act_of v w ≡ Ok a → words_act w ≡ Ok a
acted v w a hv hd ha = then_ok keep (λ u. then keep (dashes u w) (λ _. act_of u w)) hv ∙ then_ok keep (λ _. act_of v w) hd ∙ ha

spells_act : (w : Five) (a : Act) → Spells w a → words_act w ≡ Ok a
spells_act w (Add s f t l) h =
    acted verb.Add w _ (ap verb_of h.0)
    (dashes_ok verb.Add w (number_dash 2 _ s h.1) (number_dash 3 _ f h.2) (number_dash 4 _ t h.3) (number_dash 5 _ l h.4))
    (then_ok _ _ (writes_read 2 _ s h.1) ∙ then_ok _ _ (writes_read 3 _ f h.2) ∙ then_ok _ _ (writes_read 4 _ t h.3) ∙ then_ok _ _ (writes_read 5 _ l h.4))
spells_act w (Drop s) h =
    acted verb.Drop w _ (ap verb_of h.0)
    (dashes_ok verb.Drop w (number_dash 2 _ s h.1) (dash_dash 3 _ h.2) (dash_dash 4 _ h.3) (dash_dash 5 _ h.4))
    (then_ok _ _ (writes_read 2 _ s h.1))
spells_act w (Quote s f t) h =
    acted verb.Quote w _ (ap verb_of h.0)
    (dashes_ok verb.Quote w (number_dash 2 _ s h.1) (number_dash 3 _ f h.2) (number_dash 4 _ t h.3) (dash_dash 5 _ h.4))
    (then_ok _ _ (writes_read 2 _ s h.1) ∙ then_ok _ _ (writes_read 3 _ f h.2) ∙ then_ok _ _ (writes_read 4 _ t h.3))
spells_act w (Find s) h =
    acted verb.Find w _ (ap verb_of h.0)
    (dashes_ok verb.Find w (number_dash 2 _ s h.1) (dash_dash 3 _ h.2) (dash_dash 4 _ h.3) (dash_dash 5 _ h.4))
    (then_ok _ _ (writes_read 2 _ s h.1))

spells_read : (n : ℕ) (w : Five) (a : Act) → Spells w a → read_line n (record { bytes = spaced w; ended = true }) ≡ Ok (record { line = n; act = a })
spells_read n w a h =
    then_ok keep (λ u. then keep (words_act u) (λ b. Ok (record { line = n; act = b }))) (words_alone w (worded w (parts w a h)))
    ∙ then_ok keep (λ b. Ok (record { line = n; act = b })) (spells_act w a h)

-- requests written out
plain_spells : (a : Act) → Small a → Spells (plain a) a
plain_spells (Add s f t l) h = (refl, value_plain s h.0, value_plain f h.1, value_plain t h.2, value_plain l h.3)
plain_spells (Drop s) h = (refl, value_plain s h, refl, refl, refl)
plain_spells (Quote s f t) h = (refl, value_plain s h.0, value_plain f h.1, value_plain t h.2, refl)
plain_spells (Find s) h = (refl, value_plain s h, refl, refl, refl)

abbrev lined : Act → List ℕ
lined a = spaced (plain a) ++ 10 ∷ []

acts_read : (n : ℕ) (acts : List Act) → AllByRecursion Small acts → read_lines n (lines_of (flat_map lined acts)) ≡ requests n acts
acts_read n [] h = refl
acts_read n (a ∷ acts) h =
    let s = plain_spells a h.0 in
    ap (λ (bs : List ℕ). read_lines n (lines_of bs)) (append_assoc (spaced (plain a)) (10 ∷ []) (flat_map lined acts))
    ∙ ap (read_lines n) (line_first (spaced (plain a)) (flat_map lined acts) (spaced_free (plain a) (parts (plain a) a s)))
    ∙ ap (λ (r : Result Request LineFault). record { line = n; outcome = then run.Line r (λ q. Ok q) } ∷ read_lines (n + 1) (lines_of (flat_map lined acts))) (spells_read n (plain a) a s)
    ∙ ap (λ (es : List Entry). record { line = n; outcome = Ok (record { line = n; act = a }) } ∷ es) (acts_read (n + 1) acts h.1)

pub reads_back : (acts : List Act) → AllByRecursion Small acts → length (written acts) ≤ 65536 → read_text (written acts) ≡ requests 2 acts
reads_back acts h small =
    ap answered
    (cond-true (nat_le (length (written acts)) 65536) (behind_names (lines_of (written acts))) (Err run.TooLong) (le-leb (length (written acts)) 65536 small)
    ∙ ap behind_names (line_first (codes "op session from to limit") (flat_map lined acts) (free_from_lacks 10 (codes "op session from to limit") refl)))
    ∙ acts_read 2 acts h

pub asks_read : (n : ℕ) (l : Line) (q : Request) → Asks n l q → read_line n l ≡ Ok q
asks_read n l q h =
    ap (λ (t : Bool). read_line n (record { bytes = l.bytes; ended = t })) h.ended
    ∙ ap (λ (bs : List ℕ). read_line n (record { bytes = bs; ended = true })) (sym h.bytes) ∙ spells_read n h.words q.act h.spells
    ∙ ap (λ (m : ℕ). Ok (record { line = m; act = q.act })) (sym h.line)
