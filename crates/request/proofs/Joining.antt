-- Lines and words joined again.
use Rattle.std.proofs.Common.{◌≡◌, ℕ, ◌<◌, Bool, true, false, cond, ◌==◌, List, [], ◌∷◌, ◌++◌, length, Ok, Err, Result, sym, refl, ap, ◌∙◌, subst, arith}
use Rattle.std.specs.List.{flat_map, AllByRecursion}
use Rattle.std.proofs.lemmas.List.{append_assoc, append-nil}
use Rattle.std.proofs.lemmas.Bool.{false≢true, eqb-true, eqb-false}
use Rattle.request.specs.Meaning.{Free, line_bytes, Lined, spaced, Worded}
use Rattle.request.specs.Lines as lines
use Rattle.request.specs.Lines.{Line, lines_of}
use Rattle.request.specs.Words.{Five, grow, split_spaces, just_words, in_order, five_words}
use Rattle.request.specs.declared.fault.LineFault.{LineFault}
use Rattle.request.specs.declared.fault.LineFault.TheVariants.{Spacing}
use Rattle.request.proofs.Lining.{line_first, line_only}
use Rattle.request.proofs.Splitting.{Some, some, split_some, split_first, split_only, five_ok}

-- lines
grow_joined : (b : ℕ) (ls : List Line) → flat_map line_bytes (lines.grow b ls) ≡ b ∷ flat_map line_bytes ls
grow_joined b [] = refl
grow_joined b (l ∷ ls) = refl

pub lines_join : (bs : List ℕ) → flat_map line_bytes (lines_of bs) ≡ bs
lines_join [] = refl
lines_join (b ∷ bs) = go (b == 10) refl (lines_join bs)
  where
    go : (t : Bool) → (b == 10) ≡ t → flat_map line_bytes (lines_of bs) ≡ bs → flat_map line_bytes (cond t (record { bytes = []; ended = true } ∷ lines_of bs) (lines.grow b (lines_of bs))) ≡ b ∷ bs
    go true e ih = ap (λ (x : List ℕ). 10 ∷ x) ih ∙ ap (λ (x : ℕ). x ∷ bs) (sym (eqb-true b 10 e))
    go false e ih = grow_joined b (lines_of bs) ∙ ap (λ (x : List ℕ). b ∷ x) ih

grow_lined : (b : ℕ) (ls : List Line) → (b ≡ 10 → ⊥) → Lined ls → Lined (lines.grow b ls)
grow_lined b [] ne h = ((ne, tt), λ _. (refl, omega arith), tt)
grow_lined b (l ∷ ls) ne h = ((ne, h.0), λ e. ((h.1 e).0, omega arith), h.2)

ended_lined : (ls : List Line) → Lined ls → Lined (record { bytes = []; ended = true } ∷ ls)
ended_lined ls h = (tt, λ e. let z : ◌≡◌ {A = ℕ} 0 1 = cc in absurd (omega arith), h)

pub lines_lined : (bs : List ℕ) → Lined (lines_of bs)
lines_lined [] = tt
lines_lined (b ∷ bs) = go (b == 10) refl (lines_lined bs)
  where
    go : (t : Bool) → (b == 10) ≡ t → Lined (lines_of bs) → Lined (cond t (record { bytes = []; ended = true } ∷ lines_of bs) (lines.grow b (lines_of bs)))
    go true e ih = ended_lined (lines_of bs) ih
    go false e ih = grow_lined b (lines_of bs) (eqb-false b 10 e) ih

pub lines_alone : (ls : List Line) → Lined ls → lines_of (flat_map line_bytes ls) ≡ ls
lines_alone [] h = refl
lines_alone (l ∷ ls) h = go l.ended refl (lines_alone ls h.2)
  where
    go : (t : Bool) → l.ended ≡ t → lines_of (flat_map line_bytes ls) ≡ ls → lines_of ((l.bytes ++ cond l.ended (10 ∷ []) []) ++ flat_map line_bytes ls) ≡ l ∷ ls
    go true e ih =
        ap (λ (t : Bool). lines_of ((l.bytes ++ cond t (10 ∷ []) []) ++ flat_map line_bytes ls)) e
        ∙ ap lines_of (append_assoc l.bytes (10 ∷ []) (flat_map line_bytes ls)) ∙ line_first l.bytes (flat_map line_bytes ls) h.0
        ∙ ap (λ (xs : List Line). record { bytes = l.bytes; ended = true } ∷ xs) ih
        ∙ ap (λ (t : Bool). record { bytes = l.bytes; ended = t } ∷ ls) (sym e)
    go false e ih =
        let last = h.1 e in
        ap (λ (t : Bool). lines_of ((l.bytes ++ cond t (10 ∷ []) []) ++ flat_map line_bytes ls)) e
        ∙ ap (λ (xs : List Line). lines_of ((l.bytes ++ []) ++ flat_map line_bytes xs)) last.0
        ∙ ap lines_of (append-nil (l.bytes ++ []) ∙ append-nil l.bytes) ∙ line_only l.bytes h.0 last.1
        ∙ ap (λ (xs : List Line). record { bytes = l.bytes; ended = false } ∷ xs) (sym last.0)
        ∙ ap (λ (t : Bool). record { bytes = l.bytes; ended = t } ∷ ls) (sym e)

-- words
abbrev rejoined : List (List ℕ) → List ℕ
rejoined [] = []
rejoined (w ∷ []) = w
rejoined (w ∷ v ∷ ws) = w ++ 32 ∷ rejoined (v ∷ ws)

grow_rejoined : (b : ℕ) (ps : List (List ℕ)) → rejoined (grow b ps) ≡ b ∷ rejoined ps
grow_rejoined b [] = refl
grow_rejoined b (w ∷ []) = refl
grow_rejoined b (w ∷ v ∷ ws) = refl

empty_rejoined : (ps : List (List ℕ)) → Some ps → rejoined ([] ∷ ps) ≡ 32 ∷ rejoined ps
empty_rejoined _ (some w ws) = refl

split_rejoined : (bs : List ℕ) → rejoined (split_spaces bs) ≡ bs
split_rejoined [] = refl
split_rejoined (b ∷ bs) = go (b == 32) refl (split_rejoined bs)
  where
    go : (t : Bool) → (b == 32) ≡ t → rejoined (split_spaces bs) ≡ bs → rejoined (cond t ([] ∷ split_spaces bs) (grow b (split_spaces bs))) ≡ b ∷ bs
    go true e ih = empty_rejoined (split_spaces bs) (split_some bs) ∙ ap (λ (x : List ℕ). 32 ∷ x) ih ∙ ap (λ (x : ℕ). x ∷ bs) (sym (eqb-true b 32 e))
    go false e ih = grow_rejoined b (split_spaces bs) ∙ ap (λ (x : List ℕ). b ∷ x) ih

grow_free : (b : ℕ) (ps : List (List ℕ)) → (b ≡ 32 → ⊥) → AllByRecursion (Free 32) ps → AllByRecursion (Free 32) (grow b ps)
grow_free b [] ne h = ((ne, tt), tt)
grow_free b (w ∷ ws) ne h = ((ne, h.0), h.1)

split_free : (bs : List ℕ) → AllByRecursion (Free 32) (split_spaces bs)
split_free [] = (tt, tt)
split_free (b ∷ bs) = go (b == 32) refl (split_free bs)
  where
    go : (t : Bool) → (b == 32) ≡ t → AllByRecursion (Free 32) (split_spaces bs) → AllByRecursion (Free 32) (cond t ([] ∷ split_spaces bs) (grow b (split_spaces bs)))
    go true e ih = (tt, ih)
    go false e ih = grow_free b (split_spaces bs) (eqb-false b 32 e) ih

pub words_alone : (w : Five) → Worded w → five_words (split_spaces (spaced w)) ≡ Ok w
words_alone w h =
    five_ok w.act w.session w.from w.to w.limit
    (h.0.0, split_first w.act _ h.0.1) (h.1.0, split_first w.session _ h.1.1) (h.2.0, split_first w.from _ h.2.1)
    (h.3.0, split_first w.to w.limit h.3.1) (h.4.0, split_only w.limit h.4.1)

-- five pieces, none of them empty
data Pieces : List (List ℕ) → Type 0 where
  pieces : (a s f t l : List ℕ) → 0 < length a → 0 < length s → 0 < length f → 0 < length t → 0 < length l → Pieces (a ∷ s ∷ f ∷ t ∷ l ∷ [])

just_pieces : (ps : List (List ℕ)) → just_words 5 ps ≡ true → Pieces ps
just_pieces [] h = absurd (false≢true h)
just_pieces ([] ∷ ps) h = absurd (false≢true h)
just_pieces ((a0 ∷ a) ∷ []) h = absurd (false≢true h)
just_pieces ((a0 ∷ a) ∷ [] ∷ ps) h = absurd (false≢true h)
just_pieces ((a0 ∷ a) ∷ (s0 ∷ s) ∷ []) h = absurd (false≢true h)
just_pieces ((a0 ∷ a) ∷ (s0 ∷ s) ∷ [] ∷ ps) h = absurd (false≢true h)
just_pieces ((a0 ∷ a) ∷ (s0 ∷ s) ∷ (f0 ∷ f) ∷ []) h = absurd (false≢true h)
just_pieces ((a0 ∷ a) ∷ (s0 ∷ s) ∷ (f0 ∷ f) ∷ [] ∷ ps) h = absurd (false≢true h)
just_pieces ((a0 ∷ a) ∷ (s0 ∷ s) ∷ (f0 ∷ f) ∷ (t0 ∷ t) ∷ []) h = absurd (false≢true h)
just_pieces ((a0 ∷ a) ∷ (s0 ∷ s) ∷ (f0 ∷ f) ∷ (t0 ∷ t) ∷ [] ∷ ps) h = absurd (false≢true h)
just_pieces ((a0 ∷ a) ∷ (s0 ∷ s) ∷ (f0 ∷ f) ∷ (t0 ∷ t) ∷ (l0 ∷ l) ∷ []) h = pieces _ _ _ _ _ (omega arith) (omega arith) (omega arith) (omega arith) (omega arith)
just_pieces ((a0 ∷ a) ∷ (s0 ∷ s) ∷ (f0 ∷ f) ∷ (t0 ∷ t) ∷ (l0 ∷ l) ∷ p ∷ ps) h = absurd (false≢true h)

pieces_joined : (ps : List (List ℕ)) (w : Five) → Pieces ps → AllByRecursion (Free 32) ps → in_order ps ≡ w → (spaced w ≡ rejoined ps) × Worded w
pieces_joined _ w (pieces a s f t l ha hs hf ht hl) h e =
    let P : Five → Type 0 = λ v. (spaced v ≡ rejoined (a ∷ s ∷ f ∷ t ∷ l ∷ [])) × Worded v in
    subst P e (refl, ((ha, h.0), (hs, h.1.0), (hf, h.1.1.0), (ht, h.1.1.1.0), (hl, h.1.1.1.1.0)))

pub words_join : (bs : List ℕ) (w : Five) → five_words (split_spaces bs) ≡ Ok w → (spaced w ≡ bs) × Worded w
words_join bs w = go (just_words 5 (split_spaces bs)) refl
  where
    go : (t : Bool) → just_words 5 (split_spaces bs) ≡ t → cond {A = Result Five LineFault} t (Ok (in_order (split_spaces bs))) (Err Spacing) ≡ Ok w → (spaced w ≡ bs) × Worded w
    go true e h =
        let e' : in_order (split_spaces bs) ≡ w = cc in
        let p = pieces_joined (split_spaces bs) w (just_pieces (split_spaces bs) e) (split_free bs) e' in
        (p.0 ∙ split_rejoined bs, p.1)
    go false e h = let z : ◌≡◌ {A = ℕ} 0 1 = cc in absurd (omega arith)
