-- The first piece of a line and the rest of its pieces.
use Rattle.std.proofs.Common.{◌≡◌, ℕ, suc, ◌<◌, Bool, true, false, cond, ◌==◌, ◌++◌, List, [], ◌∷◌, length, IsErrAnd, Ok, Err, Result, sym, refl, ap, ◌∙◌, arith, MatchResult}
use Rattle.std.proofs.lemmas.Bool.{cond-true, cond-false, ne_eqb}
use Rattle.request.specs.declared.fault.LineFault.{LineFault}
use Rattle.request.specs.declared.fault.LineFault.TheVariants.{Spacing}
use Rattle.std.proofs.lemmas.Result.{err_from_is_err_and}
use Rattle.request.specs.Meaning.{Free}
use Rattle.request.specs.Words.{grow, split_spaces, just_words, in_order, five_words}

pub split_first : (w rest : List ℕ) → Free 32 w → split_spaces (w ++ 32 ∷ rest) ≡ w ∷ split_spaces rest
split_first [] rest h = refl
split_first (b ∷ w) rest h = cond-false (b == 32) _ (grow b (split_spaces (w ++ 32 ∷ rest))) (ne_eqb b 32 h.0) ∙ ap (grow b) (split_first w rest h.1)

pub split_only : (w : List ℕ) → Free 32 w → split_spaces w ≡ w ∷ []
split_only [] h = refl
split_only (b ∷ w) h = cond-false (b == 32) _ (grow b (split_spaces w)) (ne_eqb b 32 h.0) ∙ ap (grow b) (split_only w h.1)

-- there is at least one piece
pub data Some : List (List ℕ) → Type 0 where
  some : (w : List ℕ) (ws : List (List ℕ)) → Some (w ∷ ws)

grow_some : (b : ℕ) (ps : List (List ℕ)) → Some (grow b ps)
grow_some b [] = some _ _
grow_some b (w ∷ ws) = some _ _

pub split_some : (bs : List ℕ) → Some (split_spaces bs)
split_some [] = some _ _
split_some (b ∷ bs) = go (b == 32)
  where
    go : (t : Bool) → Some (cond t ([] ∷ split_spaces bs) (grow b (split_spaces bs)))
    go true = some _ _
    go false = grow_some b (split_spaces bs)

-- a line has pieces
pub more_words : (bs : List ℕ) → just_words 0 (split_spaces bs) ≡ false
more_words bs = go (split_spaces bs) (split_some bs)
  where
    go : (ps : List (List ℕ)) → Some ps → just_words 0 ps ≡ false
    go _ (some w ws) = refl

-- a word in front leaves one word less to find
pub step : (n : ℕ) {ps : List (List ℕ)} {w : List ℕ} {qs : List (List ℕ)} → (0 < length w) × (ps ≡ w ∷ qs) → just_words (suc n) ps ≡ just_words n qs
step n {w} {qs} h = ap (just_words (suc n)) h.1 ∙ first w h.0
  where
    first : (v : List ℕ) → 0 < length v → just_words (suc n) (v ∷ qs) ≡ just_words n qs
    first [] h = absurd (omega arith)
    first (b ∷ v) h = refl

-- the exit of a `?` at a fault that is stored as it is
pub at_break : {T E : Type 0} (r : Result T E) (P : T → Type 0) (Q : E → Type 0) (f : E) → IsErrAnd r (λ y. y ≡ f) → Q f → MatchResult r P Q
at_break r P Q f h q = let p = err_from_is_err_and r h in rw (p.1, p.2) q

-- pieces that are not five words
pub five_err : (bs : List ℕ) {f : LineFault} → f ≡ Spacing → just_words 5 (split_spaces bs) ≡ false → five_words (split_spaces bs) ≡ Err f
five_err bs e h = cond-false (just_words 5 (split_spaces bs)) (Ok (in_order (split_spaces bs))) (Err Spacing) h ∙ ap Err (sym e)

-- five words, found one behind another
pub five_ok : {p0 p1 p2 p3 p4 : List (List ℕ)} (a s f t l : List ℕ)
    → (0 < length a) × (p0 ≡ a ∷ p1) → (0 < length s) × (p1 ≡ s ∷ p2) → (0 < length f) × (p2 ≡ f ∷ p3) → (0 < length t) × (p3 ≡ t ∷ p4) → (0 < length l) × (p4 ≡ l ∷ [])
    → five_words p0 ≡ Ok (record { act = a; session = s; from = f; to = t; limit = l })
five_ok {p0} a s f t l ha hs hf ht hl =
    cond-true (just_words 5 p0) (Ok (in_order p0)) (Err Spacing) (step 4 ha ∙ step 3 hs ∙ step 2 hf ∙ step 1 ht ∙ step 0 hl)
    ∙ ap (λ (ps : List (List ℕ)). Ok (in_order ps))
    (ha.1 ∙ ap (λ (ps : List (List ℕ)). a ∷ ps) (hs.1 ∙ ap (λ (ps : List (List ℕ)). s ∷ ps) (hf.1 ∙ ap (λ (ps : List (List ℕ)). f ∷ ps) (ht.1 ∙ ap (λ (ps : List (List ℕ)). t ∷ ps) hl.1))))
