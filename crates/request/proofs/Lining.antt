-- The first line of a text, and the lines behind it.
use Rattle.std.proofs.Common.{◌≡◌, ℕ, suc, ◌+◌, ◌≤◌, ◌<◌, Bool, true, false, cond, ◌==◌, List, [], ◌∷◌, ◌++◌, length, Result, sym, refl, ap, ◌∙◌, arith}
use Rattle.std.proofs.lemmas.List.{append_assoc}
use Rattle.std.proofs.lemmas.Bool.{cond-false, ne_eqb}
use Rattle.request.specs.Meaning.{Free}
use Rattle.request.specs.Lines.{Line, grow, lines_of, line_outcome, read_lines}
use Rattle.request.specs.declared.fault.RunFault.{RunFault}
use Rattle.request.specs.declared.reader.Entry.{Entry}
use Rattle.request.specs.declared.act.Request.{Request}

pub line_first : (w rest : List ℕ) → Free 10 w → lines_of (w ++ 10 ∷ rest) ≡ record { bytes = w; ended = true } ∷ lines_of rest
line_first [] rest h = refl
line_first (b ∷ w) rest h = cond-false (b == 10) _ (grow b (lines_of (w ++ 10 ∷ rest))) (ne_eqb b 10 h.0) ∙ ap (grow b) (line_first w rest h.1)

pub line_only : (w : List ℕ) → Free 10 w → 0 < length w → lines_of w ≡ record { bytes = w; ended = false } ∷ []
line_only [] h p = absurd (omega arith)
line_only (b ∷ []) h p = cond-false (b == 10) _ (grow b []) (ne_eqb b 10 h.0)
line_only (b ∷ d ∷ w) h p = cond-false (b == 10) _ (grow b (lines_of (d ∷ w))) (ne_eqb b 10 h.0) ∙ ap (grow b) (line_only (d ∷ w) h.1 (omega arith))

-- a turn of the loop: xs are the entries so far, k is the number of the next line, bs is what is left, and all is what is asked for
pub turn : (xs ys all : List Entry) (k : ℕ) (bs rest : List ℕ) (l : Line) (r : Result Request RunFault)
    → lines_of bs ≡ l ∷ lines_of rest → r ≡ line_outcome k l → ys ≡ xs ++ record { line = k; outcome = r } ∷ [] → xs ++ read_lines k (lines_of bs) ≡ all → ys ++ read_lines (k + 1) (lines_of rest) ≡ all
turn xs ys all k bs rest l r ec er ey inv =
    ap (λ (zs : List Entry). zs ++ read_lines (k + 1) (lines_of rest)) ey ∙ append_assoc xs (record { line = k; outcome = r } ∷ []) (read_lines (k + 1) (lines_of rest))
    ∙ ap (λ (o : Result Request RunFault). xs ++ record { line = k; outcome = o } ∷ read_lines (k + 1) (lines_of rest)) er ∙ ap (λ (ls : List Line). xs ++ read_lines k ls) (sym ec) ∙ inv

pub lines_most : (bs : List ℕ) → length (lines_of bs) ≤ length bs
lines_most [] = omega arith
lines_most (b ∷ bs) = go (b == 10) (lines_most bs)
  where
    grown : (ls : List Line) → length (grow b ls) ≤ suc (length ls)
    grown [] = omega arith
    grown (l ∷ ls) = omega arith

    go : (t : Bool) → length (lines_of bs) ≤ length bs → length (cond t (record { bytes = []; ended = true } ∷ lines_of bs) (grow b (lines_of bs))) ≤ suc (length bs)
    go true ih = omega arith
    go false ih = omega (arith, grown (lines_of bs))
