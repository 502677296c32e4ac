-- The rest of a word, read behind digits whose number is held, or a larger one where it is past the limit.
use Rattle.std.proofs.Common.{◌≡◌, ℕ, ◌+◌, ◌-◌, ◌*◌, ◌<◌, ◌≤◌, min, Bool, true, false, cond, ◌&&◌, ltb, List, [], ◌∷◌, length, get_or, drop, Ok, Err, Result, sym, refl, ap, ◌∙◌, ⊎_elim, arith}
use Rattle.std.specs.Char.{is_ascii_digit}
use Rattle.std.specs.Result.{OkIff, result_or}
use Rattle.std.specs.Str.{all_ascii_digits}
use Rattle.std.proofs.lemmas.List.{at_drop_more, at_drop_all}
use Rattle.std.proofs.lemmas.Bool.{cond-true, cond-false, and_left, cases_lt, lt-ltb, le-ltb}
use Rattle.request.specs.declared.fault.NumberFault.{NumberFault}
use Rattle.request.specs.declared.fault.NumberFault.TheVariants.{NotDigits, TooLarge}
use Rattle.request.specs.Numbers.{value_after, sized, read_number}

abbrev pub finish : ℕ → ℕ → List ℕ → Result ℕ NumberFault
finish w v bs = cond (all_ascii_digits bs) (sized w (value_after v bs)) (Err (NotDigits w))

value_ge : (n : ℕ) (bs : List ℕ) → n ≤ value_after n bs
value_ge n [] = omega arith
value_ge n (b ∷ bs) = omega (arith, value_ge (n * 10 + (b - 48)) bs)

-- past the limit the value does not matter
sized_past : (w v : ℕ) (bs : List ℕ) → 4294967296 ≤ v → sized w (value_after v bs) ≡ Err (TooLarge w)
sized_past w v bs h = cond-false (ltb (value_after v bs) 4294967296) _ _ (le-ltb _ _ (omega (arith, value_ge v bs)))

-- what is held of v times ten and d, where it fits 64 bits
abbrev held : ℕ → ℕ → ℕ
held v d = min (min (v * 10) 18446744073709551615 + d) 18446744073709551615

held_serves : (w v d : ℕ) (bs : List ℕ) → sized w (value_after (v * 10 + d) bs) ≡ sized w (value_after (held v d) bs)
held_serves w v d bs =
    ⊎_elim
    (λ (h : v * 10 + d < 4294967296). let e : v * 10 + d ≡ held v d = omega arith in ap (λ (x : ℕ). sized w (value_after x bs)) e)
    (λ (h : 4294967296 ≤ v * 10 + d). sized_past w (v * 10 + d) bs h ∙ sym (sized_past w (held v d) bs (omega arith)))
    (cases_lt (v * 10 + d) 4294967296)

finish_digit : (w v b : ℕ) (bs : List ℕ) → is_ascii_digit b ≡ true → finish w v (b ∷ bs) ≡ finish w (held v (b - 48)) bs
finish_digit w v b bs d =
    ap (λ (t : Bool). cond (t && all_ascii_digits bs) (sized w (value_after v (b ∷ bs))) (Err (NotDigits w))) d
    ∙ ap (λ (x : Result ℕ NumberFault). cond (all_ascii_digits bs) x (Err (NotDigits w))) (held_serves w v (b - 48) bs)

finish_stray : (w v b : ℕ) (bs : List ℕ) → is_ascii_digit b ≡ false → finish w v (b ∷ bs) ≡ Err (NotDigits w)
finish_stray w v b bs h = cond-false (all_ascii_digits (b ∷ bs)) _ _ (and_left (is_ascii_digit b) (all_ascii_digits bs) h)

finish_is : (w : ℕ) (bs : List ℕ) → 0 < length bs → read_number w bs ≡ finish w 0 bs
unfolding read_number
finish_is w [] h = absurd (omega arith)
finish_is w (b ∷ bs) h = refl

pub read_empty : (w : ℕ) (bs : List ℕ) → length bs ≡ 0 → read_number w bs ≡ Err (NotDigits w)
unfolding read_number
read_empty w [] h = refl
read_empty w (b ∷ bs) h = absurd (omega arith)

-- the turns of the loop: ws is the word, i the index and v the number held so far
pub turn : (w : ℕ) (ws : List ℕ) (i v v' : ℕ) → i < length ws → is_ascii_digit (get_or ws i 0) ≡ true → v' ≡ min (min (v * 10) 18446744073709551615 + (get_or ws i 0 - 48)) 18446744073709551615
    → finish w v (drop i ws) ≡ finish w 0 ws → finish w v' (drop (i + 1) ws) ≡ finish w 0 ws
turn w ws i v v' l d e inv =
    ap (λ (x : ℕ). finish w x (drop (i + 1) ws)) e ∙ sym (finish_digit w v (get_or ws i 0) (drop (i + 1) ws) d) ∙ sym (at_drop_more (finish w v) ws i 0 l) ∙ inv

pub stray : (w : ℕ) (ws : List ℕ) (i v : ℕ) → i < length ws → is_ascii_digit (get_or ws i 0) ≡ false → finish w v (drop i ws) ≡ finish w 0 ws → read_number w ws ≡ Err (NotDigits w)
stray w ws i v l out inv = finish_is w ws (omega arith) ∙ sym inv ∙ at_drop_more (finish w v) ws i 0 l ∙ finish_stray w v (get_or ws i 0) (drop (i + 1) ws) out

pub done : (w : ℕ) (ws : List ℕ) (i v : ℕ) → 0 < length ws → length ws ≤ i → finish w v (drop i ws) ≡ finish w 0 ws → read_number w ws ≡ sized w v
done w ws i v p l inv = finish_is w ws p ∙ sym inv ∙ at_drop_all (finish w v) ws i l

-- r is the number in 32 bits, where it fits these
pub narrowed : {E : Type 0} (w v : ℕ) (r : Result ℕ E) → OkIff r (v < 4294967296) v → sized w v ≡ result_or r (Err (TooLarge w))
narrowed w v (Ok x) k = cond-true (ltb v 4294967296) _ _ (lt-ltb v 4294967296 k.0) ∙ ap Ok (sym k.1)
narrowed w v (Err e) k = cond-false (ltb v 4294967296) _ _ (le-ltb v 4294967296 (⊎_elim (λ (l : v < 4294967296). absurd (k l)) (λ (l : 4294967296 ≤ v). l) (cases_lt v 4294967296)))
