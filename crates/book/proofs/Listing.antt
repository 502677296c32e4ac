-- The rows of the table, written wavelength by wavelength and group by group.
use Rattle.std.proofs.Common.{◌≡◌, ℕ, zero, suc, ◌+◌, ◌<◌, ◌≤◌, List, [], ◌∷◌, ◌++◌, length, drop, Some, None, Option, sym, refl, ap, ◌∙◌, add-one, arith}
use Rattle.std.specs.List.{range_with_len}
use Rattle.std.proofs.lemmas.List.{append_assoc, append-nil, drop-drop, length-append, length-drop, length-take-le, take-append-drop}
use Rattle.reckoning.specs.Lists.{flat, as_list}
use Rattle.sheet.specs.Sheets.{Page, records, rewritten, with_record}
use Rattle.std.proofs.Math.Seq.{take-append_seam, drop-append_seam}
use Rattle.book.proofs.Ordering.{put_next}

-- ---- lists made of numbers in turn
module _ {X : Type 0} (f : ℕ → List X) where
  flat_last : (n a j : ℕ) → a + n ≡ j → flat f (range_with_len a (suc n)) ≡ flat f (range_with_len a n) ++ f j
  flat_last zero a j e = let d : a ≡ j = omega arith in append-nil (f a) ∙ ap f d
  flat_last (suc n) a j e = ap (λ (xs : List X). f a ++ xs) (flat_last n (a + 1) j (omega arith)) ∙ sym (append_assoc (f a) (flat f (range_with_len (a + 1) n)) (f j))

  pub flat_more : (n : ℕ) → flat f (range_with_len 0 (n + 1)) ≡ flat f (range_with_len 0 n) ++ f n
  flat_more n = ap (λ (k : ℕ). flat f (range_with_len 0 k)) (add-one n) ∙ flat_last n 0 n (omega arith)

  flat_front : (k n a : ℕ) → k ≤ n → length (flat f (range_with_len a k)) ≤ length (flat f (range_with_len a n))
  flat_front zero n a l = omega arith
  flat_front (suc k) zero a l = let e : ⊥ = omega arith in absurd e
  flat_front (suc k) (suc n) a l =
      omega (arith, flat_front k n (a + 1) (omega arith), length-append (f a) (flat f (range_with_len (a + 1) k)), length-append (f a) (flat f (range_with_len (a + 1) n)))

  -- room for all is room for the next
  pub flat_room : (w n room : ℕ) → w < n → length (flat f (range_with_len 0 n)) ≤ room → length (flat f (range_with_len 0 w)) + length (f w) ≤ room
  flat_room w n room l h = omega (arith, flat_front (w + 1) n 0 (omega arith), ap length (flat_more w), length-append (flat f (range_with_len 0 w)) (f w))

-- ---- one wavelength

-- what is written has room, so it leaves as many places as there were
rewritten_long : {X : Type 0} (xs : List X) (s : Page X) → length xs ≤ length s.places → length (xs ++ drop (length xs) s.places) ≡ length s.places
rewritten_long xs s l = omega (arith, l, length-append xs (drop (length xs) s.places), length-drop (length xs) s.places)

pub as_it_is : {X : Type 0} (s : Page X) → s.count ≤ length s.places → s ≡ rewritten (Some (records s ++ [])) s
as_it_is {X} s l =
    let e : records s ++ [] ≡ records s = append-nil (records s) in
    let n : s.count ≡ length (records s ++ []) = sym (ap length e ∙ length-take-le s.count s.places l) in
    let d : s.places ≡ (records s ++ []) ++ drop (length (records s ++ [])) s.places =
    sym (take-append-drop s.count s.places) ∙ (ap (λ (zs : List X). zs ++ drop s.count s.places) (sym e) ∙ ap (λ (i : ℕ). (records s ++ []) ++ drop i s.places) n)
    in
    (λ i. record { memory = s.memory; count = n i; places = d i })

module _ {X : Type 0} (at : ℕ → Option X) (s : Page X) where
  abbrev found : ℕ → List X
  found a = flat (λ b. as_list (at b)) (range_with_len 0 a)

  -- what stands for the first a numbers is written behind what was there
  abbrev pub behind : ℕ → Page X
  behind a = rewritten (Some (records s ++ flat (λ b. as_list (at b)) (range_with_len 0 a))) s

  pub none_more : (a : ℕ) → at a ≡ None → behind a ≡ behind (a + 1)
  none_more a e =
      ap (λ (zs : List X). rewritten (Some (records s ++ zs)) s) (sym (flat_more (λ b. as_list (at b)) a ∙ (ap (λ (o : Option X). found a ++ as_list o) e ∙ append-nil (found a))))

  pub one_more : (n : ℕ) → s.count + length (flat (λ b. as_list (at b)) (range_with_len 0 n)) ≤ length s.places → (a : ℕ) → a < n
      → (x : X) → at a ≡ Some x → (o o' : Page X) → o ≡ behind a → o' ≡ with_record o x → o' ≡ behind (a + 1)
  one_more n fit a l x e o o' h d =
      let one : as_list (at a) ≡ x ∷ [] = ap as_list e in
      let room = flat_room (λ b. as_list (at b)) a n (length (found n)) l (omega arith) in
      let few : length (records s ++ found a) < length s.places = omega (arith, fit, room, ap length one, length-append (records s) (found a), length-take-le s.count s.places (omega (arith, fit))) in
      let more : found a ++ x ∷ [] ≡ found (a + 1) = ap (λ (zs : List X). found a ++ zs) (sym one) ∙ sym (flat_more (λ b. as_list (at b)) a) in
      put_next s (records s ++ found a) x x o o' few h refl d
      ∙ ap (λ (zs : List X). rewritten (Some zs) s) (append_assoc (records s) (found a) (x ∷ []) ∙ ap (λ (zs : List X). records s ++ zs) more)

-- ---- one wavelength after the other

pub page_more : {X : Type 0} (xs ys : List X) (s₀ s s' : Page X) → s ≡ rewritten (Some xs) s₀ → s' ≡ rewritten (Some (records s ++ ys)) s → s' ≡ rewritten (Some (xs ++ ys)) s₀
page_more {X} xs ys s₀ s s' h d =
    d
    ∙ (ap (λ (t : Page X). rewritten (Some (records t ++ ys)) t) h
    ∙ (ap (λ (zs : List X). rewritten (Some (zs ++ ys)) (rewritten (Some xs) s₀)) (take-append_seam xs (drop (length xs) s₀.places))
    ∙ ap (λ (zs : List X). record { memory = s₀.memory; count = length (xs ++ ys); places = (xs ++ ys) ++ zs }) behind))
  where
    behind : drop (length (xs ++ ys)) (xs ++ drop (length xs) s₀.places) ≡ drop (length (xs ++ ys)) s₀.places
    behind =
        ap (λ (j : ℕ). drop j (xs ++ drop (length xs) s₀.places)) (length-append xs ys)
        ∙ (sym (drop-drop (length ys) (length xs) (xs ++ drop (length xs) s₀.places))
        ∙ (ap (drop (length ys)) (drop-append_seam xs (drop (length xs) s₀.places))
        ∙ (drop-drop (length ys) (length xs) s₀.places ∙ ap (λ (j : ℕ). drop j s₀.places) (sym (length-append xs ys)))))

-- a sheet with xs written has as many places as before, if they had room
pub page_long : {X : Type 0} (xs : List X) (s₀ s : Page X) → s ≡ rewritten (Some xs) s₀ → length xs ≤ length s₀.places → (s.count ≡ length xs) × (length s.places ≡ length s₀.places)
page_long {X} xs s₀ s h l =
    (ap (λ (t : Page X). t.count) h, omega (arith, ap (λ (t : Page X). length t.places) h, length-append xs (drop (length xs) s₀.places), length-drop (length xs) s₀.places))
