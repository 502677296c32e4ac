-- Pigeonhole: a list without repeats, all of whose elements stand in another list, is no longer than that list.
use Rattle.std.proofs.Common.{◌≡◌, ℕ, zero, suc, ◌+◌, ◌<◌, ◌≤◌, Bool, true, false, cond, ◌⊎◌, List, [], ◌∷◌, ◌++◌, map, length, count_by, filter, sym, refl, ap, ◌∙◌, subst, inl, inr, arith}
use mathlib.Core.List.{reverse_aux}
use Rattle.std.specs.List.{range_with_len}
use Rattle.std.proofs.lemmas.List.FromFn.{length-range_with_len}
use Rattle.std.proofs.lemmas.List.Sums.{sum_by-cons}
use Rattle.std.proofs.lemmas.Bool.{cases_eq, cond_both}
use Rattle.reckoning.specs.Lists.{In, Pairwise, Distinct}

-- the list without the element at this place
abbrev without : {A : Type 0} (x : A) (ys : List A) → In x ys → List A
without x [] i = []
without x (y ∷ ys) (inl e) = ys
without x (y ∷ ys) (inr i) = y ∷ without x ys i

without_length : {A : Type 0} (x : A) (ys : List A) (i : In x ys) → length ys ≡ suc (length (without x ys i))
without_length x [] i = elim i [ ]
without_length x (y ∷ ys) (inl e) = refl
without_length x (y ∷ ys) (inr i) = ap suc (without_length x ys i)

-- what differs from it is still there
without_in : {A : Type 0} (x y : A) (ys : List A) (i : In x ys) → (x ≡ y → ⊥) → In y ys → In y (without x ys i)
without_in x y [] i ne j = j
without_in x y (z ∷ ys) (inl e) ne (inl d) = absurd (ne (e ∙ sym d))
without_in x y (z ∷ ys) (inl e) ne (inr j) = j
without_in x y (z ∷ ys) (inr i) ne (inl d) = inl d
without_in x y (z ∷ ys) (inr i) ne (inr j) = inr (without_in x y ys i ne j)

pub pigeon : {A : Type 0} (xs ys : List A) → Distinct xs → ((x : A) → In x xs → In x ys) → length xs ≤ length ys
pigeon [] ys d h = omega arith
pigeon (x ∷ xs) ys d h =
    let i = h x (inl refl) in
    let fewer : length xs ≤ length (without x ys i) =
    pigeon xs (without x ys i) d.1 (λ y j. without_in x y ys i (d.0 y j) (h y (inr j)))
    in
    omega (arith, without_length x ys i)

pub in_counting : (n a x : ℕ) → a ≤ x → x < a + n → In x (range_with_len a n)
in_counting zero a x l u = let no : ⊥ = omega arith in absurd no
in_counting (suc n) a x l u =
    elim (cases_eq x a) [ inl e ↦ inl e | inr ne ↦ inr (in_counting n (a + 1) x (omega arith) (omega arith)) ]

pub counting_in : (n a x : ℕ) → In x (range_with_len a n) → (a ≤ x) × (x < a + n)
counting_in zero a x i = absurd i
counting_in (suc n) a x (inl e) = (omega arith, omega arith)
counting_in (suc n) a x (inr i) = let r = counting_in n (a + 1) x i in (omega arith, omega arith)

-- numbers below n without repeats are at most n
pub pigeon_below : (n : ℕ) (xs : List ℕ) → Distinct xs → ((x : ℕ) → In x xs → x < n) → length xs ≤ n
pigeon_below n xs d h =
    let l = pigeon xs (range_with_len 0 n) d (λ x i. in_counting n 0 x (omega arith) (omega (arith, h x i))) in
    omega (arith, length-range_with_len 0 n)

pub rising_counting : (n a : ℕ) → Pairwise (λ x y. x < y) (range_with_len a n)
rising_counting zero a = tt
rising_counting (suc n) a = (λ y i. omega (arith, counting_in n (a + 1) y i), rising_counting n (a + 1))

-- ---- what stands in a list made of others

pub in_left : {A : Type 0} (x : A) (xs ys : List A) → In x xs → In x (xs ++ ys)
in_left x [] ys i = absurd i
in_left x (z ∷ xs) ys (inl e) = inl e
in_left x (z ∷ xs) ys (inr i) = inr (in_left x xs ys i)

pub in_right : {A : Type 0} (x : A) (xs ys : List A) → In x ys → In x (xs ++ ys)
in_right x [] ys i = i
in_right x (z ∷ xs) ys i = inr (in_right x xs ys i)

pub in_either : {A : Type 0} (x : A) (xs ys : List A) → In x (xs ++ ys) → In x xs ⊎ In x ys
in_either x [] ys i = inr i
in_either x (z ∷ xs) ys (inl e) = inl (inl e)
in_either x (z ∷ xs) ys (inr i) = elim (in_either x xs ys i) [ inl l ↦ inl (inr l) | inr r ↦ inr r ]

pub in_map : {A B : Type 0} (f : A → B) (y : B) (xs : List A) → In y (map f xs) → (x : A) × In x xs × (y ≡ f x)
in_map f y [] i = absurd i
in_map f y (z ∷ xs) (inl e) = (z, inl refl, e)
in_map f y (z ∷ xs) (inr i) = let r = in_map f y xs i in (r.0, inr r.1, r.2)

pub map_in : {A B : Type 0} (f : A → B) (x : A) (xs : List A) → In x xs → In (f x) (map f xs)
map_in f x [] i = absurd i
map_in f x (z ∷ xs) (inl e) = inl (ap f e)
map_in f x (z ∷ xs) (inr i) = inr (map_in f x xs i)

pub in_kept : {A : Type 0} (p : A → Bool) (x : A) (xs : List A) → In x (filter p xs) → In x xs × (p x ≡ true)
in_kept p x [] i = absurd i
in_kept {A} p x (z ∷ xs) i =
    cond_both (p z) _ _ (λ (l : List A). In x l → In x (z ∷ xs) × (p x ≡ true))
    (λ t j. elim j [ inl e ↦ (inl e, ap p e ∙ t) | inr k ↦ let r = in_kept p x xs k in (inr r.0, r.1) ])
    (λ t j. let r = in_kept p x xs j in (inr r.0, r.1))
    i

pub kept_in : {A : Type 0} (p : A → Bool) (x : A) (xs : List A) → In x xs → p x ≡ true → In x (filter p xs)
kept_in p x [] i t = absurd i
kept_in p x (z ∷ xs) (inl e) t = rw (ap p (sym e) ∙ t) (inl e)
kept_in {A} p x (z ∷ xs) (inr i) t = let k = kept_in p x xs i t in cond_both (p z) _ _ (λ (l : List A). In x l) (λ _. inr k) (λ _. k)

pub pairwise_kept : {A : Type 0} (R : A → A → Type 0) (p : A → Bool) (xs : List A) → Pairwise R xs → Pairwise R (filter p xs)
pairwise_kept R p [] h = tt
pairwise_kept {A} R p (z ∷ xs) h =
    let rest = pairwise_kept R p xs h.1 in
    cond_both (p z) _ _ (λ (l : List A). Pairwise R l) (λ _. (λ y i. h.0 y (in_kept p y xs i).0, rest)) (λ _. rest)

pub pairwise_append : {A : Type 0} (R : A → A → Type 0) (xs ys : List A) → Pairwise R xs → Pairwise R ys → ((x y : A) → In x xs → In y ys → R x y) → Pairwise R (xs ++ ys)
pairwise_append R [] ys p q h = q
pairwise_append R (x ∷ xs) ys p q h = (
  λ y i. elim (in_either y xs ys i) [ inl l ↦ p.0 y l | inr r ↦ h x y (inl refl) r ],
  pairwise_append R xs ys p.1 q (λ u v i j. h u v (inr i) j),
)

-- R holds of each two in the list whatever their images: from a relation on the images
pub pairwise_map : {A B : Type 0} (R : A → A → Type 0) (S : B → B → Type 0) (f : A → B) (xs : List A) → Pairwise R xs → ((x y : A) → In x xs → In y xs → R x y → S (f x) (f y)) → Pairwise S (map f xs)
pairwise_map R S f [] p h = tt
pairwise_map {A} {B} R S f (x ∷ xs) p h = (
  λ y i.
      let r = in_map f y xs i in
      subst (λ (z : B). S (f x) z) (sym r.2) (h x r.0 (inl refl) (inr r.1) (p.0 r.0 r.1)),
  pairwise_map R S f xs p.1 (λ u v i j k. h u v (inr i) (inr j) k),
)

pub pairwise_weaker : {A : Type 0} (R S : A → A → Type 0) (xs : List A) → ((x y : A) → In x xs → In y xs → R x y → S x y) → Pairwise R xs → Pairwise S xs
pairwise_weaker R S [] h p = tt
pairwise_weaker R S (x ∷ xs) h p =
    (λ y i. h x y (inl refl) (inr i) (p.0 y i), pairwise_weaker R S xs (λ u v i j k. h u v (inr i) (inr j) k) p.1)

pub distinct_counting : (n a : ℕ) → Distinct (range_with_len a n)
distinct_counting n a = pairwise_weaker (λ x y. x < y) (λ x y. x ≡ y → ⊥) (range_with_len a n) (λ x y i j l e. omega arith) (rising_counting n a)

-- a count of a list all of whose elements pass, or none of them
pub count_all : {A : Type 0} (p : A → Bool) (b : Bool) (xs : List A) → ((x : A) → In x xs → p x ≡ b) → count_by p xs ≡ cond b (length xs) 0
count_all p true [] h = refl
count_all p false [] h = refl
count_all p true (x ∷ xs) h = sum_by-cons (λ y. cond (p y) 1 0) x xs ∙ rw (h x (inl refl)) (omega (arith, count_all p true xs (λ y i. h y (inr i))))
count_all p false (x ∷ xs) h = sum_by-cons (λ y. cond (p y) 1 0) x xs ∙ rw (h x (inl refl)) (omega (arith, count_all p false xs (λ y i. h y (inr i))))

pub pairwise_unmap : {A B : Type 0} (S : B → B → Type 0) (f : A → B) (xs : List A) → Pairwise S (map f xs) → Pairwise (λ x y. S (f x) (f y)) xs
pairwise_unmap S f [] p = tt
pairwise_unmap S f (x ∷ xs) p = (λ y i. p.0 (f y) (map_in f y xs i), pairwise_unmap S f xs p.1)

pub in_reverse : {A : Type 0} (x : A) (xs acc : List A) → In x (reverse_aux xs acc) → In x xs ⊎ In x acc
in_reverse x [] acc i = inr i
in_reverse x (z ∷ xs) acc i =
    elim (in_reverse x xs (z ∷ acc) i) [ inl h ↦ inl (inr h) | inr (inl h) ↦ inl (inl h) | inr (inr h) ↦ inr h ]

pub distinct_reverse : {A : Type 0} (xs acc : List A) → Distinct xs → Distinct acc → ((x : A) → In x xs → In x acc → ⊥) → Distinct (reverse_aux xs acc)
distinct_reverse [] acc d e h = e
distinct_reverse {A} (z ∷ xs) acc d e h =
    distinct_reverse xs (z ∷ acc) d.1 (λ y i k. h z (inl refl) (subst (λ (u : A). In u acc) (sym k) i), e)
    (λ x i j. elim j [ inl k ↦ d.0 x i (sym k) | inr k ↦ h x (inr i) k ])
