-- Words on lists and numbers that the reckoning is written in.
use Rattle.std.specs.Prelude.{◌≡◌, ℕ, zero, suc, Bool, true, false, cond, not, ◌⊎◌, List, [], ◌∷◌, ◌++◌, Some, None, Option, ◌≢◌}
use Rattle.std.specs.List.{prefix_len, range_with_len}

-- the first that passes
abbrev pub first : {A : Type 0} → (A → Bool) → List A → Option A
first p [] = None
first p (x ∷ xs) = cond (p x) (Some x) (first p xs)

-- does one pass?
abbrev pub any : {A : Type 0} → (A → Bool) → List A → Bool
any p [] = false
any p (x ∷ xs) = cond (p x) true (any p xs)

-- the lowest number below n that passes, or n where none does
abbrev pub lowest : (ℕ → Bool) → ℕ → ℕ
lowest free n = prefix_len (λ w. not (free w)) (range_with_len 0 n)

-- x, f x, f (f x), .. as far as they go, at most `fuel` of them
abbrev pub chain : {A : Type 0} → (A → Option A) → ℕ → Option A → List A
chain f zero o = []
chain f (suc n) None = []
chain f (suc n) (Some x) = x ∷ chain f n (f x)

-- the lists that f makes of each, one behind the other
abbrev pub flat : {A B : Type 0} → (A → List B) → List A → List B
flat f [] = []
flat f (x ∷ xs) = f x ++ flat f xs

abbrev pub as_list : {A : Type 0} → Option A → List A
as_list None = []
as_list (Some x) = x ∷ []

-- x stands in the list
abbrev pub In : {A : Type 0} → A → List A → Type 0
In x [] = ⊥
In x (y ∷ ys) = (x ≡ y) ⊎ In x ys

-- R holds of each two, the earlier first
abbrev pub Pairwise : {A : Type 0} → (A → A → Type 0) → List A → Type 0
Pairwise R [] = Unit {0}
Pairwise {A} R (x ∷ xs) = ((y : A) → In y xs → R x y) × Pairwise R xs

abbrev pub Distinct : {A : Type 0} → List A → Type 0
Distinct xs = Pairwise (λ x y. x ≢ y) xs
