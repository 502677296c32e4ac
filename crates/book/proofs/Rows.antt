-- Rows searched, counted and changed from either end.
use Rattle.std.proofs.Common.{◌≡◌, ℕ, ◌+◌, ◌<◌, Bool, true, false, cond, ◌||◌, List, [], ◌∷◌, ◌++◌, length, get_or, take, drop, map, set, filter, reverse, count_by, Some, sym, refl, ap, ◌∙◌, arith}
use mathlib.Core.List.{reverse_aux}
use Rattle.std.specs.List.{find, list_any, refill}
use Rattle.std.proofs.lemmas.List.{length-map, map-append, reverse-append, take-append-le, take_all, take_more, take_more_set}
use Rattle.std.proofs.lemmas.List.Sorted.{IsPermutation-reverse, sum_by-IsPermutation}
use Rattle.reckoning.specs.Lists.{first, any}

pub find_first : {A : Type 0} (p : A → Bool) (xs : List A) → find p xs ≡ first p xs
find_first p [] = refl
find_first p (x ∷ xs) = ap (λ o. cond (p x) (Some x) o) (find_first p xs)

pub any_is : {A : Type 0} (p : A → Bool) (xs : List A) → list_any p xs ≡ any p xs
any_is p [] = refl
any_is p (x ∷ xs) = go (p x) (any_is p xs)
  where
    go : (b : Bool) → list_any p xs ≡ any p xs → (b || list_any p xs) ≡ cond b true (any p xs)
    go true e = refl
    go false e = e

map_onto : {A B : Type 0} (f : A → B) (xs acc : List A) → map f (reverse_aux xs acc) ≡ reverse_aux (map f xs) (map f acc)
map_onto f [] acc = refl
map_onto f (x ∷ xs) acc = map_onto f xs (x ∷ acc)

pub map_reverse : {A B : Type 0} (f : A → B) (xs : List A) → map f (reverse xs) ≡ reverse (map f xs)
map_reverse f xs = map_onto f xs []

filter_onto : {A : Type 0} (p : A → Bool) (xs acc : List A) → filter p (reverse_aux xs acc) ≡ reverse_aux (filter p xs) (filter p acc)
filter_onto p [] acc = refl
filter_onto p (x ∷ xs) acc = filter_onto p xs (x ∷ acc) ∙ go (p x)
  where
    go : (b : Bool) → reverse_aux (filter p xs) (cond b (x ∷ filter p acc) (filter p acc)) ≡ reverse_aux (cond b (x ∷ filter p xs) (filter p xs)) (filter p acc)
    go true = refl
    go false = refl

pub filter_reverse : {A : Type 0} (p : A → Bool) (xs : List A) → filter p (reverse xs) ≡ reverse (filter p xs)
filter_reverse p xs = filter_onto p xs []

pub count_reverse : {A : Type 0} (p : A → Bool) (xs : List A) → count_by p (reverse xs) ≡ count_by p xs
count_reverse p xs = sum_by-IsPermutation (λ x. cond (p x) 1 0) xs (reverse xs) (IsPermutation-reverse xs)

pub entered : {A : Type 0} (f : A → A) (rows out : List A) (s : A) → out ≡ map f rows ++ (s ∷ []) → reverse out ≡ s ∷ map f (reverse rows)
entered {A} f rows out s e = ap reverse e ∙ (reverse-append (map f rows) (s ∷ []) ∙ ap (λ (xs : List A). s ∷ xs) (sym (map_reverse f rows)))

-- one row more read is the newest
pub newer : {A : Type 0} (rows : List A) (i : ℕ) (d : A) → i < length rows → reverse (take (i + 1) rows) ≡ get_or rows i d ∷ reverse (take i rows)
newer rows i d h = ap reverse (take_more rows i d h) ∙ reverse-append (take i rows) (get_or rows i d ∷ [])

-- rows written over by their images
pub all_moved : {A : Type 0} (f : A → A) (rows out : List A) → out ≡ map f rows → refill (length rows) rows out ≡ map f rows
all_moved f rows out e =
    let l : length out ≡ length rows = ap length e ∙ length-map rows f in
    take-append-le (length rows) out (drop (length out) rows) (omega (arith, l)) ∙ (take_all (length rows) out (omega (arith, l)) ∙ e)

-- i elements are written from those of another list
pub written_more : {A B : Type 0} (f : A → B) (xs : List A) (ys : List B) (i : ℕ) (d : A) (y : B) → i < length xs → i < length ys → take i ys ≡ map f (take i xs) → y ≡ f (get_or xs i d) → take (i + 1) (set ys i y) ≡ map f (take (i + 1) xs)
written_more {A} {B} f xs ys i d y h l e v =
    take_more_set ys i y l
    ∙ (ap (λ (t : List B). t ++ (y ∷ [])) e
    ∙ (ap (λ (z : B). map f (take i xs) ++ (z ∷ [])) v ∙ (sym (map-append f (take i xs) (get_or xs i d ∷ [])) ∙ ap (map f) (sym (take_more xs i d h)))))
