-- What reads consumed of the bytes that a reader has left, where those are known.
use Rattle.std.proofs.Common.{◌≡◌, ℕ, ◌≤◌, ◌⊎◌, List, [], ◌++◌, Some, None, Option, IfSome, length, take, inl, inr, refl, ap, sym, ◌∙◌, append_assoc, take_all}
use Rattle.std.proofs.lemmas.List.{take_at, append-nil}
use Rattle.std.specs.Io.KnownBytes.{Consumes, IsAtEnd}

pub nothing_read : (known : Option (List ℕ)) → Consumes known known []
nothing_read None = tt
nothing_read (Some xs) = refl

pub read_on : (a b c : Option (List ℕ)) (done part : List ℕ) → Consumes a b done → Consumes b c part → Consumes a c (done ++ part)
read_on None b c done part p q = tt
read_on (Some xs) None c done part p q = absurd p
read_on (Some xs) (Some ys) None done part p q = absurd q
read_on (Some xs) (Some ys) (Some zs) done part p q = p ∙ ap (λ (l : List ℕ). done ++ l) q ∙ sym (append_assoc done part zs)

-- as many as were wanted, or all that there were
pub front_read : (a b : Option (List ℕ)) (done : List ℕ) (most : ℕ) → Consumes a b done → (length done ≡ most) ⊎ ((length done ≤ most) × IsAtEnd b) → IfSome a (λ xs. done ≡ take most xs)
front_read None b done most p h = tt
front_read (Some xs) None done most p h = absurd p
front_read (Some xs) (Some ys) done most p (inl full) = sym (ap (take most) p ∙ take_at done ys most full)
front_read (Some xs) (Some ys) done most p (inr (few, end)) =
    let all : xs ≡ done = p ∙ ap (λ (l : List ℕ). done ++ l) end ∙ append-nil done in
    sym (ap (take most) all ∙ take_all most done few)
