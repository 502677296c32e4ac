-- The loop that writes a chain: where it is, one turn, and its end.
use Rattle.std.proofs.Common.{◌≡◌, ℕ, zero, suc, ◌+◌, ◌-◌, ◌<◌, ◌≤◌, eqb, List, [], ◌∷◌, ◌++◌, length, take, drop, set, Some, None, Option, sym, refl, ap, ◌∙◌, subst, arith}
use Rattle.std.proofs.lemmas.List.{append_assoc, append-nil, length-set, length-map, take_more_set, drop-append-le, drop-set-lt, drop-drop, length-take-le, take-append-drop}
use Rattle.reckoning.specs.declared.session.Session.{Session}
use Rattle.std.proofs.lemmas.Bool.{eq-eqb, ne_eqb, cond-true, cond-false}
use Rattle.reckoning.specs.Lists.{chain, first}
use Rattle.reckoning.specs.Standing.{leaves, enters}
use Rattle.reckoning.specs.Plans.{next}
use Rattle.reckoning.specs.Sheets.{codes, code}
use Rattle.book.specs.Walks.{laid}

-- i codes are written, and `cur` comes next
pub record Walking (g : ℕ → ℕ) (f : Session → Option Session) (fuel : ℕ) (start : Option Session) (old out : List ℕ) (i : ℕ) (cur : Option Session) : Type 0 where
  pub front : take i out ++ codes g (chain f (fuel - i) cur) ≡ codes g (chain f fuel start)
  pub rest : drop i out ≡ drop i old
  pub count : i + length (chain f (fuel - i) cur) ≡ length (chain f fuel start)
  pub long : length out ≡ length old

module _ (g : ℕ → ℕ) (f : Session → Option Session) (fuel : ℕ) (start : Option Session) (old : List ℕ) (room : length (chain f fuel start) ≤ length old) where
  pub walking_none : Walking g f fuel start old old 0 start
  walking_none =
      let z : fuel - 0 ≡ fuel = omega arith in
      record { front = rw z; rest = refl; count = rw z (omega arith); long = refl }

  module _ (out : List ℕ) (i : ℕ) (s : Session) (w : Walking g f fuel start old out i (Some s)) (l : i < fuel) where
    step : chain f (fuel - i) (Some s) ≡ s ∷ chain f (fuel - (i + 1)) (f s)
    step = let e : fuel - i ≡ suc (fuel - (i + 1)) = omega arith in rw e

    pub walking_room : i < length out
    walking_room = omega (arith, w.count, w.long, ap length step)

    pub walking_more : (x : ℕ) → x ≡ code g s → (next : Option Session) → next ≡ f s → Walking g f fuel start old (set out i x) (i + 1) next
    walking_more x e next d =
        subst (λ (o : Option Session). Walking g f fuel start old (set out i x) (i + 1) o) (sym d)
        (record {
          front =
              ap (λ (t : List ℕ). t ++ codes g (chain f (fuel - (i + 1)) (f s))) (take_more_set out i x walking_room)
              ∙ (append_assoc (take i out) (x ∷ []) (codes g (chain f (fuel - (i + 1)) (f s)))
              ∙ (ap (λ (y : ℕ). take i out ++ (y ∷ codes g (chain f (fuel - (i + 1)) (f s)))) e
              ∙ (ap (λ (t : List Session). take i out ++ codes g t) (sym step) ∙ w.front)));
          rest =
              drop-set-lt (i + 1) out i x (omega arith)
              ∙ (sym (drop-drop 1 i out) ∙ (ap (drop 1) w.rest ∙ drop-drop 1 i old));
          count = omega (arith, w.count, ap length step);
          long = length-set out i x ∙ w.long;
        })

  pub walking_all : (out : List ℕ) (i : ℕ) (cur : Option Session) → Walking g f fuel start old out i cur → chain f (fuel - i) cur ≡ [] → (i ≡ length (chain f fuel start)) × (out ≡ laid (codes g (chain f fuel start)) old)
  walking_all out i cur w e =
      let n : i ≡ length (chain f fuel start) = omega (arith, w.count, ap length e) in
      let m : i ≡ length (codes g (chain f fuel start)) = n ∙ sym (length-map (chain f fuel start) (code g)) in
      let all : take i out ≡ codes g (chain f fuel start) = sym (append-nil (take i out)) ∙ (ap (λ (t : List Session). take i out ++ codes g t) (sym e) ∙ w.front) in (
        n,
        sym (take-append-drop i out)
            ∙ (ap (λ (t : List ℕ). t ++ drop i out) all
            ∙ (ap (λ (t : List ℕ). codes g (chain f fuel start) ++ t) w.rest
            ∙ ap (λ (k : ℕ). codes g (chain f fuel start) ++ drop k old) m)),
      )

-- written over the first m places
pub laid_part : (xs walk : List ℕ) (m : ℕ) → m ≤ length walk → length xs ≤ m → laid xs (take m walk) ++ drop m walk ≡ laid xs walk
laid_part xs walk m l h =
    append_assoc xs (drop (length xs) (take m walk)) (drop m walk)
    ∙ ap (λ (t : List ℕ). xs ++ t) (sym (drop-append-le (length xs) (take m walk) (drop m walk) (omega (arith, length-take-le m walk l))) ∙ ap (drop (length xs)) (take-append-drop m walk))

pub chain_few : (f : Session → Option Session) (k : ℕ) (o : Option Session) → length (chain f k o) ≤ k
chain_few f zero o = omega arith
chain_few f (suc k) None = omega arith
chain_few f (suc k) (Some s) = omega (arith, chain_few f k (f s))

chain_none : (f : Session → Option Session) (k : ℕ) → chain f k None ≡ []
chain_none f zero = refl
chain_none f (suc k) = refl

pub chain_over : (f : Session → Option Session) (k : ℕ) (cur : Option Session) → cur ≡ None → chain f k cur ≡ []
chain_over f k cur e = ap (chain f k) e ∙ chain_none f k

-- after a session on p, which is not q, comes the one on q out of its source group
pub next_back : (g : ℕ → ℕ) (ss : List Session) (p q a : ℕ) (s : Session) (o : Option Session) → (s.wavelength ≡ q → ⊥) → s.wavelength ≡ p → a ≡ g s.source → o ≡ first (leaves g q a) ss → o ≡ next g ss p q s
next_back g ss p q a s o n e d h =
    h
    ∙ (ap (λ (x : ℕ). first (leaves g q x) ss) d
    ∙ sym (cond-false (eqb s.wavelength q) (first (enters g p (g s.destination)) ss) _ (ne_eqb _ _ n) ∙ cond-true (eqb s.wavelength p) (first (leaves g q (g s.source)) ss) None (eq-eqb _ _ e)))
