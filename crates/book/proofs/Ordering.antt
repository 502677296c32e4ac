-- The orders of a change-over, written one after the other into a sheet.
use Rattle.std.proofs.Common.{◌≡◌, ℕ, ◌*◌, ◌<◌, ◌≤◌, List, [], ◌∷◌, ◌++◌, reverse, length, Some, sym, refl, ap, ◌∙◌, arith}
use Rattle.std.proofs.lemmas.List.{append_assoc, length-append, length-reverse}
use Rattle.reckoning.specs.declared.session.Session.{Session}
use Rattle.reckoning.specs.declared.order.Order.{Order}
use Rattle.reckoning.specs.declared.order.Kind.TheVariants.{Darken, Light}
use Rattle.reckoning.specs.Plans.{moved}
use Rattle.reckoning.specs.Sheets.{order, back, chain_orders}
use Rattle.sheet.specs.Sheets.{Page, rewritten, with_record}
use Rattle.sheet.proofs.Writing.{put_behind}

-- one record more, over a page with xs written
pub put_next : {X : Type 0} (s : Page X) (xs : List X) (x y : X) (o o' : Page X) → length xs < length s.places → o ≡ rewritten (Some xs) s → x ≡ y → o' ≡ with_record o x → o' ≡ rewritten (Some (xs ++ y ∷ [])) s
put_next {X} s xs x y o o' l h e d =
    d ∙ (ap (λ (t : Page X). with_record t x) h ∙ (put_behind x xs s l ∙ ap (λ (z : X). rewritten (Some (xs ++ z ∷ [])) s) e))

-- o is s with the orders written that lead up to the lightpath of `dark`, which is the last darkened; `rest` has those before it in the chain
pub record Turning (g : ℕ → ℕ) (p q : ℕ) (whole : List Order) (s o : Page Order) (dark : Session) (rest : List Session) : Type 0 where
  pub so_far : List Order
  pub page : o ≡ rewritten (Some so_far) s
  pub whole_is : so_far ++ back g p q (dark ∷ rest) ≡ whole

module _ (g : ℕ → ℕ) (p q : ℕ) (s : Page Order) where
  -- the last of the chain goes dark
  pub started : (es : List Session) (last : Session) (rest : List Session) → reverse es ≡ last ∷ rest → 2 * length es ≤ length s.places
      → (o o' : Page Order) → o ≡ rewritten (Some []) s → o' ≡ with_record o (order g Darken last) → Turning g p q (chain_orders g p q (reverse es)) s o' last rest
  started es last rest e fit o o' h d =
      record {
        so_far = order g Darken last ∷ [];
        page = put_next s [] (order g Darken last) (order g Darken last) o o' (let l = ap length e in omega (arith, fit, l, length-reverse es)) h refl d;
        whole_is = sym (ap (chain_orders g p q) e);
      }

  module _ (whole : List Order) (fit : length whole ≤ length s.places) (o : Page Order) (dark : Session) where
    -- one more goes dark, and the one behind it is lit
    pub turned : (rest : List Session) (next : Session) (rest' : List Session) → Turning g p q whole s o dark rest → rest ≡ next ∷ rest'
        → (x y : Order) → x ≡ order g Darken next → y ≡ order g Light (moved p q dark) → (o₁ o₂ : Page Order) → o₁ ≡ with_record o x → o₂ ≡ with_record o₁ y → Turning g p q whole s o₂ next rest'
    turned rest next rest' t e x y hx hy o₁ o₂ d₁ d₂ =
        let xs = t.so_far in
        let a = order g Darken next in
        let b = order g Light (moved p q dark) in
        let w : xs ++ (a ∷ b ∷ back g p q (next ∷ rest')) ≡ whole = ap (λ (r : List Session). xs ++ back g p q (dark ∷ r)) (sym e) ∙ t.whole_is in
        let n = ap length w in
        let m = length-append xs (a ∷ b ∷ back g p q (next ∷ rest')) in
        record {
          so_far = (xs ++ a ∷ []) ++ b ∷ [];
          page = put_next s (xs ++ a ∷ []) y b o₁ o₂ (omega (arith, fit, n, m, length-append xs (a ∷ []))) (put_next s xs x a o o₁ (omega (arith, fit, n, m)) t.page hx d₁) hy d₂;
          whole_is = append_assoc (xs ++ a ∷ []) (b ∷ []) (back g p q (next ∷ rest')) ∙ (append_assoc xs (a ∷ []) (b ∷ back g p q (next ∷ rest')) ∙ w);
        }

    -- the first of the chain is lit
    pub ended : (rest : List Session) → Turning g p q whole s o dark rest → rest ≡ [] → (y : Order) → y ≡ order g Light (moved p q dark) → (o' : Page Order) → o' ≡ with_record o y → o' ≡ rewritten (Some whole) s
    ended rest t e y hy o' d =
        let xs = t.so_far in
        let b = order g Light (moved p q dark) in
        let w : xs ++ b ∷ [] ≡ whole = ap (λ (r : List Session). xs ++ back g p q (dark ∷ r)) (sym e) ∙ t.whole_is in
        put_next s xs y b o o' (omega (arith, fit, ap length w, length-append xs (b ∷ []))) t.page hy d ∙ ap (λ (zs : List Order). rewritten (Some zs) s) w
