-- The orders of a chain are those by which a plant changes it over; orders that are accepted singly are accepted in a row.
use Rattle.std.proofs.Common.{◌≡◌, ℕ, List, [], ◌∷◌, ◌++◌, map, reverse, sym, refl, ap, ◌∙◌, subst}
use mathlib.Core.List.{reverse_aux}
use Rattle.std.proofs.lemmas.List.{map-append}
use Rattle.plant.specs.Switch.{Switch}
use Rattle.plant.specs.Orders.{AllAccepted, after, after_all, until_refused, light, darkening, relighting, onward, backwards, change_over, Order as Put}
use Rattle.plant.proofs.Carrying.{accepted_throughout}
use Rattle.reckoning.specs.declared.session.Session.{Session}
use Rattle.reckoning.specs.declared.order.Order.{Order}
use Rattle.reckoning.specs.declared.order.Kind.TheVariants.{Light}
use Rattle.reckoning.specs.Plans.{Plan}
use Rattle.reckoning.specs.Sheets.{order, back, chain_orders, orders, retuning}
use Rattle.reckoning.specs.Laws.{put, darkened, CarriedOut}

map_reverse : {A B : Type 0} (f : A → B) (xs acc : List A) → map f (reverse_aux xs acc) ≡ reverse_aux (map f xs) (map f acc)
map_reverse f [] acc = refl
map_reverse f (x ∷ xs) acc = map_reverse f xs (x ∷ acc)

module _ (g : ℕ → ℕ) (p q : ℕ) where
  put_back : (e : Session) (r : List Session) → map put (back g p q (e ∷ r)) ≡ onward (retuning g p q e) (map (retuning g p q) r)
  put_back e [] = refl
  put_back e (d ∷ r) = ap (λ (os : List Put). darkening (retuning g p q d) ∷ (relighting (retuning g p q e) ∷ os)) (put_back d r)

  put_backwards : (r : List Session) → map put (chain_orders g p q r) ≡ backwards (map (retuning g p q) r)
  put_backwards [] = refl
  put_backwards (e ∷ r) = ap (λ (os : List Put). darkening (retuning g p q e) ∷ os) (put_back e r)

  pub put_chain : (es : List Session) → map put (chain_orders g p q (reverse es)) ≡ change_over (map (retuning g p q) es)
  put_chain es = put_backwards (reverse es) ∙ ap backwards (map_reverse (retuning g p q) es [])

-- the chain changes over, and then the new session is lit
pub put_orders : (g : ℕ → ℕ) (P : Plan) (n : Session) → map put (orders g P n) ≡ change_over (map (retuning g P.p P.q) P.moving) ++ (light n.wavelength (g n.source) (g n.destination) ∷ [])
put_orders g P n =
    map-append put (chain_orders g P.p P.q (reverse P.moving)) (order g Light n ∷ [])
    ∙ ap (λ (os : List Put). os ++ (light n.wavelength (g n.source) (g n.destination) ∷ [])) (put_chain g P.p P.q P.moving)

pub in_a_row : (End : Switch → Type 0) (os : List Order) (t : Switch) (dark : List ℕ) → CarriedOut End t dark os → AllAccepted t (map put os) × End (after_all t (map put os))
in_a_row End [] t dark h = (tt, h)
in_a_row End (o ∷ os) t dark h =
    let r = in_a_row End os (after t (put o)) (darkened o.kind o.session dark) h.2 in
    ((h.0, r.0), r.1)

-- the last leaves the plant as all of them do in a row
ends_in_a_row : (End : Switch → Type 0) (os : List Order) (t : Switch) (dark : List ℕ) → CarriedOut End t dark os → CarriedOut (λ u. u ≡ after_all t (map put os)) t dark os
ends_in_a_row End [] t dark h = refl
ends_in_a_row End (o ∷ os) t dark h = (h.0, h.1, ends_in_a_row End os (after t (put o)) (darkened o.kind o.session dark) h.2)

-- put to a plant up to the first refusal, none is refused
pub none_refused : (End : Switch → Type 0) (os : List Order) (t u : Switch) → CarriedOut End t [] os → u ≡ until_refused t (map put os) → CarriedOut (λ v. v ≡ u) t [] os × End u
none_refused End os t u h e =
    let r = in_a_row End os t [] h in
    let same : after_all t (map put os) ≡ u = sym (e ∙ (accepted_throughout t (map put os) r.0).1) in
    (subst (λ (x : Switch). CarriedOut (λ v. v ≡ x) t [] os) same (ends_in_a_row End os t [] h), subst End same r.1)
