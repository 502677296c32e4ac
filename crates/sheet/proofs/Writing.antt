-- A list is written into a sheet record by record.
use Rattle.std.proofs.Common.{◌≡◌, ◌+◌, ◌<◌, List, [], ◌∷◌, ◌++◌, length, drop, set, nat_lt, Some, ap, refl, sym, ◌∙◌, arith}
use Rattle.std.proofs.lemmas.List.{length-append, length-drop}
use Rattle.std.proofs.lemmas.Bool.{lt-ltb, cond-true}
use Rattle.sheet.specs.Sheets.{Page, rewritten, with_record}

module _ {X : Type 0} (x : X) where
  set_behind : (xs ps : List X) → length xs < length ps → set (xs ++ drop (length xs) ps) (length xs) x ≡ (xs ++ x ∷ []) ++ drop (length (xs ++ x ∷ [])) ps
  set_behind [] [] h = absurd (omega arith)
  set_behind [] (p ∷ ps) h = refl
  set_behind (y ∷ ys) [] h = absurd (omega arith)
  set_behind (y ∷ ys) (p ∷ ps) h = ap (λ (zs : List X). y ∷ zs) (set_behind ys ps (omega arith))

  -- one record is put behind those that are written over s
  pub put_behind : (xs : List X) (s : Page X) → length xs < length s.places → with_record (rewritten (Some xs) s) x ≡ rewritten (Some (xs ++ x ∷ [])) s
  put_behind xs s h =
      let ps : List X = xs ++ drop (length xs) s.places in
      let long : length ps ≡ length s.places = omega (arith, h, length-append xs (drop (length xs) s.places), length-drop (length xs) s.places) in
      let one : length xs + 1 ≡ length (xs ++ x ∷ []) = sym (length-append xs (x ∷ [])) in
      let more : Page X = record { memory = s.memory; count = length xs + 1; places = set ps (length xs) x } in
      cond-true (nat_lt (length xs) (length ps)) more (rewritten (Some xs) s) (lt-ltb (length xs) (length ps) (omega (arith, h, long)))
      ∙ (λ i. record { memory = s.memory; count = one i; places = set_behind xs s.places h i })
