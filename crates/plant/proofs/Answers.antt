-- What an accepted order tells of the plant before it and after it.
use Rattle.std.proofs.Common.{◌≡◌, ℕ, ◌<◌, Bool, true, false, cond, is_some, is_ok, Some, None, Ok, Err, Option, Result, sym, refl, ap, ◌∙◌, arith}
use Rattle.std.proofs.lemmas.Bool.{lt-ltb, ltb-true, eq-eqb, eqb-true, ne_eqb, and_parts, cond-true, and_from}
use Rattle.plant.specs.declared.refusal.PlantRefusal.{PlantRefusal}
use Rattle.plant.specs.declared.refusal.PlantRefusal.TheVariants.{NoWavelength, NoGroup, SourceLit, DestinationLit, NotHeard}
use Rattle.plant.specs.Switch.{Switch, is_from, steered, first, tuned, light_answer, darken_answer, lit_after, dark_after}

pub record Lightable (t : Switch) (w a b : ℕ) : Type 0 where
  pub wave : w < t.waves
  pub source : a < t.groups
  pub destination : b < t.groups
  pub unsteered : first (λ y. is_from (t.hears w y) a) t.groups ≡ None
  pub unheard : t.hears w b ≡ None

pub record Darkenable (t : Switch) (w a b : ℕ) : Type 0 where
  pub wave : w < t.waves
  pub source : a < t.groups
  pub destination : b < t.groups
  pub heard : t.hears w b ≡ Some a

abbrev Reply : Type 0
Reply = Result (Unit {0}) PlantRefusal

refused_not_ok : {X : Type 0} (x : PlantRefusal) → ◌≡◌ {A = Reply} (Err x) (Ok tt) → X
refused_not_ok x e = absurd (let z : ◌≡◌ {A = ℕ} 0 1 = cc in omega arith)

light_parts : (p q r s : Bool) → ◌≡◌ {A = Reply} (cond p (cond q (cond r (Err SourceLit) (cond s (Err DestinationLit) (Ok tt))) (Err NoGroup)) (Err NoWavelength)) (Ok tt)
    → (p ≡ true) × (q ≡ true) × (r ≡ false) × (s ≡ false)
light_parts true true false false e = (refl, refl, refl, refl)
light_parts true true false true e = refused_not_ok _ e
light_parts true true true s e = refused_not_ok _ e
light_parts true false r s e = refused_not_ok _ e
light_parts false q r s e = refused_not_ok _ e

darken_parts : (p q r : Bool) → ◌≡◌ {A = Reply} (cond p (cond q (cond r (Ok tt) (Err NotHeard)) (Err NoGroup)) (Err NoWavelength)) (Ok tt) → (p ≡ true) × (q ≡ true) × (r ≡ true)
darken_parts true true true e = (refl, refl, refl)
darken_parts true true false e = refused_not_ok _ e
darken_parts true false r e = refused_not_ok _ e
darken_parts false q r e = refused_not_ok _ e

none_there : (o : Option ℕ) → is_some o ≡ false → o ≡ None
none_there None e = refl
none_there (Some x) e = absurd (let z : ◌≡◌ {A = Bool} true false = e in let y : ◌≡◌ {A = ℕ} 0 1 = cc in omega arith)

pub from_there : (o : Option ℕ) (a : ℕ) → is_from o a ≡ true → o ≡ Some a
from_there None a e = absurd (let z : ◌≡◌ {A = Bool} false true = e in let y : ◌≡◌ {A = ℕ} 0 1 = cc in omega arith)
from_there (Some x) a e = ap Some (eqb-true x a e)

pub is_it : (o : Option ℕ) (a : ℕ) → o ≡ Some a → is_from o a ≡ true
is_it o a e = ap (λ (p : Option ℕ). is_from p a) e ∙ eq-eqb a a refl

pub not_from : (o : Option ℕ) (a : ℕ) → (o ≡ Some a → ⊥) → is_from o a ≡ false
not_from None a h = refl
not_from (Some x) a h = ne_eqb x a (λ e. h (ap Some e))

pub lightable : (t : Switch) (w a b : ℕ) → light_answer t w a b ≡ Ok tt → Lightable t w a b
unfolding light_answer
lightable t w a b e =
    let p = light_parts _ _ _ _ e in
    let q = and_parts _ _ p.1 in
    let wave = ltb-true _ _ p.0 in
    let source = ltb-true _ _ q.0 in
    record {
      wave = wave;
      source = source;
      destination = ltb-true _ _ q.1;
      unsteered = sym (cond-true _ _ _ (and_from _ _ p.0 q.0)) ∙ none_there _ p.2;
      unheard = none_there _ p.3;
    }

pub darkenable : (t : Switch) (w a b : ℕ) → darken_answer t w a b ≡ Ok tt → Darkenable t w a b
unfolding darken_answer
darkenable t w a b e =
    let p = darken_parts _ _ _ e in
    let q = and_parts _ _ p.1 in
    record { wave = ltb-true _ _ p.0; source = ltb-true _ _ q.0; destination = ltb-true _ _ q.1; heard = from_there _ _ p.2 }

-- one place of a switch changed
abbrev pub put : Switch → ℕ → ℕ → Option ℕ → Switch
put t w b s = record { waves = t.waves; groups = t.groups; hears = tuned t.hears w b s }

pub lit : (t : Switch) (w a b : ℕ) → light_answer t w a b ≡ Ok tt → put t w b (Some a) ≡ lit_after t w a b
lit t w a b e = ap (λ (h : ℕ → ℕ → Option ℕ). record { waves = t.waves; groups = t.groups; hears = h }) (sym (cond-true _ _ _ (ap is_ok e)))

pub darkened : (t : Switch) (w a b : ℕ) → darken_answer t w a b ≡ Ok tt → put t w b None ≡ dark_after t w a b
darkened t w a b e = ap (λ (h : ℕ → ℕ → Option ℕ). record { waves = t.waves; groups = t.groups; hears = h }) (sym (cond-true _ _ _ (ap is_ok e)))

-- the lowest group that hears a source in range
pub steered_at : (t : Switch) (w a : ℕ) → w < t.waves → a < t.groups → first (λ b. is_from (t.hears w b) a) t.groups ≡ steered t w a
steered_at t w a hw ha = sym (cond-true _ _ _ (and_from _ _ (lt-ltb w t.waves hw) (lt-ltb a t.groups ha)))
