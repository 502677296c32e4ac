-- A wavelength is free at both ends, or both chains fit the walk list, and the shorter one is the course.
use Rattle.std.proofs.Common.{ℕ, ◌-◌, length, drop, Option, refl, sym, ◌∙◌, subst, arith}
use Rattle.std.specs.Option.{IsSome}
use Rattle.std.proofs.lemmas.List.{length-take-le, length-drop}
use Rattle.reckoning.specs.Lists.{first}
use Rattle.reckoning.specs.Standing.{enters}
use Rattle.reckoning.proofs.Soundness.{sound_from}
use Rattle.book.specs.Books.{parts_in, standing_in}
use Rattle.book.proofs.Choosing.{rooms, source_chosen, destination_chosen}
use Rattle.book.proofs.Free.{out_found, into_found, unwrapped}
use Rattle.book.proofs.book.Book.choose.Goals as goal

pub unwrap-p-requires : goal.unwrap-p-requires
unwrap-p-requires c =
    let b = c.args.self.now in
    let P : Option ℕ → Type 0 = λ o. IsSome o in
    subst P (sym (c.free.ensures ∙ out_found b c.args.a (omega (arith, c.requires.out, b.setting.small)) c.requires.up)) refl

pub unwrap-q-requires : goal.unwrap-q-requires
unwrap-q-requires c =
    let b = c.args.self.now in
    let P : Option ℕ → Type 0 = λ o. IsSome o in
    subst P (sym (c.free-2.ensures ∙ into_found b c.args.b (omega (arith, c.requires.into, b.setting.small)) c.requires.down)) refl

pub follow-m-requires : goal.follow-m-requires
follow-m-requires c =
    let b = c.args.self.now in
    let p = unwrapped _ _ _ (c.free.ensures ∙ out_found b c.args.a (omega (arith, c.requires.out, b.setting.small)) c.requires.up) c.unwrap-p.ensures in
    let q = unwrapped _ _ _ (c.free-2.ensures ∙ into_found b c.args.b (omega (arith, c.requires.into, b.setting.small)) c.requires.down) c.unwrap-q.ensures in
    omega (
      arith,
      rooms (parts_in b) (standing_in b) c.args.a c.args.b c.args.walk.now (sound_from (parts_in b) (standing_in b) b.sound) c.requires c.unwrap-p.result c.unwrap-q.result c.look_up-first.result
          (first (enters (parts_in b).group c.unwrap-p.result c.args.b) (standing_in b)) c.in_default.ensures.none p q c.look_up-first.ensures refl,
    )

pub follow-n-requires : goal.follow-n-requires
follow-n-requires c =
    let b = c.args.self.now in
    let p = unwrapped _ _ _ (c.free.ensures ∙ out_found b c.args.a (omega (arith, c.requires.out, b.setting.small)) c.requires.up) c.unwrap-p.ensures in
    let q = unwrapped _ _ _ (c.free-2.ensures ∙ into_found b c.args.b (omega (arith, c.requires.into, b.setting.small)) c.requires.down) c.unwrap-q.ensures in
    omega (
      arith,
      c.follow-m.ensures.count,
      c.follow-m.auto.walk,
      length-drop c.follow-m.result c.follow-m.new.walk,
      length-take-le (length c.follow-m.new.walk - c.follow-m.result) (drop c.follow-m.result c.follow-m.new.walk) (omega (arith, length-drop c.follow-m.result c.follow-m.new.walk)),
      rooms (parts_in b) (standing_in b) c.args.a c.args.b c.args.walk.now (sound_from (parts_in b) (standing_in b) b.sound) c.requires c.unwrap-p.result c.unwrap-q.result c.look_up-first.result c.look_up-second.result
          c.in_default.ensures.none p q c.look_up-first.ensures c.look_up-second.ensures,
    )

pub returns-then-m-n : goal.returns-then-m-n
returns-then-m-n c =
    let b = c.args.self.now in
    let p = unwrapped _ _ _ (c.free.ensures ∙ out_found b c.args.a (omega (arith, c.requires.out, b.setting.small)) c.requires.up) c.unwrap-p.ensures in
    let q = unwrapped _ _ _ (c.free-2.ensures ∙ into_found b c.args.b (omega (arith, c.requires.into, b.setting.small)) c.requires.down) c.unwrap-q.ensures in
    source_chosen (parts_in b) (standing_in b) c.args.a c.args.b c.args.walk.now (sound_from (parts_in b) (standing_in b) b.sound) c.requires _ _ _ _ c.in_default.ensures.none p q c.look_up-first.ensures c.look_up-second.ensures
    _ _ _ _ c.follow-m.ensures.count c.follow-m.ensures.written c.follow-n.ensures.count c.follow-n.ensures.written c.if-m-n.true

pub returns-else-m-n : goal.returns-else-m-n
returns-else-m-n c =
    let b = c.args.self.now in
    let p = unwrapped _ _ _ (c.free.ensures ∙ out_found b c.args.a (omega (arith, c.requires.out, b.setting.small)) c.requires.up) c.unwrap-p.ensures in
    let q = unwrapped _ _ _ (c.free-2.ensures ∙ into_found b c.args.b (omega (arith, c.requires.into, b.setting.small)) c.requires.down) c.unwrap-q.ensures in
    destination_chosen (parts_in b) (standing_in b) c.args.a c.args.b c.args.walk.now (sound_from (parts_in b) (standing_in b) b.sound) c.requires _ _ _ _ c.in_default.ensures.none p q c.look_up-first.ensures c.look_up-second.ensures
    _ _ _ _ c.follow-m.ensures.count c.follow-m.ensures.written c.follow-n.ensures.count c.follow-n.ensures.written c.if-m-n.false
