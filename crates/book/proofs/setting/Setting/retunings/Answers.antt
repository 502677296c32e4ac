-- One session more is written as the plant changes it over.
use Rattle.std.proofs.Common.{◌≡◌, ℕ, ◌<◌, map, length, take, ap, ◌∙◌, arith}
use Rattle.std.proofs.lemmas.List.{length-set, take_all}
use Rattle.reckoning.specs.Sheets.{retuning}
use Rattle.book.specs.Standing.{parts_of}
use Rattle.book.specs.Moves.{nobody}
use Rattle.book.proofs.Rows.{written_more}
use Rattle.book.proofs.setting.Setting.retunings.Goals as goal

pub loop-i-preserved : goal.loop-i-preserved
loop-i-preserved c =
    let f = retuning (parts_of c.args.self.now).group c.args.exchange.p c.args.exchange.q in
    let h : c.loop-i.i < length c.loop-i.changes = omega (arith, c.loop-i.invariant.0, c.requires) in (
      length-set c.loop-i.changes c.loop-i.i c.retuning.result ∙ c.loop-i.invariant.0,
      written_more f c.args.chain.now c.loop-i.changes c.loop-i.i nobody c.retuning.result c.loop-i-test.true h c.loop-i.invariant.1 c.retuning.ensures,
    )

pub returns : goal.returns
returns c =
    let f = retuning (parts_of c.args.self.now).group c.args.exchange.p c.args.exchange.q in
    let e : length c.args.chain.now ≡ c.loop-i.i = omega arith in
    ap (λ (n : ℕ). take n c.loop-i.changes) e ∙ (c.loop-i.invariant.1 ∙ ap (map f) (take_all c.loop-i.i c.args.chain.now (omega arith)))
