-- The loads of the masks are those of the sessions.
use Rattle.std.proofs.Common.{◌≡◌, arith, rules}
use Rattle.reckoning.specs.Standing.{up_load, down_load}
use Rattle.book.specs.Books.{parts_in, standing_in}
use Rattle.book.proofs.Free.{up_load_is, down_load_is}
use Rattle.book.proofs.book.Book.ask_free.Goals as goal

pub returns-in_err-ask-3 : goal.returns-in_err-ask-3
returns-in_err-ask-3 c =
    let b = c.args.self.now in
    let L = parts_in b in
    let up : c.load-up.result ≡ up_load L.group (standing_in b) b.setting.waves (L.group c.args.source) = up_load_is b (L.group c.args.source) _ (omega (arith, b.setting.grouped c.args.source c.requires.0, b.setting.small)) _ c.group_of.ensures c.load-up.ensures in
    search rules

pub returns : goal.returns
returns c =
    let b = c.args.self.now in
    let L = parts_in b in
    let up : c.load-up.result ≡ up_load L.group (standing_in b) b.setting.waves (L.group c.args.source) = up_load_is b (L.group c.args.source) _ (omega (arith, b.setting.grouped c.args.source c.requires.0, b.setting.small)) _ c.group_of.ensures c.load-up.ensures in
    let down : c.load-down.result ≡ down_load L.group (standing_in b) b.setting.waves (L.group c.args.destination) = down_load_is b (L.group c.args.destination) _ (omega (arith, b.setting.grouped c.args.destination c.requires.1, b.setting.small)) _ c.group_of-2.ensures c.load-down.ensures in
    search rules
