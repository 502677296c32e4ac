-- The chain is looked through.
use Rattle.std.proofs.Common.{◌∙◌, rules, tests}
use Rattle.std.proofs.lemmas.Iterator.{YieldsList-from_slice}
use Rattle.std.proofs.lemmas.Iterator.Search.{any_from_yields_List}
use Rattle.reckoning.specs.Standing.{bears}
use Rattle.book.proofs.Rows.{any_is}
use Rattle.book.proofs.moving.among.Goals as goal

pub returns : goal.returns
returns c =
    any_from_yields_List (bears c.args.number) _ _ c.any.result c.any.ensures.ran (YieldsList-from_slice c.args.chain.now (cc)) (λ x b q k. search (rules, tests))
    ∙ any_is (bears c.args.number) c.args.chain.now
