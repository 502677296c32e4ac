use Rattle.std.proofs.Common.{◌≡◌, ◌+◌, ◌==◌, position, sym, ◌∙◌, add-one, rules}
use Rattle.std.proofs.lemmas.Iterator.{YieldsList-from_slice}
use Rattle.std.proofs.lemmas.Iterator.Search.{position_from_yields_List}
use Rattle.std.proofs.lemmas.List.{take_rest}
use Rattle.request.proofs.Cutting.{cut_first}
use Rattle.request.proofs.bytes.split_once.Goals as goal

pub returns : goal.returns
returns c =
    let e : c.position.result ≡ position (λ b. b == c.args.mark) c.args.bytes.now =
    position_from_yields_List (λ b. b == c.args.mark) _ _ _ c.position.ensures.ran (YieldsList-from_slice c.args.bytes.now cc) (λ x b q k. search rules) in
    rw (take_rest c.args.bytes.now (c.in_ok-n.n + 1), add-one) (cut_first c.args.mark c.in_ok-n.n c.args.bytes.now (sym e ∙ c.in_ok-n.was))
