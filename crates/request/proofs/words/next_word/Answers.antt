use Rattle.std.proofs.Common.{◌≡◌, Bor, List, ℕ, Option, Some, ap, ◌∙◌, rules}
use Rattle.request.specs.Words.{split_spaces}
use Rattle.request.proofs.Splitting.{split_first, split_only}
use Rattle.request.proofs.words.next_word.Goals.{in-Some, in-None}
use Rattle.request.proofs.words.next_word.Goals as goal

pub returns : goal.returns
returns c =
    let e : ◌≡◌ {A = Option (Bor (List ℕ))} c.args.left (Some c.in_ok-bytes.bytes) = search rules in (
      search rules,
      elim c.match-split_once.branch [
        | in-Some w ↦ rw (e, w.t-16-is) (let s = w.in-Some.ensures in ap split_spaces s.1 ∙ split_first w.in-Some.word.now w.in-Some.rest.now s.0)
        | in-None w ↦ rw (e, w.t-16-is) (split_only c.in_ok-bytes.bytes.now w.in-None.ensures)
      ],
    )
