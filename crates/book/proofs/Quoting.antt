-- What the questions of a quote give once they are answered yes, and the reply on each way.
use Rattle.std.proofs.Common.{◌≡◌, ℕ, ◌+◌, ◌<◌, ◌≤◌, true, List, length, sym, arith}
use Rattle.std.specs.List.{AllByRecursion}
use Rattle.std.proofs.lemmas.Bool.{and_parts, eqb-true, ltb-true, leb-true}
use Rattle.reckoning.specs.declared.session.Session.{Session}
use Rattle.reckoning.specs.Calls.{refused, unchanged, quoted, quote}
use Rattle.reckoning.specs.Laws.{Sound}
use Rattle.reckoning.specs.Parts.{Parts}
use Rattle.reckoning.specs.Plans.{planned}
use Rattle.reckoning.specs.Questions.{Question, verdict, quote_questions}
use Rattle.reckoning.specs.Sheets.{walked}
use Rattle.reckoning.proofs.Verdicts.{passed}
use Rattle.book.specs.declared.refusal.CallRefusal.{CallRefusal}
use Rattle.book.specs.Refusals.{refusal_number}
use Rattle.book.proofs.Choosing.{good}
use Rattle.book.proofs.Preparing.{Fitting, opening, judged_no, judged_yes}

module _ (L : Parts) (ss : List Session) (walk : List ℕ) (n s d : ℕ) where
  pub quote_refused : (x : CallRefusal) → refusal_number x ≡ verdict (quote_questions L ss walk n s d) → quote L ss walk n s d ≡ unchanged ss walk (refused (refusal_number x))
  quote_refused x h = judged_no ss walk (verdict (quote_questions L ss walk n s d)) (unchanged ss (walked L.group (planned L ss s d) walk) (quoted (planned L ss s d).gives (length (planned L ss s d).moving))) x h

  module _ (e : verdict (quote_questions L ss walk n s d) ≡ 0) where
    all : AllByRecursion (λ (x : Question). x.0 ≡ true) (quote_questions L ss walk n s d)
    all = passed (quote_questions L ss walk n s d) (omega arith) e

    pub quote_fitting : Fitting L ss walk s d
    quote_fitting =
        let k = and_parts _ _ all.1.1.1.0 in
        record {
          source = ltb-true _ _ k.0;
          destination = ltb-true _ _ k.1;
          groups = eqb-true _ _ (and_parts _ _ all.0).0;
          up = ltb-true _ _ all.1.1.1.1.1.1.1.1.1.0;
          down = ltb-true _ _ all.1.1.1.1.1.1.1.1.1.1.0;
          room = leb-true _ _ all.1.1.1.1.1.1.0;
        }

    pub quote_few : ((x : ℕ) → x < L.sites → L.group x < L.groups) → Sound L ss → length (planned L ss s d).moving + 1 ≤ L.plant_groups
    quote_few low k = (good L ss (L.group s) (L.group d) walk k (opening L ss walk s d quote_fitting low)).few

    pub quote_accepted : quote L ss walk n s d ≡ unchanged ss (walked L.group (planned L ss s d) walk) (quoted (planned L ss s d).gives (length (planned L ss s d).moving))
    quote_accepted = judged_yes ss walk (verdict (quote_questions L ss walk n s d)) (unchanged ss (walked L.group (planned L ss s d) walk) (quoted (planned L ss s d).gives (length (planned L ss s d).moving))) (sym e)
