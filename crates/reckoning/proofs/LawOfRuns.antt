-- Every run of calls keeps the law.
use Rattle.std.proofs.Common.{◌+◌, cond, List, [], ◌∷◌, sym, ap, subst, arith}
use Rattle.std.proofs.lemmas.List.Sums.{sum_by-cons}
use Rattle.network.specs.Network.{Network, Grouped, Separate}
use Rattle.reckoning.specs.declared.call.Call.{Call}
use Rattle.reckoning.specs.Parts.{Parts}
use Rattle.reckoning.specs.Calls.{Answer, is_admitted, is_released}
use Rattle.reckoning.specs.Laws.{lightpaths}
use Rattle.reckoning.specs.Runs.{Moment, Answered, Step, Run, Start, Lawful, LawOfRuns}
use Rattle.reckoning.proofs.Runs.{lit_count}
use Rattle.reckoning.proofs.Steps.{Behind, behind, step, sound_after, carried_after, tally_after}

module _ (n : Network) (L : Parts) (f : Behind n L) where
  keeps : (calls : List Call) (answers : List Answer) (m m'' : Moment) → Start n L m → Run (Answered L) calls answers m m'' → Lawful n L calls answers m m''
  keeps [] [] m m'' s e =
      record { each = e; lit_count = ap (λ (x : Moment). lightpaths x.plant + 0) (sym e); end = subst (Start n L) e s }
  keeps [] (a ∷ rest) m m'' s e = absurd e
  keeps (c ∷ cs) [] m m'' s e = absurd e
  keeps (c ∷ cs) (a ∷ rest) m m'' s (m', x, run) =
      let sound = sound_after n L f m m' s.sound s.carried c a x in
      let carried = carried_after n L f m m' s.sound s.carried c a x in
      let r = keeps cs rest m' m'' (record { told = s.told; sound = sound; carried = carried }) run in
      record {
        each = (m', step n L f m m' s.sound s.carried c a x, r.each);
        lit_count = omega (
          arith,
          r.lit_count,
          tally_after n L f m m' s.sound s.carried c a x,
          lit_count L m.standing s.sound m.plant s.carried,
          lit_count L m'.standing sound m'.plant carried,
          sum_by-cons (λ (y : Answer). cond (is_admitted y) 1 0) a rest,
          sum_by-cons (λ (y : Answer). cond (is_released y) 1 0) a rest,
        );
        end = r.end;
      }

pub law_of_runs : LawOfRuns
law_of_runs n grouped separate L calls answers m m' s run = keeps n L (behind n grouped separate L s.told) calls answers m m' s run

-- one call, from a sound start to another
pub one_call : (n : Network) → Grouped n → Separate n → (L : Parts) (c : Call) (a : Answer) (m m' : Moment) → Start n L m → Answered L c a m m' → Step n L c a m m' × Start n L m'
one_call n grouped separate L c a m m' s x =
    let f = behind n grouped separate L s.told in (
      step n L f m m' s.sound s.carried c a x,
      record { told = s.told; sound = sound_after n L f m m' s.sound s.carried c a x; carried = carried_after n L f m m' s.sound s.carried c a x },
    )
