-- A list of calls served one after the other, and what holds of the whole list.
use Rattle.std.proofs.Common.{◌≡◌, ℕ, ◌+◌, ◌<◌, ◌≤◌, List, [], ◌∷◌, ◌++◌, map, length, get_or, take, Result, sym, ap, ◌∙◌, subst}
use Rattle.std.proofs.lemmas.List.{map-append, take_all, take_more}
use Rattle.network.specs.Network.{Grouped, Separate, Meeting}
use Rattle.network.specs.declared.layout.Layout.{Ghosts as LayoutGhosts}
use Rattle.plant.specs.declared.Plant.{Ghosts as PlantGhosts}
use Rattle.reckoning.specs.declared.call.Call.{Call}
use Rattle.reckoning.specs.Calls.{Answer}
use Rattle.reckoning.specs.Parts.{Parts}
use Rattle.reckoning.specs.Runs.{Moment, Answered, Run}
use Rattle.reckoning.proofs.LawOfRuns.{law_of_runs}
use Rattle.reckoning.proofs.Serving.{run_nothing, run_more, run_replies}
use Rattle.book.specs.declared.refusal.CallRefusal.{CallRefusal}
use Rattle.book.specs.declared.setting.Setting.{Setting}
use Rattle.book.specs.Books.{parts_in}
use Rattle.book.specs.Standing.{parts_of}
use Rattle.controller.specs.declared.answer.Answer.{Answer as Accepted}
use Rattle.controller.specs.declared.controller.Controller.{Controller}
use Rattle.controller.specs.Service.{Same, Served, answer_of}

module _ (L : Parts) (calls : List Call) (m : Moment) where
  pub none_served : (given : List (Result Accepted CallRefusal)) → given ≡ [] → Run (Answered L) (take 0 calls) (map answer_of given) m m
  none_served given e = subst (λ (xs : List (Result Accepted CallRefusal)). Run (Answered L) [] (map answer_of xs) m m) (sym e) (run_nothing (Answered L) m)

  pub one_more : (i : ℕ) (d : Call) (given given' : List (Result Accepted CallRefusal)) (r : Result Accepted CallRefusal) (m' m'' : Moment) → i < length calls → given' ≡ given ++ (r ∷ [])
      → Run (Answered L) (take i calls) (map answer_of given) m m' → Answered L (get_or calls i d) (answer_of r) m' m'' → Run (Answered L) (take (i + 1) calls) (map answer_of given') m m''
  one_more i d given given' r m' m'' h e run x =
      subst (λ (cs : List Call). Run (Answered L) cs (map answer_of given') m m'') (sym (take_more calls i d h))
      (subst (λ (xs : List Answer). Run (Answered L) (take i calls ++ (get_or calls i d ∷ [])) xs m m'') (sym (ap (map answer_of) e ∙ map-append answer_of given (r ∷ [])))
      (run_more (Answered L) (take i calls) (map answer_of given) (get_or calls i d) (answer_of r) m m' m'' run x))

-- the parts are those told at the making
pub as_told : {N P : Type 0} (D : PlantGhosts P) (c c' : Controller N P) → Same D c c' → (call : Call) (a : Answer) (m m' : Moment) → Answered (parts_in c'.book) call a m m' → Answered (parts_in c.book) call a m m'
as_told D c c' s call a m m' x = subst (λ (t : Setting). Answered (parts_of t) call a m m') s.setting x

pub same_on : {N P : Type 0} (D : PlantGhosts P) (c c' c'' : Controller N P) → Same D c c' → Same D c' c'' → Same D c c''
same_on D c c' c'' s t = record { layout = t.layout ∙ s.layout; setting = t.setting ∙ s.setting; kept = t.kept ∙ s.kept }

pub all_served : {N P : Type 0} (E : LayoutGhosts N) (c : Controller N P) → Grouped (E.network c.layout) → Separate (E.network c.layout) → Meeting (E.network c.layout) → (calls : List Call) (answers : List Answer) (i : ℕ) (m m' : Moment) → length calls ≤ i
    → Run (Answered (parts_in c.book)) (take i calls) answers m m' → Served E c calls answers m m'
all_served E c grouped separate meeting calls answers i m m' h part =
    let run = subst (λ (cs : List Call). Run (Answered (parts_in c.book)) cs answers m m') (take_all i calls h) part in
    let told = run_replies (parts_in c.book) calls answers m m' run in
    record {
      answered = run;
      replied = (told.0, told.1);
      lawful = λ s. law_of_runs (E.network c.layout) grouped separate (parts_in c.book) calls answers m m' s run;
      meeting = meeting;
    }
