-- No order of a job changes the counts of a plant.
use Rattle.std.proofs.Common.{◌≡◌, List, [], ◌∷◌, map, is_ok, refl, ◌∙◌}
use Rattle.std.proofs.lemmas.Bool.{cond_both}
use Rattle.plant.specs.Orders.{Order, light, darken, answer_to, after, after_all, change_over, until_refused}
use Rattle.plant.specs.Switch.{Switch}
use Rattle.commission.specs.declared.job.Job.{Job}
use Rattle.commission.specs.Job.{lighting, after_job, plan_lit, chain_moved, other_moved, darkening}

pub record AsMany (s t : Switch) : Type 0 where
  pub waves : s.waves ≡ t.waves
  pub groups : s.groups ≡ t.groups

same : (t : Switch) → AsMany t t
same t = record { waves = refl; groups = refl }

next : (s t u : Switch) → AsMany s t → AsMany t u → AsMany s u
next s t u p q = record { waves = p.waves ∙ q.waves; groups = p.groups ∙ q.groups }

after_order : (t : Switch) (o : Order) → AsMany (after t o) t
after_order t (light w a b) = record { waves = refl; groups = refl }
after_order t (darken w a b) = record { waves = refl; groups = refl }

after_all_lem : (t : Switch) (os : List Order) → AsMany (after_all t os) t
after_all_lem t [] = same t
after_all_lem t (o ∷ os) = next _ _ _ (after_all_lem (after t o) os) (after_order t o)

until_refused_lem : (t : Switch) (os : List Order) → AsMany (until_refused t os) t
until_refused_lem t [] = same t
until_refused_lem t (o ∷ os) =
    cond_both (is_ok (answer_to t o)) _ _ (λ (u : Switch). AsMany u t) (λ _. next _ _ _ (until_refused_lem (after t o) os) (after_order t o)) (λ _. same t)

pub after_job_lem : (t : Switch) (job : Job) → AsMany (after_job t job) t
after_job_lem t job =
    next _ _ _ (after_order (other_moved t job) (darkening job.last))
    (next _ _ _ (until_refused_lem (chain_moved t job) (change_over job.other.now))
    (next _ _ _ (until_refused_lem (plan_lit t job) (change_over job.chain.now)) (after_all_lem t (map lighting job.plan.now))))
