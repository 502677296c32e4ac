-- What the check of a layout's lists answers.
use Rattle.std.specs.Prelude.{ℕ, Bool, cond, ◌&&◌, List, length, Ok, Err, Result, ◌==◌, nat_le, nat_lt}
use Rattle.std.specs.List.{list_all}
use Rattle.network.specs.declared.refusal.LayoutRefusal.{LayoutRefusal}
use Rattle.network.specs.declared.refusal.LayoutRefusal.TheVariants.{SiteCount, PortCount, BranchEntries, BranchCount, BranchNumber}

abbrev pub refusal_number : LayoutRefusal → ℕ
refusal_number SiteCount = 51
refusal_number PortCount = 52
refusal_number BranchEntries = 53
refusal_number BranchCount = 54
refusal_number BranchNumber = 55

-- least ≤ n ≤ most
abbrev pub between : ℕ → ℕ → ℕ → Bool
between least most n = nat_le least n && nat_le n most

-- a site has 1 to 32 ports
abbrev pub all_ported : List ℕ → Bool
all_ported ports = list_all (between 1 32) ports

-- what the check answers
abbrev pub Verdict : Type 0
Verdict = Result (Unit {0}) LayoutRefusal

-- where the question fails, its refusal; else what is asked next
abbrev pub ask : Bool → LayoutRefusal → Verdict → Verdict
ask holds refusal next = cond holds next (Err refusal)

-- what every layout is asked first: 2 to `most` sites, with 1 to 32 ports each
abbrev pub sites_verdict : ℕ → List ℕ → Verdict → Verdict
sites_verdict most ports next = ask (between 2 most (length ports)) SiteCount (ask (all_ported ports) PortCount next)

abbrev pub star_verdict : List ℕ → Verdict
star_verdict ports = sites_verdict 32 ports (Ok tt)

-- entries: the branch of each site, from 0 to branches - 1
abbrev pub splitter_verdict : List ℕ → List ℕ → ℕ → Verdict
splitter_verdict ports entries branches =
    sites_verdict 128 ports
    (ask (length entries == length ports) BranchEntries
    (ask (between 1 32 branches) BranchCount
    (ask (list_all (λ e. nat_lt e branches) entries) BranchNumber
    (Ok tt))))
