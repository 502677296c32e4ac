-- What is told of a number that may name a site.
use Rattle.std.specs.Prelude.{ℕ, Some, None, Option}
use Rattle.book.specs.declared.setting.Site.{Site}

-- the ports of a site, or 0 where there is none
abbrev pub ports_there : Option Site → ℕ
ports_there None = 0
ports_there (Some x) = x.ports

-- the group of a site, or the number of groups where there is none
abbrev pub group_there : ℕ → Option Site → ℕ
group_there groups None = groups
group_there groups (Some x) = x.group
