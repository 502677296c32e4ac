-- Each site is the layout's, and a number that is none as well.
use Rattle.std.proofs.Common.{◌≡◌, ℕ, List, ◌∷◌, [], ◌++◌, map, length, sym, ap, ◌∙◌, ap₂, arith}
use Rattle.std.specs.List.{range_with_len}
use Rattle.std.proofs.lemmas.List.FromFn.{length-map-range_with_len, map-range_with_len_more}
use Rattle.book.specs.declared.setting.Site.{Site}
use Rattle.book.proofs.Tables.{site_of, sites_long, group_is, parts_are}
use Rattle.book.proofs.told.told.Goals as goal

pub push-requires : goal.push-requires
push-requires g c =
    let f = site_of (g.L.Layout.network c.args.layout.now) in
    omega (arith, ap length c.loop-s.invariant, length-map-range_with_len f 0 c.loop-s.s, c.sites-s-end.ensures.few)

pub loop-s-preserved : goal.loop-s-preserved
loop-s-preserved g c =
    let f = site_of (g.L.Layout.network c.args.layout.now) in
    c.push.ensures.items
    ∙ (ap₂ (λ (xs : List Site) (x : Site). xs ++ (x ∷ [])) c.loop-s.invariant (ap₂ (λ (p q : ℕ). record { ports = p; group = q }) c.ports.ensures.value c.group.ensures.value)
    ∙ sym (map-range_with_len_more f 0 c.loop-s.s c.loop-s.s (omega arith)))

pub invariant_of-result : goal.invariant_of-result
invariant_of-result g c =
    let n = g.L.Layout.network c.args.layout.now in
    let law = g.met.L.Layout in
    let x = c.args.layout.now in
    let e : c.loop-s.s ≡ n.sites = omega (arith, c.sites-s-end.ensures.value) in
    let all : c.loop-s.sites.items ≡ map (site_of n) (range_with_len 0 n.sites) = c.loop-s.invariant ∙ ap (λ k. map (site_of n) (range_with_len 0 k)) e in
    let long = sites_long n (law.outside x) c.loop-s.sites.items all in
    let proper = g.met.P.Plant.proper c.args.plant.now in
    record {
      small = (c.groups.ensures.few, omega (arith, c.waves.ensures, proper.few_waves), omega (arith, c.groups-2.ensures, proper.few_groups), omega (arith, long, c.sites-s-end.ensures));
      grouped = λ s h. omega (arith, group_is n (law.outside x) c.loop-s.sites.items all c.groups.result c.groups.ensures.value s, law.grouped x s (omega (arith, long)), c.groups.ensures.value);
    }

pub returns : goal.returns
returns g c =
    let n = g.L.Layout.network c.args.layout.now in
    let law = g.met.L.Layout in
    let e : c.loop-s.s ≡ n.sites = omega (arith, c.sites-s-end.ensures.value) in
    let all : c.loop-s.sites.items ≡ map (site_of n) (range_with_len 0 n.sites) = c.loop-s.invariant ∙ ap (λ k. map (site_of n) (range_with_len 0 k)) e in
    parts_are n (law.outside c.args.layout.now) c.loop-s.sites.items all c.groups.result c.groups.ensures.value (g.P.Plant.state c.args.plant.now) c.waves.result c.groups-2.result c.is_dark.result c.waves.ensures c.groups-2.ensures c.is_dark.ensures
