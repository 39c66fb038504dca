use Rattle.std.proofs.Common.{◌≡◌, Vec, Global, length, refl, sym, ap, ◌∙◌, subst, arith}
use Rattle.std.specs.List.{All}
use Rattle.std.specs.Vec.{vec_len}
use Rattle.std.proofs.lemmas.List.{length-map}
use Rattle.std.proofs.lemmas.List.Elements.{All-map}
use Rattle.vx_sector.specs.SectorData.{SectorData}
use Rattle.vx_sector.specs.Windows.{count_of}
use Rattle.vx_sector.specs.declared.sector.Sector.{Sector}
use Rattle.vx_windows.specs.Sectors.{opened_with}
use Rattle.vx_world.proofs.opening.kept.Goals as goal

counted : (sectors : Vec Sector Global) → vec_len sectors ≡ length sectors.items
counted sectors = omega (arith, sectors.ok.0)

-- no sector has an entry as the world opens
pub locked-requires-clause-none : goal.locked-requires-clause-none
locked-requires-clause-none g c =
    subst (All (λ (s : SectorData). count_of s ≡ 0)) (sym c.in_ok-keeper.ensures.sectors)
    (All-map (λ (s : SectorData). count_of s ≡ 0) (opened_with c.args.opening.policy) c.args.opening.terrain.sectors
    (λ k d within. refl))

pub locked-requires-clause-parts : goal.locked-requires-clause-parts
locked-requires-clause-parts g c = c.in_ok-keeper.ensures.parts

pub locked-requires-clause-each : goal.locked-requires-clause-each
locked-requires-clause-each g c =
    let opened = opened_with c.args.opening.policy in
    c.requires.each ∙ sym c.requires.all ∙ sym (length-map c.args.opening.terrain.sectors opened)
    ∙ ap length (sym c.in_ok-keeper.ensures.sectors) ∙ sym (counted c.in_ok-keeper.sectors)

pub returns-clause-each : goal.returns-clause-each
returns-clause-each g c =
    let opened = opened_with c.args.opening.policy in
    c.in_ok-slots.ensures.each ∙ counted c.in_ok-keeper.sectors ∙ ap length c.in_ok-keeper.ensures.sectors ∙ length-map c.args.opening.terrain.sectors opened ∙ c.requires.all
