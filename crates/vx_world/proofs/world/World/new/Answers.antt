use Rattle.std.proofs.Common.{◌≡◌, ℕ, ◌+◌, ◌≤◌, length, sym, ap, ◌∙◌, arith}
use Rattle.std.proofs.lemmas.List.{length-map}
use Rattle.vx_name.specs.declared.name.Name.{Name}
use Rattle.vx_world.proofs.world.World.new.Goals as goal

-- as many parts of the sectors' ledger as sectors are left once each pass has its own
enough : (seats asked names parts many all : ℕ) → parts ≡ many → many ≡ all + seats → asked ≡ seats → names ≡ asked → names ≤ parts
enough seats asked names parts many all is divided are same = omega arith

left : (seats asked names parts many all rest : ℕ) → parts ≡ many → many ≡ all + seats → asked ≡ seats → names ≡ asked
    → rest + names ≡ parts → rest ≡ all
left seats asked names parts many all rest is divided are same each = omega arith

pub passes-requires-clause-places : goal.passes-requires-clause-places
passes-requires-clause-places g c =
    enough g.B.Seats.all _ _ _ _ g.A.Places.all c.open-in_sectors.ensures.parts c.requires.sectors.1 c.requires.names.0
    (sym (length-map c.names-2.result.now (λ (n : Name). n.text.bytes)) ∙ ap length c.names-2.ensures)

pub kept-requires-clause-each : goal.kept-requires-clause-each
kept-requires-clause-each g c =
    left g.B.Seats.all _ _ _ _ g.A.Places.all _ c.open-in_sectors.ensures.parts c.requires.sectors.1 c.requires.names.0
    (sym (length-map c.names-2.result.now (λ (n : Name). n.text.bytes)) ∙ ap length c.names-2.ensures)
    c.in_ok-passes.ensures.places.0
