use Rattle.std.proofs.Common.{◌≡◌, [], refl}
use Rattle.vx_places.proofs.Marked.{entries_made}
use Rattle.vx_places.proofs.places.Places.make_entries.Goals as goal

pub returns-in_ok-self-inside-clause-same : goal.returns-in_ok-self-inside-clause-same
returns-in_ok-self-inside-clause-same c =
    let none : c.self.inside.sectors.items ≡ [] = rw (← c.self.view_is) at c.if-not-has_entries.ensures.none refl in
    rw (← c.self.view_is) (entries_made c.self.inside.bounds c.self.inside.sectors.items c.in_ok-self-inside.field-0.items _ none c.in_ok-self-inside.ensures)
