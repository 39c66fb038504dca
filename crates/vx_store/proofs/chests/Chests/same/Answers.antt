use Rattle.std.proofs.Common.{refl, sym}
use Rattle.std.specs.Cmp.{nat_eq_equiv}
use Rattle.std.proofs.lemmas.Map.Lookups.{hash_map_eq-Decides}
use Rattle.std.proofs.lemmas.Slice.Eq.{slice_eq-Decides}
use Rattle.vx_store.specs.SameSlots.{slot_decided}
use Rattle.vx_store.proofs.chests.Chests.same.Goals as goal

pub returns : goal.returns
returns c = rw (sym c.self.view_is) (rw (sym c.other.view_is)
    (hash_map_eq-Decides nat_eq_equiv (λ v w. slice_eq-Decides slot_decided v w _ refl) c.self.inside.slots c.other.inside.slots c.eq.result c.eq.ensures))
