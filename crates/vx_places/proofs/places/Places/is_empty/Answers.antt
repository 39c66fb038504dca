use Rattle.std.proofs.Common.{◌≡◌, false, None, subst}
use Rattle.std.specs.List.{All}
use Rattle.vx_places.specs.Places.{PlacesData, is_at}
use Rattle.vx_places.proofs.Marked.{is_nowhere}
use Rattle.vx_places.proofs.places.Places.is_empty.Goals as goal

pub returns : goal.returns
returns c = λ empty. λ p.
    subst (λ (d : PlacesData). is_at d p ≡ false) c.self.view_is
    (is_nowhere _ p (subst (All (λ marks. marks ≡ None)) c.deref.ensures.value (c.have_no_marks.ensures empty)))
