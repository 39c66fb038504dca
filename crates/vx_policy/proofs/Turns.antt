-- Edits made one after another: what one more at the end changes.
use Rattle.std.proofs.Common.{◌≡◌, List, [], ◌∷◌, ◌++◌, None, refl}
use Rattle.vx_region.specs.Regions.{Regions}
use Rattle.vx_policy.specs.Asked.{Asked}
use Rattle.vx_policy.specs.Edits.{edited, after, AreAccepted}
use Rattle.vx_policy.specs.Refusals.{refusal}

-- the last edit is made of what the others left
pub after_push : (rs : Regions) (es : List Asked) (e : Asked) → after rs (es ++ e ∷ []) ≡ edited (after rs es) e
after_push rs [] e = refl
after_push rs (d ∷ es) e = after_push (edited rs d) es e

-- all are accepted where the others are, and then the last
pub accepted_push : (rs : Regions) (es : List Asked) (e : Asked) → AreAccepted rs es → refusal (after rs es) e ≡ None → AreAccepted rs (es ++ e ∷ [])
accepted_push rs [] e all last = (last, tt)
accepted_push rs (d ∷ es) e all last = (all.0, accepted_push (edited rs d) es e all.1 last)

-- where all are, so are the others
pub accepted_before : (rs : Regions) (es : List Asked) (e : Asked) → AreAccepted rs (es ++ e ∷ []) → AreAccepted rs es
accepted_before rs [] e all = tt
accepted_before rs (d ∷ es) e all = (all.0, accepted_before (edited rs d) es e all.1)

-- and the last
pub accepted_last : (rs : Regions) (es : List Asked) (e : Asked) → AreAccepted rs (es ++ e ∷ []) → refusal (after rs es) e ≡ None
accepted_last rs [] e all = all.0
accepted_last rs (d ∷ es) e all = accepted_last (edited rs d) es e all.1
