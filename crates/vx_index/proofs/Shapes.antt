-- What a renewal at one number leaves at each.
use Rattle.std.proofs.Common.{◌≡◌, ◌≢◌, ℕ, if◌then◌else◌, Option, refl, ap}
use Rattle.std.proofs.lemmas.Bool.{eq-eqb, ne_eqb}
use Rattle.vx_geom.specs.Outline.{Outline}
use Rattle.vx_index.specs.Shapes.{Shapes, renewed_at}

-- at the number stands what is put there
pub at_number : (shapes : Shapes) (n : ℕ) (o : Option Outline) → renewed_at shapes n o n ≡ o
at_number shapes n o = ap (λ b. if b then o else shapes n) (eq-eqb n n refl)

-- and each other number has the shape that it had
pub elsewhere : (shapes : Shapes) (n : ℕ) (o : Option Outline) (m : ℕ) → m ≢ n → renewed_at shapes n o m ≡ shapes m
elsewhere shapes n o m other = ap (λ b. if b then o else shapes m) (ne_eqb m n other)
