-- What holds where a call answers an error, or either way.
use Rattle.std.proofs.Common.{◌≡◌, Result, Ok, Err, OnOk, OnErr}

-- what holds anyway holds on an error
pub on_any_err : {T E P : Type 0} (r : Result T E) → P → OnErr r P
on_any_err (Ok x) p = tt
on_any_err (Err e) p = p

-- what was known of an error, where there was one
pub refused : {T E P : Type 0} (r : Result T E) (e : E) → r ≡ Err e → OnErr r P → P
refused (Ok x) e is known = cc
refused (Err y) e is known = known

-- what holds whether a call did what it was asked for or left all as it was
pub either_way : {T E A B X : Type 0} (r : Result T E) → OnOk r A → OnErr r B → (A → X) → (B → X) → X
either_way (Ok x) a b did left = did a
either_way (Err e) a b did left = left b
