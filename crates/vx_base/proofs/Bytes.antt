-- What writes and reads of known bytes, one after the other, come to, and what the end of a reader tells.
use Rattle.std.proofs.Common.{ℕ, List, [], ◌++◌, Option, Result, Ok, Err, IfSome, OnOk}
use Rattle.std.specs.Io.KnownBytes.{Appends, Consumes, IsAtEnd}
use Rattle.std.proofs.KnownBytes.{Appends-nil, Appends-trans, Consumes-nil, Consumes-trans, Consumes-whole}

-- nothing was written
pub Appends-none : (a : Option (List ℕ)) → Appends a a []
Appends-none a = Appends-nil a

-- bs was written, and then cs
pub Appends-then : (a b c : Option (List ℕ)) (bs cs : List ℕ) → Appends a b bs → Appends b c cs → Appends a c (bs ++ cs)
Appends-then a b c bs cs first second = Appends-trans a b c bs cs first second

-- nothing was read
pub Consumes-none : (a : Option (List ℕ)) → Consumes a a []
Consumes-none a = Consumes-nil a

-- bs was read, and then cs
pub Consumes-then : (a b c : Option (List ℕ)) (bs cs : List ℕ) → Consumes a b bs → Consumes b c cs → Consumes a c (bs ++ cs)
Consumes-then a b c bs cs first second = Consumes-trans a b c bs cs first second

-- what was read until the end is all that there was
pub whole : (a b : Option (List ℕ)) (bs : List ℕ) (P : List ℕ → Type 0) → Consumes a b bs → IsAtEnd b → P bs → IfSome a P
whole a b bs P read end holds = Consumes-whole a b bs P read end holds

-- what follows from the fact of an `Ok` holds of it too
pub OnOk-then : {T E : Type 0} (P Q : Type 0) (r : Result T E) → OnOk r P → (P → Q) → OnOk r Q
OnOk-then P Q (Ok x) holds then = then holds
OnOk-then P Q (Err e) holds then = tt
