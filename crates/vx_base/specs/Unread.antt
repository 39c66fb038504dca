use Rattle.std.specs.Prelude.{◌≡◌, Option, Some, None, Result, Ok, Err}
use Rattle.vx_base.specs.declared.unread.Unread.{Unread}
use Rattle.vx_base.specs.declared.unread.Unread.TheVariants.{Faulty}

-- what a function read, seen by f, is what is meant; it is faulty only where nothing is meant
abbrev pub Gives : {X Y : Type 0} → (X → Y) → Result X Unread → Option Y → Type 0
Gives f (Ok x) meant = meant ≡ Some (f x)
Gives f (Err e) meant = e ≡ Faulty → meant ≡ None

-- the same with what is left to read
abbrev pub GivesWith : {X Y R : Type 0} → (X → Y) → Result X Unread → R → Option (Y × R) → Type 0
GivesWith f (Ok x) new meant = meant ≡ Some (f x, new)
GivesWith f (Err e) new meant = e ≡ Faulty → meant ≡ None
