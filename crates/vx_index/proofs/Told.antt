-- What holds of a value holds of a copy, and what holds of all holds with one more.
use Rattle.std.proofs.Common.{◌≡◌, List, [], ◌∷◌, ◌++◌, Result, IfOk, sym, subst}
use Rattle.std.specs.List.{All}
use Rattle.std.proofs.lemmas.List.Elements.{All-push, All-same}
use Rattle.std.proofs.lemmas.Result.{IfOk-weaker}

pub copy_holds : {X E : Type 0} (P : X → Type 0) (x : X) (given : Result X E) → IfOk given (λ copy. copy ≡ x) → P x → IfOk given P
copy_holds P x given copies holds = IfOk-weaker given (λ copy. copy ≡ x) P (λ copy same. subst P (sym same) holds) copies

pub push_holds : {X : Type 0} (P : X → Type 0) (old new : List X) (x : X) → new ≡ old ++ x ∷ [] → All P old → P x → All P new
push_holds P old new x pushed all holds = All-same P new (old ++ x ∷ []) pushed (All-push P old x all holds)
