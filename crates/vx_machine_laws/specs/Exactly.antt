-- A rule in both directions.
use Rattle.std.specs.Prelude.{◌≡◌, Bool, true}

-- the answer is yes exactly in this case: only in it, and always in it
pub record Exactly (answer : Bool) (Case : Type 0) : Type 0 where
  pub only : answer ≡ true → Case
  pub all : Case → answer ≡ true
