use Rattle.std.specs.Prelude.{◌≡◌}
use Rattle.vx_index.specs.declared.asked.Asked.{Asked}

-- both ask the same: by one name, for one action, at one place
pub record IsSameAsked (a b : Asked) : Type 0 where
  pub name : b.name.text.bytes ≡ a.name.text.bytes
  pub action : b.action ≡ a.action
  pub place : b.place ≡ a.place
