use Rattle.std.specs.Prelude.{ℕ, List, map}
use Rattle.vx_name.specs.declared.name.Name.{Name}

-- the texts of these names
abbrev pub texts : List Name → List (List ℕ)
texts names = map (λ n. n.text.bytes) names
