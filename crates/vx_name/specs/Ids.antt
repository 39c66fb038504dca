-- Ids of regions.
use Rattle.std.specs.Prelude.{Bool, bytes_eq}
use Rattle.vx_name.specs.declared.id.Id.{Id}

-- two ids are the same where their texts are
abbrev pub same_id : Id → Id → Bool
same_id a b = bytes_eq a.text.bytes b.text.bytes
