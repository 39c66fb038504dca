use Rattle.std.proofs.Common.{◌≡◌, drop, map, bytes_eq}
use Rattle.std.specs.List.{list_any}
use Rattle.vx_file.proofs.keys.is_among.Given as goal

-- none so far is the one
abbrev pub invariant-loop-other : goal.invariant-loop-other
invariant-loop-other l = list_any (bytes_eq l.key) (map (λ k. k.now) (drop l.other-index l.keys)) ≡ list_any (bytes_eq l.key) (map (λ k. k.now) l.keys)
