use Rattle.std.proofs.Common.{◌≡◌, ◌<◌, take}
use Rattle.std.specs.List.{fold}
use Rattle.vx_name.specs.IdParts.{hash_step}
use Rattle.vx_name.specs.declared.id_numbers.TheConstants.{HASHES}
use Rattle.vx_name.proofs.id_numbers.hash_of.Given as goal

-- the hash of the bytes so far
abbrev pub invariant-loop-byte : goal.invariant-loop-byte
invariant-loop-byte l = record {
  value : l.hash ≡ fold hash_step 0 (take l.byte-index l.byte-items);
  below : l.hash < HASHES;
}
