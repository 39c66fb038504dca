use Rattle.std.proofs.Common.{◌≡◌, ℕ, ◌<◌, List, length, None, Err, refl, ap, ◌∙◌, arith}
use Rattle.std.specs.Prelude.{nat_le, false, if◌then◌else◌}
use Rattle.std.proofs.lemmas.Bool.Decides.{nat_tests}
use Rattle.std.proofs.lemmas.Result.{err_from_is_err_and}
use Rattle.toml.specs.Parse.{parse_document}
use Rattle.vx_base.specs.Then.{◌>>=◌}
use Rattle.vx_file.specs.RegionsFile.{FileSays, edits_in, edits_in_table, most_bytes}
use Rattle.vx_file.specs.declared.file_error.FileError.{FileError}
use Rattle.vx_file.specs.declared.file_error.FileError.TheVariants as file
use Rattle.vx_policy.specs.Asked.{Asked}
use Rattle.vx_policy.specs.Edits.{AreAccepted}
use Rattle.vx_region.specs.Regions.{no_regions}
use Rattle.vx_script.specs.declared.fault.Fault.TheVariants.{BadRegionFile}
use Rattle.vx_script.specs.Statuses.{file_fault}
use Rattle.vx_script.proofs.Going.{if_known}
use Rattle.vx_script.proofs.regions.read_regions.Goals as goal

-- the only file that is refused before it is read through is too long
is_long : (error : FileError) → file_fault error ≡ BadRegionFile → error ≡ file.TooLong
is_long file.TooLong same = refl
is_long file.ReadFailed same = absurd (cc same)
is_long file.NoMemory same = absurd (cc same)

-- a file that is too long means no edits
means_none : (bytes : List ℕ) → most_bytes < length bytes → (edits : List Asked)
    → FileSays bytes edits → AreAccepted no_regions edits → ⊥
unfolding edits_in
means_none bytes long edits says accepted =
    let over : nat_le (length bytes) most_bytes ≡ false = grind (arith, nat_tests, long) in
    let none : edits_in bytes ≡ None = ap (λ b. if b then parse_document bytes >>= edits_in_table else None) over in
    absurd (cc (says.1, none))

pub returns-in_err-bytes-clause-refused : goal.returns-in_err-bytes-clause-refused
returns-in_err-bytes-clause-refused g c same =
    let exit = err_from_is_err_and c.from_residual.result c.from_residual.ensures.1 in
    if_known _ _ _ (c.read_bytes.ensures.long (c.in_err-bytes.was ∙ ap Err (is_long _ (cc (exit.1, exit.2, same))))) means_none
