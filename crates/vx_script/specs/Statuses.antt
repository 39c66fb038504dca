use Rattle.std.specs.Prelude.{ℕ}
use Rattle.vx_script.specs.declared.fault.Fault.{Fault}
use Rattle.vx_file.specs.declared.file_error.FileError.{FileError}
use Rattle.vx_file.specs.declared.file_error.FileError.TheVariants as file
use Rattle.vx_script.specs.declared.fault.Fault.TheVariants.{BadRegionFile, NoMemory, ReadFailed}

-- the status that the program ends with
abbrev pub status_of : Fault → ℕ
status_of NoMemory = 2
status_of _ = 1

-- the fault where the bytes of a regions file were not read
abbrev pub file_fault : FileError → Fault
file_fault file.TooLong = BadRegionFile
file_fault file.ReadFailed = ReadFailed
file_fault file.NoMemory = NoMemory
