-- Edits that are applied one after another are all accepted, and give the regions after them.
use Rattle.std.proofs.Common.{◌≡◌, ℕ, List, [], ◌∷◌, Option, Some, None, refl, ap, ◌∙◌}
use Rattle.std.specs.Option.{option_and_then}
use Rattle.std.specs.Prelude.{IsUtf8}
use Rattle.vx_policy.specs.Asked.{Asked}
use Rattle.vx_policy.specs.Edits.{edited, after, AreAccepted}
use Rattle.vx_policy.specs.Refusals.{refusal}
use Rattle.vx_policy.specs.declared.edit_refusal.EditRefusal.{EditRefusal}
use Rattle.vx_region.specs.Regions.{Regions, no_regions}
use Rattle.vx_file.specs.FileReads.{accepted, applied}
use Rattle.vx_file.specs.RegionsFile.{edits_in, FileSays}

-- an edit that is accepted
pub accepted_so : (rs : Regions) (e : Asked) → refusal rs e ≡ None → accepted rs e ≡ Some (edited rs e)
unfolding accepted
accepted_so rs e none = rw none refl

-- the cause that stands against an edit, or that there is none
unrefused : (rs : Regions) (e : Asked) (o : Option EditRefusal) (out : Regions) (more : List Asked) → refusal rs e ≡ o → applied rs (e ∷ more) ≡ Some out
    → (refusal rs e ≡ None) × (applied (edited rs e) more ≡ Some out)
unfolding accepted
unrefused rs e None out more is so = (is, (rw is at so))
unrefused rs e (Some cause) out more is so = let none : None ≡ Some out = rw is at so in cc

-- edits that are applied were each accepted
pub all_accepted : (rs out : Regions) (es : List Asked) → applied rs es ≡ Some out → AreAccepted rs es × (out ≡ after rs es)
all_accepted rs out [] so = (tt, cc)
all_accepted rs out (e ∷ es) so =
    let (first, others) = unrefused rs e (refusal rs e) out es refl so in
    let (rest, last) = all_accepted (edited rs e) out es others in
    ((first, rest), last)

-- edits that are each accepted are applied
pub all_applied : (rs : Regions) (es : List Asked) → AreAccepted rs es → applied rs es ≡ Some (after rs es)
all_applied rs [] h = refl
all_applied rs (e ∷ es) h = rw (accepted_so rs e h.0) (all_applied (edited rs e) es h.1)

-- a policy that a file gave is what the file says
pub file_gave : (bytes : List ℕ) (out : Regions) (o : Option (List Asked)) → IsUtf8 bytes → edits_in bytes ≡ o → option_and_then (applied no_regions) o ≡ Some out
    → (edits : List Asked) × FileSays bytes edits × AreAccepted no_regions edits × (out ≡ after no_regions edits)
file_gave bytes out None text means gave = cc
file_gave bytes out (Some edits) text means gave = let (all, last) = all_accepted no_regions out edits gave in (edits, (text, means), all, last)

-- a file that was refused says nothing that is accepted
pub file_refused : (bytes : List ℕ) (edits : List Asked) → (IsUtf8 bytes → option_and_then (applied no_regions) (edits_in bytes) ≡ None)
    → FileSays bytes edits → AreAccepted no_regions edits → ⊥
file_refused bytes edits none says all =
    let gave : option_and_then (applied no_regions) (edits_in bytes) ≡ Some (after no_regions edits) = ap (option_and_then (applied no_regions)) says.1 ∙ all_applied no_regions edits all in
    let gone = none says.0 in
    cc
