-- What the answer to a command says of the lists of the pass with which it was made.
use Rattle.std.proofs.Common.{◌≡◌, ◌≢◌, ◌↔◌, ℕ, ◌<◌, IfSome, arith, true, false, List, length, Option, Some, None, Result, Ok, Err, refl, sym, ap, subst, ◌∙◌}
use Rattle.std.proofs.lemmas.Nat.{mul-le}
use Rattle.vx_geom.specs.declared.bounds.TheConstants.{MAX_SECTORS_EACH_WAY}
use Rattle.vx_geom.specs.declared.pos.Pos.{Pos}
use Rattle.vx_geom.specs.Sizes.{Sizes, AreSizes, sector_count, sector_of}
use Rattle.vx_geom.proofs.SectorLemmas.{held_at, in_sector}
use Rattle.vx_sector.specs.Windows.{is_recorded}
use Rattle.vx_sector.specs.declared.cmd.Cmd.{Cmd}
use Rattle.vx_sector.specs.declared.reply.Reply.{Reply}
use Rattle.vx_sector.specs.declared.refusal.Refusal.{Refusal}
use Rattle.vx_sector.specs.declared.refusal.Refusal.TheVariants.{OutOfWorld, HistoryFull, Denied, Occupied, Nothing, NotLever, NotChest, NotEmpty, Extended, Unbreakable, NoSlot, OtherItem, BadCount, NoMemory}
use Rattle.vx_record.specs.Calls.{with_call}
use Rattle.vx_record.specs.declared.call.Call.{Call}
use Rattle.vx_session.specs.Traces.{IsCalled}

-- a sector that holds a position is one of the world's
pub sector_below : (sizes : Sizes) (p : Pos) (k : ℕ) → AreSizes sizes → sector_of sizes p ≡ Some k
    → k < sector_count sizes
sector_below sizes p k are held = (in_sector sizes p k are (held_at sizes p k are held)).0

-- and there are at most 256 of these
pub sector_few : (sizes : Sizes) (p : Pos) (found : Option ℕ) → AreSizes sizes → found ≡ sector_of sizes p
    → IfSome found (λ k. k < 256)
sector_few sizes p None are is = tt
sector_few sizes p (Some k) are is =
    let below = sector_below sizes p k are (sym is) in
    let few = mul-le sizes.sx sizes.sz MAX_SECTORS_EACH_WAY MAX_SECTORS_EACH_WAY are.sx_most are.sz_most in
    omega (arith, below, few)

-- each answer is recorded, but for three refusals
on_record : (answer : Result Reply Refusal) → answer ≢ Err OutOfWorld → answer ≢ Err HistoryFull
    → answer ≢ Err NoMemory → is_recorded answer ≡ true
on_record (Ok reply) inside roomy enough = refl
on_record (Err OutOfWorld) inside roomy enough = absurd (inside refl)
on_record (Err HistoryFull) inside roomy enough = absurd (roomy refl)
on_record (Err (Denied rule)) inside roomy enough = refl
on_record (Err Occupied) inside roomy enough = refl
on_record (Err Nothing) inside roomy enough = refl
on_record (Err NotLever) inside roomy enough = refl
on_record (Err NotChest) inside roomy enough = refl
on_record (Err NotEmpty) inside roomy enough = refl
on_record (Err Extended) inside roomy enough = refl
on_record (Err Unbreakable) inside roomy enough = refl
on_record (Err NoSlot) inside roomy enough = refl
on_record (Err OtherItem) inside roomy enough = refl
on_record (Err BadCount) inside roomy enough = refl
on_record (Err NoMemory) inside roomy enough = absurd (enough refl)

-- a call that was recorded stands on the list of the sector that it speaks of
pub called_so : (at : Option ℕ) (before after : List (List Call)) (cmd : Cmd) (answer : Result Reply Refusal)
    → answer ≢ Err HistoryFull → answer ≢ Err NoMemory
    → ((k : ℕ) → at ≡ Some k → k < length before)
    → (answer ≡ Err OutOfWorld) ↔ (at ≡ None)
    → (is_recorded answer ≡ true → (k : ℕ) × (at ≡ Some k) × (after ≡ with_call before k (record { cmd = cmd; answer = answer })))
    → (is_recorded answer ≡ false → after ≡ before)
    → IsCalled at before (record { cmd = cmd; answer = answer }) after
called_so None before after cmd answer roomy enough within outside recorded unrecorded =
    let out = outside.1 refl in (out, unrecorded (ap is_recorded out))
called_so (Some at) before after cmd answer roomy enough within outside recorded unrecorded =
    let inside : answer ≢ Err OutOfWorld = λ out. cc (outside.0 out) in
    let found = recorded (on_record answer inside roomy enough) in
    let same : at ≡ found.0 = cc (found.1) in
    (within at refl, subst (λ n. after ≡ with_call before n (record { cmd = cmd; answer = answer })) (sym same) found.2)

-- and so it is of a position, in a world of these sizes whose passes have a list for each sector
pub called_at : (sizes world : Sizes) (all : ℕ) (p : Pos) (before after : List (List Call)) (cmd : Cmd) (answer : Result Reply Refusal)
    → AreSizes sizes → world ≡ sizes → sector_count world ≡ all → length before ≡ all
    → answer ≢ Err HistoryFull → answer ≢ Err NoMemory
    → (answer ≡ Err OutOfWorld) ↔ (sector_of world p ≡ None)
    → (is_recorded answer ≡ true → (k : ℕ) × (sector_of world p ≡ Some k) × (after ≡ with_call before k (record { cmd = cmd; answer = answer })))
    → (is_recorded answer ≡ false → after ≡ before)
    → IsCalled (sector_of sizes p) before (record { cmd = cmd; answer = answer }) after
called_at sizes world all p before after cmd answer are same divided many roomy enough outside recorded unrecorded =
    let count = subst (λ (v : Sizes). sector_count v ≡ all) same divided in
    called_so (sector_of sizes p) before after cmd answer roomy enough
    (λ k held. subst (λ n. k < n) (count ∙ sym many) (sector_below sizes p k are held))
    (subst (λ (v : Sizes). (answer ≡ Err OutOfWorld) ↔ (sector_of v p ≡ None)) same outside)
    (λ yes_. let found = recorded yes_ in (found.0, subst (λ (v : Sizes). sector_of v p ≡ Some found.0) same found.1, found.2))
    unrecorded
