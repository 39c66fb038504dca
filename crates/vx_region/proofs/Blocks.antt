-- Regions in blocks: what is read at a place, and what is written there.
use Rattle.std.proofs.Common.{◌≡◌, ◌⊎◌, inl, inr, ℕ, Bool, true, false, nat_lt, if◌then◌else◌, zero, suc, ◌+◌, ◌-◌, ◌<◌, ◌≤◌, List, [], ◌∷◌, ◌++◌, length, take, drop, remove, slice_get, slice_set, slice_index_or, Option, Some, None, option_map, Result, Ok, Err, is_ok, OnOk, Bor, arith, append_assoc, append-nil, length-append, refl, ap, sym, ◌∙◌, subst}
use Rattle.std.specs.List.{AllZip}
use Rattle.std.specs.Global.{Vec}
use Rattle.std.specs.Option.{IfSome}
use Rattle.std.proofs.lemmas.List.{take_more_set, take-set-le}
use Rattle.std.proofs.lemmas.List.Edits.{remove-append_left, remove-append_right}
use Rattle.std.proofs.lemmas.Map.Entries.{entries_from_clone}
use borrow.Author.Tests.{ltb-true, ltb-false}
use Rattle.vx_base.proofs.Lists.{read_is}
use Rattle.vx_region.specs.Blocks.{BlockData, joined, with_entries, AreInPlace, HaveMore, Holds, entry_at, written_at}
use Rattle.vx_region.specs.Regions.{RegionData, Entry}

-- the regions that were taken to write are those that were shared
pub taken : (old new : Vec Entry) → (new ≡ old) ⊎ (AllZip (λ p q. (q.0 ≡ p.0) × (q.1 ≡ p.1)) old.items new.items × (new.len ≡ old.len))
    → new.items ≡ old.items
taken old new (inl same) = ap (λ (v : Vec Entry). v.items) same
taken old new (inr copied) = entries_from_clone (λ k l. l ≡ k) (λ v w. w ≡ v) (λ _ _ e. e) (λ _ _ e. e) old.items new.items copied.0

-- a place at which something stands lies in the list
pub within_list : {X : Type 0} (es : List X) (i : ℕ) (e : X) → slice_get es i ≡ Some e → i < length es
within_list [] i e there = cc
within_list (d ∷ es) zero e there = omega arith
within_list (d ∷ es) (suc i) e there = omega (arith, within_list es i e there)

-- a region written over at a place, its number kept
set_is : (es : List Entry) (i : ℕ) (e : Entry) (w : RegionData) → i < length es → e ≡ slice_index_or es i e → slice_set es i (e.0, w) ≡ written_at es i w
set_is [] i e w within read = refl
set_is (d ∷ es) zero e w within read = ap (λ (f : Entry). (f.0, w) ∷ es) read
set_is (d ∷ es) (suc i) e w within read = ap (λ ds. d ∷ ds) (set_is es i e w (omega arith) read)

-- and by the region that stands there
set_back : (es : List Entry) (i : ℕ) (e : Entry) → i < length es → e ≡ slice_index_or es i e → slice_set es i (e.0, e.1) ≡ es
set_back [] i e within read = refl
set_back (d ∷ es) zero e within read = ap (λ (f : Entry). f ∷ es) read
set_back (d ∷ es) (suc i) e within read = ap (λ ds. d ∷ ds) (set_back es i e (omega arith) read)

module _ (old own : List Entry) (i : ℕ) (e : Entry) (copied : own ≡ old) (within : i < length old) (read : e ≡ slice_index_or own i e) where
  read_own : e ≡ slice_index_or old i e
  read_own = subst (λ es. e ≡ slice_index_or es i e) copied read

  -- a region that became a block's own and was then written over, or left
  pub own_read : slice_get old i ≡ Some e
  own_read = read_is old i e within read_own

  pub own_written : (w last : RegionData) → last ≡ w → slice_set own i (e.0, last) ≡ written_at old i w
  own_written w last left = ap (λ es. slice_set es i (e.0, last)) copied ∙ ap (λ r. slice_set old i (e.0, r)) left ∙ set_is old i e w within read_own

  pub own_left : (last : RegionData) → last ≡ e.1 → slice_set own i (e.0, last) ≡ old
  own_left last left = ap (λ es. slice_set es i (e.0, last)) copied ∙ ap (λ r. slice_set old i (e.0, r)) left ∙ set_back old i e within read_own

-- the start of a block is where the blocks before it end
pub starts_at : (at : ℕ) (bs : List BlockData) (k : ℕ) (b : BlockData) → AreInPlace at bs → slice_get bs k ≡ Some b → b.start ≡ at + length (joined (take k bs))
starts_at at [] k b in_place there = cc
starts_at at (c ∷ bs) zero b in_place there =
    let same : c ≡ b = cc in
    sym (ap (λ (d : BlockData). d.start) same) ∙ in_place.0 ∙ omega arith
starts_at at (c ∷ bs) (suc k) b in_place there =
    starts_at (at + length c.entries) bs k b in_place.1 there ∙ omega (arith, length-append c.entries (joined (take k bs)))

-- so many regions stand up to the end of a block
pub ends_at : (bs : List BlockData) (k : ℕ) (b : BlockData) → slice_get bs k ≡ Some b
    → length (joined (take (suc k) bs)) ≡ length (joined (take k bs)) + length b.entries
ends_at [] k b there = cc
ends_at (c ∷ bs) zero b there =
    let same : c ≡ b = cc in
    length-append c.entries [] ∙ ap (λ (d : BlockData). length d.entries + 0) same ∙ omega arith
ends_at (c ∷ bs) (suc k) b there =
    length-append c.entries (joined (take (suc k) bs)) ∙ omega (arith, ends_at bs k b there, length-append c.entries (joined (take k bs)))

-- the regions before a block, its own, and those behind it
parts : (bs : List BlockData) (k : ℕ) (b : BlockData) → slice_get bs k ≡ Some b
    → joined bs ≡ joined (take k bs) ++ (b.entries ++ joined (drop (suc k) bs))
parts [] k b there = cc
parts (c ∷ bs) zero b there = let same : c ≡ b = cc in ap (λ (d : BlockData). d.entries ++ joined bs) same
parts (c ∷ bs) (suc k) b there = ap (λ es. c.entries ++ es) (parts bs k b there)
    ∙ sym (append_assoc c.entries (joined (take k bs)) (b.entries ++ joined (drop (suc k) bs)))

-- and after another block was put in its place
set_parts : (bs : List BlockData) (k : ℕ) (b c : BlockData) → slice_get bs k ≡ Some b
    → joined (slice_set bs k c) ≡ joined (take k bs) ++ (c.entries ++ joined (drop (suc k) bs))
set_parts [] k b c there = cc
set_parts (d ∷ bs) zero b c there = refl
set_parts (d ∷ bs) (suc k) b c there = ap (λ es. d.entries ++ es) (set_parts bs k b c there)
    ∙ sym (append_assoc d.entries (joined (take k bs)) (c.entries ++ joined (drop (suc k) bs)))

-- a block of as many regions in the place of another
pub set_in_place : (at : ℕ) (bs : List BlockData) (k : ℕ) (b c : BlockData) → slice_get bs k ≡ Some b → c.start ≡ b.start → length c.entries ≡ length b.entries
    → AreInPlace at bs → AreInPlace at (slice_set bs k c)
set_in_place at [] k b c there start same in_place = in_place
set_in_place at (d ∷ bs) zero b c there start same in_place =
    let is : d ≡ b = cc in (
      start ∙ sym (ap (λ (d : BlockData). d.start) is) ∙ in_place.0,
      subst (λ n. AreInPlace (at + n) bs) (ap (λ (d : BlockData). length d.entries) is ∙ sym same) in_place.1,
    )
set_in_place at (d ∷ bs) (suc k) b c there start same in_place = (in_place.0, set_in_place (at + length d.entries) bs k b c there start same in_place.1)

-- what is read and written among some regions, between others
read_first : (es back : List Entry) (i : ℕ) → i < length es → slice_get (es ++ back) i ≡ slice_get es i
read_first [] back i within = absurd (omega arith)
read_first (e ∷ es) back zero within = refl
read_first (e ∷ es) back (suc i) within = read_first es back i (omega arith)

read_between : (front es back : List Entry) (i : ℕ) → i < length es → slice_get (front ++ (es ++ back)) (length front + i) ≡ slice_get es i
read_between [] es back i within =
    let same : 0 + i ≡ i = omega arith in
    ap (slice_get (es ++ back)) same ∙ read_first es back i within
read_between (f ∷ front) es back i within =
    let same : length (f ∷ front) + i ≡ suc (length front + i) = omega arith in
    ap (slice_get (f ∷ (front ++ (es ++ back)))) same ∙ read_between front es back i within

written_first : (es back : List Entry) (i : ℕ) (w : RegionData) → i < length es → written_at (es ++ back) i w ≡ written_at es i w ++ back
written_first [] back i w within = absurd (omega arith)
written_first (e ∷ es) back zero w within = refl
written_first (e ∷ es) back (suc i) w within = ap (λ ds. e ∷ ds) (written_first es back i w (omega arith))

written_between : (front es back : List Entry) (i : ℕ) (w : RegionData) → i < length es
    → written_at (front ++ (es ++ back)) (length front + i) w ≡ front ++ (written_at es i w ++ back)
written_between [] es back i w within =
    let same : 0 + i ≡ i = omega arith in
    ap (λ k. written_at (es ++ back) k w) same ∙ written_first es back i w within
written_between (f ∷ front) es back i w within =
    let same : length (f ∷ front) + i ≡ suc (length front + i) = omega arith in
    ap (λ k. written_at (f ∷ (front ++ (es ++ back))) k w) same ∙ ap (λ ds. f ∷ ds) (written_between front es back i w within)

pub length_written : (es : List Entry) (i : ℕ) (w : RegionData) → length (written_at es i w) ≡ length es
length_written [] i w = refl
length_written (e ∷ es) zero w = refl
length_written (e ∷ es) (suc i) w = ap suc (length_written es i w)

module _ (bs : List BlockData) (k : ℕ) (b : BlockData) (place : ℕ) (in_place : AreInPlace 0 bs) (there : slice_get bs k ≡ Some b) (holds : Holds place b) where
  -- the place, counted from the end of the blocks before it
  place_is : place ≡ length (joined (take k bs)) + (place - b.start)
  place_is = omega (arith, starts_at 0 bs k b in_place there, holds.0)

  -- what is read at a place of the list is what is read in its block
  pub block_read : slice_get (joined bs) place ≡ slice_get b.entries (place - b.start)
  block_read =
      ap (λ es. slice_get es place) (parts bs k b there)
      ∙ ap (slice_get (joined (take k bs) ++ (b.entries ++ joined (drop (suc k) bs)))) place_is
      ∙ read_between (joined (take k bs)) b.entries (joined (drop (suc k) bs)) (place - b.start) holds.1

  -- what is written in a block is written at the place of the list
  pub block_written : (w : RegionData) → joined (slice_set bs k (with_entries b (written_at b.entries (place - b.start) w))) ≡ written_at (joined bs) place w
  block_written w =
      set_parts bs k b _ there
      ∙ sym (written_between (joined (take k bs)) b.entries (joined (drop (suc k) bs)) (place - b.start) w holds.1)
      ∙ ap (λ n. written_at (joined (take k bs) ++ (b.entries ++ joined (drop (suc k) bs))) n w) (sym place_is)
      ∙ ap (λ es. written_at es place w) (sym (parts bs k b there))

  pub written_in_place : (w : RegionData) → AreInPlace 0 (slice_set bs k (with_entries b (written_at b.entries (place - b.start) w)))
  written_in_place w = set_in_place 0 bs k b _ there refl (length_written b.entries (place - b.start) w) in_place

  -- what is taken out of a block is taken out of the list
  pub block_removed : joined (take k bs) ++ (remove b.entries (place - b.start) ++ joined (drop (suc k) bs)) ≡ remove (joined bs) place
  block_removed =
      let front = joined (take k bs) in
      let rest = b.entries ++ joined (drop (suc k) bs) in
      let i = place - b.start in
      ap (λ es. front ++ es) (sym (remove-append_left b.entries (joined (drop (suc k) bs)) i holds.1))
      ∙ ap (λ n. front ++ remove rest n) (omega (arith, place_is))
      ∙ sym (remove-append_right front rest (length front) place refl (omega (arith, place_is)))
      ∙ ap (λ es. remove es place) (sym (parts bs k b there))

-- more regions in the last block
pub last_grown : (at : ℕ) (bs : List BlockData) (k : ℕ) (b : BlockData) (more : List Entry) → suc k ≡ length bs → slice_get bs k ≡ Some b → AreInPlace at bs
    → AreInPlace at (slice_set bs k (with_entries b (b.entries ++ more))) × (joined (slice_set bs k (with_entries b (b.entries ++ more))) ≡ joined bs ++ more)
last_grown at [] k b more last there in_place = cc
last_grown at (c ∷ []) zero b more last there in_place =
    let same : c ≡ b = cc in
    ((sym (ap (λ (d : BlockData). d.start) same) ∙ in_place.0, tt), append-nil (b.entries ++ more) ∙ ap (λ (d : BlockData). d.entries ++ more) (sym same) ∙ ap (λ es. es ++ more) (sym (append-nil c.entries)))
last_grown at (c ∷ []) (suc k) b more last there in_place = cc
last_grown at (c ∷ (d ∷ bs)) zero b more last there in_place = absurd (omega arith)
last_grown at (c ∷ (d ∷ bs)) (suc k) b more last there in_place =
    let rest = last_grown (at + length c.entries) (d ∷ bs) k b more (omega arith) there in_place.1 in
    ((in_place.0, rest.0), ap (λ es. c.entries ++ es) rest.1 ∙ sym (append_assoc c.entries (joined (d ∷ bs)) more))

-- one more block behind the others
pub block_put : (at : ℕ) (bs : List BlockData) (b : BlockData) → b.start ≡ at + length (joined bs) → AreInPlace at bs
    → AreInPlace at (bs ++ b ∷ []) × (joined (bs ++ b ∷ []) ≡ joined bs ++ b.entries)
block_put at [] b start in_place = ((start ∙ omega arith, tt), append-nil b.entries)
block_put at (c ∷ bs) b start in_place =
    let rest = block_put (at + length c.entries) bs b (start ∙ omega (arith, length-append c.entries (joined bs))) in_place.1 in
    ((in_place.0, rest.0), ap (λ es. c.entries ++ es) rest.1 ∙ sym (append_assoc c.entries (joined bs) b.entries))

-- what a place holds, by the blocks up to it: where a search for the block of a place ends
pub held_at : (bs : List BlockData) (k : ℕ) (b : BlockData) (place : ℕ) → AreInPlace 0 bs → slice_get bs k ≡ Some b
    → length (joined (take k bs)) ≤ place → place < length (joined (take (suc k) bs)) → Holds place b
held_at bs k b place in_place there low high =
    (omega (arith, starts_at 0 bs k b in_place there), omega (arith, starts_at 0 bs k b in_place there, ends_at bs k b there))

-- what is found in a block that is there
pub found_in : (bs : List BlockData) (k : ℕ) (b : BlockData) (place : ℕ) (e : Entry) → AreInPlace 0 bs → slice_get bs k ≡ Some b
    → entry_at b place ≡ Some e → slice_get (joined bs) place ≡ Some e
found_in bs k b place e in_place there found = by (nat_lt place b.start) refl found
  where
    by : (c : Bool) → nat_lt place b.start ≡ c → (if c then None else slice_get b.entries (place - b.start)) ≡ Some e → slice_get (joined bs) place ≡ Some e
    by true below none = cc
    by false above here =
        block_read bs k b place in_place there (omega (arith, ltb-false place b.start above), within_list b.entries (place - b.start) e here) ∙ here

-- a search that is down to one block has found the one of the place
pub search_ends : (bs : List BlockData) (low high place : ℕ) → AreInPlace 0 bs → high ≡ suc low → length (joined (take low bs)) ≤ place → place < length (joined (take high bs))
    → IfSome (slice_get bs low) (Holds place)
search_ends bs low high place in_place next from below = by (slice_get bs low) refl
  where
    by : (o : Option BlockData) → slice_get bs low ≡ o → IfSome o (Holds place)
    by None none = tt
    by (Some b) there = held_at bs low b place in_place there from (subst (λ k. place < length (joined (take k bs))) next below)

-- some more regions in the last block
pub grown : (bs : List BlockData) (k : ℕ) (b c : BlockData) (more : List Entry) → AreInPlace 0 bs → k ≡ length bs - 1 → 0 < length bs → b ≡ slice_index_or bs k b
    → c ≡ with_entries b (b.entries ++ more) → HaveMore bs (slice_set bs k c) more
grown bs k b c more in_place last some read is =
    let all = last_grown 0 bs k b more (omega arith) (read_is bs k b (omega arith) read) in_place in
    subst (λ d. HaveMore bs (slice_set bs k d) more) (sym is) (record { in_place = all.0; regions = all.1 })

-- some more in a block of their own
pub put_behind : (bs : List BlockData) (b : BlockData) (len : ℕ) (more : List Entry) → AreInPlace 0 bs → len ≡ length (joined bs) → b.start ≡ len → b.entries ≡ more
    → HaveMore bs (bs ++ b ∷ []) more
put_behind bs b len more in_place count start is =
    let all = block_put 0 bs b (start ∙ count ∙ omega arith) in_place in
    record { in_place = all.0; regions = all.1 ∙ ap (λ es. joined bs ++ es) is }

-- how many there are then
pub more_counted : (old new : List BlockData) (more : List Entry) (len count : ℕ) → HaveMore old new more → len ≡ length (joined old) → count ≡ length more
    → len + count ≡ length (joined new)
more_counted old new more len count has is few =
    let sum : len + count ≡ length (joined old) + length more = ap (λ n. n + count) is ∙ ap (λ n. length (joined old) + n) few in
    sum ∙ sym (length-append (joined old) more) ∙ ap length (sym has.regions)

-- a place in a block is read as it is
pub entry_is : (b : BlockData) (place : ℕ) → Holds place b → entry_at b place ≡ slice_get b.entries (place - b.start)
entry_is b place holds = by (nat_lt place b.start) refl
  where
    by : (c : Bool) → nat_lt place b.start ≡ c → (if c then None else slice_get b.entries (place - b.start)) ≡ slice_get b.entries (place - b.start)
    by true below = absurd (omega (arith, ltb-true place b.start below, holds.0))
    by false above = refl

-- what a block shows at a place is in the list there
abbrev pub seen : ℕ × Bor RegionData → Entry
seen e = (e.0, e.1.now)

pub shown : (bs : List BlockData) (k : ℕ) (b : BlockData) (place : ℕ) (r : Option (ℕ × Bor RegionData)) → AreInPlace 0 bs → slice_get bs k ≡ Some b
    → option_map seen r ≡ entry_at b place → IfSome r (λ e. slice_get (joined bs) place ≡ Some (e.0, e.1.now))
shown bs k b place None in_place there is = tt
shown bs k b place (Some e) in_place there is = found_in bs k b place (seen e) in_place there (sym is)

-- what holds of an item that is there
pub holds_there : {X : Type 0} (P : X → Type 0) (xs : List X) (k : ℕ) (x : X) → slice_get xs k ≡ Some x → IfSome (slice_get xs k) P → P x
holds_there P xs k x there holds = subst (λ o. IfSome o P) there holds

-- where a block ends, by the blocks up to it
pub end_in_place : (at : ℕ) (bs : List BlockData) (k : ℕ) (b : BlockData) → AreInPlace at (take (suc k) bs) → slice_get bs k ≡ Some b
    → b.start + length b.entries ≡ at + length (joined (take (suc k) bs))
end_in_place at [] k b in_place there = cc
end_in_place at (c ∷ bs) zero b in_place there =
    let same : c ≡ b = cc in
    let start : c.start ≡ b.start = ap (λ (d : BlockData). d.start) same in
    let count : length c.entries ≡ length b.entries = ap (λ (d : BlockData). length d.entries) same in
    omega (arith, length-append c.entries [], start, count, in_place.0)
end_in_place at (c ∷ bs) (suc k) b in_place there =
    omega (arith, end_in_place (at + length c.entries) bs k b in_place.1 there, length-append c.entries (joined (take (suc k) bs)))

-- some of the blocks, from the first one on, are in place, and have no more regions than all
pub front_in_place : (at n : ℕ) (bs : List BlockData) → AreInPlace at bs → AreInPlace at (take n bs)
front_in_place at zero bs in_place = tt
front_in_place at (suc n) [] in_place = tt
front_in_place at (suc n) (b ∷ bs) in_place = (in_place.0, front_in_place (at + length b.entries) n bs in_place.1)

pub front_fits : (n : ℕ) (bs : List BlockData) → length (joined (take n bs)) ≤ length (joined bs)
front_fits zero bs = omega arith
front_fits (suc n) [] = omega arith
front_fits (suc n) (b ∷ bs) = omega (arith, front_fits n bs, length-append b.entries (joined (take n bs)), length-append b.entries (joined bs))

-- a block that was put at another place, where the one before it ends
module _ (bs : List BlockData) (i : ℕ) (b c : BlockData) (within : i < length bs) (there : slice_get bs i ≡ Some b) (same : c.entries ≡ b.entries) where
  pub again_joined : joined (slice_set bs i c) ≡ joined bs
  again_joined =
      set_parts bs i b c there ∙ ap (λ es. joined (take i bs) ++ (es ++ joined (drop (suc i) bs))) same ∙ sym (parts bs i b there)

  pub again_in_place : c.start ≡ length (joined (take i bs)) → AreInPlace 0 (take i bs) → AreInPlace 0 (take (i + 1) (slice_set bs i c))
  again_in_place start in_place =
      subst (λ cs. AreInPlace 0 cs) (sym (take_more_set bs i c within)) (block_put 0 (take i bs) c (start ∙ omega arith) in_place).0

  pub again_ends : length (joined (take (i + 1) (slice_set bs i c))) ≡ length (joined (take i bs)) + length b.entries
  again_ends =
      ap (λ cs. length (joined cs)) (take_more_set bs i c within)
      ∙ ap length (joined_last (take i bs) c) ∙ length-append (joined (take i bs)) c.entries ∙ ap (λ es. length (joined (take i bs)) + length es) same
    where
      joined_last : (ds : List BlockData) (d : BlockData) → joined (ds ++ d ∷ []) ≡ joined ds ++ d.entries
      joined_last [] d = append-nil d.entries
      joined_last (e ∷ ds) d = ap (λ es. e.entries ++ es) (joined_last ds d) ∙ sym (append_assoc e.entries (joined ds) d.entries)

  pub again_fits : length (joined (take i bs)) + length b.entries ≤ length (joined bs)
  again_fits = omega (arith, ends_at bs i b there, front_fits (suc i) bs)

-- two blocks that stand side by side, joined to one
pub pair_joined : (bs : List BlockData) (k : ℕ) (b d c : BlockData) → slice_get bs k ≡ Some b → slice_get bs (suc k) ≡ Some d → c.entries ≡ b.entries ++ d.entries
    → joined (remove (slice_set bs k c) (suc k)) ≡ joined bs
pair_joined [] k b d c there next is = cc
pair_joined (e ∷ []) zero b d c there next is = cc
pair_joined (e ∷ (f ∷ bs)) zero b d c there next is =
    let first : b ≡ e = cc in
    let second : d ≡ f = cc in
    ap (λ es. es ++ joined bs) (is ∙ ap (λ (x : BlockData). x.entries ++ d.entries) first ∙ ap (λ (x : BlockData). e.entries ++ x.entries) second)
    ∙ append_assoc e.entries f.entries (joined bs)
pair_joined (e ∷ bs) (suc k) b d c there next is = ap (λ es. e.entries ++ es) (pair_joined bs k b d c there next is)

-- which leaves those before them
pub pair_leaves : (bs : List BlockData) (k : ℕ) (c : BlockData) (n : ℕ) → n ≤ k → take n (remove (slice_set bs k c) (suc k)) ≡ take n bs
pair_leaves [] k c zero low = refl
pair_leaves [] k c (suc n) low = refl
pair_leaves (e ∷ bs) zero c zero low = refl
pair_leaves (e ∷ bs) zero c (suc n) low = absurd (omega arith)
pair_leaves (e ∷ bs) (suc k) c zero low = refl
pair_leaves (e ∷ bs) (suc k) c (suc n) low = ap (λ cs. e ∷ cs) (pair_leaves bs k c n (omega arith))

-- a region taken out of its block
module _ (bs : List BlockData) (k : ℕ) (b c : BlockData) (place : ℕ) (in_place : AreInPlace 0 bs) (there : slice_get bs k ≡ Some b) (holds : Holds place b)
    (is : c ≡ with_entries b (remove b.entries (place - b.start))) where
  pub taken_out : joined (slice_set bs k c) ≡ remove (joined bs) place
  taken_out =
      set_parts bs k b c there ∙ ap (λ (d : BlockData). joined (take k bs) ++ (d.entries ++ joined (drop (suc k) bs))) is
      ∙ block_removed bs k b place in_place there holds

  pub front_stays : (n : ℕ) → n ≤ k → AreInPlace 0 (take n (slice_set bs k c))
  front_stays n low = subst (λ ds. AreInPlace 0 ds) (sym (take-set-le n bs k c low)) (front_in_place 0 n bs in_place)

-- what holds of an answer that is one
pub ok_holds : {T E : Type 0} (r : Result T E) (P : Type 0) → is_ok r ≡ true → OnOk r P → P
ok_holds (Ok x) P is holds = holds
ok_holds (Err e) P is holds = cc
